use Rattle.std.proofs.Common.{rules, subst, ◌∙◌, ◌-◌, ℕ, List, length, take, drop, Ok, Err}
use Rattle.catalog.specs.declared.tables.Index.{Index}
use Rattle.tree_index.specs.Calls.{FreesTree}
use Rattle.db_write.specs.Turning.{FreesIndexes}
use Rattle.db_write.proofs.Looping.{first_of, none_left, since}
use Rattle.db_write.proofs.Sides.{frees_more, frees_none, frees_stop}
use Rattle.db_write.proofs.entries.free_indexes.Goals as goal

pub returns-in_err-free_tree-clause-freed : goal.returns-in_err-free_tree-clause-freed
returns-in_err-free_tree-clause-freed g c = λ told.
    (let pages = g.P.Pages in
    let old = c.args.pages.now in
    let mid = c.indexes.pages in
    let new = pages.map c.free_tree.new.pages in
    let size = (pages.limits (pages.below old)).page in
    let index = c.index-item.result in
    let fault = c.in_err-free_tree.field-0.0 in
    let result = c.from_residual.result in
    let does = since pages.below pages.tells pages.limits old mid (λ (n : ℕ). FreesTree (pages.map mid) new n index.root (Err fault)) c.indexes.invariant.kept c.in_err-free_tree.ensures.freed told in
    c.indexes.invariant.decides told new result
    (subst (λ (them : List Index). FreesIndexes (pages.map mid) new size them result) (first_of c.indexes.left.now index c.in-len1-up.len_at_least c.index-item.is)
    (frees_stop (pages.map mid) new size index (take (length c.indexes.left.now - 1) (drop 1 c.indexes.left.now)) fault result c.from_residual.ensures.1 does)))

pub indexes-preserved : goal.indexes-preserved
indexes-preserved g c =
    let pages = g.P.Pages in
    let old = c.args.pages.now in
    let mid = c.indexes.pages in
    let size = (pages.limits (pages.below old)).page in
    let index = c.index-item.result in
    record {
      kept = c.in_ok-free_tree.ensures.kept ∙ c.indexes.invariant.kept;
      causes = search rules;
      decides = λ told last result rest.
          (let new = pages.map c.free_tree.new.pages in
          let does = since pages.below pages.tells pages.limits old mid (λ (n : ℕ). FreesTree (pages.map mid) new n index.root (Ok tt)) c.indexes.invariant.kept c.in_ok-free_tree.ensures.freed told in
          c.indexes.invariant.decides told last result
          (subst (λ (them : List Index). FreesIndexes (pages.map mid) last size them result) (first_of c.indexes.left.now index c.in-len1-up.len_at_least c.index-item.is)
          (frees_more (pages.map mid) new size index (take (length c.indexes.left.now - 1) (drop 1 c.indexes.left.now)) last result does rest)));
    }

pub returns-clause-freed : goal.returns-clause-freed
returns-clause-freed g c = λ told.
    (let pages = g.P.Pages in
    let old = c.args.pages.now in
    let now = pages.map c.indexes.pages in
    let size = (pages.limits (pages.below old)).page in
    c.indexes.invariant.decides told now (Ok tt)
    (subst (λ (them : List Index). FreesIndexes now now size them (Ok tt)) (none_left c.indexes.left.now c.in_default.len_below) (frees_none now size)))
