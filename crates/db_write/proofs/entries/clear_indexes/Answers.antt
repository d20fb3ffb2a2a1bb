use Rattle.std.proofs.Common.{rules, subst, ◌∙◌, ◌-◌, ℕ, List, length, take, drop, Ok, Err}
use Rattle.catalog.specs.declared.tables.Index.{Index}
use Rattle.tree_index.specs.Calls.{ClearsTree}
use Rattle.db_write.specs.Turning.{ClearsIndexes}
use Rattle.db_write.proofs.Looping.{first_of, none_left, since}
use Rattle.db_write.proofs.Sides.{clears_more, clears_none, clears_stop}
use Rattle.db_write.proofs.entries.clear_indexes.Goals as goal

pub returns-in_err-clear-clause-cleared : goal.returns-in_err-clear-clause-cleared
returns-in_err-clear-clause-cleared g c = λ told.
    (let pages = g.P.Pages in
    let old = c.args.pages.now in
    let mid = c.indexes.pages in
    let new = pages.map c.clear.new.pages in
    let size = (pages.limits (pages.below old)).page in
    let index = c.index-item.result in
    let fault = c.in_err-clear.field-0.0 in
    let result = c.from_residual.result in
    let does = since pages.below pages.tells pages.limits old mid (λ (n : ℕ). ClearsTree (pages.map mid) new n index.root (Err fault)) c.indexes.invariant.kept c.in_err-clear.ensures.cleared told in
    c.indexes.invariant.decides told new result
    (subst (λ (them : List Index). ClearsIndexes (pages.map mid) new size them result) (first_of c.indexes.left.now index c.in-len1-up.len_at_least c.index-item.is)
    (clears_stop (pages.map mid) new size index (take (length c.indexes.left.now - 1) (drop 1 c.indexes.left.now)) fault result c.from_residual.ensures.1 does)))

pub indexes-preserved : goal.indexes-preserved
indexes-preserved g c =
    let pages = g.P.Pages in
    let old = c.args.pages.now in
    let mid = c.indexes.pages in
    let size = (pages.limits (pages.below old)).page in
    let index = c.index-item.result in
    record {
      kept = c.in_ok-clear.ensures.kept ∙ c.indexes.invariant.kept;
      causes = search rules;
      decides = λ told last result rest.
          (let new = pages.map c.clear.new.pages in
          let does = since pages.below pages.tells pages.limits old mid (λ (n : ℕ). ClearsTree (pages.map mid) new n index.root (Ok tt)) c.indexes.invariant.kept c.in_ok-clear.ensures.cleared told in
          c.indexes.invariant.decides told last result
          (subst (λ (them : List Index). ClearsIndexes (pages.map mid) last size them result) (first_of c.indexes.left.now index c.in-len1-up.len_at_least c.index-item.is)
          (clears_more (pages.map mid) new size index (take (length c.indexes.left.now - 1) (drop 1 c.indexes.left.now)) last result does rest)));
    }

pub returns-clause-cleared : goal.returns-clause-cleared
returns-clause-cleared g c = λ told.
    (let pages = g.P.Pages in
    let old = c.args.pages.now in
    let now = pages.map c.indexes.pages in
    let size = (pages.limits (pages.below old)).page in
    c.indexes.invariant.decides told now (Ok tt)
    (subst (λ (them : List Index). ClearsIndexes now now size them (Ok tt)) (none_left c.indexes.left.now c.in_default.len_below) (clears_none now size)))
