use Rattle.std.proofs.Common.{rules, subst, ◌∙◌, ◌-◌, ℕ, List, length, [], ◌∷◌, take, drop, Ok, Err}
use Rattle.catalog.specs.declared.tables.Index.{Index}
use Rattle.index_entries.specs.Keeping.{TakesEntries, row_in}
use Rattle.db_layout.specs.Trees.{columns_of}
use Rattle.db_write.specs.Turning.{TakesFromIndexes}
use Rattle.db_write.proofs.Looping.{first_of, none_left, since}
use Rattle.db_write.proofs.Sides.{takes_more, takes_none, takes_stop}
use Rattle.db_write.proofs.row_entries.take_row_from_indexes.Goals as goal

pub returns-in_err-take_row_from_index-clause-taken : goal.returns-in_err-take_row_from_index-clause-taken
returns-in_err-take_row_from_index-clause-taken g c = λ told.
    (let pages = g.P.Pages in
    let old = c.args.pages.now in
    let mid = c.indexes.pages in
    let new = pages.map c.take_row_from_index.new.pages in
    let size = (pages.limits (pages.below old)).page in
    let rows = row_in c.args.row.now ∷ [] in
    let index = c.index-item.result in
    let fault = c.in_err-take_row_from_index.field-0.0 in
    let result = c.from_residual.result in
    let does = since pages.below pages.tells pages.limits old mid (λ (n : ℕ). TakesEntries (pages.map mid) new n index.root (columns_of index) rows (Err fault)) c.indexes.invariant.kept c.in_err-take_row_from_index.ensures.taken told in
    c.indexes.invariant.decides told new result
    (subst (λ (them : List Index). TakesFromIndexes (pages.map mid) new size them rows result) (first_of c.indexes.left.now index c.in-len1-up.len_at_least c.index-item.is)
    (takes_stop (pages.map mid) new size index (take (length c.indexes.left.now - 1) (drop 1 c.indexes.left.now)) rows fault result c.from_residual.ensures.1 does)))

pub indexes-preserved : goal.indexes-preserved
indexes-preserved g c =
    let pages = g.P.Pages in
    let old = c.args.pages.now in
    let mid = c.indexes.pages in
    let size = (pages.limits (pages.below old)).page in
    let rows = row_in c.args.row.now ∷ [] in
    let index = c.index-item.result in
    record {
      kept = c.in_ok-take_row_from_index.ensures.kept ∙ c.indexes.invariant.kept;
      causes = search rules;
      decides = λ told last result rest.
          (let new = pages.map c.take_row_from_index.new.pages in
          let does = since pages.below pages.tells pages.limits old mid (λ (n : ℕ). TakesEntries (pages.map mid) new n index.root (columns_of index) rows (Ok tt)) c.indexes.invariant.kept c.in_ok-take_row_from_index.ensures.taken told in
          c.indexes.invariant.decides told last result
          (subst (λ (them : List Index). TakesFromIndexes (pages.map mid) last size them rows result) (first_of c.indexes.left.now index c.in-len1-up.len_at_least c.index-item.is)
          (takes_more (pages.map mid) new size index (take (length c.indexes.left.now - 1) (drop 1 c.indexes.left.now)) rows last result does rest)));
    }

pub returns-clause-taken : goal.returns-clause-taken
returns-clause-taken g c = λ told.
    (let pages = g.P.Pages in
    let old = c.args.pages.now in
    let now = pages.map c.indexes.pages in
    let size = (pages.limits (pages.below old)).page in
    let rows = row_in c.args.row.now ∷ [] in
    c.indexes.invariant.decides told now (Ok tt)
    (subst (λ (them : List Index). TakesFromIndexes now now size them rows (Ok tt)) (none_left c.indexes.left.now c.in_default.len_below) (takes_none now size rows)))
