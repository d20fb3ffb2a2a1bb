use Rattle.std.proofs.Common.{rules, subst, ◌∙◌, ◌-◌, ℕ, List, length, take, drop, Ok, Err}
use Rattle.catalog.specs.declared.tables.Index.{Index}
use Rattle.index_entries.specs.Keeping.{row_in}
use Rattle.db_write.specs.Turning.{AddsRowToIndex, AddsRowToIndexes}
use Rattle.db_write.proofs.Looping.{first_of, none_left, since}
use Rattle.db_write.proofs.OneRows.{adds_more, adds_none, adds_stop}
use Rattle.db_write.proofs.row_entries.add_row_to_indexes.Goals as goal

pub returns-in_err-add_row_to_index-clause-added : goal.returns-in_err-add_row_to_index-clause-added
returns-in_err-add_row_to_index-clause-added g c = λ told.
    (let pages = g.P.Pages in
    let old = c.args.pages.now in
    let mid = c.indexes.pages in
    let new = pages.map c.add_row_to_index.new.pages in
    let size = (pages.limits (pages.below old)).page in
    let row = row_in c.args.row.now in
    let index = c.index-item.result in
    let fault = c.in_err-add_row_to_index.field-0.0 in
    let result = c.from_residual.result in
    let does = since pages.below pages.tells pages.limits old mid (λ (n : ℕ). AddsRowToIndex (pages.map mid) new n index row (Err fault)) c.indexes.invariant.kept c.in_err-add_row_to_index.ensures.added told in
    c.indexes.invariant.decides told new result
    (subst (λ (them : List Index). AddsRowToIndexes (pages.map mid) new size them row result) (first_of c.indexes.left.now index c.in-len1-up.len_at_least c.index-item.is)
    (adds_stop (pages.map mid) new size index (take (length c.indexes.left.now - 1) (drop 1 c.indexes.left.now)) row fault result c.from_residual.ensures.1 does)))

pub indexes-preserved : goal.indexes-preserved
indexes-preserved g c =
    let pages = g.P.Pages in
    let old = c.args.pages.now in
    let mid = c.indexes.pages in
    let size = (pages.limits (pages.below old)).page in
    let row = row_in c.args.row.now in
    let index = c.index-item.result in
    record {
      kept = c.in_ok-add_row_to_index.ensures.kept ∙ c.indexes.invariant.kept;
      causes = search rules;
      decides = λ told last result rest.
          (let new = pages.map c.add_row_to_index.new.pages in
          let does = since pages.below pages.tells pages.limits old mid (λ (n : ℕ). AddsRowToIndex (pages.map mid) new n index row (Ok tt)) c.indexes.invariant.kept c.in_ok-add_row_to_index.ensures.added told in
          c.indexes.invariant.decides told last result
          (subst (λ (them : List Index). AddsRowToIndexes (pages.map mid) last size them row result) (first_of c.indexes.left.now index c.in-len1-up.len_at_least c.index-item.is)
          (adds_more (pages.map mid) new size index (take (length c.indexes.left.now - 1) (drop 1 c.indexes.left.now)) row last result does rest)));
    }

pub returns-clause-added : goal.returns-clause-added
returns-clause-added g c = λ told.
    (let pages = g.P.Pages in
    let old = c.args.pages.now in
    let now = pages.map c.indexes.pages in
    let size = (pages.limits (pages.below old)).page in
    let row = row_in c.args.row.now in
    c.indexes.invariant.decides told now (Ok tt)
    (subst (λ (them : List Index). AddsRowToIndexes now now size them row (Ok tt)) (none_left c.indexes.left.now c.in_default.len_below) (adds_none now size row)))
