use Rattle.std.proofs.Common.{rules, subst, ◌∙◌, ◌-◌, ℕ, List, length, take, drop, Ok, Err}
use Rattle.catalog.specs.declared.tables.Index.{Index}
use Rattle.index_entries.specs.Keeping.{row_in}
use Rattle.db_write.specs.Turning.{ReplacesRowInIndex, ReplacesRowInIndexes}
use Rattle.db_write.proofs.Looping.{first_of, none_left, since}
use Rattle.db_write.proofs.OneRows.{replaces_more, replaces_none, replaces_stop}
use Rattle.db_write.proofs.row_entries.replace_row_in_indexes.Goals as goal

pub returns-in_err-replace_row_in_index-clause-replaced : goal.returns-in_err-replace_row_in_index-clause-replaced
returns-in_err-replace_row_in_index-clause-replaced g c = λ told.
    (let pages = g.P.Pages in
    let old = c.args.pages.now in
    let mid = c.indexes.pages in
    let new = pages.map c.replace_row_in_index.new.pages in
    let size = (pages.limits (pages.below old)).page in
    let gone = row_in c.args.gone.now in
    let come = row_in c.args.come.now in
    let index = c.index-item.result in
    let fault = c.in_err-replace_row_in_index.field-0.0 in
    let result = c.from_residual.result in
    let does = since pages.below pages.tells pages.limits old mid (λ (n : ℕ). ReplacesRowInIndex (pages.map mid) new n index gone come (Err fault)) c.indexes.invariant.kept c.in_err-replace_row_in_index.ensures.replaced told in
    c.indexes.invariant.decides told new result
    (subst (λ (them : List Index). ReplacesRowInIndexes (pages.map mid) new size them gone come result) (first_of c.indexes.left.now index c.in-len1-up.len_at_least c.index-item.is)
    (replaces_stop (pages.map mid) new size index (take (length c.indexes.left.now - 1) (drop 1 c.indexes.left.now)) gone come fault result c.from_residual.ensures.1 does)))

pub indexes-preserved : goal.indexes-preserved
indexes-preserved g c =
    let pages = g.P.Pages in
    let old = c.args.pages.now in
    let mid = c.indexes.pages in
    let size = (pages.limits (pages.below old)).page in
    let gone = row_in c.args.gone.now in
    let come = row_in c.args.come.now in
    let index = c.index-item.result in
    record {
      kept = c.in_ok-replace_row_in_index.ensures.kept ∙ c.indexes.invariant.kept;
      causes = search rules;
      decides = λ told last result rest.
          (let new = pages.map c.replace_row_in_index.new.pages in
          let does = since pages.below pages.tells pages.limits old mid (λ (n : ℕ). ReplacesRowInIndex (pages.map mid) new n index gone come (Ok tt)) c.indexes.invariant.kept c.in_ok-replace_row_in_index.ensures.replaced told in
          c.indexes.invariant.decides told last result
          (subst (λ (them : List Index). ReplacesRowInIndexes (pages.map mid) last size them gone come result) (first_of c.indexes.left.now index c.in-len1-up.len_at_least c.index-item.is)
          (replaces_more (pages.map mid) new size index (take (length c.indexes.left.now - 1) (drop 1 c.indexes.left.now)) gone come last result does rest)));
    }

pub returns-clause-replaced : goal.returns-clause-replaced
returns-clause-replaced g c = λ told.
    (let pages = g.P.Pages in
    let old = c.args.pages.now in
    let now = pages.map c.indexes.pages in
    let size = (pages.limits (pages.below old)).page in
    let gone = row_in c.args.gone.now in
    let come = row_in c.args.come.now in
    c.indexes.invariant.decides told now (Ok tt)
    (subst (λ (them : List Index). ReplacesRowInIndexes now now size them gone come (Ok tt)) (none_left c.indexes.left.now c.in_default.len_below) (replaces_none now size gone come)))
