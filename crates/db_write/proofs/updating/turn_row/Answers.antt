use Rattle.std.proofs.Common.{inl, subst, ℕ, List, Ok, Err}
use Rattle.catalog.specs.declared.tables.Index.{Index}
use Rattle.query_terms.specs.Rows.{row_at}
use Rattle.index_entries.specs.Keeping.{row_in}
use Rattle.db_write.specs.Turning.{MovesRowInIndexes}
use Rattle.db_write.proofs.Looping.{since}
use Rattle.db_write.proofs.TurnedRows.{not_copied, row_turns, row_unset, row_unturned}
use Rattle.db_write.proofs.updating.turn_row.Goals as goal

pub returns-in_err-gone-clause-turned : goal.returns-in_err-gone-clause-turned
returns-in_err-gone-clause-turned g c = λ told.
    (let pages = g.P.Pages in
    let old = pages.map c.args.pages.now in
    not_copied old (pages.limits (pages.below c.args.pages.now)).page c.args.table.now c.args.sets.now (row_at c.args.rows.now c.args.place) old
    c.in_err-gone.field-0.0 c.from_residual.result c.from_residual.ensures.1 (inl (inl c.in_err-gone.ensures.refused)))

pub returns-in_err-come-clause-turned : goal.returns-in_err-come-clause-turned
returns-in_err-come-clause-turned g c = λ told.
    (let pages = g.P.Pages in
    row_unset (pages.map c.args.pages.now) (pages.limits (pages.below c.args.pages.now)).page c.args.table.now c.args.sets.now (row_at c.args.rows.now c.args.place) (pages.map c.set_row.new.pages)
    c.in_err-come.field-0.0 c.from_residual-in_err-come.result c.from_residual-in_err-come.ensures.1 (c.in_err-come.ensures.set told))

pub returns-in_err-turn_in_indexes-clause-turned : goal.returns-in_err-turn_in_indexes-clause-turned
returns-in_err-turn_in_indexes-clause-turned g c = λ told.
    (let pages = g.P.Pages in
    let start = c.args.pages.now in
    let mid = c.set_row.new.pages in
    let new = pages.map c.turn_in_indexes.new.pages in
    let size = (pages.limits (pages.below start)).page in
    let gone = c.in_ok-gone.gone in
    let come = c.in_ok-come.come in
    let fault = c.in_err-turn_in_indexes.field-0.0 in
    let moves = since pages.below pages.tells pages.limits start mid (λ (n : ℕ). MovesRowInIndexes (pages.map mid) new n c.as_slice.result.now (row_in gone) (row_in come) (Err fault))
    c.in_ok-come.ensures.kept c.in_err-turn_in_indexes.ensures.moved told in
    row_unturned (pages.map start) size c.args.table.now c.args.sets.now (row_at c.args.rows.now c.args.place) (pages.map mid) new gone come c.in_ok-gone.ensures.copied (c.in_ok-come.ensures.set told)
    fault c.from_residual-in_err-turn_in_indexes.result c.from_residual-in_err-turn_in_indexes.ensures.1
    (subst (λ (them : List Index). MovesRowInIndexes (pages.map mid) new size them (row_in gone) (row_in come) (Err fault)) c.as_slice.ensures moves))

pub returns-clause-turned : goal.returns-clause-turned
returns-clause-turned g c = λ told.
    (let pages = g.P.Pages in
    let start = c.args.pages.now in
    let mid = c.set_row.new.pages in
    let new = pages.map c.turn_in_indexes.new.pages in
    let size = (pages.limits (pages.below start)).page in
    let gone = c.in_ok-gone.gone in
    let come = c.in_ok-come.come in
    let moves = since pages.below pages.tells pages.limits start mid (λ (n : ℕ). MovesRowInIndexes (pages.map mid) new n c.as_slice.result.now (row_in gone) (row_in come) (Ok tt))
    c.in_ok-come.ensures.kept c.in_ok-turn_in_indexes.ensures.moved told in
    row_turns (pages.map start) size c.args.table.now c.args.sets.now (row_at c.args.rows.now c.args.place) (pages.map mid) new gone come c.in_ok-gone.ensures.copied (c.in_ok-come.ensures.set told)
    (subst (λ (them : List Index). MovesRowInIndexes (pages.map mid) new size them (row_in gone) (row_in come) (Ok tt)) c.as_slice.ensures moves))
