use Rattle.std.proofs.Common.{subst, List, ℕ, inl, ap, ◌∙◌}
use Rattle.query_terms.specs.Rows.{row_at}
use Rattle.query_terms.specs.Terms.{Term}
use Rattle.query_terms.specs.Values.{Row}
use Rattle.row_change.specs.NewRows.{row_of}
use Rattle.db_write.specs.OneRow.{TurnsRow}
use Rattle.executor.proofs.RowsInStores.{Laws, sets_in, sets_none}
use Rattle.executor.proofs.rows.set_row.Goals as goal

pub returns-in_err-rows-clause-set : goal.returns-in_err-rows-clause-set
returns-in_err-rows-clause-set g c = λ told.
    (let pages = g.P.Pages in
    let old = pages.map c.args.pages.now in
    let size = (pages.limits (pages.below c.args.pages.now)).page in
    sets_none old old size c.args.table.now (row_of c.args.row.now) c.args.values.now c.in_err-rows.field-0.0 c.from_residual.result c.from_residual.ensures.1 (inl (inl c.in_err-rows.ensures)))

pub returns-in_err-sets-clause-set : goal.returns-in_err-sets-clause-set
returns-in_err-sets-clause-set g c = λ told.
    (let pages = g.P.Pages in
    let old = pages.map c.args.pages.now in
    let size = (pages.limits (pages.below c.args.pages.now)).page in
    sets_none old old size c.args.table.now (row_of c.args.row.now) c.args.values.now c.in_err-sets.field-0.0 c.from_residual-in_err-sets.result c.from_residual-in_err-sets.ensures.1 (inl (inl c.in_err-sets.ensures)))

pub returns-clause-set : goal.returns-clause-set
returns-clause-set g c = λ told.
    (let pages = g.P.Pages in
    let old = pages.map c.args.pages.now in
    let new = pages.map c.turn_row.new.pages in
    let size = (pages.limits (pages.below c.args.pages.now)).page in
    let table = c.args.table.now in
    let source = row_at c.in_ok-rows.rows 0 in
    let result = c.turn_row.result in
    let laws : Laws = record { lists = c.other_rows_are_listed.ensures.lists; named = c.named_databases_are_one.ensures.named } in
    sets_in laws c.listed_indexes_are_found.ensures old new size table (row_of c.args.row.now) c.args.values.now source result (ap (λ (rs : List Row). row_at rs 0) c.in_ok-rows.ensures)
    (subst (λ (sets : List (ℕ × Term)). TurnsRow old new size table sets source result) (c.deref.ensures.value ∙ c.in_ok-sets.ensures) (c.turn_row.ensures.turned told)))
