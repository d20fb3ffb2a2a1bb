use Rattle.std.proofs.lemmas.Int.{to_z-of_z}
use Rattle.std.proofs.Common.{SFits, ap, w64, ℤ, ◌∙◌, List, Ok, map, rules, subst, ◌≡◌, ℕ}
use Rattle.catalog.specs.Listed.{as_column, own_column}
use Rattle.query_terms.specs.Terms.{Term}
use Rattle.row_change.specs.Constraints.{with_affinity}
use Rattle.executor_programs.specs.Begun.{shown}
use Rattle.executor_programs.specs.Rows.{set_beside}
use Rattle.executor_programs.proofs.Beginning.{handed_on, stored_quietly, update_begun}
use Rattle.executor_programs.proofs.rows.begin_set.Goals as goal

pub returns-in_err-kept-clause-not_disk : goal.returns-in_err-kept-clause-not_disk
returns-in_err-kept-clause-not_disk c =
    handed_on c.from_residual-in_err-kept.result c.in_err-kept.field-0.0 c.from_residual-in_err-kept.ensures.1
    (stored_quietly (map as_column c.as_slice.result.now) c.deref-3.result.now c.in_err-kept.field-0.0 c.in_err-kept.ensures)

pub returns-clause-begun : goal.returns-clause-begun
returns-clause-begun c = λ l change db seen rows shows named kind is there long.
    (let set : set_beside seen c.args.act.now.sets.items c.in_ok-row.row ≡ Ok c.in_ok-values.values.items =
    subst (λ (sets : List (ℕ × Term)). set_beside seen sets c.in_ok-row.row ≡ Ok c.in_ok-values.values.items) c.deref-2.ensures.value (c.in_ok-values.ensures.set seen shows) in
    let stores : with_affinity (map as_column c.args.table.now.columns) c.in_ok-values.values.items ≡ Ok c.in_ok-kept.kept.items = search rules in
    let fits : SFits w64 c.args.old.rowid = search rules in
    let own : c.in_ok-rowid.rowid ≡ shown (own_column c.args.table.now) c.args.old.rowid c.in_ok-kept.kept.items =
    subst (λ (n : ℤ). c.in_ok-rowid.rowid ≡ shown (own_column c.args.table.now) n c.deref-4.result.now) (to_z-of_z w64 c.args.old.rowid fits) c.in_ok-rowid.ensures
    ∙ ap (shown (own_column c.args.table.now) c.args.old.rowid) c.deref-4.ensures.value in
    update_begun l change db seen c.args.table.now c.args.act.now c.args.old rows named kind is there long c.stored_values_stay.ensures c.in_ok-row.row c.in_ok-values.values.items c.in_ok-rowid.rowid c.in_ok-kept.kept c.in_ok-row.ensures set stores own)
