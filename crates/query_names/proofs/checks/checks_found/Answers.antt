use Rattle.std.proofs.Common.{◌≡◌, ◌∙◌, [], ap, false, flat_map, map, subst, sym}
use Rattle.query_names.specs.Bound.{IsFaultOf}
use Rattle.query_names.specs.Checked.{Meant, faults, known_all}
use Rattle.query_names.specs.Creating.{known_after}
use Rattle.query_names.specs.Expressions.{resolve}
use Rattle.query_names.specs.Tables.{checks_of, column_check, table_check}
use Rattle.query_names.proofs.BoundChecks.{both_known, first_refused, second_refused}
use Rattle.query_names.proofs.BoundLists.{handed_on}
use Rattle.query_names.proofs.checks.checks_found.Goals as goal

pub returns-in_err-push_of_columns : goal.returns-in_err-push_of_columns
returns-in_err-push_of_columns c =
    let ts = flat_map (λ c. flat_map column_check c.rules) c.args.definition.now.columns in
    let refused = subst (λ cs. IsFaultOf (faults (known_after c.args.scope.now c.new-found.result.items (flat_map (λ c. flat_map column_check c.rules) cs))) c.in_err-push_of_columns.field-0.0)
    c.as_slice.ensures c.in_err-push_of_columns.ensures in
    handed_on _ (known_all (map (resolve false c.args.scope.now) (checks_of c.args.definition.now))) c.in_err-push_of_columns.field-0.0 c.from_residual.result c.from_residual.ensures.1
    (first_refused c.args.scope.now ts (flat_map table_check c.args.definition.now.rules) c.new-found.result.items c.new-found.ensures.items c.in_err-push_of_columns.field-0.0 refused)

pub returns-in_err-push_of_table : goal.returns-in_err-push_of_table
returns-in_err-push_of_table c =
    let ts = flat_map (λ c. flat_map column_check c.rules) c.args.definition.now.columns in
    let known : known_after c.args.scope.now c.new-found.result.items ts ≡ Meant c.push_of_columns.new.found.items [] =
    ap (λ cs. known_after c.args.scope.now c.new-found.result.items (flat_map (λ c. flat_map column_check c.rules) cs)) (sym c.as_slice.ensures) ∙ c.in_ok-push_of_columns.ensures in
    let refused = subst (λ rs. IsFaultOf (faults (known_after c.args.scope.now c.push_of_columns.new.found.items (flat_map table_check rs))) c.in_err-push_of_table.field-0.0)
    c.as_slice-2.ensures c.in_err-push_of_table.ensures in
    handed_on _ (known_all (map (resolve false c.args.scope.now) (checks_of c.args.definition.now))) c.in_err-push_of_table.field-0.0 c.from_residual-in_err-push_of_table.result c.from_residual-in_err-push_of_table.ensures.1
    (second_refused c.args.scope.now ts (flat_map table_check c.args.definition.now.rules) c.new-found.result.items c.new-found.ensures.items c.push_of_columns.new.found.items c.in_err-push_of_table.field-0.0 known refused)

pub returns : goal.returns
returns c =
    let ts = flat_map (λ c. flat_map column_check c.rules) c.args.definition.now.columns in
    let known : known_after c.args.scope.now c.new-found.result.items ts ≡ Meant c.push_of_columns.new.found.items [] =
    ap (λ cs. known_after c.args.scope.now c.new-found.result.items (flat_map (λ c. flat_map column_check c.rules) cs)) (sym c.as_slice.ensures) ∙ c.in_ok-push_of_columns.ensures in
    let then : known_after c.args.scope.now c.push_of_columns.new.found.items (flat_map table_check c.args.definition.now.rules) ≡ Meant c.push_of_table.new.found.items [] =
    ap (λ rs. known_after c.args.scope.now c.push_of_columns.new.found.items (flat_map table_check rs)) (sym c.as_slice-2.ensures) ∙ c.in_ok-push_of_table.ensures in
    both_known c.args.scope.now ts (flat_map table_check c.args.definition.now.rules) c.new-found.result.items c.new-found.ensures.items c.push_of_columns.new.found.items c.push_of_table.new.found.items known then
    ∙ ap (λ xs. Meant xs []) (sym c.from_vec.ensures)
