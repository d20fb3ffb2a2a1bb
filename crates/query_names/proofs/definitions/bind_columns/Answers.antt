use Rattle.std.proofs.Common.{◌≡◌, ◌∙◌, true, false, rules, arith}
use Rattle.std.proofs.lemmas.Grind.{common_steps}
use Rattle.std.specs.List.{list_any}
use Rattle.catalog.specs.Listed.{is_column}
use Rattle.query_names.proofs.DefinedColumns.{column_refused, doubled_next, doubled_front}
use Rattle.query_names.proofs.definitions.bind_columns.Goals as goal

pub returns-then-has_column-clause-refused : goal.returns-then-has_column-clause-refused
returns-then-has_column-clause-refused c =
    let d = c.column-item.result in
    let found : list_any (is_column d.name) c.columns.columns.items ≡ true = search rules in
    let next = doubled_next c.columns.columns.items c.as_slice-definitions.result.now c.columns.column-index d c.columns-test.true c.column-item.is c.columns.invariant.0 c.columns.invariant.1 in
    let whole = doubled_front c.as_slice-definitions.result.now _ (next ∙ found) in
    search rules

pub columns-preserved : goal.columns-preserved
columns-preserved c =
    let d = c.column-item.result in
    let absent : list_any (is_column d.name) c.columns.columns.items ≡ false = search rules in
    (grind (arith, common_steps), doubled_next c.columns.columns.items c.as_slice-definitions.result.now c.columns.column-index d c.columns-test.true c.column-item.is c.columns.invariant.0 c.columns.invariant.1 ∙ absent)

pub returns-in_err-column_of-clause-refused : goal.returns-in_err-column_of-clause-refused
returns-in_err-column_of-clause-refused c =
    let why = column_refused c.as_slice-definitions.result.now c.columns.column-index c.column-item.result c.in_err-column_of.field-0.0 c.columns-test.true c.column-item.is c.in_err-column_of.ensures.refused in
    search rules
