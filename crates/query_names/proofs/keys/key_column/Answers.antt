use Rattle.std.proofs.Common.{◌≡◌, ◌∙◌, Some, ap, rules}
use Rattle.catalog.specs.Database.{Name}
use Rattle.catalog.specs.Listed.{place_named}
use Rattle.query_names.proofs.KeyNames.{column_found, column_missing, is_below}
use Rattle.query_names.proofs.keys.key_column.Goals as goal

pub offset_bounds-columns-place : goal.offset_bounds-columns-place
offset_bounds-columns-place c =
    let lt = is_below c.as_str.result.now c.args.columns.now c.in-Some.place c.in-Some.ensures in
    search rules

pub bounds-columns-place : goal.bounds-columns-place
bounds-columns-place c = is_below c.as_str.result.now c.args.columns.now c.in-Some.place c.in-Some.ensures

pub bounds-columns-place-in-Some : goal.bounds-columns-place-in-Some
bounds-columns-place-in-Some c = is_below c.as_str.result.now c.args.columns.now c.in-Some.place c.in-Some.ensures

pub returns-in-Some-clause-column : goal.returns-in-Some-clause-column
returns-in-Some-clause-column c = λ table once.
    let is : Some c.in-Some.place ≡ place_named c.args.name.now c.args.columns.now = c.in-Some.ensures ∙ ap (λ (n : Name). place_named n c.args.columns.now) c.as_str.ensures in
    column_found table c.args.columns.now once c.args.name.now c.in-Some.place c.index-columns-place.result is (is_below c.args.name.now c.args.columns.now c.in-Some.place is)

pub returns-in-None-clause-column : goal.returns-in-None-clause-column
returns-in-None-clause-column c = λ table once.
    column_missing table c.args.columns.now once c.args.name.now c.missing.result (c.in-None.ensures ∙ ap (λ (n : Name). place_named n c.args.columns.now) c.as_str.ensures) c.missing.ensures.why
