use Rattle.std.proofs.Common.{◌∙◌, ◌+◌, ap, arith, drop, rules, subst, sym, ◌≡◌, ◌∷◌, [], false, map}
use Rattle.std.proofs.lemmas.List.{map-append}
use Rattle.catalog.specs.Listed.{key_columns}
use Rattle.query_names.specs.Bound.{IsFaultOf}
use Rattle.query_names.specs.Checked.{Meant, faults, known_all, onto_list}
use Rattle.query_names.specs.Creating.{places_known}
use Rattle.query_names.specs.Scopes.{is_doubled}
use Rattle.query_names.proofs.BoundLists.{handed_on}
use Rattle.query_names.proofs.KeyNames.{at_end, column_known, each_name, item_found, item_refused}
use Rattle.query_names.proofs.keys.bound_key.Goals as goal

pub returns-in_err-key_column-clause-columns : goal.returns-in_err-key_column-clause-columns
returns-in_err-key_column-clause-columns c = λ table once.
    let cs = c.args.columns.now in
    let once_each : is_doubled c.args.names.now ≡ false = search rules in
    handed_on key_columns (places_known table cs c.args.names.now) c.in_err-key_column.field-0.0 c.from_residual.result c.from_residual.ensures.1
    (subst (λ k. IsFaultOf (faults k) c.in_err-key_column.field-0.0) (c.names.invariant table once ∙ sym (each_name table cs c.args.names.now once_each))
    (item_refused (column_known table cs) c.args.names.now c.names.name-index c.name-item.result (key_columns c.names.found.items) (omega (arith, c.names-test.true)) c.name-item.is
    c.in_err-key_column.field-0.0 (c.in_err-key_column.ensures.column table once)))

pub names-preserved : goal.names-preserved
names-preserved c = λ table once.
    let cs = c.args.columns.now in
    let column = c.in_ok-key_column.field-0 in
    ap (λ found. onto_list found (known_all (map (column_known table cs) (drop (c.names.name-index + 1) c.args.names.now))))
    (ap key_columns (c.in_ok-push.ensures.items) ∙ map-append (λ c. (c.place, c.collation)) c.names.found.items (column ∷ []))
    ∙ (item_found (column_known table cs) c.args.names.now c.names.name-index c.name-item.result (key_columns c.names.found.items) (omega (arith, c.names-test.true)) c.name-item.is
    (column.place, column.collation) (c.in_ok-key_column.ensures.column table once) ∙ c.names.invariant table once)

pub returns-clause-columns : goal.returns-clause-columns
returns-clause-columns c = λ table once.
    let once_each : is_doubled c.args.names.now ≡ false = search rules in
    each_name table c.args.columns.now c.args.names.now once_each ∙ (sym (c.names.invariant table once)
    ∙ (at_end (column_known table c.args.columns.now) c.args.names.now c.names.name-index (key_columns c.names.found.items) c.names-test.false
    ∙ ap (λ found. Meant (key_columns found) []) (sym c.from_vec.ensures)))
