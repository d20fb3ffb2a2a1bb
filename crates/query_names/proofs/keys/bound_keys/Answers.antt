use Rattle.std.proofs.Common.{◌∙◌, ◌+◌, ap, arith, drop, subst, sym, ℕ, Bool, List, map}
use Rattle.std.proofs.lemmas.List.{map-append}
use Rattle.sqlval.specs.declared.collation.Collation.{Collation}
use Rattle.catalog.specs.Listed.{key_columns}
use Rattle.query_names.specs.Bound.{IsFaultOf}
use Rattle.query_names.specs.Checked.{faults, known_all, known_map, onto_list}
use Rattle.query_names.specs.Creating.{as_bound, places_known}
use Rattle.query_names.proofs.BoundLists.{handed_on}
use Rattle.query_names.proofs.KeyNames.{at_end, item_found, item_refused, known_key}
use Rattle.query_names.proofs.PartRefusals.{mapped}
use Rattle.query_names.proofs.keys.bound_keys.Goals as goal

pub returns-in_err-bound_key-clause-keys : goal.returns-in_err-bound_key-clause-keys
returns-in_err-bound_key-clause-keys c = λ table once.
    let f = known_key table c.args.columns.now in
    let key = c.key-item.result in
    handed_on (λ keys. map as_bound keys.items) (known_all (map f c.args.written.now)) c.in_err-bound_key.field-0.0 c.from_residual.result c.from_residual.ensures.1
    (subst (λ k. IsFaultOf (faults k) c.in_err-bound_key.field-0.0) (c.keys.invariant table once)
    (item_refused f c.args.written.now c.keys.key-index key (map as_bound c.keys.keys.items) (omega (arith, c.keys-test.true)) c.key-item.is
    c.in_err-bound_key.field-0.0
    (mapped (λ places. (key.is_primary, places)) (places_known table c.args.columns.now key.names.now) c.in_err-bound_key.field-0.0 (c.in_err-bound_key.ensures.columns table once))))

pub keys-preserved : goal.keys-preserved
keys-preserved c = λ table once.
    let f = known_key table c.args.columns.now in
    let written = c.key-item.result in
    let key : Bool × List (ℕ × Collation) = (written.is_primary, key_columns c.in_ok-bound_key.field-0) in
    ap (λ found. onto_list found (known_all (map f (drop (c.keys.key-index + 1) c.args.written.now))))
    (ap (map as_bound) (c.in_ok-push.ensures.items) ∙ map-append as_bound c.keys.keys.items _)
    ∙ (item_found f c.args.written.now c.keys.key-index written (map as_bound c.keys.keys.items) (omega (arith, c.keys-test.true)) c.key-item.is
    key (ap (known_map (λ places. (written.is_primary, places))) (c.in_ok-bound_key.ensures.columns table once)) ∙ c.keys.invariant table once)

pub returns-clause-keys : goal.returns-clause-keys
returns-clause-keys c = λ table once.
    sym (c.keys.invariant table once)
    ∙ at_end (known_key table c.args.columns.now) c.args.written.now c.keys.key-index (map as_bound c.keys.keys.items) c.keys-test.false
