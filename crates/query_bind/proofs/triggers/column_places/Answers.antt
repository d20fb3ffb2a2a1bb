use Rattle.std.proofs.Common.{◌∙◌, ◌+◌, ap, arith, drop, subst}
use Rattle.query_names.specs.Bound.{IsFaultOf, source_seen}
use Rattle.query_names.specs.Checked.{faults, known_all, onto_list}
use Rattle.query_names.specs.Scopes.{place_of}
use Rattle.std.specs.Prelude.{map}
use Rattle.query_bind.proofs.Chains.{handed_on}
use Rattle.query_bind.proofs.Grown.{item_refused}
use Rattle.query_bind.proofs.IndexNames.{item_found}
use Rattle.query_bind.proofs.triggers.column_places.Goals as goal

pub returns-in_err-place_in-clause-places : goal.returns-in_err-place_in-clause-places
returns-in_err-place_in-clause-places c = λ once.
    let f = place_of (source_seen c.args.as_name.now c.args.table.now) in
    handed_on (λ places. places.items) (known_all (map f c.args.names.now)) c.in_err-place_in.field-0.0 c.from_residual.result c.from_residual.ensures.1
    (subst (λ k. IsFaultOf (faults k) c.in_err-place_in.field-0.0) (c.names.invariant once)
    (item_refused f c.args.names.now c.names.name-index c.name-item.result c.names.places.items c.in_err-place_in.field-0.0
    (omega (arith, c.names-test.true)) c.name-item.is (c.in_err-place_in.ensures.place once)))

pub names-preserved : goal.names-preserved
names-preserved c = λ once.
    let f = place_of (source_seen c.args.as_name.now c.args.table.now) in
    let place = c.in_ok-place_in.field-0 in
    ap (λ places. onto_list places (known_all (map f (drop (c.names.name-index + 1) c.args.names.now)))) (c.in_ok-push.ensures.items)
    ∙ (item_found f c.args.names.now c.names.name-index c.name-item.result c.names.places.items place (omega (arith, c.names-test.true)) c.name-item.is
    (c.in_ok-place_in.ensures.place once) ∙ c.names.invariant once)
