use Rattle.std.proofs.Common.{map, arith, subst}
use Rattle.query_names.specs.Bound.{IsFaultOf}
use Rattle.query_names.specs.Checked.{faults, known_all}
use Rattle.query_names.specs.Scopes.{place_of}
use Rattle.query_bind.proofs.Chains.{handed_on}
use Rattle.query_bind.proofs.Grown.{item_refused}
use Rattle.query_bind.proofs.changing.bind_each_place.Goals as goal

pub returns-in_err-place : goal.returns-in_err-place
returns-in_err-place c =
    handed_on (λ places. places.items) (known_all (map (place_of c.args.source.now) c.args.names.now)) c.in_err-place.field-0.0 c.from_residual.result c.from_residual.ensures.1
    (subst (λ k. IsFaultOf (faults k) c.in_err-place.field-0.0) c.names.invariant
    (item_refused (place_of c.args.source.now) c.args.names.now c.names.name-index c.name-item.result c.names.places.items c.in_err-place.field-0.0
    (omega (arith, c.names-test.true)) c.name-item.is c.in_err-place.ensures))
