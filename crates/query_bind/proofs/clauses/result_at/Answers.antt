use Rattle.std.proofs.Common.{◌≡◌, ◌-◌, suc, Some, None, arith, refl}
use Rattle.std.specs.Prelude.{slice_get}
use Rattle.std.proofs.lemmas.Grind.{common_steps}
use Rattle.std.proofs.lemmas.Option.{gets}
use Rattle.query_bind.proofs.Placed.{place_past, result_placed}
use Rattle.query_bind.proofs.clauses.result_at.Goals as goal

pub returns-in-Some : goal.returns-in-Some
returns-in-Some c = λ scope items tables.
    let some : c.args.number ≡ suc (c.args.number - 1) = omega (arith, c.if-number-eq0.false) in
    let there : slice_get c.args.results.now (c.args.number - 1) ≡ Some c.in-Some.result.now = grind (arith, common_steps, gets, c.in-Some.ensures.lookup) in
    result_placed scope items c.args.results.now c.args.number (c.args.number - 1) c.in-Some.result.now c.marked.result some there c.marked.ensures

pub returns-in-None : goal.returns-in-None
returns-in-None c = λ scope items tables.
    let some : c.args.number ≡ suc (c.args.number - 1) = omega (arith, c.if-number-eq0.false) in
    let gone : slice_get c.args.results.now (c.args.number - 1) ≡ None = grind (arith, common_steps, gets, c.in-None.ensures.lookup) in
    place_past scope items c.args.results.now c.args.number (c.args.number - 1) _ some gone tables refl
