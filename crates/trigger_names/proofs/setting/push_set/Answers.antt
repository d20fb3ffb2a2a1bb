use Rattle.std.proofs.Common.{◌≡◌, None, Some, arith, length, rules}
use Rattle.std.specs.Prelude.{slice_get}
use Rattle.std.proofs.lemmas.Grind.{common_steps}
use Rattle.std.proofs.lemmas.Option.{gets}
use Rattle.trigger_names.proofs.SetPairs.{none_left, one_left}
use Rattle.trigger_names.proofs.setting.push_set.Goals as goal

pub returns-in_default-clause-pushed : goal.returns-in_default-clause-pushed
returns-in_default-clause-pushed c =
    let gone : slice_get c.args.places.now c.len.result ≡ None = grind (arith, common_steps, gets, c.in_default.ensures.lookup) in
    let counted : c.len.result ≡ length c.args.sets.now.items = search rules in
    none_left c.args.places.now c.len.result c.args.sets.now.items c.args.term counted gone

pub returns-clause-pushed : goal.returns-clause-pushed
returns-clause-pushed c =
    let there : slice_get c.args.places.now c.len.result ≡ Some c.in-Some.place.now = grind (arith, common_steps, gets, c.in-Some.ensures.lookup) in
    let counted : c.len.result ≡ length c.args.sets.now.items = search rules in
    one_left c.args.places.now c.len.result c.in-Some.place.now c.args.sets.now.items c.push.new.self.items c.args.term counted there c.in_ok-push.ensures.items
