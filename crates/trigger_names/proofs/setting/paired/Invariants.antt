-- those so far, each with its place
use Rattle.std.specs.Prelude.{◌≡◌, zip}
use Rattle.trigger_names.proofs.setting.paired.Given as goal

abbrev pub invariant-terms : goal.invariant-terms
invariant-terms l = l.sets.items ≡ zip l.places l.yielded
