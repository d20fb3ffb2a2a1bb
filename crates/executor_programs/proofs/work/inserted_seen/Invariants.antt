use Rattle.std.proofs.Common.{◌≡◌, map}
use Rattle.executor_programs.specs.declared.acts.ViewItem.TheVariants as view_item
use Rattle.executor_programs.proofs.work.inserted_seen.Given as goal

abbrev pub invariant-rows : goal.invariant-rows
invariant-rows l = l.items.items ≡ map view_item.Insert l.yielded
