use Rattle.std.proofs.Common.{◌≡◌, map}
use Rattle.executor_programs.specs.declared.acts.TableItem.TheVariants as table_item
use Rattle.executor_programs.proofs.work.inserted_items.Given as goal

abbrev pub invariant-rows : goal.invariant-rows
invariant-rows l = l.items.items ≡ map table_item.Insert l.yielded
