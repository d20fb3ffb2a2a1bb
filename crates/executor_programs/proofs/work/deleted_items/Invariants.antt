use Rattle.std.proofs.Common.{◌≡◌, map, take}
use Rattle.trigger.specs.Effects.{id_of}
use Rattle.executor_programs.specs.declared.acts.TableItem.TheVariants as table_item
use Rattle.executor_programs.proofs.work.deleted_items.Given as goal

abbrev pub invariant-rows : goal.invariant-rows
invariant-rows l = l.items.items ≡ map (λ r. table_item.Delete (id_of r)) (take l.row-index l.rows)
