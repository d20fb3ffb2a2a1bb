-- what is left of the rows decides
use Rattle.executor_programs.proofs.ChosenRows.{IsUnderWay}
use Rattle.executor_programs.proofs.choosing.chosen_places.Given as goal

abbrev pub invariant-rows : goal.invariant-rows
invariant-rows l = IsUnderWay l.sources l.outer l.count l.condition l.place l.picked.items l.places.items
