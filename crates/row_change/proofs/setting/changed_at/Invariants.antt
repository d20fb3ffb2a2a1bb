-- what is left of the places decides
use Rattle.std.proofs.Common.{◌≡◌, drop, map}
use Rattle.sqlval.specs.Refusals.{all_answers}
use Rattle.query_terms.specs.Rows.{row_at}
use Rattle.query_terms.proofs.InOrder.{left}
use Rattle.row_change.specs.NewRows.{row_of}
use Rattle.row_change.specs.Setting.{source_set}
use Rattle.row_change.proofs.setting.changed_at.Given as goal

abbrev pub invariant-places : goal.invariant-places
invariant-places l =
    left (λ place. source_set l.table l.sets (row_at l.rows place)) (drop l.place-index l.places) (map row_of l.new.items) ≡ all_answers (map (λ place. source_set l.table l.sets (row_at l.rows place)) l.places)
