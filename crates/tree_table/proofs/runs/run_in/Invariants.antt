-- the places up to here make a run
use Rattle.std.proofs.Common.{◌≡◌, suc, ℤ, List, length, map}
use Rattle.tree_page.specs.Node.{Local, Rows, IsNode}
use Rattle.tree_page.specs.Reading.{NeverFall}
use Rattle.tree_table.specs.Runs.{IsFirst}
use Rattle.tree_table.specs.Stepping.{HasRowid}
use Rattle.tree_table.proofs.RunPlaces.{RunSoFar}
use Rattle.tree_table.proofs.runs.run_in.Given as goal

abbrev pub invariant-changes : goal.invariant-changes
invariant-changes l = (length l.places.items ≡ suc l.change-index) × ((said : List (ℤ × Local)) (rowid : ℤ) → IsNode l.bytes l.start (Rows said) → NeverFall (map (λ row. row.0) said)
    → IsFirst rowid l.changes → HasRowid rowid said l.place → RunSoFar (length l.bytes) said l.changes l.places.items l.last l.room)
