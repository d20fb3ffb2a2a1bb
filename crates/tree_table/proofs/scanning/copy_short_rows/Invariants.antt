use Rattle.std.proofs.Common.{◌≤◌, ◌-◌, ℤ, List}
use Rattle.tree_leaf.specs.Leaf.{Entry}
use Rattle.tree_page.specs.Node.{Local, Rows, IsNode}
use Rattle.tree_table.specs.Scanning.{AreBatched}
use Rattle.tree_table.proofs.ShortRows.{HasPut}
use Rattle.tree_table.proofs.scanning.copy_short_rows.Given as goal

abbrev pub invariant-rows : goal.invariant-rows
invariant-rows l =
    (l.place ≤ l.at) × ((said : List (ℤ × Local)) (entries : List Entry) → IsNode l.page.bytes l.page.start (Rows said) → AreBatched entries l.initial.rows.items l.initial.out.items
    → HasPut said l.most l.place l.at entries l.rows.items l.out.items)

abbrev pub decreases-rows : goal.decreases-rows
decreases-rows l = l.len - l.at
