use Rattle.std.proofs.Common.{◌-◌, ◌≤◌, ℤ, List, length}
use Rattle.tree_page.specs.Node.{Local, Rows, IsNode}
use Rattle.tree_table.proofs.runs.place_after.Given as goal

-- no place up to the last one is looked at, and none past the page's rows
abbrev pub invariant-leaps : goal.invariant-leaps
invariant-leaps l = (l.last ≤ l.low) × ((said : List (ℤ × Local)) → IsNode l.page.bytes l.page.start (Rows said) → l.high ≤ length said)

abbrev pub decreases-leaps : goal.decreases-leaps
decreases-leaps l = l.high - l.low
