use Rattle.std.proofs.Common.{◌≡◌, ℤ, List, length}
use Rattle.tree_page.specs.Node.{Local as LocalIs, Rows, IsNode}
use Rattle.tree_check.proofs.Rows.{HasRows}
use Rattle.tree_check.proofs.leaves.tails_of.Given as goal

abbrev pub invariant-rows : goal.invariant-rows
invariant-rows l =
    (said : List (ℤ × LocalIs)) → IsNode l.page.bytes l.page.start (Rows said) → length l.page.bytes ≡ l.fn.usable → HasRows l.fn.usable l.fn.low l.above l.fn.high l.index said l.tails.items
