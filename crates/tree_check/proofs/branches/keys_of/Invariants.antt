use Rattle.std.proofs.Common.{◌≡◌, ℕ, ℤ, List, take}
use Rattle.tree_page.specs.Node.{Keys, IsNode}
use Rattle.tree_check.specs.Subtrees.{keys_in}
use Rattle.tree_check.proofs.branches.keys_of.Given as goal

abbrev pub invariant-cells : goal.invariant-cells
invariant-cells l = (kids : List (ℕ × ℤ)) (last : ℕ) → IsNode l.page.bytes l.page.start (Keys kids last) → keys_in l.keys.items ≡ take l.index kids
