use Rattle.tree_page.specs.Bytes.{header_parts}
use Rattle.tree_page.proofs.FallingCells.{AreLeft}
use Rattle.tree_page.proofs.checking.lie_in_falling_order.Given as goal

-- the cells so far are claimed, and what lies between the pointers and the last of them is free
abbrev pub invariant-cells : goal.invariant-cells
invariant-cells l = AreLeft l.page l.start (header_parts l.header) l.front l.low l.index
