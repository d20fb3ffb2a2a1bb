use Rattle.std.proofs.Common.{◌≡◌, ◌-◌, length}
use Rattle.tree_page.specs.Bytes.{header_parts}
use Rattle.tree_page.specs.Checking.{claimed_from}
use Rattle.tree_page.proofs.checking.claim_cells.Given as goal

abbrev pub invariant-cells : goal.invariant-cells
invariant-cells l =
    (claimed_from l.page l.start (header_parts l.header) l.taken l.index (l.header.len - l.index) ≡ claimed_from l.page l.start (header_parts l.header) l.fn.taken 0 l.header.len)
    × (length l.taken ≡ length l.page)
