use Rattle.std.proofs.Common.{sym, ◌∙◌, arith}
use Rattle.tree_page.specs.Bytes.{header_parts}
use Rattle.tree_page.proofs.SaidPages.{claims_step}
use Rattle.tree_page.proofs.checking.claim_cells.Goals as goal

pub cells-preserved : goal.cells-preserved
cells-preserved c = (
  claims_step c.args.page.now c.args.start (header_parts c.args.header) c.cells.taken c.claim.new.taken c.cells.index c.args.header.len c.in_ok-from.from c.in_ok-from.to (omega (arith, c.cells-test.true)) (sym c.in_ok-from.ensures.value)
      (sym c.in_ok-claim.ensures) ∙ c.cells.invariant.0,
  omega (arith, c.cells.invariant.1),
)
