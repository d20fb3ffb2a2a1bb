use Rattle.std.proofs.Common.{rules, arith}
use Rattle.std.proofs.lemmas.Grind.{common_steps}
use Rattle.shell.proofs.Passed.{goes}
use Rattle.shell.proofs.statements.statement_end.Goals as goal

pub pieces-preserved : goal.pieces-preserved
pieces-preserved c = (
  search (rules, goes),
  first_of (search rules, grind (arith, common_steps)),
  first_of (search rules, grind (arith, common_steps)),
)
