use Rattle.std.proofs.Common.{arith}
use Rattle.std.proofs.lemmas.Bool.Decides.{nat_tests}
use Rattle.engine.proofs.LineReading.{ends_fed, ends_there, goes_on}
use Rattle.engine.proofs.lines.read_line.Goals as goal

pub parts-preserved : goal.parts-preserved
parts-preserved g c = goes_on _ _ _ _ _ _ c.in-Nothing.is c.parts.invariant c.in_ok-read_part.ensures.part

pub returns-in-LineFeed-clause-read : goal.returns-in-LineFeed-clause-read
returns-in-LineFeed-clause-read g c = ends_fed _ _ _ _ _ _ c.in-LineFeed.is c.parts.invariant c.in_ok-read_part.ensures.part

pub returns-in-End-clause-read : goal.returns-in-End-clause-read
returns-in-End-clause-read g c = ends_there _ _ _ _ _ _ _ (λ e. grind (arith, nat_tests)) (λ e. grind (arith, nat_tests)) c.in-End.is c.parts.invariant c.in_ok-read_part.ensures.part
