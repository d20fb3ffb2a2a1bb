use Rattle.catalog.proofs.UnusedRowids.{AreTaken}
use Rattle.catalog.proofs.rowids.greatest_unused.Given as goal

-- those that were tried are taken
abbrev pub invariant-taken : goal.invariant-taken
invariant-taken l = AreTaken l.rowids l.rowid l.counter
