use Rattle.catalog.proofs.UnusedRowids.{AreTakenTo}
use Rattle.catalog.proofs.rowids.least_unused.Given as goal

-- those that were tried are taken
abbrev pub invariant-taken : goal.invariant-taken
invariant-taken l = AreTakenTo l.rowids l.fn.after l.rowid l.counter
