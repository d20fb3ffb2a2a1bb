use Rattle.std.specs.Prelude.{take}
use Rattle.catalog.specs.UnusedRowids.{AreUpTo}
use Rattle.catalog.proofs.rowids.greatest.Given as goal

-- none of the rowids so far is greater
abbrev pub invariant-rowids : goal.invariant-rowids
invariant-rowids l = AreUpTo l.greatest (take l.place l.rowids)
