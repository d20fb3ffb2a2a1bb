use Rattle.index_build.proofs.Ranks.{IsLeft}
use Rattle.index_build.proofs.entries.compare_entries.Given as goal

abbrev pub invariant-columns : goal.invariant-columns
invariant-columns l = IsLeft l.columns l.a l.b l.index
