use Rattle.std.proofs.Common.{◌≡◌}
use Rattle.tree_index.specs.Entries.{entry_cmp}
use Rattle.tree_index.proofs.Comparisons.{From}
use Rattle.tree_index.proofs.comparing.compare_records.Given as goal

abbrev pub invariant-values : goal.invariant-values
invariant-values l = From l.columns l.a l.b l.place ≡ entry_cmp l.columns l.a l.b
