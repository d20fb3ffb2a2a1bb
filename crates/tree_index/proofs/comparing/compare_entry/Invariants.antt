use Rattle.std.proofs.Common.{◌≡◌}
use Rattle.tree_index.specs.Entries.{entry_cmp}
use Rattle.tree_index.proofs.Comparisons.{From}
use Rattle.tree_index.proofs.comparing.compare_entry.Given as goal

abbrev pub invariant-values : goal.invariant-values
invariant-values l = From l.key.columns.now l.key.values.now l.entry l.place ≡ entry_cmp l.key.columns.now l.key.values.now l.entry
