-- the values from a place on are left, and decide
use Rattle.std.proofs.Common.{◌≡◌, List, length, drop, Ok}
use Rattle.sqlval.specs.declared.value.Value.{Value}
use Rattle.record.specs.Reading.{columns_at}
use Rattle.tree_index.specs.Entries.{entry_cmp}
use Rattle.tree_index.proofs.Comparisons.{From}
use Rattle.tree_index.proofs.Lying.{AreLeft}
use Rattle.tree_index.proofs.comparing.compare_lying.Given as goal

abbrev pub invariant-values : goal.invariant-values
invariant-values l = (entry : List Value) → columns_at (length l.types) l.types l.bodies ≡ Ok entry
    → AreLeft l.types_left l.bodies_left (drop l.place entry) × (From l.key.columns.now l.key.values.now entry l.place ≡ entry_cmp l.key.columns.now l.key.values.now entry)
