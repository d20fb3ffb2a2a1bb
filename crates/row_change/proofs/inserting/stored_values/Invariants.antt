-- each value up to here is stored for its column
use Rattle.std.proofs.Common.{◌≡◌, ◌<◌, ℕ, length, slice_index_or}
use Rattle.sqlval.specs.declared.value.Value.TheVariants.{Null}
use Rattle.catalog.specs.declared.tables.Column.{Column}
use Rattle.row_change.proofs.StoredRows.{Stores}
use Rattle.row_change.proofs.inserting.stored_values.Given as goal

abbrev pub invariant-columns : goal.invariant-columns
invariant-columns l =
    (length l.values.items ≡ l.index) × ((i : ℕ) (c : Column) → i < l.index → Stores l.columns l.places l.given i c (slice_index_or l.values.items i Null))
