-- The rows that an insertion makes, and their records.
use Rattle.std.specs.Prelude.{◌≡◌, ℕ, Bool, true, List, [], Option, None, Some}
use Rattle.std.specs.List.{list_all}
use Rattle.record.specs.Record.{IsRecord}
use Rattle.tree_leaf.specs.Leaf.{Entry}
use Rattle.tree_table.specs.declared.changing.RowChange.{RowChange}
use Rattle.catalog.specs.Rows.{holds_rowid, in_record, is_value}
use Rattle.catalog.specs.declared.tables.TableRow as stored
use Rattle.row_scan.specs.Rows.{TableRow}
use Rattle.row_change.specs.Inserting.{entry_for}
use Rattle.row_change.specs.declared.inserting.RowRecord.{RowRecord}

-- the row that it is
abbrev pub row_of : stored.TableRow → TableRow
row_of new = (new.rowid, new.values.items)

-- each of the rows has its rowid in the rowid's own column, if there is one
abbrev pub all_hold : Option ℕ → List TableRow → Bool
all_hold own rows = list_all (holds_rowid own) rows

-- the entry that it is
abbrev pub entry_in : RowRecord → Entry
entry_in written = record { rowid = written.rowid; payload = written.payload.items }

-- the entry that a change leaves, where it leaves one
abbrev pub entry_left : RowChange → Entry
entry_left change = record { rowid = change.rowid; payload = elim change.payload [ None ↦ [] | Some payload ↦ payload.items ] }

-- a change that gives the row another payload
abbrev pub IsReplacement : RowChange → Type 0
IsReplacement change = change.payload ≡ None → ⊥

-- the entry of the row, whose payload is a record of its values, each of which can be stored
pub record IsWritten (own : Option ℕ) (row : TableRow) (entry : Entry) : Type 0 where
  pub is : entry ≡ entry_for own row
  pub values : IsRecord entry.payload (in_record own row.1)
  pub fit : list_all is_value row.1 ≡ true
