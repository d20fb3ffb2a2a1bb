-- An entry whose payload is the record of a row's values is that row, with the rowid at its own place.
use Rattle.std.proofs.Common.{◌≡◌, ◌∙◌, pos, List, [], Result, Ok, Err, refl, sym, subst}
use Rattle.std.specs.Prelude.{⊤}
use Rattle.sqlval.specs.declared.fault.Fault.{Fault}
use Rattle.sqlval.specs.declared.value.Value.{Value}
use Rattle.sqlval.specs.declared.value.Value.TheVariants.{Int}
use Rattle.record.specs.Record.{IsRecord}
use Rattle.record.specs.Rows.{AreOfRow}
use Rattle.tree_leaf.specs.Leaf.{Entry}
use Rattle.catalog.specs.declared.tables.RowShape.{RowShape}
use Rattle.row_scan.specs.Rows.{IsRow}
use Rattle.row_scan.proofs.OwnValues.{as_read, read_holds, read_length, written_again}

pub no_row : Entry
no_row = record { rowid = pos 0; payload = [] }

abbrev fine : {A : Type 0} → A → Result A Fault
fine x = Ok x

pub ok_is : {A : Type 0} {x y : A} → fine x ≡ fine y → x ≡ y
ok_is e = cc

abbrev refused : Fault → Result ⊤ Fault
refused fault = Err fault

pub not_done : (fault : Fault) → refused fault ≡ Ok tt → ⊥
not_done fault e = absurd cc

pub row_is : (shape : RowShape) (entry : Entry) (values : List Value) → IsRecord entry.payload values → AreOfRow shape.width shape.own values
    → IsRow shape entry (as_read shape.own (entry.rowid, values))
row_is shape entry values is are = record {
  rowid = refl;
  values = subst (IsRecord entry.payload) (sym (written_again shape.own (Int entry.rowid) values are.null)) is;
  full = read_length shape.own (Int entry.rowid) values are.null ∙ are.full;
  own = read_holds shape.own entry.rowid values are.null;
}
