-- The rows that entries are: one list of them.
use Rattle.std.proofs.Common.{◌≡◌, List, [], ◌∷◌, refl, sym, ap, subst, ◌∙◌}
use Rattle.record.proofs.RecordLemmas.{one_list}
use Rattle.tree_leaf.specs.Leaf.{Entry}
use Rattle.tree_page.specs.Cells.{Pairwise}
use Rattle.catalog.specs.Rows.{in_record}
use Rattle.catalog.specs.declared.tables.RowShape.{RowShape}
use Rattle.row_scan.specs.Rows.{IsRow, TableRow}
use Rattle.row_scan.proofs.OwnValues.{again_read, as_read, as_written}

-- what a record says of a row says the row
row_again : (shape : RowShape) (entry : Entry) (row : TableRow) → IsRow shape entry row → as_read shape.own (as_written shape.own row) ≡ row
row_again shape entry row is = λ i. (row.0, again_read shape.own row.0 row.1 is.own i)

one_row : (shape : RowShape) (entry : Entry) (row other : TableRow) → IsRow shape entry row → IsRow shape entry other → row ≡ other
one_row shape entry row other is other_is =
    let written : as_written shape.own row ≡ as_written shape.own other =
    λ i. ((sym is.rowid ∙ other_is.rowid) i, one_list entry.payload (in_record shape.own row.1) (in_record shape.own other.1) is.values other_is.values i) in
    sym (row_again shape entry row is) ∙ (ap (as_read shape.own) written ∙ row_again shape entry other other_is)

rows_of_entries : (shape : RowShape) (entries : List Entry) (a b : List TableRow) → Pairwise (IsRow shape) entries a → Pairwise (IsRow shape) entries b → a ≡ b
rows_of_entries shape [] [] [] each others_each = refl
rows_of_entries shape [] [] (other ∷ b) each others_each = absurd others_each
rows_of_entries shape [] (row ∷ a) b each others_each = absurd each
rows_of_entries shape (entry ∷ entries) [] b each others_each = absurd each
rows_of_entries shape (entry ∷ entries) (row ∷ a) [] each others_each = absurd others_each
rows_of_entries shape (entry ∷ entries) (row ∷ a) (other ∷ b) each others_each =
    λ i. one_row shape entry row other each.0 others_each.0 i ∷ rows_of_entries shape entries a b each.1 others_each.1 i

-- rows of one list of entries are one list
pub same_rows : (shape : RowShape) (some others : List Entry) (a b : List TableRow) → some ≡ others → Pairwise (IsRow shape) some a → Pairwise (IsRow shape) others b → a ≡ b
same_rows shape some others a b same each others_each = rows_of_entries shape some a b each (subst (λ (entries : List Entry). Pairwise (IsRow shape) entries b) (sym same) others_each)
