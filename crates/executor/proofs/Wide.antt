-- Indexes that are too wide for a record, and the indexes of a listed table in the database.
use Rattle.std.proofs.Common.{◌≡◌, refl, ap, ◌∙◌, ℕ, suc, Bool, true, false, ◌||◌, List, [], ◌∷◌, length, Some}
use Rattle.std.proofs.lemmas.List.{length-map}
use Rattle.std.specs.List.{AllByRecursion, list_any}
use Rattle.sqlval.specs.Names.{folded}
use Rattle.catalog.specs.Database.{Database, Name}
use Rattle.catalog.specs.Listed.{Listed, as_index, table_named}
use Rattle.catalog.specs.Named.{IsOfListed, ListsIndexes}
use Rattle.catalog.specs.declared.tables.Index.{Index}
use Rattle.catalog.specs.declared.tables.IndexColumn.{IndexColumn}
use Rattle.catalog.specs.declared.tables.Table.{Table}
use Rattle.query_names.specs.Checked.{Checked, Meant, both, known_all, meant}
use Rattle.query_names.proofs.ColumnNames.{folded_twice}
use Rattle.row_scan.specs.Rows.{TableRow}
use Rattle.row_change.specs.Agreement.{HasIndexesOf}
use Rattle.db_write.specs.Changing.{has_wide_index, is_wide}
use Rattle.executor.specs.Changing.{HasWideIndex, IsIndexIn}
use Rattle.executor.proofs.Targets.{named_as}

either : (a b : Bool) → (a || b) ≡ true → (a ≡ false → b ≡ true)
either true b h none = absurd cc
either false b h none = h

-- a table with an index that is too wide is one of a database with such an index
pub wide_in : (db : Database) (t : Table) (name : Name) → folded t.name ≡ folded name → AllByRecursion (IsIndexIn db t) t.indexes → has_wide_index t ≡ true → HasWideIndex db name
wide_in db t name same each wide = by t.indexes each wide
  where
    by : (is : List Index) → AllByRecursion (IsIndexIn db t) is → list_any (λ i. is_wide (length i.columns)) is ≡ true → HasWideIndex db name
    by [] each wide = absurd cc
    by (i ∷ is) each wide = by_first (is_wide (length i.columns)) refl (by is each.1)
      where
        by_first : (b : Bool) → is_wide (length i.columns) ≡ b → (list_any (λ j. is_wide (length j.columns)) is ≡ true → HasWideIndex db name) → HasWideIndex db name
        by_first true first rest = record { name = i.name; index = as_index t i; is = each.0; on = same; wide = ap is_wide (length-map i.columns (λ (c : IndexColumn). (c.place, c.collation))) ∙ first }
        by_first false first rest = rest (either (is_wide (length i.columns)) (list_any (λ j. is_wide (length j.columns)) is) wide first)

-- the database has the indexes that are listed with a table
pub indexes_of_table : ListsIndexes → (rows_at : ℕ → List TableRow) (l : Listed) (db : Database) (name : Name) (t : Table) → IsOfListed rows_at l db → table_named name l.tables ≡ Some t → HasIndexesOf db (folded name) t
indexes_of_table lists rows_at l db name t of_listed named test = lists rows_at l db (folded name) t test of_listed (named_as l.tables (folded name) name (folded_twice name) ∙ named)

-- as many things are known as are meant
pub known_long : {A : Type 0} (ks : List (Checked A)) → length (meant (known_all ks)) ≡ length ks
known_long [] = refl
known_long {A} (k ∷ ks) = by k (known_all ks) (known_long ks)
  where
    by : (k : Checked A) (rest : Checked (List A)) → length (meant rest) ≡ length ks → length (meant (both (λ x xs. x ∷ xs) k rest)) ≡ suc (length ks)
    by (Meant x rs) (Meant xs ss) long = ap suc long
