-- A listed database with one index more, and with one less.
use Rattle.std.specs.Prelude.{◌≡◌, ℕ, ℤ, false, not, filter, List, [], ◌∷◌, ◌++◌, Some}
use Rattle.std.specs.List.{list_any}
use Rattle.sqlval.specs.Names.{is_same_name}
use Rattle.sqlval.specs.declared.value.Value.{Value}
use Rattle.catalog.specs.Database.{Name, Database, AnIndex, with_object}
use Rattle.catalog.specs.Listed.{Listed, is_name_of, is_on, as_index, table_named, table_with_index, with_replaced}
use Rattle.catalog.specs.Named.{IsOfListed, without}
use Rattle.catalog.specs.declared.tables.Index.{Index as ListedIndex}
use Rattle.catalog.specs.declared.tables.Table.{Table}

-- the table with one more index, after its others
abbrev pub with_index : ListedIndex → Table → Table
with_index i t = record t { indexes = t.indexes ++ i ∷ [] }

-- the table without its indexes of a name
abbrev pub without_index : Name → Table → Table
without_index name t = record t { indexes = filter (λ i. not (is_same_name i.name name)) t.indexes }

-- what is listed, with this table in place of those of its name
abbrev pub replacing : Table → Listed → Listed
replacing t l = record l { tables = with_replaced t l.tables }

-- An index of a new name, listed with a table, is listed in the database, and the others as they were.
abbrev pub ListsNewIndex : Type 0
ListsNewIndex = (rows_at : ℕ → List (ℤ × List Value)) (l : Listed) (db : Database) (t : Table) (i : ListedIndex) → IsOfListed rows_at l db
    → table_named t.name l.tables ≡ Some t → is_name_of l i.name ≡ false
    → IsOfListed rows_at (replacing (with_index i t) l) (with_object db i.name (AnIndex (as_index t i)))

-- A listed database without one of the indexes, whose name is no trigger's table, is that of the tables with their other indexes.
abbrev pub ListsOtherIndexes : Type 0
ListsOtherIndexes = (rows_at : ℕ → List (ℤ × List Value)) (l : Listed) (db : Database) (name : Name) (t : Table) → IsOfListed rows_at l db
    → table_with_index name l.tables ≡ Some t → list_any (is_on name) l.triggers ≡ false → IsOfListed rows_at (replacing (without_index name t) l) (without name db)
