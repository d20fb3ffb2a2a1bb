-- Rows that a UNIQUE index keeps apart, by its entries (SQL As Understood By SQLite, "CREATE INDEX", "Unique Indexes").
use Rattle.std.specs.Prelude.{◌≡◌, ◌⊎◌, ℕ, Bool, true, false, not, ◌&&◌, List, [], ◌∷◌, ◌++◌, slice_index_or, Result, MatchResult}
use Rattle.std.specs.List.{list_any}
use Rattle.std.specs.Ordering.{is_eq}
use Rattle.sqlval.specs.Order.{order}
use Rattle.sqlval.specs.declared.fault.Fault.{Fault}
use Rattle.sqlval.specs.declared.value.Value.{Value}
use Rattle.sqlval.specs.declared.value.Value.TheVariants.{Null}
use Rattle.pages.specs.Map.{PageMap}
use Rattle.tree_index.specs.Calls.{BecomesEntries, Stands}
use Rattle.tree_index.specs.Entries.{has_entry, key_in}
use Rattle.index_entries.specs.Entries.{AreApart, Columns, Row, collations, entries_of_rows, indexed}
use Rattle.index_entries.specs.Keeping.{IsAddRefusal}

-- whether a value is NULL
abbrev pub is_null : Value → Bool
is_null Null = true
is_null _ = false

-- one of the indexed values is NULL
abbrev pub has_null : Columns → List Value → Bool
has_null columns values = list_any (λ column. is_null (slice_index_or values column.0 Null)) columns

-- the values of the indexed columns are equal, each under its collation
abbrev pub shares_key : Columns → List Value → List Value → Bool
shares_key [] values others = true
shares_key (column ∷ columns) values others =
    is_eq (order column.1 (slice_index_or values column.0 Null) (slice_index_or others column.0 Null)) && shares_key columns values others

-- a UNIQUE index keeps the two rows apart: their keys are equal and hold no NULL
abbrev pub clashes : Columns → Row → Row → Bool
clashes columns row other = not (has_null columns row.1) && shares_key columns row.1 other.1

-- A key is among the entries of rows exactly where one of the rows has it.
abbrev pub FindsKeys : Type 0
FindsKeys = (columns : Columns) (row : Row) (rows : List Row)
    → has_entry (collations columns) (key_in (collations columns) (indexed columns row)) (entries_of_rows columns rows) ≡ list_any (λ other. shares_key columns row.1 other.1) rows

-- The row came, and its entry to the index, where it clashes with none; or it clashes with one, and nothing changed.
abbrev pub IsAddedAlone : PageMap → PageMap → ℕ → ℕ → Columns → Row → List Row → List ℕ → List ℕ → Bool → Type 0
IsAddedAlone old new size root columns row rows used free true =
    (list_any (clashes columns row) rows ≡ false) × BecomesEntries old new size root (collations columns) (entries_of_rows columns (rows ++ row ∷ [])) used free
IsAddedAlone old new size root columns row rows used free false = (list_any (clashes columns row) rows ≡ true) × (new ≡ old)

-- A row of another rowid comes among others, and its entry to the tree of a UNIQUE index; or it clashes with one of them, or the call is
-- refused.
abbrev pub AddsAlone : PageMap → PageMap → ℕ → ℕ → Columns → Row → Result Bool Fault → Type 0
AddsAlone old new size root columns row result = (rows : List Row) (used free : List ℕ) → AreApart (rows ++ row ∷ [])
    → Stands old size root (collations columns) (entries_of_rows columns rows) used free
    → MatchResult result (IsAddedAlone old new size root columns row rows used free) (IsAddRefusal columns (row ∷ []))

-- The row came in place of the other, and its entry to the index, where it clashes with none of those beside it; or it clashes with one, and
-- nothing changed, or the other's entry is out.
abbrev pub IsReplacedAlone : PageMap → PageMap → ℕ → ℕ → Columns → Row → List Row → List Row → List ℕ → List ℕ → Bool → Type 0
IsReplacedAlone old new size root columns come before after used free true =
    (list_any (clashes columns come) (before ++ after) ≡ false)
    × BecomesEntries old new size root (collations columns) (entries_of_rows columns (before ++ come ∷ after)) used free
IsReplacedAlone old new size root columns come before after used free false =
    (list_any (clashes columns come) (before ++ after) ≡ true)
    × ((new ≡ old) ⊎ BecomesEntries old new size root (collations columns) (entries_of_rows columns (before ++ after)) used free)

-- A row takes the place of one of its rowid among others (SQL As Understood By SQLite, "UPDATE"), and its entry that of the other's in the tree of
-- a UNIQUE index; or it clashes with a third, or the call is refused.
abbrev pub ReplacesAlone : PageMap → PageMap → ℕ → ℕ → Columns → Row → Row → Result Bool Fault → Type 0
ReplacesAlone old new size root columns gone come result = (before after : List Row) (used free : List ℕ) → AreApart (before ++ gone ∷ after) → gone.0 ≡ come.0
    → Stands old size root (collations columns) (entries_of_rows columns (before ++ gone ∷ after)) used free
    → MatchResult result (IsReplacedAlone old new size root columns come before after used free) (IsAddRefusal columns (come ∷ []))
