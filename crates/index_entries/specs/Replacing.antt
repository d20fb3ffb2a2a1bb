-- Rows that take others' places in a table, and their entries in an index (SQL As Understood By SQLite, "UPDATE").
use Rattle.std.specs.Prelude.{◌≡◌, ℕ, suc, ℤ, Bool, true, List, [], ◌∷◌, ◌++◌, map, slice_index_or, if◌then◌else◌, ⊤, Result}
use Rattle.std.specs.List.{list_all}
use Rattle.sqlval.specs.Sameness.{is_same_value}
use Rattle.sqlval.specs.declared.fault.Fault.{Fault}
use Rattle.sqlval.specs.declared.value.Value.{Value}
use Rattle.sqlval.specs.declared.value.Value.TheVariants.{Null}
use Rattle.pages.specs.Map.{PageMap}
use Rattle.index_entries.specs.Entries.{AreApart, Columns, Row}
use Rattle.index_entries.specs.Keeping.{IsAddRefusal, Turns}

-- the rows have the same values in the indexed columns, of one kind and byte by byte
abbrev pub has_same_key : Columns → List Value → List Value → Bool
has_same_key columns values others = list_all (λ column. is_same_value (slice_index_or values column.0 Null) (slice_index_or others column.0 Null)) columns

-- and so has each row with the one at its place
abbrev pub HaveSameKeys : Columns → List Row → List Row → Type 0
HaveSameKeys columns (row ∷ gone) (next ∷ come) = (has_same_key columns row.1 next.1 ≡ true) × HaveSameKeys columns gone come
HaveSameKeys columns _ _ = ⊤

-- how many rows from the first on have another key than the one at their place
abbrev pub changed : Columns → List Row → List Row → ℕ
changed columns (row ∷ gone) (next ∷ come) = if has_same_key columns row.1 next.1 then 0 else suc (changed columns gone come)
changed columns _ _ = 0

abbrev pub rowids : List Row → List ℤ
rowids rows = map (λ row. row.0) rows

-- A row takes the place of one of its rowid among others, and its entry that of the other's; or the call is refused.
abbrev pub ReplacesEntry : PageMap → PageMap → ℕ → ℕ → Columns → Row → Row → Result ⊤ Fault → Type 0
ReplacesEntry old new size root columns gone come result = (before after : List Row) → AreApart (before ++ gone ∷ after) → gone.0 ≡ come.0
    → Turns old new size root columns (before ++ gone ∷ after) (before ++ come ∷ after) (IsAddRefusal columns (come ∷ [])) result

-- Rows take the places of those of their rowids, and their entries those of the others'; or the call is refused.
abbrev pub ReplacesEntries : PageMap → PageMap → ℕ → ℕ → Columns → List Row → List Row → Result ⊤ Fault → Type 0
ReplacesEntries old new size root columns gone come result = (rows : List Row) → AreApart (rows ++ gone) → rowids gone ≡ rowids come
    → Turns old new size root columns (rows ++ gone) (rows ++ come) (IsAddRefusal columns come) result
