-- Whether another row has a row's key, seen by the entries of an index (SQL As Understood By SQLite, "CREATE INDEX", "Unique Indexes").
use Rattle.std.specs.Prelude.{◌≡◌, ℕ, Bool, false, not, List, [], ◌∷◌, ◌++◌, Result, MatchResult}
use Rattle.std.specs.List.{list_any}
use Rattle.std.specs.Ordering.{is_eq}
use Rattle.sqlval.specs.Faults.{IsOutside}
use Rattle.sqlval.specs.declared.collation.Collation.{Collation}
use Rattle.sqlval.specs.declared.fault.Fault.{Fault}
use Rattle.sqlval.specs.declared.value.Value.{Value}
use Rattle.pages.specs.Map.{PageMap, AreWhole}
use Rattle.tree_index.specs.Entries.{Entry, entries_from, entry_cmp}
use Rattle.tree_index.specs.Tree.{IsIndexTree}
use Rattle.index_entries.specs.Alone.{clashes}
use Rattle.index_entries.specs.Entries.{AreApart, Columns, Row, collations, entries_of_rows}

-- the first of the entries equals a key, which may be the first values of an entry
abbrev pub begins_with : List Collation → List Value → List Entry → Bool
begins_with columns key [] = false
begins_with columns key (entry ∷ entries) = is_eq (entry_cmp columns key entry)

-- Whether the first entry from one key on, or after it, equals another was found; or memory was short, or a disk's call failed.
abbrev pub FindsNext : PageMap → ℕ → ℕ → List Collation → List Value → Bool → List Value → Result Bool Fault → Type 0
FindsNext pages size root columns from after key result = (entries : List Entry) (used : List ℕ) → AreWhole size pages
    → IsIndexTree pages size root columns entries used
    → MatchResult result (λ same. same ≡ begins_with columns key (entries_from after columns from entries)) IsOutside

-- Where a row is among others, and its entry in the index, whether it clashes with none of them was found; or memory was short, or a disk's
-- call failed.
abbrev pub FindsAlone : PageMap → ℕ → ℕ → Columns → Row → Result Bool Fault → Type 0
FindsAlone pages size root columns row result = (before after : List Row) (used : List ℕ) → AreApart (before ++ row ∷ after) → AreWhole size pages
    → IsIndexTree pages size root (collations columns) (entries_of_rows columns (before ++ row ∷ after)) used
    → MatchResult result (λ alone. alone ≡ not (list_any (clashes columns row) (before ++ after))) IsOutside
