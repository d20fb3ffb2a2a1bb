-- What taking entries of several rows out of an index's tree does to the tree.
use Rattle.std.specs.Prelude.{⊤, ℕ, List, ◌++◌, Result, MatchResult}
use Rattle.sqlval.specs.declared.collation.Collation.{Collation}
use Rattle.sqlval.specs.declared.fault.Fault.{Fault}
use Rattle.pages.specs.Calls.{IsOutsideOrFull}
use Rattle.pages.specs.Map.{PageMap}
use Rattle.tree_index.specs.Calls.{BecomesEntries, Stands}
use Rattle.tree_index.specs.Entries.{Entry, AreLong, GoInTurn, without_entries}
use Rattle.index_entries.specs.Entries.{AreApart, Columns, Row}
use Rattle.index_entries.specs.Keeping.{Turns}

-- Where a tree has these entries in their turn, it stands without them then; or memory was short, a disk's call failed, or there are as many pages
-- as there may be.
abbrev pub TakesGone : PageMap → PageMap → ℕ → ℕ → List Collation → List Entry → Result ⊤ Fault → Type 0
TakesGone old new size root columns gone result = (entries : List Entry) (used free : List ℕ) → Stands old size root columns entries used free
    → AreLong columns gone → GoInTurn columns gone entries
    → MatchResult result (λ done. BecomesEntries old new size root columns (without_entries columns gone entries) used free) IsOutsideOrFull

-- Rows go from among others, and their entries from the index.
abbrev pub TakesBatch : PageMap → PageMap → ℕ → ℕ → Columns → List Row → Result ⊤ Fault → Type 0
TakesBatch old new size root columns gone result = (before after : List Row) → AreApart (before ++ (gone ++ after))
    → Turns old new size root columns (before ++ (gone ++ after)) (before ++ after) IsOutsideOrFull result
