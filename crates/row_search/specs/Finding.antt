-- The rowids of the entries of an index that are looked for: those that begin with a key, and whose next value lies in a range, if there is
-- one (Query Planning, "Indices").
use Rattle.std.specs.Prelude.{◌≡◌, ◌++◌, ℕ, ℤ, pos, Bool, true, false, not, ◌&&◌, ◌||◌, List, [], ◌∷◌, length, slice_index_or, if◌then◌else◌, ⊤, Option, None, Some, Result, MatchResult}
use Rattle.std.specs.List.{AllByRecursion, list_all}
use Rattle.std.specs.Ordering.{int_cmp, is_eq}
use Rattle.sqlval.specs.Faults.{IsOutside}
use Rattle.sqlval.specs.Lists.{sorted}
use Rattle.sqlval.specs.declared.collation.Collation.{Collation}
use Rattle.sqlval.specs.declared.collation.Collation.TheVariants.{Binary}
use Rattle.sqlval.specs.declared.fault.Fault.{Fault}
use Rattle.sqlval.specs.declared.value.Value.{Value}
use Rattle.sqlval.specs.declared.value.Value.TheVariants.{Null, Int}
use Rattle.pages.specs.Map.{PageMap, AreWhole}
use Rattle.query_terms.specs.Values.{is_null, number_in}
use Rattle.tree_index.specs.Entries.{Entry, entries_from, entry_cmp}
use Rattle.tree_index.specs.Tree.{IsIndexTree}
use Rattle.query_plan.specs.Ranges.{is_within}
use Rattle.query_plan.specs.declared.ranges.Bound.{Bound}
use Rattle.query_plan.specs.declared.ranges.Range.{Range}

-- ---- entries

-- the entry ends with a rowid (Database File Format, "Representation Of SQL Indices")
pub record EndsWithRowid (entry : Entry) : Type 0 where
  pub values : List Value
  pub rowid : ℤ
  pub is : entry ≡ values ++ Int rowid ∷ []

-- the rowid that an entry ends with
abbrev pub entry_rowid : Entry → ℤ
entry_rowid [] = pos 0
entry_rowid (value ∷ []) = number_in value
entry_rowid (value ∷ next ∷ entry) = entry_rowid (next ∷ entry)

-- the entry's first values are tied with a key
abbrev pub begins_with : List Collation → List Value → Entry → Bool
begins_with columns key entry = is_eq (entry_cmp columns key entry)

-- the value after a key's lies in a range, if there is one
abbrev pub goes_on_in : List Collation → List Value → Option Range → Entry → Bool
goes_on_in columns key None entry = true
goes_on_in columns key (Some range) entry = is_within (slice_index_or columns (length key) Binary) range (slice_index_or entry (length key) Null)

-- both are so
abbrev pub is_sought : List Collation → List Value → Option Range → Entry → Bool
is_sought columns key range entry = begins_with columns key entry && goes_on_in columns key range entry

-- the rowid of an entry that passes a test
abbrev pub passing_rowid : (Entry → Bool) → Entry → Option ℤ
passing_rowid test entry = if test entry then Some (entry_rowid entry) else None

-- the rowids of these entries, up to the first that doesn't pass it
abbrev pub first_rowids : (Entry → Bool) → List Entry → List ℤ
first_rowids test [] = []
first_rowids test (entry ∷ entries) = if test entry then (entry_rowid entry ∷ first_rowids test entries) else []

-- these rowids come after others, and the answer is whether all entries pass the test
pub record AddsFirst (test : Entry → Bool) (entries : List Entry) (before after : List ℤ) (all : Bool) : Type 0 where
  pub added : after ≡ before ++ first_rowids test entries
  pub told : all ≡ list_all test entries

-- ---- where they begin

-- the value of a low end, NULL where there is none
abbrev pub low_value : Option Bound → Value
low_value None = Null
low_value (Some end) = end.value

-- whether what equals that is before the range too: the end isn't in it, or is NULL
abbrev pub passes_low : Option Bound → Bool
passes_low None = true
passes_low (Some end) = not end.within || is_null end.value

-- the entries from a key on, and from the low end of a range of the next value, if there is one
abbrev pub sought_from : List Collation → List Value → Option Range → List Entry → List Entry
sought_from columns key None entries = entries_from false columns key entries
sought_from columns key (Some range) entries = entries_from (passes_low range.low) columns (key ++ low_value range.low ∷ []) entries

-- ---- calls

-- Of an index's tree the rowids of the entries that are looked for come after others; or memory was short, or a disk's call failed.
abbrev pub AddsRowids : PageMap → ℕ → ℕ → List Collation → List Value → Option Range → List ℤ → List ℤ → Result ⊤ Fault → Type 0
AddsRowids pages size root columns key range before after result = (entries : List Entry) (used : List ℕ) → AreWhole size pages
    → IsIndexTree pages size root columns entries used → AllByRecursion EndsWithRowid entries
    → MatchResult result (λ done. after ≡ before ++ first_rowids (is_sought columns key range) (sought_from columns key range entries)) IsOutside

-- the same rowids, sorted
abbrev pub FindsRowids : PageMap → ℕ → ℕ → List Collation → List Value → Option Range → Result (List ℤ) Fault → Type 0
FindsRowids pages size root columns key range result = (entries : List Entry) (used : List ℕ) → AreWhole size pages
    → IsIndexTree pages size root columns entries used → AllByRecursion EndsWithRowid entries
    → MatchResult result (λ found. found ≡ sorted int_cmp (first_rowids (is_sought columns key range) (sought_from columns key range entries)))
    IsOutside
