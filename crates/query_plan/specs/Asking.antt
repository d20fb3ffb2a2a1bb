-- What a condition asks of an index, part by part: a key, and a range of the column after it; and which index of several it asks the most of
-- (The SQLite Query Optimizer Overview, "WHERE Clause Analysis" and "The BETWEEN Optimization"; Query Planning, "Multi-Column Indices").
use Rattle.std.specs.Prelude.{◌≡◌, ⊤, ℕ, ◌+◌, ℤ, ◌+ℤ◌, ◌-ℤ◌, ◌^◌, ◌-◌, negsuc, pos, Bool, true, false, not, ◌&&◌, ◌||◌, ◌==◌, List, [], ◌∷◌, length, slice_get, Option, None, Some, option_map, unwrap_or, if◌then◌else◌, nat_lt}
use Rattle.std.specs.List.{list_any}
use Rattle.std.specs.Option.{option_and_then, option_or}
use Rattle.std.specs.Result.{result_ok}
use Rattle.sqlval.specs.Conversion.{converted, is_word, word}
use Rattle.sqlval.specs.Refusals.{◌then◌}
use Rattle.sqlval.specs.declared.affinity.Affinity.{Affinity}
use Rattle.sqlval.specs.declared.value.Value.{Value}
use Rattle.sqlval.specs.declared.value.Value.TheVariants.{Int}
use Rattle.catalog.specs.declared.tables.Index.{Index}
use Rattle.catalog.specs.declared.tables.IndexColumn.{IndexColumn}
use Rattle.query_terms.specs.Terms.{Term, Const, Digits, Cell, Two, Between, affinity, comparison_index, same_place}
use Rattle.query_terms.specs.Values.{conversion}
use Rattle.query_terms.specs.declared.tree.Comparison.{Comparison}
use Rattle.query_terms.specs.declared.tree.Comparison.TheVariants.{Equal, Less, LessOrEqual, Greater, GreaterOrEqual}
use Rattle.query_terms.specs.declared.tree.TwoSided.TheVariants.{Compare, And}
use Rattle.query_names.specs.Calm.{finds, is_calm, is_search, parts}
use Rattle.query_plan.specs.Keys.{is_led_by, is_same_collation, of_column}
use Rattle.query_plan.specs.Ranges.{has_ends, of_rowid}
use Rattle.query_plan.specs.Seeking.{no_index}
use Rattle.query_plan.specs.declared.keys.Wanted.{Wanted}
use Rattle.query_plan.specs.declared.ranges.Bound.{Bound}
use Rattle.query_plan.specs.declared.ranges.Range.{Range}
use Rattle.query_plan.specs.declared.searching.Candidate.{Candidate}
use Rattle.query_plan.specs.declared.searching.Search.{Search}
use Rattle.query_plan.specs.declared.searching.Search.TheVariants.{Rowid, Rowids, Key, Range as InRange}

-- ---- values

-- a literal as a column of this affinity is compared with it, where its conversion isn't refused
abbrev pub literal_key : Option Affinity → Term → Option Value
literal_key a (Const v) = result_ok (converted (conversion None a) v)
literal_key a (Digits n) = result_ok (word (pos n) then converted (conversion None a))
literal_key a t = None

-- whether it is what is looked for, under its collation
abbrev pub is_wanted : Wanted → Term → Bool
is_wanted w (Cell s p a c) = (s == w.source) && (same_place w.place p && is_same_collation w.collation c)
is_wanted w t = false

-- the value where the left side is what is looked for and the right side a literal
abbrev pub asked_key : Wanted → Term → Term → Option Value
asked_key w left right = if is_wanted w left then literal_key (affinity left) right else None

-- the value that two compared sides ask for, if their comparison is the one looked for
abbrev pub compared_key : Wanted → Comparison → Comparison → Term → Term → Option Value
compared_key w o p left right = if comparison_index p == comparison_index o then asked_key w left right else None

-- the value that the parts which AND joins ask for by a comparison, the first of several; BETWEEN is two comparisons
abbrev pub key_in : Wanted → Comparison → Term → Option Value
key_in w o (Two And a b) = option_or (key_in w o a) (key_in w o b)
key_in w o (Two (Compare p) a b) = compared_key w o p a b
key_in w o (Between false a b c) = option_or (compared_key w o GreaterOrEqual a b) (compared_key w o LessOrEqual a c)
key_in w o t = None

-- ---- keys

-- a value and those after it, where there is one, or else none
abbrev pub led_by : Option Value → List Value → List Value
led_by None rest = []
led_by (Some k) rest = k ∷ rest

-- the values that are asked of the columns from the first on, up to one that isn't asked for
abbrev pub key_for : ℕ → Term → List IndexColumn → List Value
key_for n condition [] = []
key_for n condition (column ∷ columns) = led_by (key_in (of_column n column) Equal condition) (key_for n condition columns)

-- ---- ranges

-- an end at a value
abbrev pub end_at : Bool → Value → Bound
end_at within v = record { value = v; within = within }

-- the end that is asked for by the first comparison, which has it within the range, or else by the second
abbrev pub end_in : Wanted → Comparison → Comparison → Term → Option Bound
end_in w o p condition = option_or (option_map (end_at true) (key_in w o condition)) (option_map (end_at false) (key_in w p condition))

-- the range between the ends that are asked for
abbrev pub ends_in : Wanted → Term → Range
ends_in w condition = record { low = end_in w GreaterOrEqual Greater condition; high = end_in w LessOrEqual Less condition }

-- a range without ends
abbrev pub no_range : Range
no_range = record { low = None; high = None }

-- the range of a column, if there is one
abbrev pub range_in : ℕ → Option IndexColumn → Term → Range
range_in n None condition = no_range
range_in n (Some column) condition = ends_in (of_column n column) condition

-- ---- rowids

-- a number, if it has 64 bits
abbrev pub rowid_of : ℤ → Option ℤ
rowid_of n = if is_word n then Some n else None

-- a low end's number, or where it isn't in the range the next one
abbrev pub at_or_after : Bool → ℤ → Option ℤ
at_or_after within n = if within then Some n else rowid_of (n +ℤ pos 1)

-- a high end's number, or where it isn't in the range the one before
abbrev pub at_or_before : Bool → ℤ → Option ℤ
at_or_before within n = if within then Some n else rowid_of (n -ℤ pos 1)

-- the first rowid of a range with this low end
abbrev pub first_rowid : Bound → Option ℤ
first_rowid end = elim end.value [ Int n ↦ at_or_after end.within n | _ ↦ None ]

-- the last rowid of a range with this high end
abbrev pub last_rowid : Bound → Option ℤ
last_rowid end = elim end.value [ Int n ↦ at_or_before end.within n | _ ↦ None ]

-- from the first to the last; where there is one of both, to the greatest number or from the least
abbrev pub from_to : Option ℤ → Option ℤ → Option (ℤ × ℤ)
from_to None None = None
from_to low high = Some (unwrap_or low (negsuc (2 ^ 63 - 1)), unwrap_or high (pos (2 ^ 63 - 1)))

-- the rowids of a range
abbrev pub rowids_of : Range → Option (ℤ × ℤ)
rowids_of range = from_to (option_and_then first_rowid range.low) (option_and_then last_rowid range.high)

-- the rowids that a condition asks for by a range
abbrev pub rowids_in : ℕ → Term → Option (ℤ × ℤ)
rowids_in n condition = rowids_of (ends_in (of_rowid n) condition)

-- ---- indexes

-- what a condition asks of a source's index of these columns at this place
abbrev pub candidate_of : ℕ → Term → ℕ → List IndexColumn → Candidate
candidate_of n condition place columns =
    record { place = place; key = key_for n condition columns; range = range_in n (slice_get columns (length (key_for n condition columns))) condition }

-- whether the second has the longer key, or one of the same length and a range, where the first has none
abbrev pub asks_less : Candidate → Candidate → Bool
asks_less x y =
    nat_lt (length x.key) (length y.key) || (length x.key == length y.key && (not (has_ends x.range) && has_ends y.range))

-- the one that asks more; the first if they ask the same
abbrev pub more_asked : Candidate → Candidate → Candidate
more_asked x y = if asks_less x y then y else x

-- the one that asks the most, of that found and of these indexes, whose places begin here
abbrev pub most_asked : ℕ → Term → ℕ → Candidate → List Index → Candidate
most_asked n condition place found [] = found
most_asked n condition place found (index ∷ indexes) =
    most_asked n condition (place + 1) (more_asked found (candidate_of n condition place index.columns)) indexes

-- it asks nothing of an index
abbrev pub asks_nothing : Candidate
asks_nothing = record { place = 0; key = []; range = no_range }

-- what an index is searched by of which this is asked: the key and the range after it, or else the key alone
abbrev pub search_by : Candidate → Option Search
search_by it =
    if has_ends it.range then Some (InRange it.place it.key it.range) else if length it.key == 0 then None else Some (Key it.place it.key)

-- ---- what is sought

-- the condition asks for the first column of none of these indexes
abbrev pub IsNotAsked : ℕ → Term → List Index → Type 0
IsNotAsked n condition [] = ⊤
IsNotAsked n condition (index ∷ indexes) = (key_for n condition index.columns ≡ []) × IsNotAsked n condition indexes

-- it asks for no range of rowids, and for no key or range of these indexes
abbrev pub AsksNoRange : List Index → ℕ → Term → Type 0
AsksNoRange indexes n condition = (rowids_in n condition ≡ None) × (search_by (most_asked n condition 0 asks_nothing indexes) ≡ None)

-- the condition makes no search of the source: by its rowid, by a key of an index, or by a range; or it may be refused
abbrev pub SeeksNothing : List Index → ℕ → Term → Type 0
SeeksNothing indexes n condition = (is_search n (is_led_by indexes) condition ≡ false) × (is_calm condition ≡ true → AsksNoRange indexes n condition)

-- It asks for no rowid, and of the indexes this is what it asks the most of; where that has no key, it asks for no range of rowids.
abbrev pub IsMost : List Index → ℕ → Term → Candidate → Type 0
IsMost indexes n condition it =
    (list_any (finds n no_index) (parts condition) ≡ false)
    × (it.key ≡ [] → rowids_in n condition ≡ None)
    × (it ≡ most_asked n condition 0 asks_nothing indexes)

-- It is a rowid; or where none is asked for, the longest key of an index, and of those of one length the first with a range after it, or else
-- the first; or where no key has a value, a range of rowids; or where there is none either, the first range of an index's first column.
abbrev pub IsChosen : List Index → ℕ → Term → Search → Type 0
IsChosen indexes n condition (Rowid rowid) = ⊤
IsChosen indexes n condition (Rowids low high) =
    (list_any (finds n no_index) (parts condition) ≡ false)
    × ((most_asked n condition 0 asks_nothing indexes).key ≡ [])
    × (rowids_in n condition ≡ Some (low, high))
IsChosen indexes n condition (Key place key) = IsMost indexes n condition (record { place = place; key = key; range = no_range })
IsChosen indexes n condition (InRange place key range) = IsMost indexes n condition (record { place = place; key = key; range = range })
