-- Which rows an index, or the rowid, finds for a condition that asks for a range: those between two ends, or past one (The SQLite Query
-- Optimizer Overview, "WHERE Clause Analysis" and "The BETWEEN Optimization"; Query Planning, "Multi-Column Indices").
use Rattle.std.specs.Prelude.{◌≡◌, ◌⊎◌, ℕ, ℤ, pos, negsuc, ◌^◌, ◌-◌, ◌+ℤ◌, ◌-ℤ◌, int_lt, Bool, true, false, not, ◌&&◌, ◌||◌, List, [], ◌∷◌, length, slice_index_or, slice_get, Option, None, Some, IfSome, if◌then◌else◌}
use Rattle.std.specs.Option.{is_some}
use Rattle.std.specs.Ordering.{is_eq}
use Rattle.sqlval.specs.Conversion.{is_word}
use Rattle.sqlval.specs.Order.{order}
use Rattle.sqlval.specs.declared.collation.Collation.{Collation}
use Rattle.sqlval.specs.declared.collation.Collation.TheVariants.{Binary}
use Rattle.sqlval.specs.declared.value.Value.{Value}
use Rattle.sqlval.specs.declared.value.Value.TheVariants.{Null, Int}
use Rattle.catalog.specs.declared.tables.IndexColumn.{IndexColumn}
use Rattle.query_terms.specs.Terms.{Term, Two, Between}
use Rattle.query_terms.specs.Values.{Row, is_met, is_null}
use Rattle.query_terms.specs.declared.tree.Comparison.{Comparison}
use Rattle.query_terms.specs.declared.tree.Comparison.TheVariants.{Less, LessOrEqual, Greater, GreaterOrEqual}
use Rattle.query_terms.specs.declared.tree.Place.TheVariants.{RowId}
use Rattle.query_terms.specs.declared.tree.TwoSided.TheVariants.{Compare}
use Rattle.query_names.specs.Calm.{is_calm}
use Rattle.query_plan.specs.Keys.{AreAsked, AsksPart, IsCompared, of_column}
use Rattle.query_plan.specs.declared.keys.Wanted.{Wanted}
use Rattle.query_plan.specs.declared.ranges.Bound.{Bound}
use Rattle.query_plan.specs.declared.ranges.Range.{Range}

-- ---- rows of a range

-- how a value is compared with a low end, which is in the range itself or isn't
abbrev pub low_comparison : Bool → Comparison
low_comparison within = if within then GreaterOrEqual else Greater

-- how a value is compared with a high end
abbrev pub high_comparison : Bool → Comparison
high_comparison within = if within then LessOrEqual else Less

-- whether a value meets the comparison with an end; there may be no end
abbrev pub meets_end : (Bool → Comparison) → Collation → Option Bound → Value → Bool
meets_end by c None v = true
meets_end by c (Some end) v = is_met (by end.within) (order c v end.value)

-- whether a value lies in a range, in which NULL never is
abbrev pub is_within : Collation → Range → Value → Bool
is_within c range v = not (is_null v) && (meets_end low_comparison c range.low v && meets_end high_comparison c range.high v)

-- whether a row's values of the first columns are tied with a key, as in has_key, and that of the next column lies in a range
abbrev pub has_range : List IndexColumn → List Value → Range → List Value → Bool
has_range (column ∷ columns) [] range values = is_within column.collation range (slice_index_or values column.place Null)
has_range (column ∷ columns) (k ∷ key) range values =
    is_eq (order column.collation (slice_index_or values column.place Null) k) && has_range columns key range values
has_range [] key range values = true

-- whether a row's rowid is a number of 64 bits before the first of these or after the second
abbrev pub is_outside : ℤ → ℤ → Row → Bool
is_outside low high row = elim row.rowid [ Int n ↦ is_word n && (int_lt n low || int_lt high n) | _ ↦ false ]

-- ---- what a condition asks for

-- it is so of a term, or if that is BETWEEN, of one of the two comparisons that BETWEEN stands for
abbrev pub AsksHalf : (Term → Type 0) → Term → Type 0
AsksHalf P (Between false a b c) = P (Two (Compare GreaterOrEqual) a b) ⊎ P (Two (Compare LessOrEqual) a c)
AsksHalf P t = P t

-- one of the parts that AND joins is the comparison with this end, or a BETWEEN of which it is a half
abbrev pub IsBoundOf : Wanted → (Bool → Comparison) → Term → Bound → Type 0
IsBoundOf w by condition end = AsksPart (AsksHalf (IsCompared w (by end.within) end.value)) condition

-- whether a range has an end
abbrev pub has_ends : Range → Bool
has_ends range = is_some range.low || is_some range.high

-- each end that is there is asked for
pub record AreEnds (w : Wanted) (condition : Term) (range : Range) : Type 0 where
  pub low : IfSome range.low (IsBoundOf w low_comparison condition)
  pub high : IfSome range.high (IsBoundOf w high_comparison condition)
  pub some : has_ends range ≡ true

-- The condition can't be refused, and AND joins what the key and the range, of the column after the key's, ask of the source with what else
-- it asks.
pub record SeeksRange (source : ℕ) (condition : Term) (columns : List IndexColumn) (key : List Value) (range : Range) : Type 0 where
  pub calm : is_calm condition ≡ true
  pub asked : AreAsked source columns key condition
  pub column : IndexColumn
  pub next : slice_get columns (length key) ≡ Some column
  pub ends : AreEnds (of_column source column) condition range

-- the rowid of the source of this number
abbrev pub of_rowid : ℕ → Wanted
of_rowid n = record { source = n; place = RowId; collation = Binary }

-- the condition asks for `rowid >= k` or `rowid > k`
abbrev pub AsksAbove : ℕ → Term → Bool → ℤ → Type 0
AsksAbove n condition within k = IsBoundOf (of_rowid n) low_comparison condition (record { value = Int k; within = within })

-- the condition asks for `rowid <= k` or `rowid < k`
abbrev pub AsksBelow : ℕ → Term → Bool → ℤ → Type 0
AsksBelow n condition within k = IsBoundOf (of_rowid n) high_comparison condition (record { value = Int k; within = within })

-- it asks for rowids from this one on, by it or by the number before it
abbrev pub AsksFrom : ℕ → Term → ℤ → Type 0
AsksFrom n condition low = AsksAbove n condition true low ⊎ AsksAbove n condition false (low -ℤ pos 1)

-- it asks for rowids up to this one, by it or by the number after it
abbrev pub AsksTo : ℕ → Term → ℤ → Type 0
AsksTo n condition high = AsksBelow n condition true high ⊎ AsksBelow n condition false (high +ℤ pos 1)

-- The condition can't be refused, and AND joins what asks for rowids from the one to the other, both among them, with what else it asks. It
-- asks for one end at least; another that it doesn't ask for is the least or the greatest number of 64 bits.
pub record SeeksRowids (source : ℕ) (condition : Term) (low high : ℤ) : Type 0 where
  pub calm : is_calm condition ≡ true
  pub from : (low ≡ negsuc (2 ^ 63 - 1)) ⊎ AsksFrom source condition low
  pub to : (high ≡ pos (2 ^ 63 - 1)) ⊎ AsksTo source condition high
  pub some : AsksFrom source condition low ⊎ AsksTo source condition high
