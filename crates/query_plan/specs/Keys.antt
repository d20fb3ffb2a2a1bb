-- Which rows an index finds for a condition: those whose values of its first columns are the ones that the condition asks for (The SQLite
-- Query Optimizer Overview, "WHERE Clause Analysis"; Query Planning, "Multi-Column Indices").
use Rattle.std.specs.Prelude.{◌≡◌, ◌⊎◌, ⊤, ℕ, pos, Bool, true, false, ◌&&◌, ◌==◌, List, [], ◌∷◌, slice_index_or, Option, None, Ok}
use Rattle.std.specs.List.{list_any}
use Rattle.std.specs.Ordering.{is_eq}
use Rattle.sqlval.specs.Conversion.{converted}
use Rattle.sqlval.specs.Order.{order}
use Rattle.sqlval.specs.declared.affinity.Affinity.{Affinity}
use Rattle.sqlval.specs.declared.collation.Collation.{Collation}
use Rattle.sqlval.specs.declared.value.Value.{Value}
use Rattle.sqlval.specs.declared.value.Value.TheVariants.{Null, Int}
use Rattle.catalog.specs.declared.tables.Index.{Index}
use Rattle.catalog.specs.declared.tables.IndexColumn.{IndexColumn}
use Rattle.query_terms.specs.Terms.{Term, Const, Digits, Cell, Two, collation_index}
use Rattle.query_terms.specs.Values.{conversion}
use Rattle.query_terms.specs.declared.tree.Comparison.{Comparison}
use Rattle.query_terms.specs.declared.tree.Comparison.TheVariants.{Equal}
use Rattle.query_terms.specs.declared.tree.Place.TheVariants.{At}
use Rattle.query_terms.specs.declared.tree.TwoSided.TheVariants.{Compare, And}
use Rattle.query_names.specs.Calm.{is_calm}
use Rattle.query_plan.specs.declared.keys.Wanted.{Wanted}

-- ---- rows of a key

-- whether a row's values of the first columns are tied with a key, each under its column's collation
abbrev pub has_key : List IndexColumn → List Value → List Value → Bool
has_key (column ∷ columns) (k ∷ key) values = is_eq (order column.collation (slice_index_or values column.place Null) k) && has_key columns key values
has_key columns key values = true

-- ---- what a condition asks for

-- the value that a column of this affinity is compared with beside a literal
abbrev pub IsLiteralKey : Option Affinity → Term → Value → Type 0
IsLiteralKey a (Const v) k = converted (conversion None a) v ≡ Ok k
IsLiteralKey a (Digits n) k = converted (conversion None a) (Int (pos n)) ≡ Ok k
IsLiteralKey a t k = ⊥

-- a comparison by this operator of what is looked for, under its collation, with a literal that it takes as this value
abbrev pub IsCompared : Wanted → Comparison → Value → Term → Type 0
IsCompared w o k (Two (Compare p) (Cell s q a c) literal) = (p ≡ o) × (s ≡ w.source) × (q ≡ w.place) × (c ≡ w.collation) × IsLiteralKey a literal k
IsCompared w o k t = ⊥

-- an index's column of the source of this number
abbrev pub of_column : ℕ → IndexColumn → Wanted
of_column n column = record { source = n; place = At column.place; collation = column.collation }

-- `c = literal` of that column, under the index's collation
abbrev pub IsAsked : ℕ → IndexColumn → Value → Term → Type 0
IsAsked n column k t = IsCompared (of_column n column) Equal k t

-- it is so of one of the parts that AND joins
abbrev pub AsksPart : (Term → Type 0) → Term → Type 0
AsksPart P (Two And a b) = AsksPart P a ⊎ AsksPart P b
AsksPart P t = P t

-- for each value of the key there is such a part
abbrev pub AreAsked : ℕ → List IndexColumn → List Value → Term → Type 0
AreAsked n columns [] condition = ⊤
AreAsked n [] (k ∷ key) condition = ⊥
AreAsked n (column ∷ columns) (k ∷ key) condition = AsksPart (IsAsked n column k) condition × AreAsked n columns key condition

-- The condition can't be refused, and AND joins what the key asks of the source with what else it asks.
pub record SeeksKey (source : ℕ) (condition : Term) (columns : List IndexColumn) (key : List Value) : Type 0 where
  pub calm : is_calm condition ≡ true
  pub asked : AreAsked source columns key condition
  pub some : key ≡ [] → ⊥

-- ---- collations, and which columns lead

-- whether two collations are one
abbrev pub is_same_collation : Collation → Collation → Bool
is_same_collation c d = collation_index c == collation_index d

-- whether the first of these columns stands at this place, under this collation
abbrev pub is_first : ℕ → Collation → List IndexColumn → Bool
is_first place collation [] = false
is_first place collation (column ∷ columns) = column.place == place && is_same_collation column.collation collation

-- whether one of the indexes begins with the column of this place, under this collation
abbrev pub is_led_by : List Index → ℕ → Collation → Bool
is_led_by indexes place collation = list_any (λ i. is_first place collation i.columns) indexes
