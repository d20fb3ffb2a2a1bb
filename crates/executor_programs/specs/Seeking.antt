-- What a condition asks of its table's columns beside NEW and OLD, and that the other rows needn't be read (SQL As Understood By SQLite,
-- "CREATE TRIGGER"; The SQLite Query Optimizer Overview, "WHERE Clause Analysis").
use Rattle.std.specs.Prelude.{◌≡◌, ℕ, Bool, true, false, List, [], ◌∷◌, ◌++◌, length, Option, Some, Ok, Result, MatchResult, if◌then◌else◌}
use Rattle.sqlval.specs.Refusals.{◌then◌}
use Rattle.sqlval.specs.declared.affinity.Affinity.{Affinity}
use Rattle.sqlval.specs.declared.affinity.Affinity.TheVariants as kind
use Rattle.sqlval.specs.declared.collation.Collation.{Collation}
use Rattle.sqlval.specs.declared.fault.Fault.{Fault}
use Rattle.sqlval.specs.declared.value.Value.{Value}
use Rattle.sqlval.specs.declared.value.Value.TheVariants.{Int, Text}
use Rattle.catalog.specs.Database.{Database, Name}
use Rattle.catalog.specs.declared.tables.Index.{Index}
use Rattle.query_names.specs.Calm.{is_calm}
use Rattle.query_names.specs.Readings.{env_of, holds}
use Rattle.query_names.specs.Views.{all_rows}
use Rattle.query_plan.specs.Searching.{IsSought}
use Rattle.query_plan.specs.declared.searching.Search.{Search}
use Rattle.query_terms.specs.Terms.{Cell, Term, affinity, collation_of_two}
use Rattle.query_terms.specs.Values.{Row, compare, value}
use Rattle.query_terms.specs.declared.tree.Comparison.{Comparison}
use Rattle.query_terms.specs.declared.tree.Place.{Place}
use Rattle.row_change.specs.Changes.{Outer}
use Rattle.executor.specs.Reading.{IsRefusalOf}
use Rattle.executor_programs.specs.Choosing.{rows_chosen}

-- whether a value stays as it is where a column of this affinity is compared with it
abbrev pub is_kept_beside : Option Affinity → Value → Bool
is_kept_beside (Some kind.Text) (Int n) = false
is_kept_beside (Some kind.Integer) (Text t) = false
is_kept_beside (Some kind.Numeric) (Text t) = false
is_kept_beside a v = true

-- Beside these rows a column of this affinity is compared with the literal as with the other side.
pub record IsSettledSide (beside : List Row) (own : Option Affinity) (side literal : Term) : Type 0 where
  pub same : (o : Comparison) (collation : Collation) (x : Value) (r : Row)
      → (value side (env_of (beside ++ r ∷ [])) then λ y. compare o collation own (affinity side) x y)
      ≡ (value literal (env_of (beside ++ r ∷ [])) then λ y. compare o collation own (affinity literal) x y)
  pub collates : (n : ℕ) (p : Place) (collation : Collation)
      → collation_of_two (Cell n p own collation) literal ≡ collation_of_two (Cell n p own collation) side

-- Where the condition is true of a row beside these, so is what is asked.
abbrev pub FollowsBeside : List Row → Term → Term → Type 0
FollowsBeside beside condition asked =
    (r : Row) → holds condition (beside ++ r ∷ []) ≡ Ok (Some true) → holds asked (beside ++ r ∷ []) ≡ Ok (Some true)

-- The search is what a term seeks of the source after these, which follows from the condition; and this one can't be refused.
pub record SeeksBeside (indexes : List Index) (beside : List Row) (condition : Term) (search : Search) : Type 0 where
  pub calm : is_calm condition ≡ true
  pub asked : Term
  pub follows : FollowsBeside beside condition asked
  pub sought : IsSought indexes (length beside) asked search

-- Of these rows a condition chooses what it chooses of all rows of a table or view; or they are refused as all are, memory was short, or a
-- disk's call failed.
abbrev pub AreEnoughBeside : Database → Outer → Name → Option Term → Result (List Row) Fault → Type 0
AreEnoughBeside db seen name condition result =
    MatchResult result (λ rows. rows_chosen seen.rows condition rows ≡ (all_rows db name then λ all. rows_chosen seen.rows condition all))
    (IsRefusalOf (all_rows db name))
