-- A query beside NEW and OLD, and the rows that an INSERT gives (SQL As Understood By SQLite, "SELECT", "INSERT", "CREATE TRIGGER").
use Rattle.std.specs.Prelude.{◌≡◌, ⊤, ℕ, ◌+◌, List, ◌++◌, drop, length, map, take, Result, Ok, MatchResult}
use Rattle.std.specs.List.{AllByRecursion}
use Rattle.sqlval.specs.Refusals.{Answer, all_answers}
use Rattle.sqlval.specs.declared.fault.Fault.{Fault}
use Rattle.catalog.specs.Database.{Database, Name}
use Rattle.query_names.specs.Known.{IsKnownIn}
use Rattle.query_names.specs.Views.{all_rows}
use Rattle.query_names.specs.declared.reading.Condition.{Condition}
use Rattle.query_names.specs.declared.reading.Condition.TheVariants.{Always}
use Rattle.query_names.specs.declared.reading.Reading.{Reading}
use Rattle.query_terms.specs.Values.{Row}
use Rattle.query_answer.specs.Answers.{own}
use Rattle.trigger_names.specs.declared.giving.BoundRows.{BoundRows}
use Rattle.trigger_names.specs.declared.giving.BoundRows.TheVariants as rows
use Rattle.executor.specs.Reading.{IsRefusalOf}

-- the table or view of each source isn't refused
abbrev pub AreKnownSources : Database → List (Name × Condition) → Type 0
AreKnownSources db sources = AllByRecursion (λ s. IsKnownIn 64 db s.0) sources

-- these sources after so many others, each of which joins whatever its rows are
pub record IsAfter (count : ℕ) (own all : List (Name × Condition)) : Type 0 where
  pub rest : drop count all ≡ own
  pub many : length all ≡ count + length own
  pub always : AllByRecursion (λ s. s.1 ≡ Always) (take count all)

-- the query after so many sources, each with one row
pub record IsBeside (count : ℕ) (q beside : Reading) : Type 0 where
  pub own_is : own count beside ≡ q
  pub many : length beside.sources ≡ count + length q.sources
  pub always : AllByRecursion (λ s. s.1 ≡ Always) (take count beside.sources)

-- all rows of each source
abbrev pub rows_of_each : Database → List (Name × Condition) → Answer (List (List Row))
rows_of_each db sources = all_answers (map (λ s. all_rows db s.0) sources)

-- The rows of each source were put after other lists; or they are refused as the first of them is, for want of memory, or by a disk.
pub record AreLoaded (db : Database) (sources : List (Name × Condition)) (old new : List (List Row)) : Type 0 where
  pub lists : List (List Row)
  pub are : rows_of_each db sources ≡ Ok lists
  pub after : new ≡ old ++ lists

abbrev pub LoadsEach : Database → List (Name × Condition) → List (List Row) → List (List Row) → Result ⊤ Fault → Type 0
LoadsEach db sources old new result = MatchResult result (λ done. AreLoaded db sources old new) (IsRefusalOf (rows_of_each db sources))

-- the table or view of each source of a query that gives rows isn't refused
abbrev pub KnowsGiven : Database → BoundRows → Type 0
KnowsGiven db (rows.Rows terms) = ⊤
KnowsGiven db (rows.Query reading) = AreKnownSources db reading.sources
