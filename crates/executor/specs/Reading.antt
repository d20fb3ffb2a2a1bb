-- What a query answers (SQL As Understood By SQLite, "SELECT").
use Rattle.std.specs.Prelude.{◌≡◌, ◌⊎◌, ◌≤◌, ◌<◌, ◌-◌, ℕ, true, false, List, [], ◌∷◌, filter, length, map, Contains, MatchResult, Option, Some, None, Result, Ok, Err, option_and_then, slice_get, slice_set}
use Rattle.std.specs.List.{AllByRecursion}
use Rattle.sqlval.specs.Faults.{IsOutside}
use Rattle.sqlval.specs.Refusals.{Answer, ◌then◌, all_answers, refusal_of}
use Rattle.sqlval.specs.declared.fault.Fault.{Fault}
use Rattle.sqlval.specs.declared.value.Value.{Value}
use Rattle.pages.specs.Map.{PageMap, AreWhole}
use Rattle.sql_syntax.specs.declared.query.Query.{Query}
use Rattle.catalog.specs.Database.{Database, Name}
use Rattle.catalog.specs.Listed.{Listed, Lists, table_named, view_named}
use Rattle.catalog.specs.declared.tables.Table.{Table}
use Rattle.catalog.specs.declared.tables.View.{View}
use Rattle.query_terms.specs.Values.{Row}
use Rattle.query_terms.specs.declared.tree.Place.{Place}
use Rattle.query_names.specs.Checked.{Checked, Meant, faults}
use Rattle.query_names.specs.Queries.{resolve_query}
use Rattle.query_names.specs.Readings.{rows_over}
use Rattle.query_names.specs.Views.{answer_of, loaded, look_up, rows_of}
use Rattle.query_names.specs.Known.{IsKnownIn}
use Rattle.query_names.specs.declared.queries.BoundSource.{BoundSource}
use Rattle.query_names.specs.declared.queries.Origin.{Origin}
use Rattle.query_names.specs.declared.queries.Origin.TheVariants.{Tree, View as the_view}
use Rattle.query_names.specs.declared.reading.Reading.{Reading}
use Rattle.query_plan.specs.Searching.{is_found}
use Rattle.query_plan.specs.declared.searching.Search.{Search}
use Rattle.query_bind.specs.Named.{ArePlaced, IsPlaced}
use Rattle.query_bind.specs.declared.querying.BoundReading.{BoundReading}
use Rattle.query_answer.specs.Nesting.{Named, beside_rows}
use Rattle.query_answer.specs.Parts.{GivesInOrder, is_row_by_row}
use Rattle.query_answer.specs.Searches.{IsScannedAt, IsSearchAt}
use Rattle.query_answer.specs.Shown.{ShowsPlaces}
use Rattle.row_scan.specs.Rows.{TableRow}
use Rattle.row_scan.specs.Sources.{as_source, shown_source}
use Rattle.row_scan.specs.Trees.{AnswersOrFails, HasRows}
use Rattle.row_search.specs.Found.{HasIndexed}
use Rattle.db_pages.specs.Stored.{Stores}

-- What a call answered of a query, seen by `view`, is what reading it comes to, or one of its refusals; or memory was short, or a disk's
-- call failed.
abbrev pub AnswersRead : {X : Type 0} → (X → List (List Value)) → Checked (Answer (List (List Value))) → Result X Fault → Type 0
AnswersRead view read (Ok rows) = read ≡ Meant (Ok (view rows)) []
AnswersRead view read (Err fault) = IsOutside fault ⊎ (Contains (faults read) (refusal_of fault) ⊎ (read ≡ Meant (Err (refusal_of fault)) []))

-- the names of the query stand for this reading on the database, whose number of results is known
abbrev pub Asks : Database → Query → Reading → Type 0
Asks db query reading = (resolve_query (look_up db) [] query ≡ Meant reading []) × (reading.is_open ≡ false)

-- ---- sources

-- the table of that name that a query's source of this number has, if there is one
abbrev pub source_table : List Table → List Named → ℕ → Option Table
source_table tables sources n = option_and_then (λ source. table_named source.0 tables) (slice_get sources n)

-- the view of that name that a query's source of this number has, if there is one
abbrev pub source_view : List View → List Named → ℕ → Option View
source_view views sources n = option_and_then (λ source. view_named source.0 views) (slice_get sources n)

-- it is the source of this number
abbrev pub IsSourceOf : List Table → List Named → ℕ → Table → Type 0
IsSourceOf tables sources n table = source_table tables sources n ≡ Some table

-- A source's tree has these rows, and the trees of its table's indexes have their entries.
pub record HasSource (pages : PageMap) (size : ℕ) (tables : List Table) (sources : List Named) (n : ℕ) (place : BoundSource)
    (rows : List TableRow) : Type 0 where
  pub whole : AreWhole size pages
  pub has : HasRows pages size place.root place.shape rows
  pub indexed : (table : Table) → IsSourceOf tables sources n table → HasIndexed pages size place table.indexes rows

-- ---- which rows of a source are read

-- the source of this number is this table, and this is what the query seeks of it
abbrev pub IsSearchedBy : List Table → Reading → ℕ → Table → Search → Type 0
IsSearchedBy tables q n table search = IsSourceOf tables q.sources n table × IsSearchAt table.indexes q n search

-- the query seeks something of the source of this number, which is a table
abbrev pub IsSearched : List Table → Reading → ℕ → Type 0
IsSearched tables q n = (table : Table) × (search : Search) × IsSearchedBy tables q n table search

-- the query seeks nothing of the source of this number, or that is no table
abbrev pub IsScanned : List Table → Reading → ℕ → Type 0
IsScanned tables q n = (table : Table) → IsSourceOf tables q.sources n table → IsScannedAt table.indexes q n

-- of all rows of the source of this number these are read: those that what the query seeks of it finds, or all where it seeks nothing
abbrev pub AreRead : List Table → Reading → ℕ → List Row → List Row → Type 0
AreRead tables q n found all =
    ((table : Table) × (search : Search) × IsSearchedBy tables q n table search × (found ≡ filter (is_found table.indexes search) all))
    ⊎ (IsScanned tables q n × (found ≡ all))

-- These rows of a source are read; or memory was short, or a disk's call failed.
abbrev pub LoadsSought : PageMap → ℕ → List Table → Reading → ℕ → BoundSource → Result (List Row) Fault → Type 0
LoadsSought pages size tables q n place result = (rows : List TableRow) → HasSource pages size tables q.sources n place rows
    → MatchResult result (λ found. AreRead tables q n found (map as_source rows)) IsOutside

-- ---- rows that are enough

-- the query comes to the same where this source's rows are those that are found as where they are all, whatever the others' are
abbrev pub IsSameOver : Reading → ℕ → List Row → List Row → Type 0
IsSameOver q n found all = (lists : List (List Row)) → slice_get lists n ≡ Some all
    → rows_over q [] (beside_rows q.sources lists) ≡ rows_over q [] (beside_rows q.sources (slice_set lists n found))

-- The query comes to the same where this source's rows are those that a call has read; or memory was short, or a disk's call failed.
abbrev pub LoadsNeeded : PageMap → ℕ → List Table → Reading → ℕ → BoundSource → Result (List Row) Fault → Type 0
LoadsNeeded pages size tables q n place result = (rows : List TableRow) → HasSource pages size tables q.sources n place rows
    → MatchResult result (λ found. IsSameOver q n found (map as_source rows)) IsOutside

-- ---- sources that are tables or views

-- memory was short, or a disk's call failed; or it is the refusal of this answer
abbrev pub IsRefusalOf : {A : Type 0} → Answer A → Fault → Type 0
IsRefusalOf answer f = IsOutside f ⊎ (answer ≡ Err (refusal_of f))

-- The name has these rows, with room for so many views one within another. The query comes to the same where those that are found are this
-- source's.
pub record AreSourceRows (room : ℕ) (db : Database) (q : Reading) (n : ℕ) (name : Name) (found : List Row) : Type 0 where
  pub all : List Row
  pub are : rows_of room db name ≡ Ok all
  pub same : IsSameOver q n found all

-- Such rows of the source of this number, which stands here, are read; or they are refused as its name's are.
abbrev pub LoadsSource : PageMap → ℕ → Listed → ℕ → Reading → ℕ → Origin → Result (List Row) Fault → Type 0
LoadsSource pages size l room q n origin result = (db : Database) (s : Named) → Stores pages size l db → slice_get q.sources n ≡ Some s → IsPlaced l s origin → room ≤ 64 → IsKnownIn room db s.0
    → MatchResult result (AreSourceRows room db q n s.0) (IsRefusalOf (rows_of room db s.0))

-- what each of these sources names isn't refused, with room for so many views one within another
pub record AreKnown (room : ℕ) (db : Database) (sources : List Named) : Type 0 where
  pub few : room ≤ 64
  pub each : AllByRecursion (λ s. IsKnownIn room db s.0) sources

-- the rows of each source, or the first refusal
abbrev pub rows_of_each : ℕ → Database → List Named → Answer (List (List Row))
rows_of_each room db sources = all_answers (map (λ s. rows_of room db s.0) sources)

-- There are as many lists as sources, and the query comes to the same over them as over all rows of its sources.
pub record AreEnoughFor (room : ℕ) (db : Database) (q : Reading) (lists : List (List Row)) : Type 0 where
  pub all : List (List Row)
  pub are : rows_of_each room db q.sources ≡ Ok all
  pub many : length lists ≡ length q.sources
  pub same : rows_over q [] (beside_rows q.sources lists) ≡ rows_over q [] (beside_rows q.sources all)

-- The lists that a call has read, seen by `view`, are enough; or they are refused as the rows of the sources are.
abbrev pub LoadsSources : {X : Type 0} → (X → List (List Row)) → PageMap → ℕ → Listed → ℕ → Reading → List Origin → Result X Fault → Type 0
LoadsSources view pages size l room q origins result = (db : Database) → Stores pages size l db → ArePlaced l q.sources origins → AreKnown room db q.sources
    → MatchResult result (λ x. AreEnoughFor room db q (view x)) (IsRefusalOf (rows_of_each room db q.sources))

-- The rows of a listed view are read, with room for so many views one within another; or they are refused as those of its name are.
abbrev pub ReadsView : PageMap → ℕ → Listed → ℕ → View → Result (List Row) Fault → Type 0
ReadsView pages size l room view result = (db : Database) (name : Name) → Stores pages size l db → table_named name l.tables ≡ None → view_named name l.views ≡ Some view → room ≤ 64
    → IsKnownIn room db name → AnswersOrFails (λ rows. rows) (rows_of room db name) result

-- ---- how a query is answered

-- the query is row by row, its only source is a table that stands here, and nothing is sought of it
abbrev pub IsStreamed : List Table → BoundReading → BoundSource → Type 0
IsStreamed tables bound place = (bound.origins ≡ Tree place ∷ []) × (is_row_by_row bound.reading ≡ true) × IsScanned tables bound.reading 0

-- where the query is row by row and has a table as its one source, something is sought of that
abbrev pub IsLoaded : List Table → BoundReading → Type 0
IsLoaded tables bound = (place : BoundSource) → bound.origins ≡ Tree place ∷ [] → is_row_by_row bound.reading ≡ true → IsSearched tables bound.reading 0

-- A view's query has a table as its one source, which stands here, and shows of each of its rows the values at these places.
pub record ShowsTable (l : Listed) (view : View) (table : BoundSource) (places : List Place) : Type 0 where
  pub reading : Reading
  pub named : (rows_at : ℕ → List TableRow) (db : Database) → Lists rows_at l db → resolve_query (look_up db) [] view.definition.query ≡ Meant reading []
  pub placed : ArePlaced l reading.sources (Tree table ∷ [])
  pub shows : ShowsPlaces reading places

-- the query is row by row, and its only source is a view that shows such values of a table; and there is room for a view
pub record IsStreamedView (l : Listed) (room : ℕ) (bound : BoundReading) (table : BoundSource) (places : List Place) : Type 0 where
  pub some_room : 0 < room
  pub only : bound.origins ≡ the_view ∷ []
  pub row_by_row : is_row_by_row bound.reading ≡ true
  pub view : View
  pub is : source_view l.views bound.reading.sources 0 ≡ Some view
  pub shows : ShowsTable l view table places

-- What a call answered, seen by `view`, is what comes of what is shown of the rows of a tree, where that has some; or one of its refusals.
abbrev pub Streams : {X : Type 0} → (X → List (List Value)) → (List Row → Answer (List (List Value))) → PageMap → ℕ → BoundSource → Option (List Place) → Result X Fault → Type 0
Streams view over pages size table shown result = (rows : List TableRow) → AreWhole size pages → HasRows pages size table.root table.shape rows
    → AnswersOrFails view (over (map (shown_source shown) rows)) result

-- A view's query gives each row by itself, and is streamed: its only source is a table that stands here, or a view that shows values of one at these places.
pub record SeesTable (l : Listed) (room : ℕ) (view : View) (reading : Reading) (table : BoundSource) (places : Option (List Place)) : Type 0 where
  pub bound : BoundReading
  pub is : bound.reading ≡ reading
  pub named : (rows_at : ℕ → List TableRow) (db : Database) → Lists rows_at l db → resolve_query (look_up db) [] view.definition.query ≡ Meant reading []
  pub placed : ArePlaced l bound.reading.sources bound.origins
  pub in_order : GivesInOrder reading
  pub over : (IsStreamed l.tables bound table × (places ≡ None)) ⊎ ((shown : List Place) × (places ≡ Some shown) × IsStreamedView l room bound table shown)

-- the query is row by row, and its only source is a view whose query is streamed so; and there is room for a view
pub record IsSeenView (l : Listed) (room : ℕ) (bound : BoundReading) (reading : Reading) (table : BoundSource) (places : Option (List Place)) : Type 0 where
  pub some_room : 0 < room
  pub only : bound.origins ≡ the_view ∷ []
  pub row_by_row : is_row_by_row bound.reading ≡ true
  pub view : View
  pub is : source_view l.views bound.reading.sources 0 ≡ Some view
  pub sees : SeesTable l (room - 1) view reading table places

-- what a query comes to, with room for so many views one within another
abbrev pub answer_within : ℕ → Database → Reading → Answer (List (List Value))
answer_within room db q = loaded (rows_of room db) q.sources then rows_over q []

-- What a call answered of a query whose names are looked up, seen by `view`, is what the query comes to on the database that the pages store,
-- with room for so many views; or one of its refusals.
abbrev pub AnswersBound : {X : Type 0} → (X → List (List Value)) → PageMap → ℕ → Listed → ℕ → BoundReading → Result X Fault → Type 0
AnswersBound view pages size l room bound result = (db : Database) → Stores pages size l db → ArePlaced l bound.reading.sources bound.origins → AreKnown room db bound.reading.sources
    → AnswersOrFails view (answer_within room db bound.reading) result

-- the same of the query of a statement
abbrev pub AnswersAsked : {X : Type 0} → (X → List (List Value)) → PageMap → ℕ → Listed → BoundReading → Result X Fault → Type 0
AnswersAsked view pages size l bound result = (db : Database) (query : Query) → Stores pages size l db → ArePlaced l bound.reading.sources bound.origins
    → resolve_query (look_up db) [] query ≡ Meant bound.reading [] → AnswersOrFails view (answer_of db [] bound.reading) result
