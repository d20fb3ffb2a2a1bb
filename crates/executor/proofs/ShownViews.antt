-- Views that show values of each row of a table.
use Rattle.std.proofs.Common.{◌≡◌, inl, inr, refl, sym, ap, subst, ◌∙◌, ℕ, suc, ◌≤◌, ◌<◌, ◌-◌, List, [], ◌∷◌, map, Option, Some, None, Result, Ok, Err, arith}
use Rattle.std.specs.Prelude.{option_and_then, option_map, slice_get}
use Rattle.sqlval.specs.Refusals.{Answer, ◌then◌}
use Rattle.sqlval.specs.declared.fault.Fault.{Fault}
use Rattle.sqlval.specs.declared.value.Value.{Value}
use Rattle.pages.specs.Map.{PageMap, AreWhole}
use Rattle.catalog.specs.Database.{Database, Name}
use Rattle.catalog.specs.Laws.{FindsListed}
use Rattle.catalog.specs.Listed.{Listed, table_named, view_named}
use Rattle.catalog.specs.declared.tables.View.{View as ListedView}
use Rattle.query_terms.specs.Stored.{shown_row}
use Rattle.query_terms.specs.Values.{Row}
use Rattle.query_terms.specs.declared.tree.Place.{Place}
use Rattle.query_names.specs.Laws.{ViewsAreKnown}
use Rattle.query_names.specs.Views.{plain_rows, rows_of}
use Rattle.query_names.specs.declared.queries.BoundSource.{BoundSource}
use Rattle.query_names.specs.declared.queries.Origin.TheVariants.{Tree, View as the_view}
use Rattle.query_bind.specs.Named.{ArePlaced, IsPlaced, place_seen}
use Rattle.query_bind.specs.declared.querying.BoundReading.{BoundReading}
use Rattle.query_answer.specs.Answers.{LoadsBeside}
use Rattle.query_answer.specs.Nesting.{Named, beside_rows}
use Rattle.query_answer.specs.Parts.{answer_on}
use Rattle.query_answer.specs.Shown.{shown_of}
use Rattle.row_scan.specs.Rows.{TableRow}
use Rattle.row_scan.specs.Sources.{LoadsShown, as_source, shown_source}
use Rattle.row_scan.specs.Trees.{AnswersOrFails, HasRows}
use Rattle.db_pages.specs.Stored.{Stores}
use Rattle.executor.specs.Reading.{IsStreamedView, ReadsView, ShowsTable, Streams, answer_within, rows_of_each, source_view}
use Rattle.executor.proofs.IndexTrees.{has_source}
use Rattle.executor.proofs.LoadedSources.{answer_over, tree_rows}
use Rattle.executor.proofs.StreamedRows.{only_source}
use Rattle.executor.proofs.ViewRows.{rows_are}

-- rows of these values and without rowids are what is shown of the rows
plain_shown : (places : List Place) (rows : List TableRow) → plain_rows (shown_of places (map as_source rows)) ≡ map (shown_source (Some places)) rows
plain_shown places [] = refl
plain_shown places (row ∷ rows) = ap (λ (others : List Row). shown_row places (as_source row) ∷ others) (plain_shown places rows)

module _ (beside : LoadsBeside) (finds : FindsListed) (law : ViewsAreKnown) (pages : PageMap) (size : ℕ) (l : Listed) (view : ListedView) (table : BoundSource) (places : List Place) (shows : ShowsTable l view table places) where
  only : (s : Named) × (shows.reading.sources ≡ s ∷ []) × (option_map place_seen (table_named s.0 l.tables) ≡ Some table)
  only = only_source l shows.reading.sources table shows.placed

  -- its table has the rows of its tree
  pub table_has : (db : Database) (stored : Stores pages size l db) → HasRows pages size table.root table.shape (stored.rows_at table.root)
  table_has db stored = (has_source pages size l db stored shows.reading.sources 0 only.0 table (ap (λ (them : List Named). slice_get them 0) only.1) only.2).has

  -- its query shows of each of them the values at the places
  answers_shown : (room : ℕ) (db : Database) (stored : Stores pages size l db) → answer_within room db shows.reading ≡ Ok (shown_of places (map as_source (stored.rows_at table.root)))
  answers_shown room db stored =
      answer_over beside room db shows.reading (map as_source (stored.rows_at table.root) ∷ [])
      (ap (rows_of_each room db) only.1
      ∙ ap (λ (a : Answer (List Row)). a then λ x. Ok (x ∷ [])) (tree_rows room stored.rows_at l db only.0.0 table stored.of_listed.lists only.2))
      ∙ shows.shows (map as_source (stored.rows_at table.root))

  -- so these are its rows
  pub view_shows : (room : ℕ) (db : Database) (name : Name) (stored : Stores pages size l db) → 0 < room → table_named name l.tables ≡ None → view_named name l.views ≡ Some view
      → rows_of room db name ≡ Ok (map (shown_source (Some places)) (stored.rows_at table.root))
  view_shows room db name stored some no_table named =
      rows_are finds pages size l view law room (room - 1) (omega (arith, some)) shows.reading db name stored no_table named (shows.named stored.rows_at db stored.of_listed.lists)
      ∙ ap (λ (a : Answer (List (List Value))). a then λ rows. good (plain_rows rows)) (answers_shown (room - 1) db stored)
      ∙ ap good (plain_shown places (stored.rows_at table.root))
    where
      good : List Row → Answer (List Row)
      good rows = Ok rows

  -- and they are read
  pub shown_read : (room : ℕ) (result : Result (List Row) Fault) → 0 < room → LoadsShown pages size (Some places) table result → ReadsView pages size l room view result
  shown_read room (Ok rows) some loaded db name stored no_table named few known =
      view_shows room db name stored some no_table named ∙ ap (λ (them : List Row). good them) (sym (loaded (stored.rows_at table.root) stored.shared.whole (table_has db stored)))
    where
      good : List Row → Answer (List Row)
      good rows = Ok rows
  shown_read room (Err fault) some loaded db name stored no_table named few known =
      inl (loaded (stored.rows_at table.root) stored.shared.whole (table_has db stored))

-- ---- a query over such a view

pub only_view : (l : Listed) (sources : List Named) → ArePlaced l sources (the_view ∷ []) → (s : Named) × (sources ≡ s ∷ []) × IsPlaced l s the_view
only_view l [] placed = absurd placed
only_view l (s ∷ []) placed = (s, refl, placed.0)
only_view l (s ∷ t ∷ ss) placed = absurd placed.1

module _ (beside : LoadsBeside) (finds : FindsListed) (law : ViewsAreKnown) (pages : PageMap) (size : ℕ) (l : Listed) (room : ℕ) (db : Database) (stored : Stores pages size l db) (bound : BoundReading) (table : BoundSource) (places : List Place)
    (is : IsStreamedView l room bound table places) (placed : ArePlaced l bound.reading.sources bound.origins) where
  abbrev rows : List Row
  rows = map (shown_source (Some places)) (stored.rows_at table.root)

  source : (s : Named) × (bound.reading.sources ≡ s ∷ []) × IsPlaced l s the_view
  source = only_view l bound.reading.sources (subst (ArePlaced l bound.reading.sources) is.only placed)

  named : view_named source.0.0 l.views ≡ Some is.view
  named = sym (ap (λ (them : List Named). option_and_then (λ (s : Named). view_named s.0 l.views) (slice_get them 0)) source.1) ∙ is.is

  each : rows_of_each room db bound.reading.sources ≡ Ok (rows ∷ [])
  each =
      ap (rows_of_each room db) source.1
      ∙ ap (λ (a : Answer (List Row)). a then λ x. Ok (x ∷ [])) (view_shows beside finds law pages size l is.view table places is.shows room db source.0.0 stored is.some_room source.2.0 named)

  -- it is answered on what is shown of the rows of the view's table
  pub view_answers : answer_within room db bound.reading ≡ answer_on bound.reading rows
  view_answers = answer_over beside room db bound.reading (rows ∷ []) each

  pub view_has : HasRows pages size table.root table.shape (stored.rows_at table.root)
  view_has = table_has beside finds law pages size l is.view table places is.shows db stored

  pub over_view : {X : Type 0} (by : X → List (List Value)) (result : Result X Fault) → Streams by (answer_on bound.reading) pages size table (Some places) result → AnswersOrFails by (answer_within room db bound.reading) result
  over_view by result streams =
      subst (λ (a : Answer (List (List Value))). AnswersOrFails by a result) (sym view_answers) (streams (stored.rows_at table.root) stored.shared.whole view_has)
