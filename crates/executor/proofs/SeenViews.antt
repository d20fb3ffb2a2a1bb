-- Views whose queries give each row of a table by itself.
use Rattle.std.proofs.Common.{◌≡◌, ◌⊎◌, inl, inr, refl, sym, ap, subst, ◌∙◌, ℕ, suc, ◌-◌, ◌<◌, List, [], ◌∷◌, map, Option, Some, None, Result, Ok, Err, arith}
use Rattle.std.specs.Prelude.{option_and_then, option_map, slice_get, Vec}
use Rattle.std.specs.Option.{option_copied}
use Rattle.std.specs.declared.alloc.Global.{Global}
use Rattle.std.specs.declared.rc.Rc.{Rc}
use denote.Ref.{Bor}
use Rattle.sqlval.specs.Refusals.{Answer, ◌then◌}
use Rattle.sqlval.specs.declared.fault.Fault.{Fault}
use Rattle.sqlval.specs.declared.value.Value.{Value}
use Rattle.pages.specs.Map.{PageMap}
use Rattle.catalog.specs.Database.{Database, Name}
use Rattle.catalog.specs.Laws.{FindsListed}
use Rattle.catalog.specs.Listed.{Listed, view_named}
use Rattle.query_terms.specs.Values.{Row}
use Rattle.query_terms.specs.declared.tree.Place.{Place}
use Rattle.query_names.specs.Laws.{ViewsAreKnown}
use Rattle.query_names.specs.Readings.{rows_over}
use Rattle.query_names.specs.Views.{loaded, plain_rows, rows_of}
use Rattle.query_names.specs.declared.queries.BoundSource.{BoundSource}
use Rattle.query_names.specs.declared.queries.Origin.TheVariants.{View as the_view}
use Rattle.query_names.specs.declared.reading.Condition.{Condition}
use Rattle.query_names.specs.declared.reading.Reading.{Reading}
use Rattle.query_bind.specs.Named.{ArePlaced, IsPlaced}
use Rattle.query_bind.specs.declared.querying.BoundReading.{BoundReading}
use Rattle.query_answer.specs.Answers.{LoadsBeside}
use Rattle.query_answer.specs.Nesting.{Named, beside_rows}
use Rattle.query_answer.specs.Parts.{answer_on}
use Rattle.query_view.specs.Seen.{answer_through}
use Rattle.row_scan.specs.Sources.{places_shown, shown_source}
use Rattle.row_scan.specs.Trees.{AnswersOrFails, HasRows}
use Rattle.db_pages.specs.Stored.{Stores}
use Rattle.executor.specs.Reading.{IsSeenView, IsStreamed, IsStreamedView, SeesTable, Streams, answer_within}
use Rattle.executor.proofs.ShownViews.{only_view, view_answers, view_has}
use Rattle.executor.proofs.StreamedRows.{tree_answers, tree_has}
use Rattle.executor.proofs.ViewRows.{rows_are}

-- the places behind references are those that are referred to
fused : (shown : Option (Bor (Rc (Vec Place Global) Global))) → places_shown shown ≡ option_map (λ places. places.value.items) (option_copied shown)
fused None = refl
fused (Some places) = refl

pub places_behind : (shown : Option (Bor (Rc (Vec Place Global) Global))) (places : Option (Rc (Vec Place Global) Global)) → option_copied shown ≡ places → places_shown shown ≡ option_map (λ places. places.value.items) places
places_behind shown places same = fused shown ∙ ap (λ (them : Option (Rc (Vec Place Global) Global)). option_map (λ places. places.value.items) them) same

module _ (beside : LoadsBeside) (finds : FindsListed) (law : ViewsAreKnown) (pages : PageMap) (size : ℕ) (l : Listed) (room : ℕ) (db : Database) (stored : Stores pages size l db) (bound : BoundReading) (view : Reading) (table : BoundSource)
    (places : Option (List Place)) (is : IsSeenView l room bound view table places) (placed : ArePlaced l bound.reading.sources bound.origins) where
  abbrev rows : List Row
  rows = map (shown_source places) (stored.rows_at table.root)

  -- the view's query is answered on what is shown of the rows of the table, which are there
  under_view : (answer_within (room - 1) db is.sees.bound.reading ≡ answer_on is.sees.bound.reading rows) × HasRows pages size table.root table.shape (stored.rows_at table.root)
  under_view = by is.sees.over
    where
      inner : BoundReading
      inner = is.sees.bound

      by : (IsStreamed l.tables is.sees.bound table × (places ≡ None)) ⊎ ((shown : List Place) × (places ≡ Some shown) × IsStreamedView l (room - 1) is.sees.bound table shown)
          → (answer_within (room - 1) db is.sees.bound.reading ≡ answer_on is.sees.bound.reading rows) × HasRows pages size table.root table.shape (stored.rows_at table.root)
      by (inl h) = (
        tree_answers beside pages size l (room - 1) db stored is.sees.bound.reading is.sees.bound.origins table h.0.0 is.sees.placed
            ∙ ap (λ (p : Option (List Place)). answer_on is.sees.bound.reading (map (shown_source p) (stored.rows_at table.root))) (sym h.1),
        tree_has beside pages size l (room - 1) db stored is.sees.bound.reading is.sees.bound.origins table h.0.0 is.sees.placed,
      )
      by (inr h) = (
        view_answers beside finds law pages size l (room - 1) db stored is.sees.bound table h.0 h.2 is.sees.placed
            ∙ ap (λ (p : Option (List Place)). answer_on is.sees.bound.reading (map (shown_source p) (stored.rows_at table.root))) (sym h.1),
        view_has beside finds law pages size l (room - 1) db stored is.sees.bound table h.0 h.2 is.sees.placed,
      )

  made_on : answer_within (room - 1) db view ≡ answer_on view rows
  made_on = subst (λ (q : Reading). answer_within (room - 1) db q ≡ answer_on q rows) is.sees.is under_view.0

  source : (s : Named) × (bound.reading.sources ≡ s ∷ []) × IsPlaced l s the_view
  source = only_view l bound.reading.sources (subst (ArePlaced l bound.reading.sources) is.only placed)

  named : view_named source.0.0 l.views ≡ Some is.view
  named = sym (ap (λ (them : List Named). option_and_then (λ (s : Named). view_named s.0 l.views) (slice_get them 0)) source.1) ∙ is.is

  abbrev made : Answer (List (List Value)) → Answer (List Row)
  made a = a then λ them. Ok (plain_rows them)

  rows_made : rows_of room db source.0.0 ≡ made (answer_on view rows)
  rows_made =
      rows_are finds pages size l is.view law room (room - 1) (let some = is.some_room in omega (arith, some)) view db source.0.0 stored source.2.0 named (is.sees.named stored.rows_at db stored.of_listed.lists)
      ∙ ap made made_on

  abbrev one : Answer (List Row) → Answer (List (List Value))
  one a = (a then λ r. Ok ((source.0.1, r) ∷ [])) then rows_over bound.reading []

  -- so the query is answered through it
  pub answered_through : answer_within room db bound.reading ≡ answer_through view bound.reading rows
  answered_through =
      ap within source.1 ∙ (ap one rows_made ∙ by (answer_on view rows))
    where
      within : List Named → Answer (List (List Value))
      within sources = loaded (rows_of room db) sources then rows_over bound.reading []

      by : (a : Answer (List (List Value))) → one (made a) ≡ (a then λ them. answer_on bound.reading (plain_rows them))
      by (Ok them) = ap (λ (sources : List Named). rows_over bound.reading [] (beside_rows sources (plain_rows them ∷ []))) (sym source.1)
      by (Err r) = refl

  pub over_seen : {X : Type 0} (by : X → List (List Value)) (result : Result X Fault) → Streams by (answer_through view bound.reading) pages size table places result → AnswersOrFails by (answer_within room db bound.reading) result
  over_seen by result streams =
      subst (λ (a : Answer (List (List Value))). AnswersOrFails by a result) (sym answered_through) (streams (stored.rows_at table.root) stored.shared.whole under_view.1)
