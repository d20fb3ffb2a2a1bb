use Rattle.std.proofs.Common.{List, Ok, [], length, map, refl, rules, subst, sym, ◌∷◌, ◌≡◌}
use Rattle.std.proofs.lemmas.List.{nil_from_length}
use Rattle.std.specs.Prelude.{⊤, Vec, option_map}
use Rattle.std.specs.declared.alloc.Global.{Global}
use Rattle.smallvec.specs.SmallVec.{SmallVec}
use Rattle.sqlval.specs.declared.value.Value.{Value}
use Rattle.pages.specs.Calls.{Stays}
use Rattle.catalog.specs.Listed.{listed_in}
use Rattle.executor.proofs.LoadedSources.{all_loaded, none_loaded, not_loaded, one_loaded, rows_answered, sources_refused}
use Rattle.query_terms.specs.Values.{Row}
use Rattle.query_terms.specs.declared.tree.Place.{Place}
use Rattle.query_names.specs.declared.queries.Origin.{Origin}
use Rattle.query_bind.specs.Named.{ArePlaced}
use Rattle.query_view.specs.Seen.{answer_through}
use Rattle.row_scan.specs.Rows.{values_of}
use Rattle.executor.specs.Reading.{AreEnoughFor}
use Rattle.query_names.specs.declared.queries.Origin.TheVariants.{Tree}
use Rattle.executor.proofs.SeenViews.{over_seen, places_behind}
use Rattle.executor.proofs.ShownViews.{over_view, shown_read}
use Rattle.executor.proofs.StreamedRows.{bound_over}
use Rattle.std.proofs.Common.{ℕ, suc, ◌+◌, ◌-◌, ◌<◌, arith, Option, Some, None}
use Rattle.catalog.specs.Listed.{tables_of, views_of}
use Rattle.query_names.specs.declared.queries.Origin.TheVariants as origin
use Rattle.executor.specs.Reading.{IsSeenView, IsStreamedView, LoadsSource, ReadsView, ShowsTable, Streams, source_view}
use Rattle.executor.proofs.IndexTrees.{tree_loaded}
use Rattle.executor.proofs.LoadedSources.{no_view, view_loaded}
use Rattle.executor.proofs.ViewRows.{no_room, rows_made, rows_refused, unbound}
use Rattle.executor.proofs.reading.+rows_within.Goals as goal

-- ---- a view

pub view_rows-returns-then-room-eq0-clause-read : goal.view_rows-returns-then-room-eq0-clause-read
view_rows-returns-then-room-eq0-clause-read g t c = λ told.
    no_room c.listed_tables_are_found.ensures.finds (g.P.Pages.map c.args.pages.now) (g.P.Pages.limits (g.P.Pages.below c.args.pages.now)).page (listed_in c.args.catalog.now) c.args.view.now c.args.room c.if-room-eq0.true

pub view_rows-returns-in-Some-clause-read : goal.view_rows-returns-in-Some-clause-read
view_rows-returns-in-Some-clause-read g t c = λ told.
    (let some : 0 < c.args.room = omega (arith, c.if-room-eq0.false) in
    let shows : ShowsTable (listed_in c.args.catalog.now) c.args.view.now c.in-Some.shown.table c.in-Some.shown.places.value.items = search rules in
    shown_read c.rows_are_loaded_beside_conditions.ensures c.listed_tables_are_found.ensures.finds c.views_are_known.ensures (g.P.Pages.map c.args.pages.now)
    (g.P.Pages.limits (g.P.Pages.below c.args.pages.now)).page (listed_in c.args.catalog.now) c.args.view.now c.in-Some.shown.table c.in-Some.shown.places.value.items
    shows c.args.room c.shown_rows.result some (c.shown_rows.ensures.loaded told))

pub view_rows-returns-in-None-clause-read : goal.view_rows-returns-in-None-clause-read
view_rows-returns-in-None-clause-read g t c = λ told.
    (let some : c.args.room - 1 + 1 ≡ c.args.room = omega (arith, c.if-room-eq0.false) in
    subst (λ (n : ℕ). ReadsView (g.P.Pages.map c.args.pages.now) (g.P.Pages.limits (g.P.Pages.below c.args.pages.now)).page (listed_in c.args.catalog.now) n c.args.view.now c.answered_rows.result) some
    (c.answered_rows.ensures.read told))

-- ---- by its query

pub answered_rows-returns-in_err-bound-clause-read : goal.answered_rows-returns-in_err-bound-clause-read
answered_rows-returns-in_err-bound-clause-read g t c = λ told.
    unbound c.listed_tables_are_found.ensures.finds (g.P.Pages.map c.args.pages.now) (g.P.Pages.limits (g.P.Pages.below c.args.pages.now)).page (listed_in c.args.catalog.now) c.args.view.now
    c.views_are_known.ensures (c.args.room + 1) c.in_err-bound.field-0.0 c.from_residual.result c.from_residual.ensures.1 c.in_err-bound.ensures.named

pub answered_rows-returns-in_err-rows-clause-read : goal.answered_rows-returns-in_err-rows-clause-read
answered_rows-returns-in_err-rows-clause-read g t c = λ told.
    (let more : c.args.room + 1 ≡ suc c.args.room = omega arith in
    rows_refused c.listed_tables_are_found.ensures.finds (g.P.Pages.map c.args.pages.now) (g.P.Pages.limits (g.P.Pages.below c.args.pages.now)).page (listed_in c.args.catalog.now) c.args.view.now
    c.views_are_known.ensures (c.args.room + 1) c.args.room more c.in_ok-bound.bound.reading (λ (rows : Vec (SmallVec Value) Global). map values_of rows.items) c.in_err-rows.field-0.0 c.from_residual-in_err-rows.result c.from_residual-in_err-rows.ensures.1
    (λ db held is known. c.in_err-rows.ensures.answered told db held c.in_ok-bound.ensures.placed known) c.in_ok-bound.ensures.named)

pub answered_rows-returns-clause-read : goal.answered_rows-returns-clause-read
answered_rows-returns-clause-read g t c = λ told.
    (let more : c.args.room + 1 ≡ suc c.args.room = omega arith in
    rows_made c.listed_tables_are_found.ensures.finds (g.P.Pages.map c.args.pages.now) (g.P.Pages.limits (g.P.Pages.below c.args.pages.now)).page (listed_in c.args.catalog.now) c.args.view.now
    c.views_are_known.ensures (c.args.room + 1) c.args.room more c.in_ok-bound.bound.reading (λ (rows : Vec (SmallVec Value) Global). map values_of rows.items) c.in_ok-rows.rows c.made_rows.result c.made_rows.ensures
    (λ db held is known. c.in_ok-rows.ensures.answered told db held c.in_ok-bound.ensures.placed known) c.in_ok-bound.ensures.named)

-- ---- a source

pub rows_of_source-returns-in-Some-clause-loaded : goal.rows_of_source-returns-in-Some-clause-loaded
rows_of_source-returns-in-Some-clause-loaded g t c = λ told.
    (let here : c.args.origin ≡ origin.View = search rules in
    let is : source_view (views_of c.args.catalog.now) c.args.reading.now.sources c.args.source ≡ Some c.in-Some.view.now = search rules in
    subst (λ (o : Origin). LoadsSource (g.P.Pages.map c.args.pages.now) (g.P.Pages.limits (g.P.Pages.below c.args.pages.now)).page (listed_in c.args.catalog.now) c.args.room c.args.reading.now c.args.source o c.view_rows.result) (sym here)
    (view_loaded (g.P.Pages.map c.args.pages.now) (g.P.Pages.limits (g.P.Pages.below c.args.pages.now)).page (listed_in c.args.catalog.now) c.args.room c.args.reading.now c.args.source c.in-Some.view.now c.view_rows.result is
    (c.view_rows.ensures.read told)))

pub rows_of_source-returns-in-None-clause-loaded : goal.rows_of_source-returns-in-None-clause-loaded
rows_of_source-returns-in-None-clause-loaded g t c = λ told.
    (let here : c.args.origin ≡ origin.View = search rules in
    let none : source_view (views_of c.args.catalog.now) c.args.reading.now.sources c.args.source ≡ None = search rules in
    subst (λ (o : Origin). LoadsSource (g.P.Pages.map c.args.pages.now) (g.P.Pages.limits (g.P.Pages.below c.args.pages.now)).page (listed_in c.args.catalog.now) c.args.room c.args.reading.now c.args.source o (Ok c.new.result)) (sym here)
    (no_view (g.P.Pages.map c.args.pages.now) (g.P.Pages.limits (g.P.Pages.below c.args.pages.now)).page (listed_in c.args.catalog.now) c.args.room c.args.reading.now c.args.source (Ok c.new.result) none))

pub rows_of_source-returns-in-Tree-clause-loaded : goal.rows_of_source-returns-in-Tree-clause-loaded
rows_of_source-returns-in-Tree-clause-loaded g t c = λ told.
    (let here : c.args.origin ≡ origin.Tree c.in-Tree.place = search rules in
    subst (λ (o : Origin). LoadsSource (g.P.Pages.map c.args.pages.now) (g.P.Pages.limits (g.P.Pages.below c.args.pages.now)).page (listed_in c.args.catalog.now) c.args.room c.args.reading.now c.args.source o c.needed_rows.result) (sym here)
    (tree_loaded (g.P.Pages.map c.args.pages.now) (g.P.Pages.limits (g.P.Pages.below c.args.pages.now)).page (listed_in c.args.catalog.now) c.args.room c.args.reading.now c.args.source c.in-Tree.place c.needed_rows.result
    (c.needed_rows.ensures.loaded told)))

-- ---- sources, and what is answered over them

pub load_sources-sources-init : goal.load_sources-sources-init
load_sources-sources-init g t c =
    let gs = g.P.Pages in
    none_loaded gs.below gs.tells gs.limits gs.map gs.count gs.failures c.args.pages.now (listed_in c.args.catalog.now) c.args.room c.args.reading.now c.args.origins.now c.new-sources.result.items c.new-sources.ensures.items

pub load_sources-returns-in_err-rows-clause-loaded : goal.load_sources-returns-in_err-rows-clause-loaded
load_sources-returns-in_err-rows-clause-loaded g t c =
    let gs = g.P.Pages in
    let number : c.len-source.result ≡ length c.sources.sources.items = search rules in
    not_loaded gs.below gs.tells gs.limits gs.map gs.count gs.failures c.args.pages.now c.sources.pages (listed_in c.args.catalog.now) c.args.room c.args.reading.now c.args.origins.now c.sources.left.now c.in-Some.rest.now c.in-Some.origin.now c.sources.sources.items
    c.sources.invariant c.in-Some.ensures.cases.0 (λ sources. sources.items) c.len-source.result c.in_err-rows.field-0.0 c.from_residual.result number c.from_residual.ensures.1 c.in_err-rows.ensures.loaded

pub load_sources-sources-preserved : goal.load_sources-sources-preserved
load_sources-sources-preserved g t c =
    let gs = g.P.Pages in
    let stays : Stays gs.below gs.map gs.count gs.failures {T = ⊤} (Ok tt) c.args.pages.now c.rows_of_source.new.pages = search rules in
    let number : c.len-source.result ≡ length c.sources.sources.items = search rules in
    one_loaded gs.below gs.tells gs.limits gs.map gs.count gs.failures c.args.pages.now c.sources.pages (listed_in c.args.catalog.now) c.args.room c.args.reading.now c.args.origins.now c.sources.left.now c.in-Some.rest.now c.in-Some.origin.now c.sources.sources.items
    c.sources.invariant c.in-Some.ensures.cases.0 c.rows_of_source.new.pages c.len-source.result c.in_ok-rows.rows c.push.new.self.items number stays c.in_ok-rows.ensures.loaded c.in_ok-push.ensures.items

pub load_sources-returns-clause-loaded : goal.load_sources-returns-clause-loaded
load_sources-returns-clause-loaded g t c =
    let gs = g.P.Pages in
    all_loaded gs.below gs.tells gs.limits gs.map gs.count gs.failures (λ sources. sources.items) c.sources.sources c.args.pages.now c.sources.pages (listed_in c.args.catalog.now) c.args.room c.args.reading.now c.args.origins.now c.sources.left.now c.sources.invariant
    (nil_from_length c.sources.left.now c.in_default.ensures.cases)

pub loaded_rows-returns-in_err-sources-clause-answered : goal.loaded_rows-returns-in_err-sources-clause-answered
loaded_rows-returns-in_err-sources-clause-answered g t c told db stored placed known =
    let bound = c.args.bound.now in
    sources_refused (λ rows. map values_of rows.items) c.rows_are_loaded_beside_conditions.ensures c.args.room db bound.reading c.in_err-sources.field-0.0 c.from_residual.result c.from_residual.ensures.1
    (c.in_err-sources.ensures.loaded told db stored (subst (λ (os : List Origin). ArePlaced (listed_in c.args.catalog.now) bound.reading.sources os) (sym c.as_slice-origins.ensures) placed) known)

pub loaded_rows-returns-clause-answered : goal.loaded_rows-returns-clause-answered
loaded_rows-returns-clause-answered g t c told db stored placed known =
    let bound = c.args.bound.now in
    let read : AreEnoughFor c.args.room db bound.reading c.in_ok-sources.sources.items =
    c.in_ok-sources.ensures.loaded told db stored (subst (λ (os : List Origin). ArePlaced (listed_in c.args.catalog.now) bound.reading.sources os) (sym c.as_slice-origins.ensures) placed) known in
    rows_answered (λ rows. map values_of rows.items) c.rows_are_loaded_beside_conditions.ensures c.args.room db bound.reading c.deref.result.now c.answer.result
    (subst (λ (lists : List (List Row)). AreEnoughFor c.args.room db bound.reading lists) (sym c.deref.ensures.value) read) (c.answer.ensures.answered [] refl refl tt)

pub rows_within-returns-in-Some-clause-answered : goal.rows_within-returns-in-Some-clause-answered
rows_within-returns-in-Some-clause-answered g t c told db stored placed known =
    let bound = c.args.bound.now in
    let only : bound.origins ≡ Tree c.in-Some.place ∷ [] = search rules in
    bound_over c.rows_are_loaded_beside_conditions.ensures (g.P.Pages.map c.args.pages.now) (g.P.Pages.limits (g.P.Pages.below c.args.pages.now)).page
    (listed_in c.args.catalog.now) c.args.room db stored bound.reading bound.origins c.in-Some.place only placed (λ rows. map values_of rows.items) c.streamed_rows.result (c.streamed_rows.ensures.answered told)

pub rows_within-returns-in-Some-2-clause-answered : goal.rows_within-returns-in-Some-2-clause-answered
rows_within-returns-in-Some-2-clause-answered g t c told db stored placed known =
    let bound = c.args.bound.now in
    let is : IsStreamedView (listed_in c.args.catalog.now) c.args.room bound c.in-Some-2.shown.table c.in-Some-2.shown.places.value.items = search rules in
    over_view c.rows_are_loaded_beside_conditions.ensures c.listed_tables_are_found.ensures.finds c.views_are_known.ensures
    (g.P.Pages.map c.args.pages.now) (g.P.Pages.limits (g.P.Pages.below c.args.pages.now)).page (listed_in c.args.catalog.now) c.args.room db stored bound
    c.in-Some-2.shown.table c.in-Some-2.shown.places.value.items is placed (λ rows. map values_of rows.items) c.streamed_rows-in-Some-2.result (c.streamed_rows-in-Some-2.ensures.answered told)

pub rows_within-returns-in-Some-3-clause-answered : goal.rows_within-returns-in-Some-3-clause-answered
rows_within-returns-in-Some-3-clause-answered g t c told db stored placed known =
    let bound = c.args.bound.now in
    let places : Option (List Place) = option_map (λ places. places.value.items) c.in-Some-3.seen.places in
    let is : IsSeenView (listed_in c.args.catalog.now) c.args.room bound c.in-Some-3.seen.view c.in-Some-3.seen.table places = search rules in
    let same = places_behind c.as_ref-places.result c.in-Some-3.seen.places c.as_ref-places.ensures.value in
    over_seen c.rows_are_loaded_beside_conditions.ensures c.listed_tables_are_found.ensures.finds c.views_are_known.ensures
    (g.P.Pages.map c.args.pages.now) (g.P.Pages.limits (g.P.Pages.below c.args.pages.now)).page (listed_in c.args.catalog.now) c.args.room db stored bound c.in-Some-3.seen.view
    c.in-Some-3.seen.table places is placed (λ rows. map values_of rows.items) c.seen_rows.result
    (subst (λ (shown : Option (List Place)). Streams (λ rows. map values_of rows.items) (answer_through c.in-Some-3.seen.view bound.reading) (g.P.Pages.map c.args.pages.now) (g.P.Pages.limits (g.P.Pages.below c.args.pages.now)).page c.in-Some-3.seen.table shown
    c.seen_rows.result) same (c.seen_rows.ensures.answered told))
