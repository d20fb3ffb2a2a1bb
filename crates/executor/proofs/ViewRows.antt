-- The rows of a view: those of its query, with room for one view less.
use Rattle.std.proofs.Common.{◌≡◌, inl, inr, refl, sym, ap, subst, ◌∙◌, ℕ, suc, ◌≤◌, List, [], ◌∷◌, map, Some, None, Result, Ok, Err, arith}
use Rattle.std.specs.Prelude.{Contains, IsErrAnd, MatchOption, Option}
use Rattle.std.specs.List.{AllByRecursion}
use Rattle.sqlval.specs.Faults.{IsOrMemory, IsOutside}
use Rattle.sqlval.specs.Refusals.{Answer, Refusal, TooLong, ◌then◌, refusal_of}
use Rattle.sqlval.specs.declared.fault.Fault.{Fault}
use Rattle.sqlval.specs.declared.fault.Fault.TheVariants as fault
use Rattle.sqlval.specs.declared.value.Value.{Value}
use Rattle.pages.specs.Map.{PageMap}
use Rattle.catalog.specs.Database.{ATable, AView, Database, Name, Object, View, object}
use Rattle.catalog.specs.Laws.{FindsListed, IsNoSource, IsNoTable}
use Rattle.catalog.specs.Listed.{Listed, Lists, as_view, table_named, view_named, with_rows}
use Rattle.catalog.specs.declared.tables.Table.{Table}
use Rattle.catalog.specs.declared.tables.View.{View as ListedView}
use Rattle.query_terms.specs.Values.{Row}
use Rattle.query_names.specs.Bound.{IsFaultOf}
use Rattle.query_names.specs.Checked.{Checked, Meant, faults, known_then}
use Rattle.query_names.specs.Known.{IsKnownIn, IsKnownView}
use Rattle.query_names.specs.Laws.{ViewsAreKnown}
use Rattle.query_names.specs.Queries.{resolve_query}
use Rattle.query_names.specs.Readings.{rows_over}
use Rattle.query_names.specs.Views.{loaded, look_up, plain_rows, rows_of, rows_of_object}
use Rattle.query_names.specs.declared.reading.Condition.{Condition}
use Rattle.query_names.specs.declared.reading.Reading.{Reading}
use Rattle.row_scan.specs.Rows.{TableRow}
use Rattle.row_scan.specs.Trees.{AnswersOrFails}
use Rattle.db_pages.specs.Stored.{Stores}
use Rattle.executor.specs.Reading.{AreKnown, ReadsView, answer_within}

-- a view's name finds it
view_found : (finds : FindsListed) (rows_at : ℕ → List TableRow) (l : Listed) (db : Database) (name : Name) (view : ListedView)
    → MatchOption (table_named name l.tables) (IsNoTable l name (object db name)) (λ t. object db name ≡ Some (ATable (with_rows t (rows_at t.root)))) → table_named name l.tables ≡ None
    → view_named name l.views ≡ Some view → object db name ≡ Some (AView (as_view view))
view_found finds rows_at l db name view found no_table named = as_listed (view_named name l.views) named (no_other (table_named name l.tables) no_table found)
  where
    no_other : (t : Option Table) → t ≡ None → MatchOption t (IsNoTable l name (object db name)) (λ t. object db name ≡ Some (ATable (with_rows t (rows_at t.root)))) → IsNoTable l name (object db name)
    no_other None none h = h
    no_other (Some t) none h = absurd cc

    the_view : (v w : ListedView) → Some v ≡ Some w → AView (as_view v) ≡ AView (as_view w)
    the_view v w e = cc

    as_listed : (found : Option ListedView) → found ≡ Some view → MatchOption found (IsNoSource l name (object db name)) (λ v. object db name ≡ Some (AView (as_view v))) → object db name ≡ Some (AView (as_view view))
    as_listed None e h = absurd cc
    as_listed (Some v) e h = h ∙ ap (λ (o : Object). Some o) (the_view v view e)

-- ---- a view

module _ (finds : FindsListed) (pages : PageMap) (size : ℕ) (l : Listed) (view : ListedView) where
  is_view : (db : Database) (name : Name) (held : Stores pages size l db) → table_named name l.tables ≡ None → view_named name l.views ≡ Some view → object db name ≡ Some (AView (as_view view))
  is_view db name held no_table named = view_found finds held.rows_at l db name view (finds held.rows_at l db name held.of_listed.lists) no_table named

  -- where there is no room for it
  pub no_room : (room : ℕ) → room ≡ 0 → ReadsView pages size l room view (Err fault.TooLong)
  no_room room none db name held no_table named few known =
      inr (ap (λ (n : ℕ). rows_of n db name) none ∙ ap (rows_of_object (λ v. too_long)) (is_view db name held no_table named))
    where
      too_long : Answer (List Row)
      too_long = Err TooLong

  module _ (law : ViewsAreKnown) (room : ℕ) where
    -- its query's names are known
    view_known : (db : Database) (name : Name) → Stores pages size l db → table_named name l.tables ≡ None → view_named name l.views ≡ Some view → room ≤ 64 → IsKnownIn room db name → IsKnownView room db (as_view view)
    view_known db name held no_table named few known = law room db name (as_view view) few (is_view db name held no_table named) known

    -- so that nothing but memory keeps them from being looked up
    pub unbound : (f : Fault) (result : Result (List Row) Fault) → IsErrAnd result (λ e. e ≡ f)
        → ((rows_at : ℕ → List TableRow) (db : Database) → Lists rows_at l db → IsFaultOf (faults (resolve_query (look_up db) [] view.definition.query)) f) → ReadsView pages size l room view result
    unbound f (Ok x) same why db name held no_table named few known = absurd same
    unbound f (Err e) same why db name held no_table named few known =
        let k = view_known db name held no_table named few known in
        inl (inl (same ∙ memory (subst (λ (c : Checked Reading). IsFaultOf (faults c) f) k.is (why held.rows_at db held.of_listed.lists))))
      where
        memory : IsFaultOf [] f → f ≡ fault.Memory
        memory (inl e) = e
        memory (inr has) = absurd (omega (arith, has.1))

    module _ (less : ℕ) (room_is : room ≡ suc less) (reading : Reading) where
      same_less : (n m : ℕ) → suc n ≡ suc m → n ≡ m
      same_less n m e = cc

      same_meant : (a b : Reading) → Meant a [] ≡ Meant b [] → a ≡ b
      same_meant a b e = cc

      -- and its sources are known, with room for one view less
      pub sources_known : (db : Database) (name : Name) → Stores pages size l db → table_named name l.tables ≡ None → view_named name l.views ≡ Some view → room ≤ 64 → IsKnownIn room db name
          → resolve_query (look_up db) [] view.definition.query ≡ Meant reading [] → AreKnown less db reading.sources
      sources_known db name held no_table named few known bound =
          let k = view_known db name held no_table named few known in
          record {
            few = (let f = few in let r = room_is in omega (arith, f, r));
            each = subst (λ (q : Reading). AllByRecursion (λ s. IsKnownIn less db s.0) q.sources) (same_meant k.reading reading (sym k.is ∙ bound))
                (subst (λ (n : ℕ). AllByRecursion (λ s. IsKnownIn n db s.0) k.reading.sources) (same_less k.less less (sym k.room ∙ room_is)) k.sources);
          }

      -- its rows are what its query comes to
      pub rows_are : (db : Database) (name : Name) → Stores pages size l db → table_named name l.tables ≡ None → view_named name l.views ≡ Some view → resolve_query (look_up db) [] view.definition.query ≡ Meant reading []
          → rows_of room db name ≡ (answer_within less db reading then λ rows. Ok (plain_rows rows))
      rows_are db name held no_table named bound =
          ap (λ (n : ℕ). rows_of n db name) room_is
          ∙ (ap (rows_of_object (λ v. view_rows (resolve_query (look_up db) [] v.query))) (is_view db name held no_table named)
          ∙ (ap view_rows bound ∙ in_one (loaded (rows_of less db) reading.sources)))
        where
          view_rows : Checked Reading → Answer (List Row)
          view_rows k = known_then k λ q. loaded (rows_of less db) q.sources then λ sources. rows_over q [] sources then λ rows. Ok (plain_rows rows)

          in_one : (a : Answer (List (Condition × List Row))) → (a then λ sources. rows_over reading [] sources then λ rows. Ok (plain_rows rows)) ≡ ((a then rows_over reading []) then λ rows. Ok (plain_rows rows))
          in_one (Ok sources) = refl
          in_one (Err r) = refl

      -- where they are refused, it is
      pub rows_refused : {X : Type 0} (rows_by : X → List (List Value)) (f : Fault) (result : Result (List Row) Fault) → IsErrAnd result (λ e. e ≡ f)
          → ((db : Database) → Stores pages size l db → resolve_query (look_up db) [] view.definition.query ≡ Meant reading [] → AreKnown less db reading.sources → AnswersOrFails {X = X} rows_by (answer_within less db reading) (Err f))
          → ((rows_at : ℕ → List TableRow) (db : Database) → Lists rows_at l db → resolve_query (look_up db) [] view.definition.query ≡ Meant reading []) → ReadsView pages size l room view result
      rows_refused {X = X} rows_by f (Ok x) same fails bound db name held no_table named few known = absurd same
      rows_refused {X = X} rows_by f (Err e) same fails bound db name held no_table named few known =
          let is = bound held.rows_at db held.of_listed.lists in
          by is (fails db held is (sources_known db name held no_table named few known is))
        where
          by : resolve_query (look_up db) [] view.definition.query ≡ Meant reading [] → AnswersOrFails {X = X} rows_by (answer_within less db reading) (Err f) → AnswersOrFails (λ (rows : List Row). rows) (rows_of room db name) (Err e)
          by is (inl outside) = inl (subst IsOutside (sym same) outside)
          by is (inr refused) =
              inr (rows_are db name held no_table named is
              ∙ (ap (λ (a : Answer (List (List Value))). a then λ rows. Ok (plain_rows rows)) refused ∙ ap (λ (g : Fault). refusing (refusal_of g)) (sym same)))
            where
              refusing : Refusal → Answer (List Row)
              refusing r = Err r

      -- and else they are made of its rows
      pub rows_made : {X : Type 0} (rows_by : X → List (List Value)) (x : X) (result : Result (List Row) Fault) → IsOrMemory (λ made. made ≡ plain_rows (rows_by x)) result
          → ((db : Database) → Stores pages size l db → resolve_query (look_up db) [] view.definition.query ≡ Meant reading [] → AreKnown less db reading.sources → AnswersOrFails rows_by (answer_within less db reading) (Ok x))
          → ((rows_at : ℕ → List TableRow) (db : Database) → Lists rows_at l db → resolve_query (look_up db) [] view.definition.query ≡ Meant reading []) → ReadsView pages size l room view result
      rows_made rows_by x (Err e) made answered bound db name held no_table named few known = inl (inl made)
      rows_made rows_by x (Ok rows) made answered bound db name held no_table named few known =
          let is = bound held.rows_at db held.of_listed.lists in
          rows_are db name held no_table named is
          ∙ (ap (λ (a : Answer (List (List Value))). a then λ rows. Ok (plain_rows rows)) (answered db held is (sources_known db name held no_table named few known is)) ∙ ap (λ (rs : List Row). good rs) (sym made))
        where
          good : List Row → Answer (List Row)
          good rs = Ok rs
