-- All rows of a table or view.
use Rattle.std.proofs.Common.{◌≡◌, inl, inr, sym, ap, ◌∙◌, ℕ, List, map, Option, Some, None, Result, Ok, Err, arith}
use Rattle.std.specs.Prelude.{filter, option_map, MatchOption, MatchResult}
use Rattle.sqlval.specs.Faults.{IsOutside}
use Rattle.sqlval.specs.Refusals.{Answer, NoSuch, Refusal, refusal_of}
use Rattle.sqlval.specs.declared.fault.Fault.{Fault}
use Rattle.pages.specs.Map.{PageMap}
use Rattle.catalog.specs.Database.{ATable, ATrigger, AView, Name, object}
use Rattle.catalog.specs.Laws.{FindsListed, IsIndexOrNone, IsNoSource, IsNoTable}
use Rattle.catalog.specs.Listed.{Listed, as_view, shape_of, table_named, trigger_named, view_named, with_rows}
use Rattle.catalog.specs.declared.tables.Table.{Table}
use Rattle.catalog.specs.declared.tables.Trigger.{Trigger}
use Rattle.catalog.specs.declared.tables.View.{View as ListedView}
use Rattle.query_names.specs.Views.{all_rows, rows_of_object}
use Rattle.query_bind.specs.Named.{place_seen}
use Rattle.query_plan.specs.Searching.{is_found}
use Rattle.query_plan.specs.declared.searching.Search.{Search}
use Rattle.query_terms.specs.Values.{Row}
use Rattle.row_scan.specs.Sources.{LoadsRows, as_source}
use Rattle.row_scan.specs.Trees.{AnswersOrFails}
use Rattle.row_search.specs.Found.{FindsSought}
use Rattle.executor.specs.Reading.{ReadsView}
use Rattle.executor.specs.Rows.{AreSought, FindsAmong, ReadsAll}
use Rattle.executor.proofs.FoundTables.{table_found}
use Rattle.executor.proofs.IndexTrees.{has_indexed}
use Rattle.executor.proofs.Owners.{has_rows}

abbrev good : List Row → Answer (List Row)
good rows = Ok rows

-- of a table
pub table_read : (pages : PageMap) (size : ℕ) (l : Listed) (name : Name) (t : Table) (result : Result (List Row) Fault) → table_named name l.tables ≡ Some t
    → LoadsRows pages size (record { root = t.root; shape = shape_of t }) result → ReadsAll pages size l name result
table_read pages size l name t result named loads db stored known =
    by result (loads (stored.rows_at t.root) stored.shared.whole (has_rows pages size l db stored name t named))
  where
    are : all_rows db name ≡ Ok (map as_source (stored.rows_at t.root))
    are = ap (rows_of_object _) (table_found stored.rows_at l db name t stored.of_listed.lists named)

    by : (r : Result (List Row) Fault) → MatchResult r (λ found. found ≡ map as_source (stored.rows_at t.root)) IsOutside → AnswersOrFails (λ (rows : List Row). rows) (all_rows db name) r
    by (Ok found) same = are ∙ ap (λ (rows : List Row). good rows) (sym same)
    by (Err fault) outside = inl outside

-- of a view
pub view_read : (pages : PageMap) (size : ℕ) (l : Listed) (name : Name) (v : ListedView) (result : Result (List Row) Fault) → table_named name l.tables ≡ None → view_named name l.views ≡ Some v
    → ReadsView pages size l 64 v result → ReadsAll pages size l name result
view_read pages size l name v result no_table named reads db stored known = reads db name stored no_table named (omega arith) known

-- what is neither
pub none_read : FindsListed → (pages : PageMap) (size : ℕ) (l : Listed) (name : Name) → table_named name l.tables ≡ None → view_named name l.views ≡ None
    → (fault : Fault) → refusal_of fault ≡ NoSuch → ReadsAll pages size l name (Err fault)
none_read finds pages size l name no_table no_view fault is db stored known =
    inr (by_table (table_named name l.tables) no_table (finds stored.rows_at l db name stored.of_listed.lists) ∙ ap (λ (r : Refusal). refused r) (sym is))
  where
    refused : Refusal → Answer (List Row)
    refused r = Err r

    by_trigger : (g : Option Trigger) → MatchOption g (IsIndexOrNone (object db name)) (λ t. object db name ≡ Some (ATrigger t.definition)) → all_rows db name ≡ Err NoSuch
    by_trigger None (inl none) = ap (rows_of_object _) none
    by_trigger None (inr (i, found)) = ap (rows_of_object _) found
    by_trigger (Some g) found = ap (rows_of_object _) found

    by_view : (v : Option ListedView) → v ≡ None → MatchOption v (IsNoSource l name (object db name)) (λ v. object db name ≡ Some (AView (as_view v))) → all_rows db name ≡ Err NoSuch
    by_view None none h = by_trigger (trigger_named name l.triggers) h
    by_view (Some v) none h = absurd cc

    by_table : (t : Option Table) → t ≡ None → MatchOption t (IsNoTable l name (object db name)) (λ t. object db name ≡ Some (ATable (with_rows t (stored.rows_at t.root)))) → all_rows db name ≡ Err NoSuch
    by_table None none h = by_view (view_named name l.views) no_view h
    by_table (Some t) none h = absurd cc

-- those of a table that a search finds
pub rows_found : (pages : PageMap) (size : ℕ) (t : Table) (search : Search) (result : Result (List Row) Fault) → FindsSought pages size (record { root = t.root; shape = shape_of t }) t.indexes search result
    → FindsAmong pages size t search result
rows_found pages size t search result finds l db name stored named =
    by result (finds (stored.rows_at t.root) (has_indexed pages size l db stored name (place_seen t) t (ap (option_map place_seen) named) named))
  where
    by : (r : Result (List Row) Fault) → MatchResult r (λ found. found ≡ filter (is_found t.indexes search) (map as_source (stored.rows_at t.root))) IsOutside
        → MatchResult r (λ found. AreSought db name t search found) IsOutside
    by (Ok found) same = record { all = map as_source (stored.rows_at t.root); read = ap (rows_of_object _) (table_found stored.rows_at l db name t stored.of_listed.lists named); are = same }
    by (Err fault) outside = outside
