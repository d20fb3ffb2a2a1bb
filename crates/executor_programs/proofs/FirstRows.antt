-- The first of the rows that a change chooses is in its table.
use Rattle.std.proofs.Common.{◌≡◌, ◌⊎◌, inl, inr, refl, sym, ap, subst, ◌∙◌, ℕ, List, [], ◌∷◌, ◌++◌, map, Bool, true, false, Option, Some, None, Ok, Err}
use Rattle.std.specs.FinMap.Entries.{find}
use Rattle.std.specs.Ordering.{int_cmp}
use Rattle.std.specs.Prelude.{flat_map, option_map, slice_get}
use Rattle.sqlval.specs.Refusals.{Answer, ◌then◌, NoSuch, all_answers}
use Rattle.sql_syntax.specs.declared.change.Change.{Change}
use Rattle.pages.specs.Map.{PageMap}
use Rattle.catalog.specs.Database as database
use Rattle.catalog.specs.Database.{ATable, Database, Name, Object, object, row}
use Rattle.catalog.specs.Laws.{FindsListed}
use Rattle.catalog.specs.Listed.{Listed, table_named, with_rows}
use Rattle.catalog.specs.Rows.{are_rows}
use Rattle.catalog.specs.declared.tables.Table.{Table}
use Rattle.catalog.specs.declared.tables.TableRow as stored
use Rattle.query_names.specs.Readings.{holds}
use Rattle.query_names.specs.Views.{all_rows, rows_of_object}
use Rattle.query_terms.specs.Terms.{Term}
use Rattle.query_terms.specs.Values.{Row}
use Rattle.row_scan.specs.Rows.{TableRow}
use Rattle.row_scan.specs.Sources.{as_source}
use Rattle.row_change.specs.Changes.{Outer}
use Rattle.row_change.specs.Constraints.{table_of}
use Rattle.row_change.specs.NewRows.{row_of as pair_of}
use Rattle.row_change.proofs.Rising.{Rises, fit_rows_rise}
use Rattle.trigger.specs.Binding.{aim_of}
use Rattle.trigger.specs.Effects.{chosen, chosen_rows, id_of}
use Rattle.db_pages.specs.Stored.{Stores}
use Rattle.executor.proofs.FoundTables.{table_found}
use Rattle.executor_programs.specs.Rows.{IsInTable}
use Rattle.executor_programs.proofs.Beginning.{IsHere, here}
use Rattle.executor_programs.proofs.SameRows.{found_behind}

-- ---- a row that WHERE keeps is one of all

abbrev kept : Answer (List (List Row)) → Answer (List Row)
kept a = a then λ rs. Ok (flat_map (λ r. r) rs)

same_rows : (a b : List Row) → (let l : Answer (List Row) = Ok a in l) ≡ Ok b → a ≡ b
same_rows a b e = cc

same_first : (a b : Row) (xs ys : List Row) → a ∷ xs ≡ b ∷ ys → a ≡ b
same_first a b xs ys e = cc

one_or_none : (seen : Outer) (w : Option Term) (r : Row) (found : List Row) → chosen seen w r ≡ Ok found → (found ≡ []) ⊎ (found ≡ r ∷ [])
one_or_none seen None r found e = inr (sym (same_rows (r ∷ []) found e))
one_or_none seen (Some t) r found e = by (holds t (seen.rows ++ r ∷ [])) e
  where
    by : (a : Answer (Option Bool)) → (a then elim [ Some true ↦ Ok (r ∷ []) | _ ↦ Ok [] ]) ≡ Ok found → (found ≡ []) ⊎ (found ≡ r ∷ [])
    by (Err x) e = absurd cc
    by (Ok None) e = inl (sym (same_rows [] found e))
    by (Ok (Some true)) e = inr (sym (same_rows (r ∷ []) found e))
    by (Ok (Some false)) e = inl (sym (same_rows [] found e))

step : (r first : Row) (rest : List Row) (a : Answer (List Row)) (b : Answer (List (List Row))) → ((found : List Row) → a ≡ Ok found → (found ≡ []) ⊎ (found ≡ r ∷ []))
    → kept (a then λ x. b then λ xs. Ok (x ∷ xs)) ≡ Ok (first ∷ rest) → (r ≡ first) ⊎ (kept b ≡ Ok (first ∷ rest))
step r first rest (Err e) b says is = absurd cc
step r first rest (Ok x) (Err e) says is = absurd cc
step r first rest (Ok x) (Ok xs) says is = by (says x refl)
  where
    by : (x ≡ []) ⊎ (x ≡ r ∷ []) → (r ≡ first) ⊎ (kept (Ok xs) ≡ Ok (first ∷ rest))
    by (inl none) = inr (ap (λ (ys : List Row). let l : Answer (List Row) = Ok (ys ++ flat_map (λ r. r) xs) in l) (sym none) ∙ is)
    by (inr one) = inl (same_first r first (flat_map (λ r. r) xs) rest (ap (λ (ys : List Row). ys ++ flat_map (λ r. r) xs) (sym one) ∙ same_rows (x ++ flat_map (λ r. r) xs) (first ∷ rest) is))

-- where a row stands among those of a table
record Stands (rows : List TableRow) (first : Row) : Type 0 where
  pub front : List TableRow
  pub pair : TableRow
  pub back : List TableRow
  pub are : rows ≡ front ++ pair ∷ back
  pub is : as_source pair ≡ first

more_stands : (r : TableRow) (rows : List TableRow) (first : Row) → Stands rows first → Stands (r ∷ rows) first
more_stands r rows first s = record { front = r ∷ s.front; pair = s.pair; back = s.back; are = ap (λ (rs : List TableRow). r ∷ rs) s.are; is = s.is }

stands : (seen : Outer) (w : Option Term) (rows : List TableRow) (first : Row) (rest : List Row) → kept (all_answers (map (chosen seen w) (map as_source rows))) ≡ Ok (first ∷ rest) → Stands rows first
stands seen w [] first rest is = absurd cc
stands seen w (r ∷ rows) first rest is =
    by (stands seen w rows first rest) (step (as_source r) first rest (chosen seen w (as_source r)) (all_answers (map (chosen seen w) (map as_source rows))) (one_or_none seen w (as_source r)) is)
  where
    by : (kept (all_answers (map (chosen seen w) (map as_source rows))) ≡ Ok (first ∷ rest) → Stands rows first) → (as_source r ≡ first) ⊎ (kept (all_answers (map (chosen seen w) (map as_source rows))) ≡ Ok (first ∷ rest))
        → Stands (r ∷ rows) first
    by more (inl same) = record { front = []; pair = r; back = rows; are = refl; is = same }
    by more (inr others) = more_stands r rows first (more others)

found_there : (rows : List TableRow) (first : Row) → Rises rows → Stands rows first → find int_cmp (id_of first) rows ≡ Some first.values
found_there rows first rises s =
    subst (λ (r : Row). find int_cmp (id_of r) rows ≡ Some r.values) s.is
    (subst (λ (rs : List TableRow). find int_cmp s.pair.0 rs ≡ Some s.pair.1) (sym s.are) (found_behind s.front s.pair s.back (subst Rises s.are rises)))

-- ---- on the pages

same_table : (a b : database.Table) → (let l : Answer database.Table = Ok a in l) ≡ Ok b → a ≡ b
same_table a b e = cc

same_pair : (a b : TableRow) → (let l : Option TableRow = Some a in l) ≡ Some b → a ≡ b
same_pair a b e = cc

abbrev table_in : Option Object → Answer database.Table
table_in o = elim o [ Some (ATable t) ↦ Ok t | _ ↦ Err NoSuch ]

abbrev pair_in : Row → TableRow
pair_in r = (id_of r, r.values)

pub first_there : FindsListed → (pages : PageMap) (size : ℕ) (l : Listed) (c : Change) (db : Database) (table : Table) → Stores pages size l db → table_named (aim_of c).target l.tables ≡ Some table → (seen : Outer) (w : Option Term) (found : List Row)
    → chosen_rows db seen (aim_of c).target w ≡ Ok found → (first : Option stored.TableRow) → option_map pair_of first ≡ option_map pair_in (slice_get found 0) → IsInTable db (aim_of c).target first
first_there finds pages size l c db table held named seen w found gives first is t r at some = by found gives (ap (option_map pair_of) (sym some) ∙ is)
  where
    n : Name
    n = (aim_of c).target

    h : IsHere c table db
    h = here finds pages size l db c table held named

    rows : List TableRow
    rows = held.rows_at table.root

    object_is : object db n ≡ Some (ATable (with_rows table rows))
    object_is = table_found held.rows_at l db n table held.of_listed.lists named

    read : all_rows db n ≡ Ok (map as_source rows)
    read = ap (rows_of_object _) object_is

    here_is : table_of db n ≡ Ok (with_rows table rows)
    here_is = ap table_in object_is

    fit : are_rows (with_rows table rows) ≡ true
    fit = subst (λ (u : database.Table). are_rows u ≡ true) (same_table (with_rows table h.rows) (with_rows table rows) (sym h.is ∙ here_is)) h.fit

    t_is : with_rows table rows ≡ t
    t_is = same_table (with_rows table rows) t (sym here_is ∙ at)

    by : (found : List Row) → chosen_rows db seen n w ≡ Ok found → option_map pair_of (Some r) ≡ option_map pair_in (slice_get found 0) → row t r.rowid ≡ Some r.values.items
    by [] gives e = absurd cc
    by (f ∷ fs) gives e =
        let pair = same_pair (pair_of r) (pair_in f) e in
        let kept_is = sym (ap (λ (a : Answer (List Row)). a then λ rows. kept (all_answers (map (chosen seen w) rows))) read) ∙ gives in
        let there = found_there rows f (fit_rows_rise (with_rows table rows) fit) (stands seen w rows f fs kept_is) in
        subst (λ (u : database.Table). row u r.rowid ≡ Some r.values.items) t_is
        (subst (λ (p : TableRow). find int_cmp p.0 rows ≡ Some p.1) (sym pair) there)
