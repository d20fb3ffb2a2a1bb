-- The rows that a search finds, as a query's source has them, and that the others aren't needed.
use Rattle.std.proofs.Common.{◌≡◌, inl, refl, sym, ap, subst, ◌∙◌, ℕ, ℤ, Bool, true, false, not, ◌||◌, ◌&&◌, cond, zero, suc, ◌≤◌, ◌<◌, List, [], ◌∷◌, map, length, Option, Some, None, Ok, Err, arith}
use Rattle.std.specs.List.{AllByRecursion}
use Rattle.std.specs.Ordering.{int_eq}
use Rattle.std.specs.Prelude.{MatchResult, Result, filter, int_lt, slice_get}
use Rattle.std.proofs.lemmas.Option.{same_Some, slice_get_within}
use Rattle.sqlval.specs.Conversion.{is_word}
use Rattle.sqlval.specs.Faults.{IsOutside}
use Rattle.sqlval.specs.declared.fault.Fault.{Fault}
use Rattle.sqlval.specs.declared.value.Value.{Value}
use Rattle.pages.specs.Map.{PageMap}
use Rattle.catalog.specs.declared.tables.Index.{Index}
use Rattle.catalog.specs.declared.tables.IndexColumn.{IndexColumn}
use Rattle.query_terms.specs.Terms.{Term}
use Rattle.query_terms.specs.Values.{Row}
use Rattle.query_names.specs.declared.queries.BoundSource.{BoundSource}
use Rattle.query_plan.specs.Asking.{IsChosen}
use Rattle.query_plan.specs.Keys.{AreAsked, SeeksKey, has_key}
use Rattle.query_plan.specs.Ranges.{SeeksRange, has_range, is_outside}
use Rattle.query_plan.specs.Searching.{IsSought, has_other, is_found}
use Rattle.query_plan.specs.declared.ranges.Range.{Range}
use Rattle.query_plan.specs.declared.searching.Search.{Search}
use Rattle.query_plan.specs.declared.searching.Search.TheVariants.{Rowid, Rowids, Key, Range as InRange}
use Rattle.row_scan.specs.Rows.{TableRow}
use Rattle.row_scan.specs.Sources.{LoadsRows, LoadsRowsAt, as_source, rows_at}
use Rattle.row_search.specs.Between.{LoadsBetween, is_from_to}
use Rattle.row_search.specs.Found.{AreNeeded, FindsNeeded, FindsSought, HasEntriesOf, HasIndexed}
use Rattle.row_search.specs.Searching.{LoadsInRange, LoadsKeyed}
use Rattle.row_search.proofs.LookedUp.{chosen_through}

-- ---- the rows that are found, as a query's source has them

-- tests that agree choose the same
agreeing : (t u : TableRow → Bool) (rows : List TableRow) → AllByRecursion (λ (row : TableRow). t row ≡ u row) rows → filter t rows ≡ filter u rows
agreeing t u [] agree = refl
agreeing t u (row ∷ rows) agree = ap (λ test. cond test (row ∷ filter t rows) (filter t rows)) agree.0 ∙ ap (λ them. cond (u row) (row ∷ them) them) (agreeing t u rows agree.1)

-- of rows, and of the same as a source has them
chosen_as : (t : TableRow → Bool) (u : Row → Bool) (rows : List TableRow) → AllByRecursion (λ (row : TableRow). t row ≡ u (as_source row)) rows
    → map as_source (filter t rows) ≡ filter u (map as_source rows)
chosen_as t u rows agree = ap (map as_source) (agreeing t (λ row. u (as_source row)) rows agree) ∙ sym (chosen_through u as_source rows)

everywhere : (P : TableRow → Type 0) (rows : List TableRow) → ((row : TableRow) → P row) → AllByRecursion P rows
everywhere P [] all = tt
everywhere P (row ∷ rows) all = (all row, everywhere P rows all)

no_no : (b : Bool) → b ≡ not (not b)
no_no true = refl
no_no false = refl

at_rowid : (rowid : ℤ) (rows : List TableRow) → map as_source (rows_at rowid rows) ≡ filter (λ row. not (has_other rowid row)) (map as_source rows)
at_rowid rowid rows = chosen_as _ _ rows (everywhere _ rows (λ row. no_no (int_eq row.0 rowid)))

between : (low high : ℤ) (rows : List TableRow) → AllByRecursion (λ (row : TableRow). is_word row.0 ≡ true) rows
    → map as_source (filter (λ row. is_from_to low high row.0) rows) ≡ filter (λ row. not (is_outside low high row)) (map as_source rows)
between low high rows words = chosen_as _ _ rows (agree rows words)
  where
    agree : (rows : List TableRow) → AllByRecursion (λ (row : TableRow). is_word row.0 ≡ true) rows
        → AllByRecursion (λ (row : TableRow). is_from_to low high row.0 ≡ not (is_word row.0 && (int_lt row.0 low || int_lt high row.0))) rows
    agree [] words = tt
    agree (row ∷ rows) words = (ap (λ test. not (test && (int_lt row.0 low || int_lt high row.0))) (sym words.0), agree rows words.1)

keyed : (columns : List IndexColumn) (key : List Value) (rows : List TableRow)
    → map as_source (filter (λ row. has_key columns key row.1) rows) ≡ filter (λ row. has_key columns key row.values) (map as_source rows)
keyed columns key rows = sym (chosen_through (λ row. has_key columns key row.values) as_source rows)

ranged : (columns : List IndexColumn) (key : List Value) (range : Range) (rows : List TableRow)
    → map as_source (filter (λ row. has_range columns key range row.1) rows) ≡ filter (λ row. has_range columns key range row.values) (map as_source rows)
ranged columns key range rows = sym (chosen_through (λ row. has_range columns key range row.values) as_source rows)

-- ---- the index at a place

-- what is so of all is so of the one at a place
one_at : {A : Type 0} (P : A → Type 0) (xs : List A) (place : ℕ) (x : A) → slice_get xs place ≡ Some x → AllByRecursion P xs → P x
one_at P [] place x at all = (let bad : None ≡ Some x = at in cc)
one_at P (y ∷ ys) zero x at all = subst P (same_Some y x at) all.0
one_at P (y ∷ ys) (suc n) x at all = one_at P ys n x at all.1

-- a key isn't longer than the columns of its index
short : (n : ℕ) (columns : List IndexColumn) (key : List Value) (condition : Term) → AreAsked n columns key condition → length key ≤ length columns
short n columns [] condition asked = omega arith
short n [] (k ∷ key) condition asked = absurd asked
short n (column ∷ columns) (k ∷ key) condition asked = (let more = short n columns key condition asked.1 in omega (arith, more))

-- a place isn't empty and taken
pub no_item : {A : Type 0} (found : Option A) (x : A) → found ≡ Some x → found ≡ None → ⊥
no_item found x is none = (let bad : None ≡ Some x = sym none ∙ is in cc)

-- whether a row is found of the index at a place, where there is one
abbrev found_of : Option Index → (Index → Bool) → Bool
found_of at test = elim at [ None ↦ true | Some index ↦ test index ]

-- ---- what each search finds

module _ (pages : PageMap) (size : ℕ) (table : BoundSource) (indexes : List Index) where
  pub rowid_found : (rowid : ℤ) (result : Result (List Row) Fault) → LoadsRowsAt pages size table rowid result → FindsSought pages size table indexes (Rowid rowid) result
  rowid_found rowid (Err e) loads rows held = loads rows held.whole held.has
  rowid_found rowid (Ok found) loads rows held = loads rows held.whole held.has ∙ at_rowid rowid rows

  pub rowids_found : (low high : ℤ) (result : Result (List Row) Fault) → LoadsBetween pages size table low high result → FindsSought pages size table indexes (Rowids low high) result
  rowids_found low high (Err e) loads rows held = loads rows held.whole held.has
  rowids_found low high (Ok found) loads rows held = loads rows held.whole held.has ∙ between low high rows held.words

  module _ (place : ℕ) (index : Index) (there : slice_get indexes place ≡ Some index) where
    -- the index at the place is this one
    same_index : (other : Index) → slice_get indexes place ≡ Some other → other ≡ index
    same_index other is = same_Some other index (sym is ∙ there)

    entries_at : (other : Index) → slice_get indexes place ≡ Some other → (rows : List TableRow) → HasIndexed pages size table indexes rows → HasEntriesOf pages size rows index
    entries_at other is rows held = subst (HasEntriesOf pages size rows) (same_index other is) (one_at (HasEntriesOf pages size rows) indexes place other is held.entries)

    pub key_found : (n : ℕ) (condition : Term) (key : List Value) (result : Result (List Row) Fault) → IsSought indexes n condition (Key place key)
        → LoadsKeyed pages size table index.root index.columns key result → FindsSought pages size table indexes (Key place key) result
    key_found n condition key result sought loads rows held = by result loads
      where
        seeks : SeeksKey n condition index.columns key
        seeks = subst (λ (i : Index). SeeksKey n condition i.columns key) (same_index sought.0 sought.1) sought.2

        few : length key ≤ length index.columns
        few = short n index.columns key condition seeks.asked

        chosen : filter (λ row. has_key index.columns key row.values) (map as_source rows) ≡ filter (is_found indexes (Key place key)) (map as_source rows)
        chosen = ap (λ (found : Option Index). filter (λ (row : Row). found_of found (λ (i : Index). has_key i.columns key row.values)) (map as_source rows)) (sym there)

        by : (result : Result (List Row) Fault) → LoadsKeyed pages size table index.root index.columns key result
            → MatchResult result (λ found. found ≡ filter (is_found indexes (Key place key)) (map as_source rows)) IsOutside
        by (Err e) loads = loads rows (entries_at sought.0 sought.1 rows held).0 held.whole held.has (entries_at sought.0 sought.1 rows held).1 few
        by (Ok found) loads =
            loads rows (entries_at sought.0 sought.1 rows held).0 held.whole held.has (entries_at sought.0 sought.1 rows held).1 few
            ∙ (keyed index.columns key rows ∙ chosen)

    pub range_found : (n : ℕ) (condition : Term) (key : List Value) (range : Range) (result : Result (List Row) Fault) → IsSought indexes n condition (InRange place key range)
        → LoadsInRange pages size table index.root index.columns key range result → FindsSought pages size table indexes (InRange place key range) result
    range_found n condition key range result sought loads rows held = by result loads
      where
        seeks : SeeksRange n condition index.columns key range
        seeks = subst (λ (i : Index). SeeksRange n condition i.columns key range) (same_index sought.0 sought.1) sought.2

        few : length key < length index.columns
        few = slice_get_within index.columns (length key) seeks.column seeks.next

        chosen : filter (λ row. has_range index.columns key range row.values) (map as_source rows) ≡ filter (is_found indexes (InRange place key range)) (map as_source rows)
        chosen = ap (λ (found : Option Index). filter (λ (row : Row). found_of found (λ (i : Index). has_range i.columns key range row.values)) (map as_source rows)) (sym there)

        by : (result : Result (List Row) Fault) → LoadsInRange pages size table index.root index.columns key range result
            → MatchResult result (λ found. found ≡ filter (is_found indexes (InRange place key range)) (map as_source rows)) IsOutside
        by (Err e) loads = loads rows (entries_at sought.0 sought.1 rows held).0 held.whole held.has (entries_at sought.0 sought.1 rows held).1 few
        by (Ok found) loads =
            loads rows (entries_at sought.0 sought.1 rows held).0 held.whole held.has (entries_at sought.0 sought.1 rows held).1 few
            ∙ (ranged index.columns key range rows ∙ chosen)

  -- ---- what a condition needs

  pub all_needed : (condition : Option Term) → ((all : List Row) → AreNeeded indexes condition all all) → (result : Result (List Row) Fault) → LoadsRows pages size table result
      → FindsNeeded pages size table indexes condition result
  all_needed condition are (Err e) loads rows held = loads rows held.whole held.has
  all_needed condition are (Ok found) loads rows held =
      subst (λ (them : List Row). AreNeeded indexes condition them (map as_source rows)) (sym (loads rows held.whole held.has)) (are (map as_source rows))

  pub found_needed : (condition : Term) (search : Search) (result : Result (List Row) Fault) → IsSought indexes 0 condition search → IsChosen indexes 0 condition search
      → FindsSought pages size table indexes search result → FindsNeeded pages size table indexes (Some condition) result
  found_needed condition search (Err e) sought chosen finds rows held = finds rows held
  found_needed condition search (Ok found) sought chosen finds rows held = inl (search, sought, chosen, finds rows held)
