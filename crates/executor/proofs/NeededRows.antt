-- Over the rows that are read of a source a query comes to the same as over all.
use Rattle.std.proofs.Common.{◌≡◌, refl, length, inl, inr, sym, ap, subst, ◌∙◌, ℕ, zero, suc, Bool, true, false, List, [], ◌∷◌, map, Option, Some, None, Result, Ok, Err}
use Rattle.std.specs.Option.{is_some}
use Rattle.std.specs.Prelude.{IfNone, IfSome, MatchResult, slice_get, slice_index_or, slice_set}
use Rattle.std.proofs.lemmas.Bool.{true≢false}
use Rattle.std.proofs.lemmas.Option.{none-some, same_Some}
use Rattle.sqlval.specs.Faults.{IsOutside}
use Rattle.sqlval.specs.Refusals.{Answer}
use Rattle.sqlval.specs.declared.fault.Fault.{Fault}
use Rattle.sqlval.specs.declared.value.Value.{Value}
use Rattle.pages.specs.Map.{PageMap}
use Rattle.catalog.specs.declared.tables.Index.{Index}
use Rattle.catalog.specs.declared.tables.Table.{Table}
use Rattle.query_terms.specs.Values.{Row}
use Rattle.query_names.specs.Readings.{rows_over}
use Rattle.query_names.specs.declared.queries.BoundSource.{BoundSource}
use Rattle.query_names.specs.declared.reading.Reading.{Reading}
use Rattle.query_plan.specs.declared.searching.Search.{Search}
use Rattle.query_answer.specs.Nesting.{beside_rows}
use Rattle.query_answer.specs.Searches.{IsScannedAt, IsSearchAt, SearchesAsScans}
use Rattle.row_scan.specs.Sources.{LoadsRows, as_source}
use Rattle.row_search.specs.Found.{FindsSought, HasIndexed}
use Rattle.executor.specs.Reading.{AreRead, IsSameOver, IsScanned, IsSearched, IsSourceOf, LoadsNeeded, LoadsSought, source_table}

set_again : {A : Type 0} (xs : List A) (n : ℕ) (x : A) → slice_get xs n ≡ Some x → slice_set xs n x ≡ xs
set_again [] n x at = (let bad : None ≡ Some x = at in cc)
set_again (y ∷ ys) zero x at = by at
  where
    by : Some y ≡ Some x → x ∷ ys ≡ y ∷ ys
    by e = cc
set_again (y ∷ ys) (suc n) x at = ap (λ zs. y ∷ zs) (set_again ys n x at)

-- the only place of a list
pub only_place : (places : List BoundSource) (d : BoundSource) → length places ≡ 1 → places ≡ slice_index_or places 0 d ∷ []
only_place [] d one = (let bad : 0 ≡ 1 = one in cc)
only_place (place ∷ []) d one = refl
only_place (place ∷ other ∷ places) d one = (let bad : suc (suc (length places)) ≡ 1 = one in cc)

-- ---- whether something is sought of a source

module _ (tables : List Table) (q : Reading) (n : ℕ) where
  -- the source of this number is no table
  pub no_table_scanned : source_table tables q.sources n ≡ None → IsScanned tables q n
  no_table_scanned none table is = absurd (none-some table (sym none ∙ is))

  -- it is a table of which nothing is sought
  pub table_scanned : (table : Table) (indexes : List Index) → indexes ≡ table.indexes → source_table tables q.sources n ≡ Some table → IsScannedAt indexes q n → IsScanned tables q n
  table_scanned table indexes same here scanned other is =
      subst (λ (t : Table). IsScannedAt t.indexes q n) (same_Some table other (sym here ∙ is)) (subst (λ (them : List Index). IsScannedAt them q n) same scanned)

  -- it is a table of which something is sought
  pub table_searched : (table : Table) (indexes : List Index) → indexes ≡ table.indexes → source_table tables q.sources n ≡ Some table → (search : Search) → IsSearchAt indexes q n search → IsSearched tables q n
  table_searched table indexes same here search seeks = (table, search, (here, subst (λ (them : List Index). IsSearchAt them q n search) same seeks))

  module _ (table : Table) (indexes : List Index) (same : indexes ≡ table.indexes) (here : source_table tables q.sources n ≡ Some table) (found : Option Search) (seeks : Bool) (is : seeks ≡ is_some found) where
    pub seen : IfSome found (λ search. IsSearchAt indexes q n search) → seeks ≡ true → IsSearched tables q n
    seen = by found is
      where
        by : (f : Option Search) → seeks ≡ is_some f → IfSome f (λ search. IsSearchAt indexes q n search) → seeks ≡ true → IsSearched tables q n
        by None none at sought = absurd (true≢false (sym sought ∙ none))
        by (Some it) one at sought = table_searched table indexes same here it at

    pub unseen : IfNone found (IsScannedAt indexes q n) → seeks ≡ false → IsScanned tables q n
    unseen = by found is
      where
        by : (f : Option Search) → seeks ≡ is_some f → IfNone f (IsScannedAt indexes q n) → seeks ≡ false → IsScanned tables q n
        by None none at nothing = table_scanned table indexes same here at
        by (Some it) one at nothing = absurd (true≢false (sym one ∙ nothing))

-- ---- the rows that are read

module _ (pages : PageMap) (size : ℕ) (tables : List Table) (q : Reading) (n : ℕ) (place : BoundSource) where
  abbrev over : List (List Row) → Answer (List (List Value))
  over lists = rows_over q [] (beside_rows q.sources lists)

  pub all_read : (result : Result (List Row) Fault) → LoadsRows pages size place result → LoadsNeeded pages size tables q n place result
  all_read (Err e) loads rows source = loads rows source.whole source.has
  all_read (Ok found) loads rows source = λ lists at.
      ap over (sym (ap (slice_set lists n) (loads rows source.whole source.has) ∙ set_again lists n (map as_source rows) at))

  pub found_read : SearchesAsScans → (table : Table) (indexes : List Index) → indexes ≡ table.indexes → IsSourceOf tables q.sources n table → (search : Search) → IsSearchAt indexes q n search
      → (result : Result (List Row) Fault) → FindsSought pages size place indexes search result → LoadsNeeded pages size tables q n place result
  found_read law table indexes same named search seeks result finds rows source = by result finds
    where
      held : HasIndexed pages size place indexes rows
      held = subst (λ (them : List Index). HasIndexed pages size place them rows) (sym same) (source.indexed table named)

      by : (result : Result (List Row) Fault) → FindsSought pages size place indexes search result → MatchResult result (λ found. IsSameOver q n found (map as_source rows)) IsOutside
      by (Err e) finds = finds rows held
      by (Ok found) finds = λ lists at. law indexes q n search seeks lists (map as_source rows) at ∙ ap (λ (them : List Row). over (slice_set lists n them)) (sym (finds rows held))

  -- ---- exactly which rows are read

  pub all_exact : IsScanned tables q n → (result : Result (List Row) Fault) → LoadsRows pages size place result → LoadsSought pages size tables q n place result
  all_exact scanned (Err e) loads rows source = loads rows source.whole source.has
  all_exact scanned (Ok found) loads rows source = inr (scanned, loads rows source.whole source.has)

  pub found_exact : (table : Table) (indexes : List Index) → indexes ≡ table.indexes → IsSourceOf tables q.sources n table → (search : Search) → IsSearchAt indexes q n search
      → (result : Result (List Row) Fault) → FindsSought pages size place indexes search result → LoadsSought pages size tables q n place result
  found_exact table indexes same named search seeks result finds rows source = by result (subst (λ (them : List Index). FindsSought pages size place them search result) same finds)
    where
      by : (result : Result (List Row) Fault) → FindsSought pages size place table.indexes search result → MatchResult result (λ found. AreRead tables q n found (map as_source rows)) IsOutside
      by (Err e) finds = finds rows (source.indexed table named)
      by (Ok found) finds = inl (table, search, (named, subst (λ (them : List Index). IsSearchAt them q n search) same seeks), finds rows (source.indexed table named))
