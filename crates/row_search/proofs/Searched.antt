-- The rows of a table that an index finds.
use Rattle.std.proofs.Common.{◌≡◌, refl, sym, ap, subst, ◌∙◌, ℕ, ℤ, List, [], ◌∷◌, filter, map, Option, Some, None, Ok, Err, arith}
use Rattle.std.specs.List.{flat_map}
use Rattle.std.specs.Prelude.{Result, IsErrAnd}
use Rattle.sqlval.specs.Faults.{IsOutside}
use Rattle.sqlval.specs.declared.collation.Collation.{Collation}
use Rattle.sqlval.specs.declared.fault.Fault.{Fault}
use Rattle.sqlval.specs.declared.value.Value.{Value}
use Rattle.pages.specs.Map.{PageMap}
use Rattle.query_terms.specs.Values.{Row}
use Rattle.query_names.specs.declared.queries.BoundSource.{BoundSource}
use Rattle.row_scan.specs.Sources.{as_source, rows_at}
use Rattle.row_scan.proofs.RowOrder.{rowids_rise}
use Rattle.row_scan.proofs.TreeOrder.{tree_rises}
use Rattle.index_entries.specs.Entries.{collations, entries_of_rows}
use Rattle.index_entries.specs.Keeping.{columns_in}
use Rattle.catalog.specs.declared.tables.IndexColumn.{IndexColumn}
use Rattle.row_search.specs.Finding.{FindsRowids}
use Rattle.row_search.specs.Loading.{LoadsRowsOf}
use Rattle.row_search.specs.Searching.{LoadsInRange, LoadsKeyed, LoadsSought}
use Rattle.query_plan.specs.declared.ranges.Range.{Range}
use Rattle.row_search.proofs.Keyed.{all_end, has_so, lies_so, sought_found}

collations_same : (columns : List IndexColumn) → map (λ column. column.collation) columns ≡ collations (columns_in columns)
collations_same [] = refl
collations_same (column ∷ columns) = ap (λ (l : List Collation). column.collation ∷ l) (collations_same columns)

module _ (pages : PageMap) (size root : ℕ) (table : BoundSource) (columns : List IndexColumn) (key : List Value) (range : Option Range) (under : List Collation) (under_is : under ≡ map (λ column. column.collation) columns) where
  -- what was found, under the collations of the columns
  since : (result : Result (List ℤ) Fault) → FindsRowids pages size root under key range result → FindsRowids pages size root (collations (columns_in columns)) key range result
  since result finds = subst (λ (l : List Collation). FindsRowids pages size root l key range result) (under_is ∙ collations_same columns) finds

  -- the rowids aren't found
  pub not_searched : (fault : Fault) (result : Result (List Row) Fault) → FindsRowids pages size root under key range (Err fault) → IsErrAnd result (λ e. e ≡ fault)
      → LoadsSought pages size table root columns key range result
  not_searched fault (Ok rows) finds same = absurd same
  not_searched fault (Err e) finds same = λ rows used whole has tree le.
      subst IsOutside (sym same) (since (Err fault) finds (entries_of_rows (columns_in columns) rows) used whole tree (all_end (columns_in columns) rows))

  -- the rows are those of the rowids
  pub searched : (rowids : List ℤ) (result : Result (List Row) Fault) → FindsRowids pages size root under key range (Ok rowids) → LoadsRowsOf pages size table rowids result
      → LoadsSought pages size table root columns key range result
  searched rowids (Err fault) finds loads = λ rows used whole has tree le. loads rows whole has
  searched rowids (Ok found) finds loads = λ rows used whole has tree le.
      (let are = since (Ok rowids) finds (entries_of_rows (columns_in columns) rows) used whole tree (all_end (columns_in columns) rows) in
      let rise = rowids_rise table.shape has.entries rows (tree_rises pages size table.root has.entries has.used has.tree) has.each in
      loads rows whole has
      ∙ ap (map as_source) (ap (flat_map (λ rowid. rows_at rowid rows)) are ∙ sought_found columns key range rows le tree.sorted rise))

-- ---- by what the rows have

module _ (pages : PageMap) (size root : ℕ) (table : BoundSource) (columns : List IndexColumn) (key : List Value) where
  -- without a range they have the key
  pub of_key : (result : Result (List Row) Fault) → LoadsSought pages size table root columns key None result → LoadsKeyed pages size table root columns key result
  of_key (Err fault) loads = loads
  of_key (Ok found) loads = λ rows used whole has tree le.
      (loads rows used whole has tree le ∙ ap (map as_source) (λ i. filter (λ row. has_so columns key row le i) rows))

  pub of_range : (range : Range) (result : Result (List Row) Fault) → LoadsSought pages size table root columns key (Some range) result → LoadsInRange pages size table root columns key range result
  of_range range (Err fault) loads = λ rows used whole has tree lt. loads rows used whole has tree (omega (arith, lt))
  of_range range (Ok found) loads = λ rows used whole has tree lt.
      (loads rows used whole has tree (omega (arith, lt)) ∙ ap (map as_source) (λ i. filter (λ row. lies_so columns key range row lt i) rows))
