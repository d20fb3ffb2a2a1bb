-- The entries of rows.
use Rattle.std.proofs.Common.{◌≡◌, ◌++◌, refl, sym, ap, subst, Ok, Err, ◌∙◌, ℕ, suc, List, [], ◌∷◌, map, slice_index_or}
use Rattle.std.specs.List.{AllByRecursion}
use Rattle.std.specs.Prelude.{Result, IsErrAnd}
use Rattle.sqlval.specs.Faults.{IsOutside}
use Rattle.sqlval.specs.Lists.{sorted}
use Rattle.sqlval.specs.declared.fault.Fault.{Fault}
use Rattle.sqlval.specs.declared.value.Value.{Value}
use Rattle.sqlval.specs.declared.value.Value.TheVariants.{Null, Int}
use Rattle.pages.specs.Map.{PageMap}
use Rattle.query_terms.specs.Values.{Row}
use Rattle.query_names.specs.declared.queries.BoundSource.{BoundSource}
use Rattle.row_scan.specs.Rows.{TableRow}
use Rattle.row_scan.specs.Sources.{LoadsRows, as_source}
use Rattle.tree_index.specs.Entries.{Entry, entry_cmp}
use Rattle.index_build.specs.Calls.{SortsEntries}
use Rattle.index_entries.specs.Entries.{indexed, entries_of_rows}
use Rattle.index_entries.specs.Keeping.{columns_in}
use Rattle.index_build.specs.Ranking.{indexed_of, ranked}
use Rattle.catalog.specs.declared.tables.IndexColumn.{IndexColumn}
use Rattle.index_build.proofs.Ranks.{IsWhole, collations, ranks, sorted_same}

columns_same : (values : List Value) (columns : List IndexColumn) → map (λ column. slice_index_or values column.place Null) columns ≡ map (λ column. slice_index_or values column.0 Null) (columns_in columns)
columns_same values [] = refl
columns_same values (column ∷ columns) = ap (λ (l : List Value). slice_index_or values column.place Null ∷ l) (columns_same values columns)

-- the entries of rows as a source has them
pub rows_same : (columns : List IndexColumn) (rows : List TableRow) → map (indexed_of columns) (map as_source rows) ≡ map (indexed (columns_in columns)) rows
rows_same columns [] = refl
rows_same columns (row ∷ rows) =
    ap (λ (l : List Value). (l ++ Int row.0 ∷ []) ∷ map (indexed_of columns) (map as_source rows)) (columns_same row.1 columns)
    ∙ ap (λ (l : List Entry). indexed (columns_in columns) row ∷ l) (rows_same columns rows)

pub collations_same : (columns : List IndexColumn) → collations columns ≡ map (λ column. column.1) (columns_in columns)
collations_same [] = refl
collations_same (column ∷ columns) = ap (λ l. column.collation ∷ l) (collations_same columns)

-- the entry of a row is whole
pub is_whole : (values : List Value) (rowid : Value) (columns : List IndexColumn) → IsWhole columns (map (λ column. slice_index_or values column.place Null) columns ++ rowid ∷ [])
is_whole values rowid [] = refl
is_whole values rowid (column ∷ columns) = ap suc (is_whole values rowid columns)

all_whole : (columns : List IndexColumn) (rows : List Row) → AllByRecursion (IsWhole columns) (map (indexed_of columns) rows)
all_whole columns [] = tt
all_whole columns (row ∷ rows) = (is_whole row.values row.rowid columns, all_whole columns rows)

-- sorted entries of a table's rows are those of an index
pub sorted_rows : (columns : List IndexColumn) (rows : List TableRow) → sorted (ranked 0 columns) (map (indexed_of columns) (map as_source rows)) ≡ entries_of_rows (columns_in columns) rows
sorted_rows columns rows =
    sorted_same (IsWhole columns) (ranked 0 columns) (entry_cmp (collations columns)) (ranks columns) (map (indexed_of columns) (map as_source rows)) (all_whole columns (map as_source rows))
    ∙ (ap (sorted (entry_cmp (collations columns))) (rows_same columns rows) ∙ ap (λ l. sorted (entry_cmp l) (map (indexed (columns_in columns)) rows)) (collations_same columns))

abbrev fine : {A : Type 0} → A → Result A Fault
fine x = Ok x

-- the rows weren't read
pub not_sorted : (pages : PageMap) (size : ℕ) (table : BoundSource) (columns : List IndexColumn) (fault : Fault) (result : Result (List Entry) Fault) → LoadsRows pages size table (Err fault)
    → IsErrAnd result (λ e. e ≡ fault) → SortsEntries pages size table columns result
not_sorted pages size table columns fault (Ok found) loads same = absurd same
not_sorted pages size table columns fault (Err e) loads same = λ rows whole has. subst IsOutside (sym same) (loads rows whole has)

-- the entries were sorted
pub are_sorted : (pages : PageMap) (size : ℕ) (table : BoundSource) (columns : List IndexColumn) (rows : List Row) (entries found : List Entry) → LoadsRows pages size table (Ok rows)
    → entries ≡ map (indexed_of columns) rows → found ≡ sorted (ranked 0 columns) entries → SortsEntries pages size table columns (Ok found)
are_sorted pages size table columns rows entries found loads entries_are found_is = λ all whole has.
    (found_is ∙ (ap (sorted (ranked 0 columns)) (entries_are ∙ ap (map (indexed_of columns)) (loads all whole has)) ∙ sorted_rows columns all))
