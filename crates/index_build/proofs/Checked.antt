-- The entries of an index's tree are checked against those of its table's rows.
use Rattle.std.proofs.Common.{◌≡◌, inl, inr, sym, subst, ◌∙◌, ℕ, Bool, true, List, map, IsTrue, Ok, Err}
use Rattle.std.specs.Ordering.{int_cmp}
use Rattle.std.specs.Prelude.{Result, ⊤, IsErrAnd}
use Rattle.sqlval.specs.Lists.{is_rising}
use Rattle.sqlval.specs.declared.collation.Collation.{Collation}
use Rattle.sqlval.specs.declared.fault.Fault.{Fault}
use Rattle.pages.specs.Calls.{Limits}
use Rattle.pages.specs.Map.{PageMap}
use Rattle.query_terms.specs.Values.{Row}
use Rattle.query_names.specs.declared.queries.BoundSource.{BoundSource}
use Rattle.catalog.specs.declared.tables.IndexColumn.{IndexColumn}
use Rattle.catalog.specs.declared.tables.RowShape.{RowShape}
use Rattle.row_scan.specs.Rows.{TableRow}
use Rattle.row_scan.specs.Sources.{LoadsRows, as_source}
use Rattle.row_scan.specs.Trees.{HasRows}
use Rattle.row_scan.proofs.RowOrder.{rowids_rise}
use Rattle.row_scan.proofs.TreeOrder.{tree_rises}
use Rattle.tree_index.specs.Entries.{Entry}
use Rattle.index_entries.specs.Entries.{entries_of_rows}
use Rattle.index_entries.specs.Keeping.{columns_in}
use Rattle.index_build.specs.Calls.{AreThose, ChecksEntries}
use Rattle.index_build.specs.Checking.{AreOfRows, ComparesEntries, SaysWhether}
use Rattle.index_build.proofs.Theirs.{are_theirs, sources_rise, theirs_are}

-- the rowids of a tree's rows rise
rise : (pages : PageMap) (size root : ℕ) (shape : RowShape) (rows : List TableRow) → HasRows pages size root shape rows → is_rising int_cmp (map (λ r. r.0) rows) ≡ true
rise pages size root shape rows has = rowids_rise shape has.entries rows (tree_rises pages size root has.entries has.used has.tree) has.each

-- what is said of one fact holds of another that it follows from and leads to
said_of : (root : ℕ) (A : Type 0) (there should : List Entry) (result : Result ⊤ Fault) → (A → there ≡ should) → (there ≡ should → A) → SaysWhether root A result → AreThose root there should result
said_of root A there should (Ok done) to from says = to says
said_of root A there should (Err fault) to from says = elim says [
  | inl outside ↦ inl outside
  | inr other ↦ inr (other.0, λ e. other.1 (from e))
]

-- the table's rows aren't read
pub rows_not_read : (pages : PageMap) (size root : ℕ) (table : BoundSource) (columns : List IndexColumn) (fault : Fault) (result : Result ⊤ Fault) → LoadsRows pages size table (Err fault)
    → IsErrAnd result (λ e. e ≡ fault) → ChecksEntries pages size root table columns result
rows_not_read pages size root table columns fault (Ok done) loads same = absurd same
rows_not_read pages size root table columns fault (Err e) loads same = λ there used rows whole tree has.
    subst (λ (f : Fault). AreThose root there (entries_of_rows (columns_in columns) rows) (Err f)) (sym same) (inl (loads rows whole has))

-- they are compared
pub entries_checked : {P K : Type 0} (below : P → K) (tells : K → Bool) (limits : K → Limits) (pages : P → PageMap) (old mid : P) (root : ℕ) (table : BoundSource) (columns : List IndexColumn)
    (collations : List Collation) → collations ≡ map (λ column. column.collation) columns → (compared found : List Row) → compared ≡ found → (result : Result ⊤ Fault) → below mid ≡ below old → pages mid ≡ pages old
    → LoadsRows (pages old) (limits (below old)).page table (Ok found)
    → (IsTrue (tells (below mid)) → ComparesEntries (pages mid) (limits (below mid)).page root columns collations compared result)
    → IsTrue (tells (below old)) → ChecksEntries (pages old) (limits (below old)).page root table columns result
entries_checked {P} {K} below tells limits pages old mid root table columns collations collations_are compared found compared_are result kept same loads compares told = λ there used rows whole tree has.
    (let size = (limits (below old)).page in
    let now : ComparesEntries (pages old) size root columns collations compared result =
    subst (λ (m : PageMap). ComparesEntries m size root columns collations compared result) same
    (subst (λ (k : K). ComparesEntries (pages mid) (limits k).page root columns collations compared result) kept (compares (subst (λ (k : K). IsTrue (tells k)) (sym kept) told))) in
    let those : ComparesEntries (pages old) size root columns (map (λ column. column.collation) columns) (map as_source rows) result =
    subst (λ (l : List Row). ComparesEntries (pages old) size root columns (map (λ column. column.collation) columns) l result) (compared_are ∙ loads rows whole has)
    (subst (λ (l : List Collation). ComparesEntries (pages old) size root columns l compared result) collations_are now) in
    let rises = rise (pages old) size table.root table.shape rows has in
    said_of root (AreOfRows columns (map as_source rows) there) there (entries_of_rows (columns_in columns) rows) result (are_theirs columns rows there rises tree.sorted) (theirs_are columns rows there)
    (those there used (sources_rise rows rises) whole tree))
