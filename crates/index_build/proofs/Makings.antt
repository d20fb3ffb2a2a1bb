-- The tree of a new index.
use Rattle.std.proofs.Common.{◌≡◌, inl, refl, sym, subst, ◌+◌, ℕ, ℤ, ◌<ℤ◌, int_lt, Bool, true, false, cond, ◌&&◌, List, [], ◌∷◌, length, map, Ok, Err, arith}
use Rattle.std.proofs.lemmas.Int.{ints}
use Rattle.std.specs.List.{AllByRecursion}
use Rattle.std.specs.Ordering.{int_cmp, is_lt}
use Rattle.std.specs.declared.cmp.Ordering.TheVariants.{Less, Equal, Greater}
use Rattle.std.specs.Prelude.{Result, IsErrAnd, MatchResult}
use Rattle.sqlval.specs.Faults.{IsOutside}
use Rattle.sqlval.specs.Lists.{is_rising}
use Rattle.sqlval.specs.declared.fault.Fault.{Fault}
use Rattle.pages.specs.Map.{PageMap}
use Rattle.freelist.specs.Calls.{AreFree}
use Rattle.query_names.specs.declared.queries.BoundSource.{BoundSource}
use Rattle.catalog.specs.declared.tables.RowShape.{RowShape}
use Rattle.row_scan.specs.Rows.{TableRow}
use Rattle.row_scan.specs.Trees.{HasRows}
use Rattle.row_scan.proofs.RowOrder.{rowids_rise}
use Rattle.row_scan.proofs.TreeOrder.{tree_rises}
use Rattle.tree_index.specs.Entries.{Entry, AreEntries}
use Rattle.tree_index.specs.Filling.{IsFilled, IsFillRefusal, FillsTree}
use Rattle.tree_index.proofs.LastEntries.{rise_with}
use Rattle.index_entries.specs.Entries.{AreApart, Columns, collations, entries_of_rows, indexed}
use Rattle.index_entries.specs.Keeping.{columns_in}
use Rattle.catalog.specs.declared.tables.IndexColumn.{IndexColumn}
use Rattle.index_entries.proofs.Rows.{adds_its_entry}
use Rattle.index_build.specs.Calls.{SortsEntries}
use Rattle.index_build.specs.Making.{MakesIndex}

-- ---- rows by rising rowid are apart

both_of : (a b : Bool) → a && b ≡ true → (a ≡ true) × (b ≡ true)
both_of true b e = (refl, e)
both_of false b e = absurd cc

comes_before : (a b : ℤ) → is_lt (int_cmp a b) ≡ true → a <ℤ b
comes_before a b h = by_tests (int_lt a b) (int_lt b a) refl h
  where
    by_tests : (t u : Bool) → int_lt a b ≡ t → is_lt (cond t Less (cond u Greater Equal)) ≡ true → a <ℤ b
    by_tests true u e h = grind (arith, e)
    by_tests false true e h = absurd cc
    by_tests false false e h = absurd cc

-- rows that rise from a rowid on are above it
are_above : (low : ℤ) (rows : List TableRow) → is_rising int_cmp (low ∷ map (λ r. r.0) rows) ≡ true → AllByRecursion (λ (row : TableRow). low <ℤ row.0) rows
are_above low [] rises = tt
are_above low (row ∷ rows) rises =
    let both = both_of (is_lt (int_cmp low row.0)) (is_rising int_cmp (row.0 ∷ map (λ r. r.0) rows)) rises in
    let first = comes_before low row.0 both.0 in
    (first, lower first rows (are_above row.0 rows both.1))
  where
    lower : low <ℤ row.0 → (rows : List TableRow) → AllByRecursion (λ (other : TableRow). row.0 <ℤ other.0) rows → AllByRecursion (λ (other : TableRow). low <ℤ other.0) rows
    lower first [] all = tt
    lower first (other ∷ rows) all = ((let next = all.0 in omega (arith, ints, first, next)), lower first rows all.1)

others : (low : ℤ) (rows : List TableRow) → AllByRecursion (λ (row : TableRow). low <ℤ row.0) rows → AllByRecursion (λ (row : TableRow). low ≡ row.0 → ⊥) rows
others low [] all = tt
others low (row ∷ rows) all = ((λ e. let lt = all.0 in omega (arith, ints, lt, e)), others low rows all.1)

rest_rises : (row : TableRow) (rows : List TableRow) → is_rising int_cmp (map (λ r. r.0) (row ∷ rows)) ≡ true → is_rising int_cmp (map (λ r. r.0) rows) ≡ true
rest_rises row [] rises = refl
rest_rises row (next ∷ rows) rises = (both_of (is_lt (int_cmp row.0 next.0)) (is_rising int_cmp (next.0 ∷ map (λ r. r.0) rows)) rises).1

pub are_apart : (rows : List TableRow) → is_rising int_cmp (map (λ r. r.0) rows) ≡ true → AreApart rows
are_apart [] rises = tt
are_apart (row ∷ rows) rises = (others row.0 rows (are_above row.0 rows rises), are_apart rows (rest_rises row rows rises))

-- ---- their entries rise

entry_long : (columns : Columns) (row : TableRow) → length (indexed columns row) ≡ length (collations columns) + 1
entry_long [] row = refl
entry_long (column ∷ columns) row = (let e = entry_long columns row in omega (arith, e))

entries_rise : (columns : Columns) (rows : List TableRow) → AreApart rows → AreEntries (collations columns) (entries_of_rows columns rows)
entries_rise columns [] apart = record { whole = tt; rising = refl }
entries_rise columns (row ∷ rows) apart =
    rise_with (collations columns) (indexed columns row) (entries_of_rows columns rows) (entries_rise columns rows apart.1) (adds_its_entry columns [] rows row apart).0 (entry_long columns row)

-- the rows of a table's tree have entries that rise
pub rows_entries : (pages : PageMap) (size root : ℕ) (shape : RowShape) (columns : Columns) (rows : List TableRow) → HasRows pages size root shape rows → AreEntries (collations columns) (entries_of_rows columns rows)
rows_entries pages size root shape columns rows has =
    entries_rise columns rows (are_apart rows (rowids_rise shape has.entries rows (tree_rises pages size root has.entries has.used has.tree) has.each))

-- ---- the call

-- the rows aren't read, or memory is short
pub not_made : (old new : PageMap) (size : ℕ) (table : BoundSource) (columns : List IndexColumn) (fault : Fault) (result : Result ℕ Fault) → IsErrAnd result (λ e. e ≡ fault)
    → ((rows : List TableRow) (free : List ℕ) → AreFree old size free → HasRows old size table.root table.shape rows → IsOutside fault) → MakesIndex old new size table columns result
not_made old new size table columns fault (Ok root) is why = absurd is
not_made old new size table columns fault (Err e) is why = λ rows free free_are sized has. inl (inl (subst IsOutside (sym is) (why rows free free_are has)))

-- its tree was filled
pub index_made : (old new : PageMap) (size : ℕ) (table : BoundSource) (columns : List IndexColumn) (entries : List Entry) (result : Result ℕ Fault) → SortsEntries old size table columns (Ok entries)
    → FillsTree old new size entries result → MakesIndex old new size table columns result
index_made old new size table columns entries result sorts fills = λ rows free free_are sized has.
    (let them = collations (columns_in columns) in
    let are = sorts rows free_are.whole has in
    subst (λ (l : List Entry). MatchResult result (IsFilled old new size them l free) (IsFillRefusal l)) are
    (fills them free free_are sized (subst (λ (l : List Entry). AreEntries them l) (sym are) (rows_entries old size table.root table.shape (columns_in columns) rows has))))
