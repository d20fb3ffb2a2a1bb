-- The check of a table's tree, of its rows and of its indexes, and of one table after the other.
use Rattle.std.specs.declared.rc.Rc.{Rc}
use Rattle.std.proofs.Common.{Global, ◌≡◌, ◌⊎◌, ◌∙◌, inl, inr, ap, sym, ◌-◌, ◌≤◌, ◌<◌, ℕ, Bool, List, [], ◌∷◌, ◌++◌, length, map, take, drop, slice_index_or, refl, subst, arith, Ok, Err}
use Rattle.std.specs.Prelude.{⊤, Result, IsErrAnd, IsTrue}
use Rattle.std.specs.List.{AllByRecursion}
use Rattle.std.proofs.lemmas.List.{append_assoc}
use Rattle.sqlval.specs.declared.collation.Collation.{Collation}
use Rattle.sqlval.specs.declared.fault.Fault.{Fault}
use Rattle.sqlval.specs.Faults.{IsOutside}
use Rattle.tree_leaf.specs.Leaf.{Entry}
use Rattle.pages.specs.Calls.{Limits}
use Rattle.pages.specs.Counting.{occurs}
use Rattle.pages.specs.Map.{PageMap, AreWhole}
use Rattle.tree_page.specs.Cells.{Pairwise}
use Rattle.tree_table.specs.Tree.{IsTableTree}
use Rattle.tree_index.specs.Tree.{IsIndexTree}
use Rattle.db_layout.specs.Layout.{HoldsUnder, IsTree, OfEntries, OfRows, Owner, used_by}
use Rattle.db_layout.specs.Trees.{IsEntriesTree, columns_of}
use Rattle.index_entries.specs.Entries.{collations, entries_of_rows}
use Rattle.index_entries.specs.Keeping.{columns_in}
use Rattle.catalog.specs.Listed.{shape_of, shared}
use Rattle.catalog.specs.declared.tables.Index.{Index}
use Rattle.catalog.specs.declared.tables.IndexColumn.{IndexColumn}
use Rattle.catalog.specs.declared.tables.RowShape.{RowShape}
use Rattle.catalog.specs.declared.tables.Table.{Table}
use Rattle.query_names.specs.declared.queries.BoundSource.{BoundSource}
use Rattle.row_scan.specs.Rows.{TableRow}
use Rattle.row_scan.specs.Trees.{AreFitRows, FindsFit, HasRows, PassesFit}
use Rattle.index_build.specs.Calls.{ChecksEntries}
use Rattle.tree_check.specs.Checks.{IsChecked, IsCheckedIndex, IsUnmarked, IsUnmarkedIndex, MarksIndex, MarksTree}
use Rattle.tree_check.specs.Exact.{AreTold, Checks}
use Rattle.tree_check.proofs.Parting.{AreBoth, IsBoth, IsOf, both_appended, first_refused, marks_both, nothing_left, refused, then_checks, unmarked_first, unmarked_then}
use Rattle.tree_check.proofs.TailChains.{all_taken}
use Rattle.db_pages.specs.Stored.{all_trees}
use Rattle.db_load.specs.Uses.{HasEntries, HasTrees, pages_held}

-- what is so of the pages as they tell themselves is so of these
pub told_as : {P K : Type 0} (below : P → K) (tells : K → Bool) (limits : K → Limits) (bytes : P → PageMap) (now : P) (map : PageMap) (size : ℕ) (Is : PageMap → ℕ → Type 0)
    → AreTold below tells limits bytes now map size → (IsTrue (tells (below now)) → Is (bytes now) (limits (below now)).page) → Is map size
told_as below tells limits bytes now map size Is are is =
    subst (λ (m : PageMap). Is m size) are.map_is (subst (λ (n : ℕ). Is (bytes now) n) are.size_is (is are.told))

-- ---- an index

abbrev pub its_pages : Owner → List ℕ
its_pages owner = owner.used

-- the collations of an index's columns
abbrev pub orders_of : Index → List Collation
orders_of index = map (λ (column : IndexColumn). column.collation) index.columns

orders_same : (cs : List IndexColumn) → collations (columns_in cs) ≡ map (λ (column : IndexColumn). column.collation) cs
orders_same [] = refl
orders_same (c ∷ cs) = ap (λ ks. c.collation ∷ ks) (orders_same cs)

tree_of : (pages : PageMap) (size : ℕ) (rows : List TableRow) (index : Index) (owner : Owner) → HasEntries pages size rows index owner
    → IsIndexTree pages size index.root (orders_of index) (entries_of_rows (columns_of index) rows) owner.used
tree_of pages size rows index owner it =
    subst (λ (cs : List Collation). IsIndexTree pages size index.root cs (entries_of_rows (columns_of index) rows) owner.used) (orders_same index.columns)
    (subst (λ root. IsIndexTree pages size root (collations (columns_of index)) (entries_of_rows (columns_of index) rows) owner.used) it.is.root_is
    (subst (HoldsUnder pages size owner.root owner.used) it.is.content_is it.tree))

-- its tree is refused
pub index_refused : (pages : PageMap) (size : ℕ) (rows : List TableRow) (index : Index) (columns : List Collation) (old new : List Bool) (fault : Fault) (result : Result ⊤ Fault) → columns ≡ orders_of index
    → (IsUnmarkedIndex pages size index.root columns old → IsOutside fault) → IsErrAnd result (λ e. e ≡ fault) → Checks (HasEntries pages size rows index) its_pages old new result
index_refused pages size rows index columns old new fault result same only is =
    refused (HasEntries pages size rows index) its_pages old new fault result is
    (λ owner it free. only (record {
      entries = entries_of_rows (columns_of index) rows;
      used = owner.used;
      tree = subst (λ (cs : List Collation). IsIndexTree pages size index.root cs (entries_of_rows (columns_of index) rows) owner.used) (sym same) (tree_of pages size rows index owner it);
      apart = free;
    }))

source_rows : (pages : PageMap) (size root : ℕ) (shape : RowShape) (source : BoundSource) (rows : List TableRow) → source.root ≡ root → source.shape ≡ shape → HasRows pages size root shape rows
    → HasRows pages size source.root source.shape rows
source_rows pages size root shape source rows at formed has =
    subst (λ (s : RowShape). HasRows pages size source.root s rows) (sym formed) (subst (λ (n : ℕ). HasRows pages size n shape rows) (sym at) has)

-- its entries are checked
pub entries_checked : (pages : PageMap) (size root : ℕ) (shape : RowShape) (source : BoundSource) (rows : List TableRow) (index : Index) (columns : List Collation) (old new : List Bool) (result : Result ⊤ Fault)
    → AreWhole size pages → columns ≡ orders_of index → source.root ≡ root → source.shape ≡ shape → IsCheckedIndex pages size index.root columns old new → MarksIndex pages size index.root columns old new
    → ChecksEntries pages size index.root source index.columns result → HasRows pages size root shape rows → Checks (HasEntries pages size rows index) its_pages old new result
entries_checked pages size root shape source rows index columns old new (Ok done) whole same at formed checked marks checks has =
    let tree = subst (λ (cs : List Collation). IsIndexTree pages size index.root cs checked.entries checked.used) same checked.tree in
    let there = checks checked.entries checked.used rows whole tree (source_rows pages size root shape source rows at formed has) in (
      record {
        it = record { root = index.root; content = OfEntries (collations (columns_of index)) (entries_of_rows (columns_of index) rows); used = checked.used };
        is = record {
          is = record { root_is = refl; content_is = refl };
          tree = subst (λ (cs : List Collation). IsIndexTree pages size index.root cs (entries_of_rows (columns_of index) rows) checked.used) (sym (orders_same index.columns))
              (subst (λ es. IsIndexTree pages size index.root (orders_of index) es checked.used) there tree);
        };
        marks = checked.marks;
      },
      λ owner it free.
          marks (entries_of_rows (columns_of index) rows) owner.used
          (subst (λ (cs : List Collation). IsIndexTree pages size index.root cs (entries_of_rows (columns_of index) rows) owner.used) (sym same) (tree_of pages size rows index owner it)) free,
    )
entries_checked pages size root shape source rows index columns old new (Err fault) whole same at formed checked marks checks has = λ owner it free.
    (by_case (checks (entries_of_rows (columns_of index) rows) owner.used rows whole (tree_of pages size rows index owner it) (source_rows pages size root shape source rows at formed has)))
  where
    by_case : {A : Type 0} {B : Type 0} → A ⊎ B × (entries_of_rows (columns_of index) rows ≡ entries_of_rows (columns_of index) rows → ⊥) → A
    by_case (inl why) = why
    by_case (inr not) = absurd (not.1 refl)

-- ---- one index after the other

module _ (pages : PageMap) (size : ℕ) (rows : List TableRow) (i : Index) (rest : List Index) where
  apart_index : (owners : List Owner) → Pairwise (HasEntries pages size rows) (i ∷ rest) owners → IsBoth (HasEntries pages size rows i) (Pairwise (HasEntries pages size rows) rest) its_pages used_by (used_by owners)
  apart_index [] all = absurd all
  apart_index (owner ∷ owners) all = record { one = owner; other = owners; is = all.0; also = all.1; both = both_appended owner.used (used_by owners) }

  with_index : (owner : Owner) (owners : List Owner) → HasEntries pages size rows i owner → Pairwise (HasEntries pages size rows) rest owners
      → IsOf (Pairwise (HasEntries pages size rows) (i ∷ rest)) used_by owner.used (used_by owners)
  with_index owner owners first then = record { it = owner ∷ owners; is = (first, then); both = both_appended owner.used (used_by owners) }

-- what the indexes after the first decide
pub index_then : (pages : PageMap) (size : ℕ) (rows : List TableRow) (rest : List Index) (i : Index) (old mid : List Bool) → 1 ≤ length rest → i ≡ slice_index_or rest 0 i
    → Checks (HasEntries pages size rows i) its_pages old mid (Ok tt) → (new : List Bool) (result : Result ⊤ Fault)
    → Checks (Pairwise (HasEntries pages size rows) (take (length rest - 1) (drop 1 rest))) used_by mid new result → Checks (Pairwise (HasEntries pages size rows) rest) used_by old new result
index_then pages size rows [] i old mid some at first new result then = absurd (omega (arith, some))
index_then pages size rows (j ∷ rest) i old mid some at first new result then =
    then_checks (HasEntries pages size rows j) (Pairwise (HasEntries pages size rows) rest) (Pairwise (HasEntries pages size rows) (j ∷ rest)) its_pages used_by used_by
    (apart_index pages size rows j rest) (with_index pages size rows j rest) old mid new result
    (subst (λ (x : Index). Checks (HasEntries pages size rows x) its_pages old mid (Ok tt)) at first)
    (subst (λ (them : List Index). Checks (Pairwise (HasEntries pages size rows) them) used_by mid new result) (all_taken rest) then)

-- the first is refused
pub index_stops : (pages : PageMap) (size : ℕ) (rows : List TableRow) (rest : List Index) (i : Index) (old mid new : List Bool) (fault : Fault) (result : Result ⊤ Fault) → 1 ≤ length rest
    → i ≡ slice_index_or rest 0 i → Checks (HasEntries pages size rows i) its_pages old mid (Err fault) → IsErrAnd result (λ e. e ≡ fault)
    → Checks (Pairwise (HasEntries pages size rows) rest) used_by old new result
index_stops pages size rows [] i old mid new fault result some at first is = absurd (omega (arith, some))
index_stops pages size rows (j ∷ rest) i old mid new fault result some at first is =
    first_refused (HasEntries pages size rows j) (Pairwise (HasEntries pages size rows) rest) (Pairwise (HasEntries pages size rows) (j ∷ rest)) its_pages used_by used_by
    (apart_index pages size rows j rest) old mid new fault result (subst (λ (x : Index). Checks (HasEntries pages size rows x) its_pages old mid (Err fault)) at first) is

none_indexed : (pages : PageMap) (size : ℕ) (rows : List TableRow) (owners : List Owner) → Pairwise (HasEntries pages size rows) [] owners → (n : ℕ) → occurs n (used_by owners) ≡ 0
none_indexed pages size rows [] all n = refl
none_indexed pages size rows (owner ∷ owners) all n = absurd all

-- no index is left
pub indexes_end : (pages : PageMap) (size : ℕ) (rows : List TableRow) (rest : List Index) (marks : List Bool) → length rest < 1 → Checks (Pairwise (HasEntries pages size rows) rest) used_by marks marks (Ok tt)
indexes_end pages size rows [] marks none = nothing_left (Pairwise (HasEntries pages size rows) []) used_by marks [] tt (none_indexed pages size rows)
indexes_end pages size rows (i ∷ rest) marks none = absurd (omega (arith, none))

-- ---- one table

-- the tree of the rows, and those of the indexes
record HasParts (pages : PageMap) (size : ℕ) (t : Table) (trees : List Owner) : Type 0 where
  owner : Owner
  others : List Owner
  rows : List TableRow
  trees_are : trees ≡ owner ∷ others
  has : HasRows pages size t.root (shape_of t) rows
  entries : List Entry
  tree : IsTableTree pages size t.root entries owner.used
  each : Pairwise (HasEntries pages size rows) t.indexes others
  fit : AreFitRows (shape_of t) rows

both_of : (pages : PageMap) (size : ℕ) (rows : List TableRow) (is : List Index) (owners : List Owner) → Pairwise (IsEntriesTree rows) is owners → AllByRecursion (IsTree pages size) owners
    → Pairwise (HasEntries pages size rows) is owners
both_of pages size rows [] [] each lie = tt
both_of pages size rows [] (owner ∷ owners) each lie = absurd each
both_of pages size rows (i ∷ is) [] each lie = absurd each
both_of pages size rows (i ∷ is) (owner ∷ owners) each lie = (record { is = each.0; tree = lie.0 }, both_of pages size rows is owners each.1 lie.1)

pub entries_are : (pages : PageMap) (size : ℕ) (rows : List TableRow) (is : List Index) (owners : List Owner) → Pairwise (HasEntries pages size rows) is owners → Pairwise (IsEntriesTree rows) is owners
entries_are pages size rows [] [] each = tt
entries_are pages size rows [] (owner ∷ owners) each = absurd each
entries_are pages size rows (i ∷ is) [] each = absurd each
entries_are pages size rows (i ∷ is) (owner ∷ owners) each = (each.0.is, entries_are pages size rows is owners each.1)

pub entries_lie : (pages : PageMap) (size : ℕ) (rows : List TableRow) (is : List Index) (owners : List Owner) → Pairwise (HasEntries pages size rows) is owners → AllByRecursion (IsTree pages size) owners
entries_lie pages size rows [] [] each = tt
entries_lie pages size rows [] (owner ∷ owners) each = absurd each
entries_lie pages size rows (i ∷ is) [] each = absurd each
entries_lie pages size rows (i ∷ is) (owner ∷ owners) each = (each.0.tree, entries_lie pages size rows is owners each.1)

parts_in : (pages : PageMap) (size : ℕ) (t : Table) (trees : List Owner) → HasTrees pages size t trees → HasParts pages size t trees
parts_in pages size t [] it = absurd it.are
parts_in pages size t (owner ∷ others) it =
    let tree = subst (λ root. IsTableTree pages size root it.are.0.entries owner.used) it.are.0.root_is (subst (HoldsUnder pages size owner.root owner.used) it.are.0.content_is it.lie.0) in
    record {
      owner = owner;
      others = others;
      rows = it.rows;
      trees_are = refl;
      has = record { entries = it.are.0.entries; used = owner.used; tree = tree; each = it.are.0.each };
      entries = it.are.0.entries;
      tree = tree;
      each = both_of pages size it.rows t.indexes others it.are.1 it.lie.1;
      fit = it.fit;
    }

parted : (owner : Owner) (others trees : List Owner) → trees ≡ owner ∷ others → AreBoth (used_by trees) owner.used (used_by others)
parted owner others trees is = subst (λ (them : List Owner). AreBoth (used_by them) owner.used (used_by others)) (sym is) (both_appended owner.used (used_by others))

-- its tree is refused
pub tree_refused : (pages : PageMap) (size : ℕ) (t : Table) (old new : List Bool) (fault : Fault) (result : Result ⊤ Fault) → (IsUnmarked pages size t.root old → IsOutside fault) → IsErrAnd result (λ e. e ≡ fault)
    → Checks (HasTrees pages size t) used_by old new result
tree_refused pages size t old new fault result only is =
    refused (HasTrees pages size t) used_by old new fault result is
    (λ trees it free.
    (let p = parts_in pages size t trees it in
    only (record { rows = p.entries; used = p.owner.used; tree = p.tree; apart = unmarked_first old (used_by trees) p.owner.used (used_by p.others) (parted p.owner p.others trees p.trees_are) free })))

-- its rows are refused
pub rows_refused : (pages : PageMap) (size : ℕ) (t : Table) (old new : List Bool) (fault : Fault) (result : Result ⊤ Fault) → AreWhole size pages → PassesFit pages size t.root (shape_of t) (Err fault)
    → IsErrAnd result (λ e. e ≡ fault) → Checks (HasTrees pages size t) used_by old new result
rows_refused pages size t old new fault result whole passes is =
    refused (HasTrees pages size t) used_by old new fault result is
    (λ trees it free. (let p = parts_in pages size t trees it in passes p.rows whole p.has p.fit))

-- its indexes are checked
pub indexes_checked : (pages : PageMap) (size : ℕ) (t : Table) (old mid new : List Bool) (result : Result ⊤ Fault) → AreWhole size pages → IsChecked pages size t.root old mid → MarksTree pages size t.root old mid
    → FindsFit pages size t.root (shape_of t) (Ok tt)
    → ((rows : List TableRow) → HasRows pages size t.root (shape_of t) rows → Checks (Pairwise (HasEntries pages size rows) t.indexes) used_by mid new result)
    → Checks (HasTrees pages size t) used_by old new result
indexes_checked pages size t old mid new (Ok done) whole checked same finds check =
    let fit = finds checked.rows checked.used whole checked.tree in
    let has : HasRows pages size t.root (shape_of t) fit.rows = record { entries = checked.rows; used = checked.used; tree = checked.tree; each = fit.each } in
    let first : Owner = record { root = t.root; content = OfRows checked.rows; used = checked.used } in
    let others = (check fit.rows has).0 in (
      record {
        it = first ∷ others.it;
        is = record {
          rows = fit.rows;
          are = (record { root_is = refl; entries = checked.rows; content_is = refl; each = fit.each }, entries_are pages size fit.rows t.indexes others.it others.is);
          lie = (checked.tree, entries_lie pages size fit.rows t.indexes others.it others.is);
          fit = fit.fit;
        };
        marks = marks_both old mid new (used_by (first ∷ others.it)) checked.used (used_by others.it) (both_appended checked.used (used_by others.it)) checked.marks others.marks;
      },
      λ trees it free. (
          let p = parts_in pages size t trees it in
          let both = parted p.owner p.others trees p.trees_are in
          let marked = same p.entries p.owner.used p.tree (unmarked_first old (used_by trees) p.owner.used (used_by p.others) both free) in
          marks_both old mid new (used_by trees) p.owner.used (used_by p.others) both marked
          ((check p.rows p.has).1 p.others p.each (unmarked_then old mid (used_by trees) p.owner.used (used_by p.others) both marked free))),
    )
indexes_checked pages size t old mid new (Err fault) whole checked same finds check = λ trees it free.
    (let p = parts_in pages size t trees it in
    let both = parted p.owner p.others trees p.trees_are in
    let marked = same p.entries p.owner.used p.tree (unmarked_first old (used_by trees) p.owner.used (used_by p.others) both free) in
    check p.rows p.has p.others p.each (unmarked_then old mid (used_by trees) p.owner.used (used_by p.others) both marked free))

-- ---- one table after the other

used_append : (xs ys : List Owner) → used_by (xs ++ ys) ≡ used_by xs ++ used_by ys
used_append [] ys = refl
used_append (x ∷ xs) ys = ap (λ ns. x.used ++ ns) (used_append xs ys) ∙ sym (append_assoc x.used (used_by xs) (used_by ys))

-- the pages of one table's trees, and those of the others
pub both_held : (trees : List Owner) (held : List (List Owner)) → AreBoth (pages_held (trees ∷ held)) (used_by trees) (pages_held held)
both_held trees held = subst (λ (ns : List ℕ). AreBoth ns (used_by trees) (pages_held held)) (sym (used_append trees (all_trees held))) (both_appended (used_by trees) (pages_held held))

module _ (pages : PageMap) (size : ℕ) (t : Table) (tables : List Table) where
  apart : (held : List (List Owner)) → Pairwise (HasTrees pages size) (t ∷ tables) held → IsBoth (HasTrees pages size t) (Pairwise (HasTrees pages size) tables) used_by pages_held (pages_held held)
  apart [] all = absurd all
  apart (trees ∷ held) all = record { one = trees; other = held; is = all.0; also = all.1; both = both_held trees held }

  together : (trees : List Owner) (held : List (List Owner)) → HasTrees pages size t trees → Pairwise (HasTrees pages size) tables held
      → IsOf (Pairwise (HasTrees pages size) (t ∷ tables)) pages_held (used_by trees) (pages_held held)
  together trees held first rest = record { it = trees ∷ held; is = (first, rest); both = both_held trees held }

-- what the tables after the first decide
pub table_then : (pages : PageMap) (size : ℕ) (rest : List (Rc Table Global)) (handle : Rc Table Global) (t : Table) (old mid : List Bool) → 1 ≤ length rest
    → handle ≡ slice_index_or rest 0 handle → t ≡ handle.value
    → Checks (HasTrees pages size t) used_by old mid (Ok tt) → (new : List Bool) (result : Result ⊤ Fault)
    → Checks (Pairwise (HasTrees pages size) (shared (take (length rest - 1) (drop 1 rest)))) pages_held mid new result
    → Checks (Pairwise (HasTrees pages size) (shared rest)) pages_held old new result
table_then pages size [] handle t old mid some at is first new result then = absurd (omega (arith, some))
table_then pages size (u ∷ tables) handle t old mid some at is first new result then =
    then_checks (HasTrees pages size u.value) (Pairwise (HasTrees pages size) (shared tables)) (Pairwise (HasTrees pages size) (shared (u ∷ tables))) used_by pages_held pages_held
    (apart pages size u.value (shared tables)) (together pages size u.value (shared tables)) old mid new result
    (subst (λ (x : Table). Checks (HasTrees pages size x) used_by old mid (Ok tt)) (is ∙ ap (λ (x : Rc Table Global). x.value) at) first)
    (subst (λ (them : List (Rc Table Global)). Checks (Pairwise (HasTrees pages size) (shared them)) pages_held mid new result) (all_taken tables) then)

-- the first is refused
pub table_stops : (pages : PageMap) (size : ℕ) (rest : List (Rc Table Global)) (handle : Rc Table Global) (t : Table) (old mid new : List Bool) (fault : Fault) (result : Result ⊤ Fault)
    → 1 ≤ length rest → handle ≡ slice_index_or rest 0 handle → t ≡ handle.value
    → Checks (HasTrees pages size t) used_by old mid (Err fault) → IsErrAnd result (λ e. e ≡ fault) → Checks (Pairwise (HasTrees pages size) (shared rest)) pages_held old new result
table_stops pages size [] handle t old mid new fault result some at is first refused = absurd (omega (arith, some))
table_stops pages size (u ∷ tables) handle t old mid new fault result some at is first refused =
    first_refused (HasTrees pages size u.value) (Pairwise (HasTrees pages size) (shared tables)) (Pairwise (HasTrees pages size) (shared (u ∷ tables))) used_by pages_held pages_held
    (apart pages size u.value (shared tables)) old mid new fault result
    (subst (λ (x : Table). Checks (HasTrees pages size x) used_by old mid (Err fault)) (is ∙ ap (λ (x : Rc Table Global). x.value) at) first) refused

none_held : (pages : PageMap) (size : ℕ) (held : List (List Owner)) → Pairwise (HasTrees pages size) [] held → (n : ℕ) → occurs n (pages_held held) ≡ 0
none_held pages size [] all n = refl
none_held pages size (trees ∷ held) all n = absurd all

-- no table is left
pub tables_end : (pages : PageMap) (size : ℕ) (rest : List (Rc Table Global)) (marks : List Bool) → length rest < 1
    → Checks (Pairwise (HasTrees pages size) (shared rest)) pages_held marks marks (Ok tt)
tables_end pages size [] marks none = nothing_left (Pairwise (HasTrees pages size) []) pages_held marks [] tt (none_held pages size)
tables_end pages size (t ∷ tables) marks none = absurd (omega (arith, none))
