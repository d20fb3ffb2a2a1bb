-- A table's trees among all: that of its rows becomes one of other rows, and those of its indexes follow.
use Rattle.std.proofs.Common.{◌≡◌, refl, sym, subst, ◌&&◌, ℕ, Bool, true, false, List, [], ◌∷◌, ◌++◌, map, arith}
use Rattle.std.specs.List.{list_all}
use Rattle.std.specs.Ordering.{int_cmp}
use Rattle.sqlval.specs.Lists.{is_rising}
use Rattle.sqlval.specs.PageSizes.{IsPageSize}
use Rattle.sqlval.specs.declared.value.Value.{Value}
use Rattle.tree_leaf.specs.Leaf.{Entry}
use Rattle.pages.specs.Map.{PageMap}
use Rattle.tree_page.specs.Cells.{Pairwise}
use Rattle.tree_table.specs.Calls.{BecomesRows, Stands}
use Rattle.db_layout.specs.Layout.{AreShared, OfEntries, Owner}
use Rattle.catalog.specs.Listed.{shape_of, with_rows}
use Rattle.catalog.specs.Rows.{are_rows, is_row}
use Rattle.catalog.specs.declared.tables.Index.{Index}
use Rattle.catalog.specs.declared.tables.Table.{Table}
use Rattle.row_scan.specs.Rows.{IsRow, TableRow}
use Rattle.row_scan.specs.Trees.{HasRows}
use Rattle.index_entries.specs.Entries.{AreApart, Columns, collations, entries_of_rows}
use Rattle.index_build.proofs.Makings.{are_apart}
use Rattle.db_layout.specs.Trees.{AreAmong, AreTreesOf, HoldsNow, IsEntriesTree, IsRowsTree, columns_of}
use Rattle.db_write.specs.Turning.{HaveEntries, HaveNow}
use Rattle.db_write.proofs.Among.{keeps_then, one_replaced, regrouped, rows_stand, rows_tree}

-- rows that a table may hold have rowids of their own
pub fit_apart : (table : Table) (rows : List TableRow) → are_rows (with_rows table rows) ≡ true → AreApart rows
fit_apart table rows fit = are_apart rows (first (is_rising int_cmp (map (λ r. r.0) rows)) (list_all (is_row (with_rows table rows)) rows) fit)
  where
    first : (a b : Bool) → a && b ≡ true → a ≡ true
    first true b e = refl
    first false b e = absurd cc

-- The tree of the rows stands beside the free pages, before those of the indexes.
pub record RowsStand (map : PageMap) (size : ℕ) (schema : Owner) (before : List Owner) (table : Table) (rows : List TableRow) (after : List Owner) : Type 0 where
  pub entries : List Entry
  pub used : List ℕ
  pub free : List ℕ
  pub stands : Stands map size table.root entries used free
  pub each : Pairwise (IsRow (shape_of table)) entries rows
  pub others : List Owner
  pub indexes : Pairwise (IsEntriesTree rows) table.indexes others
  pub shared : AreShared map size (schema ∷ before ++ (rows_tree table.root entries used ∷ (others ++ after))) free

pub rows_among : (map : PageMap) (size : ℕ) (schema : Owner) (before : List Owner) (table : Table) (rows : List TableRow) (after : List Owner) → AreAmong map size schema before table rows after → IsPageSize size → schema.root ≡ 1
    → RowsStand map size schema before table rows after
rows_among map size schema before table rows after among sized is_root = by among.mine among.are among.shared
  where
    same_tree : (owner : Owner) (is : IsRowsTree table rows owner) → owner ≡ rows_tree table.root is.entries owner.used
    same_tree owner is = λ i. record { root = is.root_is i; content = is.content_is i; used = owner.used }

    by : (mine : List Owner) → AreTreesOf table rows mine → AreShared map size (schema ∷ before ++ (mine ++ after)) among.free → RowsStand map size schema before table rows after
    by [] are shared = absurd are
    by (owner ∷ others) are shared =
        let here = subst (λ (o : Owner). AreShared map size (schema ∷ before ++ (o ∷ (others ++ after))) among.free) (same_tree owner are.0) shared in
        record {
          entries = are.0.entries;
          used = owner.used;
          free = among.free;
          stands = rows_stand map size schema before (others ++ after) among.free is_root sized table.root are.0.entries owner.used here;
          each = are.0.each;
          others = others;
          indexes = are.1;
          shared = here;
        }

-- as a query reads them
pub has_rows : (map : PageMap) (size : ℕ) (schema : Owner) (before : List Owner) (table : Table) (rows : List TableRow) (after : List Owner) → RowsStand map size schema before table rows after
    → HasRows map size table.root (shape_of table) rows
has_rows map size schema before table rows after s = record { entries = s.entries; used = s.used; tree = s.stands.tree; each = s.each }

module _ (old mid : PageMap) (size : ℕ) (schema : Owner) (before : List Owner) (table : Table) (rows : List TableRow) (after : List Owner) (s : RowsStand old size schema before table rows after)
    (entries : List Entry) (now : BecomesRows old mid size table.root entries s.used s.free) where
  abbrev tree : Owner
  tree = rows_tree table.root entries now.now_used

  -- the indexes' trees stand after it, as they did
  pub indexes_stand : HaveEntries mid size schema (before ++ rows_tree table.root entries now.now_used ∷ []) table.indexes rows after
  indexes_stand = record {
    mine = s.others;
    each = s.indexes;
    free = now.now_free;
    shared = subst (λ (os : List Owner). AreShared mid size (schema ∷ os) now.now_free) (sym (regrouped before tree s.others after))
        (one_replaced old mid size schema before (s.others ++ after) s.free now.now_free (rows_tree table.root s.entries s.used) tree s.shared now.moves now.stands.tree now.stands.free_are.has);
  }

  -- and once they have the entries of other rows, the table has these
  pub table_holds : (new : PageMap) (next : List TableRow) → Pairwise (IsRow (shape_of table)) entries next
      → HaveNow mid new size schema (before ++ rows_tree table.root entries now.now_used ∷ []) table.indexes next after → HoldsNow old new size schema before table next after
  table_holds new next each have = record {
    among = record {
      mine = tree ∷ have.have.mine;
      are = (record { root_is = refl; entries = entries; content_is = refl; each = each }, have.have.each);
      free = have.have.free;
      shared = subst (λ (os : List Owner). AreShared new size (schema ∷ os) have.have.free) (regrouped before tree have.have.mine after) have.have.shared;
    };
    header = keeps_then old mid new now.header have.header;
    longer = (let a = now.moves.longer in let b = have.longer in omega (arith, a, b));
  }

-- ---- rows in another order

-- the entries are those of other rows too
pub same_entries : (map : PageMap) (size : ℕ) (schema : Owner) (before : List Owner) (indexes : List Index) (rows next : List TableRow) (after : List Owner) → ((columns : Columns) → entries_of_rows columns rows ≡ entries_of_rows columns next)
    → HaveEntries map size schema before indexes rows after → HaveEntries map size schema before indexes next after
same_entries map size schema before indexes rows next after same have = record { mine = have.mine; each = all indexes have.mine have.each; free = have.free; shared = have.shared }
  where
    one : (index : Index) (owner : Owner) → IsEntriesTree rows index owner → IsEntriesTree next index owner
    one index owner is = record { root_is = is.root_is; content_is = subst (λ (es : List (List Value)). owner.content ≡ OfEntries (collations (columns_of index)) es) (same (columns_of index)) is.content_is }

    all : (indexes : List Index) (mine : List Owner) → Pairwise (IsEntriesTree rows) indexes mine → Pairwise (IsEntriesTree next) indexes mine
    all [] [] each = tt
    all [] (owner ∷ mine) each = absurd each
    all (index ∷ indexes) [] each = absurd each
    all (index ∷ indexes) (owner ∷ mine) each = (one index owner each.0, all indexes mine each.1)

-- and so they are where they stand now
pub same_now : (old new : PageMap) (size : ℕ) (schema : Owner) (before : List Owner) (indexes : List Index) (rows next : List TableRow) (after : List Owner) → ((columns : Columns) → entries_of_rows columns rows ≡ entries_of_rows columns next)
    → HaveNow old new size schema before indexes rows after → HaveNow old new size schema before indexes next after
same_now old new size schema before indexes rows next after same now =
    record { have = same_entries new size schema before indexes rows next after same now.have; header = now.header; longer = now.longer }
