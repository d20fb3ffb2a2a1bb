-- What making the tree of a new index comes to.
use Rattle.std.proofs.Common.{◌≡◌, ◌⊎◌, inl, inr, refl, sym, ap, subst, ◌∙◌, ◌||◌, ℕ, Bool, true, false, List, [], ◌∷◌, ◌++◌, if◌then◌else◌, Ok, Err}
use Rattle.std.specs.Prelude.{Result, MatchResult}
use Rattle.std.specs.List.{AllByRecursion, list_any}
use Rattle.std.specs.Ordering.{is_gt}
use Rattle.std.specs.declared.cmp.Ordering.{Ordering}
use Rattle.std.proofs.lemmas.List.{append-nil}
use Rattle.sqlval.specs.Lists.{placed}
use Rattle.sqlval.specs.Faults.{IsOutside}
use Rattle.sqlval.specs.declared.fault.Fault.{Fault}
use Rattle.sqlval.specs.declared.fault.Fault.TheVariants.{Unique}
use Rattle.record.specs.Writing.{AreStorable}
use Rattle.pages.specs.Map.{PageMap}
use Rattle.tree_page.specs.Cells.{Pairwise}
use Rattle.tree_index.specs.Entries.{Entry, entry_cmp}
use Rattle.tree_index.specs.Filling.{IsFilled, IsFillRefusal}
use Rattle.db_layout.specs.Layout.{AreShared, Owner}
use Rattle.catalog.specs.Database as database
use Rattle.catalog.specs.Listed.{shape_of, with_rows}
use Rattle.catalog.specs.Rows.{are_rows}
use Rattle.catalog.specs.declared.tables.Index.{Index}
use Rattle.catalog.specs.declared.tables.IndexColumn.{IndexColumn}
use Rattle.catalog.specs.declared.tables.Table.{Table}
use Rattle.query_names.specs.Keys.{clash, has_clash}
use Rattle.row_scan.specs.Rows.{TableRow}
use Rattle.index_entries.specs.Entries.{Columns, collations, entries_of_rows, indexed}
use Rattle.index_entries.specs.Keeping.{columns_in}
use Rattle.index_build.specs.Making.{IsMadeApart, MakesIndex, MakesUniqueIndex}
use Rattle.db_write.specs.Changing.{AddsIndex, IsIndexAdded, IsRefusedIndex, index_of, with_indexes}
use Rattle.db_layout.specs.Trees.{HoldsNow, IsEntriesTree}
use Rattle.db_write.specs.Turning.{CanBeIndexed}
use Rattle.db_write.proofs.Among.{entries_tree, is_entries_tree, one_come, rows_tree}
use Rattle.db_write.proofs.Dropped.{after_some}
use Rattle.db_write.proofs.Owned.{RowsStand, has_rows, rows_among}
use Rattle.db_write.proofs.Widths.{wide_if}

all_placed : (P : Entry → Type 0) (cmp : Entry → Entry → Ordering) (x : Entry) (xs : List Entry) → P x → AllByRecursion P xs → AllByRecursion P (placed cmp x xs)
all_placed P cmp x [] first all = (first, tt)
all_placed P cmp x (y ∷ ys) first all = by (is_gt (cmp x y)) (all_placed P cmp x ys first all.1)
  where
    by : (b : Bool) → AllByRecursion P (placed cmp x ys) → AllByRecursion P (if b then (y ∷ placed cmp x ys) else (x ∷ y ∷ ys))
    by true rest = (all.0, rest)
    by false rest = (first, all)

all_storable : (columns : Columns) (rows : List TableRow) → CanBeIndexed columns rows → AllByRecursion AreStorable (entries_of_rows columns rows)
all_storable columns [] all = tt
all_storable columns (row ∷ rows) all = all_placed AreStorable (entry_cmp (collations columns)) (indexed columns row) (entries_of_rows columns rows) all.0 (all_storable columns rows all.1)

with_last : (rows : List TableRow) (indexes : List Index) (owners : List Owner) (index : Index) (owner : Owner) → Pairwise (IsEntriesTree rows) indexes owners → IsEntriesTree rows index owner
    → Pairwise (IsEntriesTree rows) (indexes ++ index ∷ []) (owners ++ owner ∷ [])
with_last rows [] [] index owner each last = (last, tt)
with_last rows [] (first ∷ owners) index owner each last = absurd each
with_last rows (first ∷ indexes) [] index owner each last = absurd each
with_last rows (first ∷ indexes) (o ∷ owners) index owner each last = (each.0, with_last rows indexes owners index owner each.1 last)

-- rows don't clash in an index that isn't UNIQUE
none_twice : (i : database.Index) (rows : List TableRow) → i.is_unique ≡ false → has_clash i rows ≡ false
none_twice i [] plain = refl
none_twice i (row ∷ rows) plain = ap (λ (b : Bool). b || has_clash i rows) (none_after rows) ∙ none_twice i rows plain
  where
    none_after : (others : List TableRow) → list_any (λ other. clash i row.1 other.1) others ≡ false
    none_after [] = refl
    none_after (other ∷ others) =
        ap (λ (b : Bool). clash (record i { is_unique = b }) row.1 other.1 || list_any (λ o. clash i row.1 o.1) others) plain ∙ none_after others

module _ (old new : PageMap) (size : ℕ) (table : Table) (columns : List IndexColumn) where
  module _ (schema : Owner) (before : List Owner) (rows : List TableRow) (after : List Owner) (s : RowsStand old size schema before table rows after) where
    made : (root : ℕ) (index : Index) → IsFilled old new size (collations (columns_in index.columns)) (entries_of_rows (columns_in index.columns) rows) s.free index.root
        → HoldsNow old new size schema before (with_indexes table (table.indexes ++ index ∷ [])) rows after
    made root index filled = record {
      among = record {
        mine = tree ∷ (s.others ++ next ∷ []);
        are = (record { root_is = refl; entries = s.entries; content_is = refl; each = s.each }, with_last rows table.indexes s.others index next s.indexes (is_entries_tree rows index filled.used));
        free = filled.now_free;
        shared = subst (λ (os : List Owner). AreShared new size (schema ∷ os) filled.now_free) (sym (after_some before tree s.others (next ∷ []) after))
            (one_come old new size schema (before ++ tree ∷ s.others) after s.free filled.now_free next here filled.moves filled.stands.tree filled.stands.free_are.has);
      };
      header = filled.header;
      longer = filled.moves.longer;
    }
      where
        tree : Owner
        tree = rows_tree table.root s.entries s.used

        next : Owner
        next = entries_tree rows index filled.used

        here : AreShared old size (schema ∷ (before ++ tree ∷ s.others) ++ after) s.free
        here = subst (λ (os : List Owner). AreShared old size (schema ∷ os) s.free) (after_some before tree s.others [] after)
            (subst (λ (os : List Owner). AreShared old size (schema ∷ before ++ (tree ∷ (os ++ after))) s.free) (sym (append-nil s.others)) s.shared)

    -- a tree of the entries of rows that the index keeps apart
    filled : (is_unique : Bool) (r : Result ℕ Fault) → are_rows (with_rows table rows) ≡ true → has_clash (index_of columns is_unique) rows ≡ false
        → MatchResult r (IsFilled old new size (collations (columns_in columns)) (entries_of_rows (columns_in columns) rows) s.free) (IsFillRefusal (entries_of_rows (columns_in columns) rows))
        → MatchResult r (IsIndexAdded old new size schema before table columns is_unique rows after) (IsRefusedIndex columns is_unique rows)
    filled is_unique (Ok root) fit apart is = record {
      apart = apart;
      has = λ index columns_are root_is. made root index
          (subst (λ (r : ℕ). IsFilled old new size (collations (columns_in index.columns)) (entries_of_rows (columns_in index.columns) rows) s.free r) (sym root_is)
          (subst (λ (cs : List IndexColumn). IsFilled old new size (collations (columns_in cs)) (entries_of_rows (columns_in cs) rows) s.free root) (sym columns_are) is));
    }
    filled is_unique (Err f) fit apart (inl outside) = inl outside
    filled is_unique (Err f) fit apart (inr long) = inr (inr (long.0, wide_if columns table rows fit (λ all. long.1 (all_storable (columns_in columns) rows all))))

    -- or of a UNIQUE index
    made_apart : (r : Result ℕ Fault) (b : Bool) → are_rows (with_rows table rows) ≡ true → has_clash (index_of columns true) rows ≡ b → IsMadeApart old new size (columns_in columns) rows s.free r b
        → MatchResult r (IsIndexAdded old new size schema before table columns true rows after) (IsRefusedIndex columns true rows)
    made_apart r false fit apart is = filled true r fit apart is
    made_apart (Ok root) true fit apart is = absurd is.1
    made_apart (Err f) true fit apart is = refused is.1
      where
        refused : IsOutside f ⊎ (f ≡ Unique) → IsRefusedIndex columns true rows f
        refused (inl outside) = inl (inl outside)
        refused (inr clash) = inr (inl (clash, apart))

  pub index_added : (result : Result ℕ Fault) (is_unique : Bool) → is_unique ≡ false → MakesIndex old new size (record { root = table.root; shape = shape_of table }) columns result → AddsIndex old new size table columns is_unique result
  index_added result is_unique plain makes schema before after rows sized is_root among fit =
      let s = rows_among old size schema before table rows after among sized is_root in
      filled schema before rows after s is_unique result fit (none_twice (index_of columns is_unique) rows plain) (makes rows s.free s.stands.free_are sized (has_rows old size schema before table rows after s))

  pub unique_added : (result : Result ℕ Fault) (is_unique : Bool) → is_unique ≡ true → MakesUniqueIndex old new size (record { root = table.root; shape = shape_of table }) columns result
      → AddsIndex old new size table columns is_unique result
  unique_added result is_unique unique makes = subst (λ (b : Bool). AddsIndex old new size table columns b result) (sym unique) (λ schema before after rows sized is_root among fit. (
      let s = rows_among old size schema before table rows after among sized is_root in
      let i = index_of columns true in
      made_apart schema before rows after s result (has_clash i rows) fit refl (makes i rows s.free refl refl s.stands.free_are sized (has_rows old size schema before table rows after s))))
