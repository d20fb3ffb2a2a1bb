-- The trees of tables are those of tables that are alike, in another order: with the same pages.
use Rattle.std.proofs.Common.{◌≡◌, ◌≤◌, ◌∙◌, refl, sym, ap, subst, ℕ, true, List, [], ◌∷◌, ◌++◌, map}
use Rattle.std.specs.List.{AllByRecursion}
use Rattle.pages.specs.Counting.{occurs}
use Rattle.pages.specs.Map.{PageMap}
use Rattle.tree_page.specs.Cells.{Pairwise}
use Rattle.db_layout.specs.Layout.{IsTree, Owner, used_by}
use Rattle.db_layout.specs.Trees.{IsEntriesTree, IsRowsTree}
use Rattle.catalog.specs.Listed.{Listed, with_rows}
use Rattle.catalog.specs.Rows.{are_rows}
use Rattle.catalog.specs.declared.tables.Index.{Index}
use Rattle.catalog.specs.declared.tables.Table.{Table}
use Rattle.row_scan.specs.Rows.{TableRow}
use Rattle.db_pages.specs.Schema.{IndexTold, TableTold, Told, TriggerTold, ViewTold}
use Rattle.db_pages.specs.Stored.{AreHeld, all_trees}
use Rattle.db_pages.proofs.ReorderedPairs.{pairs_both, reordered_count, reordered_pairs}
use Rattle.db_load.specs.Loading.{bare}
use Rattle.db_load.specs.Reading.{AreAlike}
use Rattle.db_load.specs.Uses.{HasTrees, pages_held}
use Rattle.db_load.proofs.KeyTotals.{AreAlikeTables, tables_alike}
use Rattle.db_load.proofs.RowsByRoot.{fit_for_all, rows_in, trees_in, trees_lie}
use Rattle.db_load.proofs.ToldAdded.{index_parts, parts_more}
use Rattle.db_load.proofs.ToldParts.{table_parts}

-- the trees of the catalog's tables, with the pages of those
pub record HaveSamePages (pages : PageMap) (size : ℕ) (tables : List Table) (held : List (List Owner)) : Type 0 where
  pub trees : List (List Owner)
  pub each : Pairwise (HasTrees pages size) tables trees
  pub as_often : (n : ℕ) → occurs n (pages_held trees) ≡ occurs n (pages_held held)

module _ (pages : PageMap) (size : ℕ) (rows_at : ℕ → List TableRow) where
  -- the tree of what is told
  abbrev IsTreeTold : Told → Owner → Type 0
  IsTreeTold (TableTold t) owner = IsRowsTree t (rows_at t.root) owner × (are_rows (with_rows t (rows_at t.root)) ≡ true) × IsTree pages size owner
  IsTreeTold (IndexTold t i) owner = IsEntriesTree (rows_at t.root) i owner × IsTree pages size owner
  IsTreeTold (ViewTold v) owner = ⊥
  IsTreeTold (TriggerTold g) owner = ⊥

  indexes_told : (t : Table) (is : List Index) (owners : List Owner) → Pairwise (IsEntriesTree (rows_at t.root)) is owners → AllByRecursion (IsTree pages size) owners
      → Pairwise IsTreeTold (map (λ (i : Index). IndexTold (bare t) i) is) owners
  indexes_told t [] [] each lie = tt
  indexes_told t [] (owner ∷ owners) each lie = absurd each
  indexes_told t (i ∷ is) [] each lie = absurd each
  indexes_told t (i ∷ is) (owner ∷ owners) each lie = ((each.0, lie.0), indexes_told t is owners each.1 lie.1)

  table_told : (t : Table) (trees : List Owner) → AreHeld rows_at t trees → AllByRecursion (IsTree pages size) trees → Pairwise IsTreeTold (TableTold (bare t) ∷ index_parts t) trees
  table_told t [] held lie = absurd held.are
  table_told t (owner ∷ others) held lie = (
    (record { root_is = held.are.0.root_is; entries = held.are.0.entries; content_is = held.are.0.content_is; each = held.are.0.each }, held.fit, lie.0),
    indexes_told t t.indexes others held.are.1 lie.1,
  )

  all_parts : (xs ys : List Owner) → AllByRecursion (IsTree pages size) (xs ++ ys) → AllByRecursion (IsTree pages size) xs × AllByRecursion (IsTree pages size) ys
  all_parts [] ys all = (tt, all)
  all_parts (x ∷ xs) ys all = let rest = all_parts xs ys all.1 in ((all.0, rest.0), rest.1)

  trees_told : (tables : List Table) (held : List (List Owner)) → Pairwise (AreHeld rows_at) tables held → AllByRecursion (IsTree pages size) (all_trees held) → Pairwise IsTreeTold (table_parts tables) (all_trees held)
  trees_told [] [] each lie = tt
  trees_told [] (trees ∷ held) each lie = absurd each
  trees_told (t ∷ tables) [] each lie = absurd each
  trees_told (t ∷ tables) (trees ∷ held) each lie =
      let both = all_parts trees (all_trees held) lie in
      subst (λ (items : List Told). Pairwise IsTreeTold items (trees ++ all_trees held)) (sym (parts_more t tables))
      (pairs_both IsTreeTold (TableTold (bare t) ∷ index_parts t) (table_parts tables) trees (all_trees held) (table_told t trees each.0 both.0) (trees_told tables held each.1 both.1))

  -- the other way about

  record AreCut (items others : List Told) (owners : List Owner) : Type 0 where
    front : List Owner
    back : List Owner
    parts : owners ≡ front ++ back
    first : Pairwise IsTreeTold items front
    then : Pairwise IsTreeTold others back

  cut : (items others : List Told) (owners : List Owner) → Pairwise IsTreeTold (items ++ others) owners → AreCut items others owners
  cut [] others owners each = record { front = []; back = owners; parts = refl; first = tt; then = each }
  cut (x ∷ items) others [] each = absurd each
  cut (x ∷ items) others (owner ∷ owners) each =
      let rest = cut items others owners each.1 in
      record { front = owner ∷ rest.front; back = rest.back; parts = ap (λ os. owner ∷ os) rest.parts; first = (each.0, rest.first); then = rest.then }

  entries_told : (t : Table) (is : List Index) (owners : List Owner) → Pairwise IsTreeTold (map (λ (i : Index). IndexTold (bare t) i) is) owners
      → Pairwise (IsEntriesTree (rows_at t.root)) is owners × AllByRecursion (IsTree pages size) owners
  entries_told t [] [] each = (tt, tt)
  entries_told t [] (owner ∷ owners) each = absurd each
  entries_told t (i ∷ is) [] each = absurd each
  entries_told t (i ∷ is) (owner ∷ owners) each = let rest = entries_told t is owners each.1 in ((each.0.0, rest.0), (each.0.1, rest.1))

  table_held : (t : Table) (trees : List Owner) → Pairwise IsTreeTold (TableTold (bare t) ∷ index_parts t) trees → HasTrees pages size t trees
  table_held t [] each = absurd each
  table_held t (owner ∷ others) each =
      let rest = entries_told t t.indexes others each.1 in record {
        rows = rows_at t.root;
        are = (record { root_is = each.0.0.root_is; entries = each.0.0.entries; content_is = each.0.0.content_is; each = each.0.0.each }, rest.0);
        lie = (each.0.2, rest.1);
        fit = fit_for_all t (rows_at t.root) each.0.1;
      }

  record AreHeldSo (tables : List Table) (owners : List Owner) : Type 0 where
    trees : List (List Owner)
    each : Pairwise (HasTrees pages size) tables trees
    parts : all_trees trees ≡ owners

  trees_held : (tables : List Table) (owners : List Owner) → Pairwise IsTreeTold (table_parts tables) owners → AreHeldSo tables owners
  trees_held [] [] each = record { trees = []; each = tt; parts = refl }
  trees_held [] (owner ∷ owners) each = absurd each
  trees_held (t ∷ tables) owners each =
      let parts = cut (TableTold (bare t) ∷ index_parts t) (table_parts tables) owners (subst (λ (items : List Told). Pairwise IsTreeTold items owners) (parts_more t tables) each) in
      let rest = trees_held tables parts.back parts.then in
      record {
        trees = parts.front ∷ rest.trees;
        each = (table_held t parts.front parts.first, rest.each);
        parts = ap (λ os. parts.front ++ os) rest.parts ∙ sym parts.parts;
      }

  pub alike_trees : (tables others : List Table) (held : List (List Owner)) → AreAlikeTables tables others → Pairwise (AreHeld rows_at) tables held → AllByRecursion (IsTree pages size) (all_trees held)
      → HaveSamePages pages size others held
  alike_trees tables others held alike each lie =
      let moved = reordered_pairs IsTreeTold (table_parts tables) (all_trees held) (table_parts others) (trees_told tables held each lie) alike in
      let so = trees_held others moved.0 moved.1 in record {
        trees = so.trees;
        each = so.each;
        as_often = λ n. ap (λ os. occurs n (used_by os)) so.parts ∙ sym (reordered_count n (λ (owner : Owner). owner.used) (all_trees held) moved.0 moved.2);
      }

-- the trees of tables, none of whose pages is used twice, are those of others that are listed alike
pub same_trees : (pages : PageMap) (size : ℕ) (l others : Listed) (held : List (List Owner)) → AreAlike l others → Pairwise (HasTrees pages size) l.tables held → ((n : ℕ) → occurs n (pages_held held) ≤ 1)
    → HaveSamePages pages size others.tables held
same_trees pages size l others held alike each once =
    alike_trees pages size (rows_in pages size l.tables held each) l.tables others.tables held (tables_alike l others alike) (trees_in pages size l.tables held each once) (trees_lie pages size l.tables held each)
