-- The trees of the tables and indexes that the schema's rows tell: each is as its table wants it, and no two begin at one page.
use Rattle.std.proofs.Common.{◌≡◌, inl, inr, ◌≤◌, ◌==◌, refl, sym, ap, subst, ◌∙◌, cond, ℕ, Bool, true, false, List, [], ◌∷◌, map, Some, arith}
use Rattle.std.proofs.lemmas.Bool.{cases_lt}
use Rattle.std.proofs.lemmas.Bool.Decides.{nat_tests}
use Rattle.std.specs.FinMap.Entries.{find}
use Rattle.std.specs.List.{AllByRecursion}
use Rattle.pages.proofs.Moving.{occurs_append}
use Rattle.pages.specs.Counting.{occurs}
use Rattle.pages.specs.Map.{Has, PageMap}
use Rattle.tree_page.specs.Cells.{Pairwise}
use Rattle.index_entries.specs.Entries.{collations, entries_of_rows}
use Rattle.catalog.specs.Database as database
use Rattle.catalog.specs.Database.{Database, ATable, name_order, object}
use Rattle.catalog.specs.Listed.{shape_of, with_rows}
use Rattle.catalog.specs.Rows.{are_rows}
use Rattle.row_scan.specs.Rows.{IsRow, TableRow}
use Rattle.db_layout.specs.Layout.{IsTree, OfEntries, Owner, used_by}
use Rattle.db_layout.specs.Trees.{IsEntriesTree, columns_of}
use Rattle.db_pages.specs.Stored.{AreHeld}
use Rattle.db_pages.proofs.StoredNames.{named_same}
use Rattle.db_pages.proofs.StoredShares.{theirs}
use Rattle.db_pages.proofs.StoredListings.{IndexItem, IndexListing, IsIndexListing, IsItem, Item, Listing, TableItem, TriggerItem, ViewItem, index_tree, listed_tree, owners_in}
use Rattle.db_pages.proofs.StoredApart.{Stands, all_so, content_at, row_named}
use Rattle.db_pages.proofs.StoredHomes.{all_theirs, is_on, with_indexes}
use Rattle.db_pages.proofs.StoredTreePages.{owner_there, root_used}

-- the pages hold the trees of all
pub trees_in : (pages : PageMap) (size : ℕ) (db : Database) (items : List Item) → AllByRecursion (IsItem pages size db) items → AllByRecursion (IsTree pages size) (owners_in items)
trees_in pages size db [] each = tt
trees_in pages size db (TableItem l ∷ items) each = (each.0.tree, trees_in pages size db items each.1)
trees_in pages size db (IndexItem l ∷ items) each = (each.0.tree, trees_in pages size db items each.1)
trees_in pages size db (ViewItem l ∷ items) each = trees_in pages size db items each.1
trees_in pages size db (TriggerItem l ∷ items) each = trees_in pages size db items each.1

one_at : (n m : ℕ) (if_same : Bool) → (m == n) ≡ if_same → (c : ℕ) → (n ≡ m → 1 ≤ c) → cond {A = ℕ} if_same 1 0 ≤ c
one_at n m true e c has = has (grind (arith, nat_tests))
one_at n m false e c has = omega arith

-- each root is used by its tree
pub roots_used : (pages : PageMap) (size : ℕ) (n : ℕ) (owners : List Owner) → AllByRecursion (IsTree pages size) owners → occurs n (map (λ owner. owner.root) owners) ≤ occurs n (used_by owners)
roots_used pages size n [] each = omega arith
roots_used pages size n (owner ∷ owners) each =
    let rest = roots_used pages size n owners each.1 in
    let sum = occurs_append n owner.used (used_by owners) in
    let here : cond {A = ℕ} (owner.root == n) 1 0 ≤ occurs n owner.used = one_at n owner.root (owner.root == n) refl (occurs n owner.used)
    (λ same. subst (λ (k : ℕ). 1 ≤ occurs k owner.used) (sym same) (root_used pages size owner each.0)) in
    omega (arith, rest, sum, here)

-- what they use is there
pub used_there : (pages : PageMap) (size : ℕ) (n : ℕ) (owners : List Owner) → AllByRecursion (IsTree pages size) owners → 1 ≤ occurs n (used_by owners) → Has pages n
used_there pages size n [] each some = absurd (omega (arith, some))
used_there pages size n (owner ∷ owners) each some = elim (cases_lt 0 (occurs n owner.used)) [
  | inl here ↦ owner_there pages size owner n each.0 (omega (arith, here))
  | inr none ↦ used_there pages size n owners each.1 (let sum = occurs_append n owner.used (used_by owners) in omega (arith, sum, none, some))
]

-- ---- tables and trees

same_table : (s t : database.Table) → Some (ATable s) ≡ Some (ATable t) → s ≡ t
same_table s t e = cc

module _ (pages : PageMap) (size : ℕ) (db : Database) (all : List Listing) (indexes : List IndexListing) (each_index : AllByRecursion (IsIndexListing pages size db) indexes) where
  abbrev rows_of : Listing → List TableRow
  rows_of l = content_at all l.table.root

  -- an index's tree has the entries of its table's rows
  entries_so : (l : Listing) (i : IndexListing) → Stands pages size db all l → IsIndexListing pages size db i → is_on l i ≡ true → IsEntriesTree (rows_of l) i.index (index_tree i)
  entries_so l i stands is on =
      let same : is.t ≡ with_rows l.table l.content =
      same_table is.t (with_rows l.table l.content)
      (sym is.on ∙ (ap (λ n. find name_order n db) (sym (row_named pages size db l stands.is ∙ named_same l.table.name i.on on)) ∙ stands.is.found)) in
      record {
        root_is = refl;
        content_is = ap (OfEntries (collations (columns_of i.index)))
            (is.entries_are ∙ (ap (λ (t : database.Table). entries_of_rows (columns_of i.index) t.rows) same ∙ ap (entries_of_rows (columns_of i.index)) (sym stands.content_is)));
      }

  both_so : (l : Listing) (some : List IndexListing) → AllByRecursion (λ i. IsEntriesTree (rows_of l) i.index (index_tree i)) some
      → Pairwise (IsEntriesTree (rows_of l)) (map (λ i. i.index) some) (map index_tree some)
  both_so l [] each = tt
  both_so l (i ∷ some) each = (each.0, both_so l some each.1)

  held_so : (l : Listing) → Stands pages size db all l → AreHeld (content_at all) (with_indexes indexes l) (listed_tree l ∷ map index_tree (theirs is_on indexes l))
  held_so l stands = record {
    are = (
      record {
        root_is = refl;
        entries = l.entries;
        content_is = refl;
        each = subst (λ (rows : List TableRow). Pairwise (IsRow (shape_of l.table)) l.entries rows) (sym stands.content_is) stands.is.each;
      },
      both_so l (theirs is_on indexes l) (all_theirs (λ i. IsEntriesTree (rows_of l) i.index (index_tree i)) l indexes
          (all_so (IsIndexListing pages size db) (λ i. is_on l i ≡ true → IsEntriesTree (rows_of l) i.index (index_tree i)) (λ i is on. entries_so l i stands is on) indexes each_index)),
    );
    fit = subst (λ (rows : List TableRow). are_rows (with_rows l.table rows) ≡ true) (sym stands.content_is) stands.is.fit;
  }

  pub trees_so : (items : List Listing) → AllByRecursion (Stands pages size db all) items
      → Pairwise (AreHeld (content_at all)) (map (with_indexes indexes) items) (map (λ l. listed_tree l ∷ map index_tree (theirs is_on indexes l)) items)
  trees_so [] stand = tt
  trees_so (l ∷ items) stand = (held_so l stand.0, trees_so items stand.1)
