-- Tables, indexes, views and triggers of different names, where no two trees begin at one page: those of each kind, and what is found under a root.
use Rattle.std.proofs.Common.{◌≡◌, ◌≤◌, ◌+◌, ◌==◌, refl, sym, ap, subst, ◌∙◌, append_assoc, ℕ, Bool, true, false, cond, List, [], ◌∷◌, ◌++◌, map, arith}
use Rattle.std.proofs.lemmas.Bool.{false≢true}
use Rattle.std.proofs.lemmas.Bool.Decides.{nat_tests}
use Rattle.std.specs.List.{AllByRecursion}
use Rattle.std.specs.Prelude.{⊤, flat_map}
use Rattle.sqlval.specs.Names.{folded, is_same_name}
use Rattle.pages.specs.Counting.{occurs}
use Rattle.pages.specs.Map.{PageMap}
use Rattle.catalog.specs.Database.{Name, Database}
use Rattle.catalog.specs.declared.tables.Table.{Table}
use Rattle.db_files.specs.Schema.{SchemaRow}
use Rattle.row_scan.specs.Rows.{TableRow}
use Rattle.db_pages.specs.Reordering.{AreReordered}
use Rattle.db_pages.proofs.StoredShares.{AllApart}
use Rattle.db_pages.proofs.StoredNames.{named_same}
use Rattle.db_pages.proofs.Reordering.{reordered_is}
use Rattle.db_pages.proofs.StoredListings.{IndexItem, IndexListing, IsIndexListing, IsItem, IsListing, Item, Listing, TableItem, TriggerItem, ViewItem, by_kind, index_tree, listed_tree, owners_in, row_of, rows_in}
use Rattle.db_pages.proofs.StoredTriggers.{TriggerListing}
use Rattle.db_pages.proofs.StoredViews.{ViewListing}

-- ---- what holds of each

-- what two facts say of each
pub all_both : {A : Type 0} (P Q R : A → Type 0) → ((x : A) → P x → Q x → R x) → (xs : List A) → AllByRecursion P xs → AllByRecursion Q xs → AllByRecursion R xs
all_both P Q R joined [] ps qs = tt
all_both P Q R joined (x ∷ xs) ps qs = (joined x ps.0 qs.0, all_both P Q R joined xs ps.1 qs.1)

pub all_so : {A : Type 0} (P R : A → Type 0) → ((x : A) → P x → R x) → (xs : List A) → AllByRecursion P xs → AllByRecursion R xs
all_so P R so [] ps = tt
all_so P R so (x ∷ xs) ps = (so x ps.0, all_so P R so xs ps.1)

pub onto_map : {A B : Type 0} (P : B → Type 0) (f : A → B) (xs : List A) → AllByRecursion (λ x. P (f x)) xs → AllByRecursion P (map f xs)
onto_map P f [] all = tt
onto_map P f (x ∷ xs) all = (all.0, onto_map P f xs all.1)

pub from_map : {A B : Type 0} (P : B → Type 0) (f : A → B) (xs : List A) → AllByRecursion P (map f xs) → AllByRecursion (λ x. P (f x)) xs
from_map P f [] all = tt
from_map P f (x ∷ xs) all = (all.0, from_map P f xs all.1)

pub all_joined : {A : Type 0} (P : A → Type 0) (xs ys : List A) → AllByRecursion P xs → AllByRecursion P ys → AllByRecursion P (xs ++ ys)
all_joined P [] ys h k = k
all_joined P (x ∷ xs) ys h k = (h.0, all_joined P xs ys h.1 k)

pub all_parts : {A B : Type 0} (P : B → Type 0) (f : A → List B) (xs : List A) → AllByRecursion (λ x. AllByRecursion P (f x)) xs → AllByRecursion P (flat_map f xs)
all_parts P f [] all = tt
all_parts P f (x ∷ xs) all = all_joined P (f x) (flat_map f xs) all.0 (all_parts P f xs all.1)

-- the names of rows, folded
abbrev pub row_names : List SchemaRow → List Name
row_names rows = map (λ row. folded row.name) rows

pub onto_names : (P : Name → Type 0) (items : List Item) → AllByRecursion (λ item. P (folded (row_of item).name)) items → AllByRecursion P (row_names (rows_in items))
onto_names P [] h = tt
onto_names P (item ∷ items) h = (h.0, onto_names P items h.1)

pub from_names : (P : Name → Type 0) (items : List Item) → AllByRecursion P (row_names (rows_in items)) → AllByRecursion (λ item. P (folded (row_of item).name)) items
from_names P [] h = tt
from_names P (item ∷ items) h = (h.0, from_names P items h.1)

-- ---- those of each kind

abbrev pub tables_among : List Item → List Listing
tables_among [] = []
tables_among (TableItem l ∷ items) = l ∷ tables_among items
tables_among (IndexItem l ∷ items) = tables_among items
tables_among (ViewItem l ∷ items) = tables_among items
tables_among (TriggerItem l ∷ items) = tables_among items

abbrev pub indexes_among : List Item → List IndexListing
indexes_among [] = []
indexes_among (TableItem l ∷ items) = indexes_among items
indexes_among (IndexItem l ∷ items) = l ∷ indexes_among items
indexes_among (ViewItem l ∷ items) = indexes_among items
indexes_among (TriggerItem l ∷ items) = indexes_among items

abbrev pub views_among : List Item → List ViewListing
views_among [] = []
views_among (TableItem l ∷ items) = views_among items
views_among (IndexItem l ∷ items) = views_among items
views_among (ViewItem l ∷ items) = l ∷ views_among items
views_among (TriggerItem l ∷ items) = views_among items

abbrev pub triggers_among : List Item → List TriggerListing
triggers_among [] = []
triggers_among (TableItem l ∷ items) = triggers_among items
triggers_among (IndexItem l ∷ items) = triggers_among items
triggers_among (ViewItem l ∷ items) = triggers_among items
triggers_among (TriggerItem l ∷ items) = l ∷ triggers_among items

pub of_tables : (P : Item → Type 0) (items : List Item) → AllByRecursion P items → AllByRecursion (λ l. P (TableItem l)) (tables_among items)
of_tables P [] all = tt
of_tables P (TableItem l ∷ items) all = (all.0, of_tables P items all.1)
of_tables P (IndexItem l ∷ items) all = of_tables P items all.1
of_tables P (ViewItem l ∷ items) all = of_tables P items all.1
of_tables P (TriggerItem l ∷ items) all = of_tables P items all.1

pub of_indexes : (P : Item → Type 0) (items : List Item) → AllByRecursion P items → AllByRecursion (λ l. P (IndexItem l)) (indexes_among items)
of_indexes P [] all = tt
of_indexes P (TableItem l ∷ items) all = of_indexes P items all.1
of_indexes P (IndexItem l ∷ items) all = (all.0, of_indexes P items all.1)
of_indexes P (ViewItem l ∷ items) all = of_indexes P items all.1
of_indexes P (TriggerItem l ∷ items) all = of_indexes P items all.1

pub of_views : (P : Item → Type 0) (items : List Item) → AllByRecursion P items → AllByRecursion (λ l. P (ViewItem l)) (views_among items)
of_views P [] all = tt
of_views P (TableItem l ∷ items) all = of_views P items all.1
of_views P (IndexItem l ∷ items) all = of_views P items all.1
of_views P (ViewItem l ∷ items) all = (all.0, of_views P items all.1)
of_views P (TriggerItem l ∷ items) all = of_views P items all.1

pub of_triggers : (P : Item → Type 0) (items : List Item) → AllByRecursion P items → AllByRecursion (λ l. P (TriggerItem l)) (triggers_among items)
of_triggers P [] all = tt
of_triggers P (TableItem l ∷ items) all = of_triggers P items all.1
of_triggers P (IndexItem l ∷ items) all = of_triggers P items all.1
of_triggers P (ViewItem l ∷ items) all = of_triggers P items all.1
of_triggers P (TriggerItem l ∷ items) all = (all.0, of_triggers P items all.1)

pub of_items : (P : Item → Type 0) (items : List Item) → AllByRecursion (λ l. P (TableItem l)) (tables_among items) → AllByRecursion (λ l. P (IndexItem l)) (indexes_among items)
    → AllByRecursion (λ l. P (ViewItem l)) (views_among items) → AllByRecursion (λ l. P (TriggerItem l)) (triggers_among items) → AllByRecursion P items
of_items P [] tables indexes views triggers = tt
of_items P (TableItem l ∷ items) tables indexes views triggers = (tables.0, of_items P items tables.1 indexes views triggers)
of_items P (IndexItem l ∷ items) tables indexes views triggers = (indexes.0, of_items P items tables indexes.1 views triggers)
of_items P (ViewItem l ∷ items) tables indexes views triggers = (views.0, of_items P items tables indexes views.1 triggers)
of_items P (TriggerItem l ∷ items) tables indexes views triggers = (triggers.0, of_items P items tables indexes views triggers.1)

module _ {X : Type 0} (f : Listing → X) (g : IndexListing → X) (h : ViewListing → X) (k : TriggerListing → X) where
  -- those of tables, and those of what has no tree
  abbrev of_all_tables : List Item → List X
  of_all_tables items = flat_map (λ l. f l ∷ []) (tables_among items)

  abbrev of_treeless : List Item → List X
  of_treeless items = map h (views_among items) ++ map k (triggers_among items)

  abbrev in_parts : List Item → List X
  in_parts items = (of_all_tables items ++ map g (indexes_among items)) ++ of_treeless items

  -- all items are the tables and the indexes, and then the views and the triggers, in another order
  pub split_items : (items : List Item) → AreReordered (map (by_kind f g h k) items) (in_parts items)
  split_items [] = refl
  split_items (TableItem l ∷ items) = ([], in_parts items, refl, split_items items)
  split_items (IndexItem l ∷ items) = (
    of_all_tables items,
    map g (indexes_among items) ++ of_treeless items,
    append_assoc (of_all_tables items) (g l ∷ map g (indexes_among items)) (of_treeless items),
    reordered_is (map (by_kind f g h k) items) (in_parts items) (of_all_tables items ++ (map g (indexes_among items) ++ of_treeless items))
        (append_assoc (of_all_tables items) (map g (indexes_among items)) (of_treeless items)) (split_items items),
  )
  split_items (ViewItem l ∷ items) = (of_all_tables items ++ map g (indexes_among items), of_treeless items, refl, split_items items)
  split_items (TriggerItem l ∷ items) =
      let front = of_all_tables items ++ map g (indexes_among items) in (
        front ++ map h (views_among items),
        map k (triggers_among items),
        sym (append_assoc front (map h (views_among items)) (k l ∷ map k (triggers_among items))),
        reordered_is (map (by_kind f g h k) items) (in_parts items) ((front ++ map h (views_among items)) ++ map k (triggers_among items))
            (sym (append_assoc front (map h (views_among items)) (map k (triggers_among items)))) (split_items items),
      )

-- and all trees are those of tables and those of indexes
pub split_trees : (items : List Item) → AreReordered (owners_in items) (flat_map (λ l. listed_tree l ∷ []) (tables_among items) ++ map index_tree (indexes_among items))
split_trees [] = refl
split_trees (TableItem l ∷ items) = ([], flat_map (λ l. listed_tree l ∷ []) (tables_among items) ++ map index_tree (indexes_among items), refl, split_trees items)
split_trees (IndexItem l ∷ items) = (flat_map (λ l. listed_tree l ∷ []) (tables_among items), map index_tree (indexes_among items), refl, split_trees items)
split_trees (ViewItem l ∷ items) = split_trees items
split_trees (TriggerItem l ∷ items) = split_trees items

-- ---- different names

-- no two have one name
abbrev pub NamesApart : List Listing → Type 0
NamesApart [] = ⊤
NamesApart (l ∷ items) = AllByRecursion (λ m. folded l.table.name ≡ folded m.table.name → ⊥) items × NamesApart items

module _ (pages : PageMap) (size : ℕ) (db : Database) where
  pub row_named : (l : Listing) → IsListing pages size db l → folded l.row.name ≡ folded l.table.name
  row_named l is = is.says.name_is ∙ ap (λ (t : Table). folded t.name) (sym is.table_is)

  pub index_row_named : (l : IndexListing) → IsIndexListing pages size db l → folded l.row.name ≡ folded l.index.name
  index_row_named l is = is.name_is

  pub names_apart : (items : List Item) → AllByRecursion (IsItem pages size db) items → AllApart (row_names (rows_in items)) → NamesApart (tables_among items)
  names_apart [] each apart = tt
  names_apart (TableItem l ∷ items) each apart = (
    all_both (IsListing pages size db) (λ m. folded l.row.name ≡ folded m.row.name → ⊥) (λ m. folded l.table.name ≡ folded m.table.name → ⊥)
        (λ m is other same. other (row_named l each.0 ∙ (same ∙ sym (row_named m is)))) (tables_among items) (of_tables (IsItem pages size db) items each.1)
        (of_tables (λ item. folded l.row.name ≡ folded (row_of item).name → ⊥) items (from_names (λ n. folded l.row.name ≡ n → ⊥) items apart.0)),
    names_apart items each.1 apart.1,
  )
  names_apart (IndexItem l ∷ items) each apart = names_apart items each.1 apart.1
  names_apart (ViewItem l ∷ items) each apart = names_apart items each.1 apart.1
  names_apart (TriggerItem l ∷ items) each apart = names_apart items each.1 apart.1

pub other_name : (a b : Name) → (folded a ≡ folded b → ⊥) → is_same_name a b ≡ false
other_name a b other = by_test (is_same_name a b) refl
  where
    by_test : (t : Bool) → is_same_name a b ≡ t → t ≡ false
    by_test true is = absurd (other (named_same a b is))
    by_test false is = refl

-- ---- different roots

-- the pages where their trees begin
abbrev pub roots_in : List Item → List ℕ
roots_in items = map (λ owner. owner.root) (owners_in items)

abbrev pub table_roots : List Listing → List ℕ
table_roots tables = map (λ l. l.table.root) tables

-- no two begin at one page
abbrev pub RootsApart : List Listing → Type 0
RootsApart [] = ⊤
RootsApart (l ∷ items) = AllByRecursion (λ m. l.table.root ≡ m.table.root → ⊥) items × RootsApart items

itself : (n : ℕ) → (n == n) ≡ true
itself n = grind (arith, nat_tests)

-- what doesn't stand there is none of it
pub none_there : (n : ℕ) (xs : List ℕ) → occurs n xs ≡ 0 → AllByRecursion (λ m. n ≡ m → ⊥) xs
none_there n [] none = tt
none_there n (m ∷ xs) none = by_test (none_there n xs) (m == n) refl none
  where
    by_test : (occurs n xs ≡ 0 → AllByRecursion (λ m. n ≡ m → ⊥) xs) → (b : Bool) → (m == n) ≡ b → cond {A = ℕ} b 1 0 + occurs n xs ≡ 0 → AllByRecursion (λ m. n ≡ m → ⊥) (m ∷ xs)
    by_test rest true is none = absurd (omega (arith, none))
    by_test rest false is none = ((λ same. false≢true (sym is ∙ subst (λ (k : ℕ). (k == n) ≡ true) same (itself n))), rest (omega (arith, none)))

once_more : (n : ℕ) (xs : List ℕ) → occurs n (n ∷ xs) ≡ 1 + occurs n xs
once_more n xs = ap (λ b. cond {A = ℕ} b 1 0 + occurs n xs) (itself n)

fewer_after : (n x : ℕ) (xs : List ℕ) → occurs n xs ≤ occurs n (x ∷ xs)
fewer_after n x xs = by_test (x == n)
  where
    by_test : (b : Bool) → occurs n xs ≤ cond {A = ℕ} b 1 0 + occurs n xs
    by_test true = omega arith
    by_test false = omega arith

pub roots_apart : (tables : List Listing) → ((n : ℕ) → occurs n (table_roots tables) ≤ 1) → RootsApart tables
roots_apart [] once = tt
roots_apart (l ∷ tables) once =
    let here = once l.table.root in
    let more = once_more l.table.root (table_roots tables) in (
      from_map (λ n. l.table.root ≡ n → ⊥) (λ m. m.table.root) tables (none_there l.table.root (table_roots tables) (omega (arith, here, more))),
      roots_apart tables (λ n. (let all = once n in let fewer = fewer_after n l.table.root (table_roots tables) in omega (arith, all, fewer))),
    )

-- roots of tables are roots
pub fewer_roots : (n : ℕ) (items : List Item) → occurs n (table_roots (tables_among items)) ≤ occurs n (roots_in items)
fewer_roots n [] = omega arith
fewer_roots n (TableItem l ∷ items) = let rest = fewer_roots n items in omega (arith, rest)
fewer_roots n (IndexItem l ∷ items) = let rest = fewer_roots n items in let fewer = fewer_after n l.index.root (roots_in items) in omega (arith, rest, fewer)
fewer_roots n (ViewItem l ∷ items) = fewer_roots n items
fewer_roots n (TriggerItem l ∷ items) = fewer_roots n items

-- what the first table of this root has
abbrev pub at_root : {A : Type 0} → (Listing → A) → A → List Listing → ℕ → A
at_root f other [] root = other
at_root f other (l ∷ items) root = cond (l.table.root == root) (f l) (at_root f other items root)

not_same : (n m : ℕ) → (n ≡ m → ⊥) → (n == m) ≡ false
not_same n m ne = grind (arith, nat_tests)

each_at_root : {A : Type 0} (f : Listing → A) (other : A) (items : List Listing) → RootsApart items → AllByRecursion (λ l. at_root f other items l.table.root ≡ f l) items
each_at_root f other [] apart = tt
each_at_root f other (m ∷ items) apart = (
  ap (λ b. cond b (f m) (at_root f other items m.table.root)) (itself m.table.root),
  all_both (λ l. m.table.root ≡ l.table.root → ⊥) (λ l. at_root f other items l.table.root ≡ f l) (λ l. at_root f other (m ∷ items) l.table.root ≡ f l)
      (λ l ne is. ap (λ b. cond b (f m) (at_root f other items l.table.root)) (not_same m.table.root l.table.root ne) ∙ is) items apart.0 (each_at_root f other items apart.1),
)

-- ---- what is found

-- the rows of the table of a root
abbrev pub content_at : List Listing → ℕ → List TableRow
content_at items root = at_root (λ l. l.content) [] items root

-- it is found among these by its root
pub record Stands (pages : PageMap) (size : ℕ) (db : Database) (items : List Listing) (l : Listing) : Type 0 where
  pub is : IsListing pages size db l
  pub content_is : content_at items l.table.root ≡ l.content

pub all_stand : (pages : PageMap) (size : ℕ) (db : Database) (items : List Listing) → AllByRecursion (IsListing pages size db) items → RootsApart items → AllByRecursion (Stands pages size db items) items
all_stand pages size db items each roots =
    all_both (IsListing pages size db) (λ l. content_at items l.table.root ≡ l.content) (Stands pages size db items) (λ l is content. record { is = is; content_is = content }) items each
    (each_at_root (λ l. l.content) [] items roots)
