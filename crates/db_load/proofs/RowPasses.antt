-- The pass over the rows of tables, views and triggers, and that over the rows of indexes: what is listed where so many rows were read, of rows
-- that tell what is listed.
use Rattle.std.proofs.Common.{◌≡◌, ◌∙◌, refl, sym, ap, subst, ℕ, Bool, true, false, not, cond, List, [], ◌∷◌, ◌++◌, map, filter}
use Rattle.std.specs.List.{AllByRecursion, list_any}
use Rattle.std.proofs.lemmas.List.{append-nil, append_assoc}
use Rattle.tree_leaf.specs.Leaf.{Entry}
use Rattle.tree_page.specs.Cells.{Pairwise}
use Rattle.sqlval.specs.Lists.{any_twice}
use Rattle.sqlval.specs.Names.{is_same_name}
use Rattle.catalog.specs.Listed.{Listed, is_name_of}
use Rattle.catalog.specs.declared.tables.Index.{Index}
use Rattle.catalog.specs.declared.tables.Table.{Table}
use Rattle.db_pages.specs.Reordering.{AreReordered}
use Rattle.query_names.specs.Bound.{is_twice_named}
use Rattle.db_pages.specs.Schema.{AreRowsOf, IndexTold, TableTold, Tells, Told, TriggerTold, ViewTold, all_told, tables_told}
use Rattle.db_load.specs.Loading.{bare}
use Rattle.db_load.specs.Reading.{AddsOf, AddsTold, AreAlike, AreIndexed, AreSound, CanAdd, IsLoading, StandsIn, bare_told, is_of_pass, listed_by, name_told, parts_of}
use Rattle.db_pages.proofs.Reordering.{all_reordered, is_reordered, reordered_all, reordered_both, reordered_front, reordered_is, reordered_map, reordered_parts, reordered_refl, reordered_sym, reordered_trans}
use Rattle.db_load.proofs.Items.{all_among, all_both, all_front, among_filter, among_first, among_map, among_middle, among_reordered, filter_middle, filter_none, filter_one, reordered_filter, to_front}
use Rattle.db_load.proofs.KeyIndexes.{CanComeDue, told_due}
use Rattle.db_load.proofs.ListedTables.{table_among, table_listed}
use Rattle.db_load.proofs.ToldAdded.{index_parts, parts_more}
use Rattle.db_load.proofs.ToldParts.{AreApart, HasOwnColumns, apart_bare, apart_first, apart_named, apart_reordered, bare_apart, bare_names, columns_bare, map_append, named_apart, names_told, neither, none_first, not_taken, of_tables, table_parts, treeless_all, treeless_told}

-- ---- what is listed, and what isn't yet

-- the items of the other pass
pub other_pass : (x : Told) → is_of_pass false x ≡ not (is_of_pass true x)
other_pass (TableTold t) = refl
other_pass (IndexTold t i) = refl
other_pass (ViewTold v) = refl
other_pass (TriggerTold g) = refl

others_same : (xs : List Told) → filter (λ x. not (is_of_pass true x)) xs ≡ filter (is_of_pass false) xs
others_same [] = refl
others_same (x ∷ xs) =
    ap (λ (b : Bool). cond b (x ∷ filter (λ x. not (is_of_pass true x)) xs) (filter (λ x. not (is_of_pass true x)) xs)) (sym (other_pass x))
    ∙ ap (λ (ls : List Told). cond (is_of_pass false x) (x ∷ ls) ls) (others_same xs)

-- those of the first pass, and then the indexes
pub passes_apart : (xs : List Told) → AreReordered xs (filter (is_of_pass true) xs ++ filter (is_of_pass false) xs)
passes_apart xs =
    reordered_is xs (filter (is_of_pass true) xs ++ filter (λ x. not (is_of_pass true x)) xs) (filter (is_of_pass true) xs ++ filter (is_of_pass false) xs)
    (ap (λ ls. filter (is_of_pass true) xs ++ ls) (others_same xs)) (reordered_parts (is_of_pass true) xs)

-- an item that is to be listed next, what is listed, and the others
pub record IsParted (all listed : List Told) (x : Told) : Type 0 where
  pub others : List Told
  pub is : AreReordered all (x ∷ (listed ++ others))

first_parted : (before rest : List Told) (x : Told) → IsParted (before ++ x ∷ rest) (listed_by true before (x ∷ rest)) x
first_parted before rest x = record {
  others = late ++ rest;
  is =
      reordered_trans (before ++ x ∷ rest) (x ∷ (before ++ rest)) (x ∷ (early ++ (late ++ rest))) (to_front before rest x)
      (reordered_front x (before ++ rest) (early ++ (late ++ rest))
      (reordered_is (before ++ rest) ((early ++ late) ++ rest) (early ++ (late ++ rest)) (append_assoc early late rest)
      (reordered_both before (early ++ late) rest rest (passes_apart before) (reordered_refl rest))));
}
  where
    early : List Told
    early = filter (is_of_pass true) before

    late : List Told
    late = filter (is_of_pass false) before

index_parted : (before rest : List Told) (t : Table) (i : Index) → IsParted (before ++ IndexTold t i ∷ rest) (listed_by false before (IndexTold t i ∷ rest)) (IndexTold t i)
index_parted before rest t i = record {
  others = filter (is_of_pass false) rest;
  is =
      reordered_trans all (early ++ filter (is_of_pass false) all) (x ∷ ((early ++ late) ++ filter (is_of_pass false) rest)) (passes_apart all)
      (is_reordered ((early ++ late) ++ x ∷ filter (is_of_pass false) rest) (early ++ filter (is_of_pass false) all) (x ∷ ((early ++ late) ++ filter (is_of_pass false) rest))
      (append_assoc early late (x ∷ filter (is_of_pass false) rest) ∙ ap (λ ls. early ++ ls) (sym (filter_middle (is_of_pass false) before rest x)))
      (to_front (early ++ late) (filter (is_of_pass false) rest) x));
}
  where
    x : Told
    x = IndexTold t i

    all : List Told
    all = before ++ IndexTold t i ∷ rest

    early : List Told
    early = filter (is_of_pass true) (before ++ IndexTold t i ∷ rest)

    late : List Told
    late = filter (is_of_pass false) before

-- tables whose columns have different names, as items
pub own_columns : (l : Listed) → AllByRecursion (λ (t : Table). is_twice_named t.columns ≡ false) l.tables → AllByRecursion HasOwnColumns (all_told l)
own_columns l all = all_both HasOwnColumns (tables_told l.tables) (treeless_told l) (for_tables l.tables all) (treeless_all HasOwnColumns l (λ v. tt) (λ g. tt))
  where
    for_indexes : (t : Table) (is : List Index) → AllByRecursion HasOwnColumns (map (λ (i : Index). IndexTold t i) is)
    for_indexes t [] = tt
    for_indexes t (i ∷ is) = (tt, for_indexes t is)

    for_tables : (ts : List Table) → AllByRecursion (λ (t : Table). is_twice_named t.columns ≡ false) ts → AllByRecursion HasOwnColumns (tables_told ts)
    for_tables [] all = tt
    for_tables (t ∷ ts) all = (all.0, all_both HasOwnColumns (map (λ (i : Index). IndexTold t i) t.indexes) (tables_told ts) (for_indexes t t.indexes) (for_tables ts all.1))

-- and the other way about
pub columns_own : (l : Listed) → AllByRecursion HasOwnColumns (parts_of l) → AllByRecursion (λ (t : Table). is_twice_named t.columns ≡ false) l.tables
columns_own l all = of_each l.tables (of_tables HasOwnColumns l all)
  where
    second : (xs ys : List Told) → AllByRecursion HasOwnColumns (xs ++ ys) → AllByRecursion HasOwnColumns ys
    second [] ys all = all
    second (x ∷ xs) ys all = second xs ys all.1

    of_each : (ts : List Table) → AllByRecursion HasOwnColumns (table_parts ts) → AllByRecursion (λ (t : Table). is_twice_named t.columns ≡ false) ts
    of_each [] all = tt
    of_each (t ∷ ts) all = (all.0, of_each ts (second (index_parts t) (table_parts ts) (subst (AllByRecursion HasOwnColumns) (parts_more t ts) all).1))

module _ (l now : Listed) (sound : AreSound l) (all listed : List Told) (x : Told) (is : AreReordered all (all_told l)) (parted : IsParted all listed x)
    (here : AreReordered (map bare_told listed) (parts_of now)) where
  apart_next : AreApart (x ∷ (listed ++ parted.others))
  apart_next =
      apart_reordered all (x ∷ (listed ++ parted.others)) parted.is (apart_reordered (all_told l) all (reordered_sym all (all_told l) is) (named_apart l sound.named))

  columns_next : AllByRecursion HasOwnColumns (x ∷ (listed ++ parted.others))
  columns_next =
      all_reordered HasOwnColumns all (x ∷ (listed ++ parted.others)) parted.is
      (reordered_all HasOwnColumns all (all_told l) is (own_columns l sound.columns))

  name_next : list_any (is_same_name (name_told x)) (names_told (listed ++ parted.others)) ≡ false
  name_next = (neither (list_any (is_same_name (name_told x)) (names_told (listed ++ parted.others))) (any_twice is_same_name (names_told (listed ++ parted.others))) apart_next).0

  pub parts_apart : AreApart (parts_of now)
  parts_apart =
      apart_reordered (map bare_told listed) (parts_of now) here
      (bare_apart listed (apart_first listed parted.others (neither (list_any (is_same_name (name_told x)) (names_told (listed ++ parted.others))) (any_twice is_same_name (names_told (listed ++ parted.others))) apart_next).1))

  -- what is listed is sound
  pub now_sound : AreSound now
  now_sound = record {
    columns = columns_own now (all_reordered HasOwnColumns (map bare_told listed) (parts_of now) here (columns_bare listed (all_front HasOwnColumns listed parted.others columns_next.1)));
    named = apart_named now (apart_bare (all_told now) parts_apart);
  }

  -- the name of the next isn't taken
  pub next_fresh : is_name_of now (name_told x) ≡ false
  next_fresh =
      not_taken (map bare_told listed) now (name_told x) here
      (ap (list_any (is_same_name (name_told x))) (bare_names listed) ∙ none_first (is_same_name (name_told x)) listed parted.others name_next)

-- ---- one row more

-- what the next row tells can be added, and then what is told so far is listed
pub record IsNextTold (first : Bool) (pages : ℕ) (l : Listed) (row : Entry) (left : List Entry) (now : Listed) : Type 0 where
  pub item : Told
  pub tells : Tells pages item row
  pub can : CanAdd first item now
  pub goes_on : (new : Listed) → AddsOf first item now new → IsLoading first pages l left new

module _ (first : Bool) (pages : ℕ) (l : Listed) (before rest : List Told) (x : Told) (left : List Entry) (now : Listed) (all : AreReordered (before ++ x ∷ rest) (all_told l))
    (each : Pairwise (Tells pages) rest left) where
  grouped : (before ++ x ∷ []) ++ rest ≡ before ++ x ∷ rest
  grouped = append_assoc before (x ∷ []) rest

  on_with : (new : Listed) → AreReordered (map bare_told (listed_by first (before ++ x ∷ []) rest)) (parts_of new) → IsLoading first pages l left new
  on_with new listed = record {
    before = before ++ x ∷ [];
    rest = rest;
    all = is_reordered (before ++ x ∷ rest) ((before ++ x ∷ []) ++ rest) (all_told l) (sym grouped) all;
    each = each;
    listed = listed;
  }

  -- nothing is added
  on_same : (new : Listed) → listed_by first (before ++ x ∷ []) rest ≡ listed_by first before (x ∷ rest) → AreReordered (map bare_told (listed_by first before (x ∷ rest))) (parts_of now) → new ≡ now
      → IsLoading first pages l left new
  on_same new same listed is =
      on_with new
      (subst (λ (us : Listed). AreReordered (map bare_told (listed_by first (before ++ x ∷ []) rest)) (parts_of us)) (sym is)
      (is_reordered (map bare_told (listed_by first before (x ∷ rest))) (map bare_told (listed_by first (before ++ x ∷ []) rest)) (parts_of now) (ap (map bare_told) (sym same)) listed))

  -- the item is
  on_added : (new : Listed) → listed_by first (before ++ x ∷ []) rest ≡ listed_by first before (x ∷ rest) ++ x ∷ [] → AreReordered (map bare_told (listed_by first before (x ∷ rest))) (parts_of now)
      → AddsTold x now new → IsLoading first pages l left new
  on_added new more listed adds =
      on_with new
      (is_reordered (map bare_told old ++ bare_told x ∷ []) (map bare_told (listed_by first (before ++ x ∷ []) rest)) (parts_of new)
      (sym (ap (map bare_told) more ∙ map_append bare_told old (x ∷ [])))
      (reordered_trans (map bare_told old ++ bare_told x ∷ []) (bare_told x ∷ parts_of now) (parts_of new)
      (reordered_trans (map bare_told old ++ bare_told x ∷ []) (bare_told x ∷ (map bare_told old ++ [])) (bare_told x ∷ parts_of now) (to_front (map bare_told old) [] (bare_told x))
      (reordered_front (bare_told x) (map bare_told old ++ []) (parts_of now) (is_reordered (map bare_told old) (map bare_told old ++ []) (parts_of now) (sym (append-nil (map bare_told old))) listed)))
      adds.more))
    where
      old : List Told
      old = listed_by first before (x ∷ rest)

-- an index that is told can come to its table
can_come : (l : Listed) (told : List Told) → AreIndexed l → (x : Told) → AreReordered told (all_told l) → StandsIn x told → CanComeDue x
can_come l told indexed x all is =
    all_among CanComeDue x told (reordered_all CanComeDue told (all_told l) all (told_due l (named_apart l indexed.sound.named) indexed.keys)) is

-- what the first pass lists
first_told : (pages : ℕ) (l : Listed) (row : Entry) (left : List Entry) (now : Listed) (before rest : List Told) (x : Told) → is_of_pass true x ≡ true → AreIndexed l
    → AreReordered (before ++ x ∷ rest) (all_told l) → Tells pages x row → Pairwise (Tells pages) rest left → AreReordered (map bare_told (listed_by true before (x ∷ rest))) (parts_of now)
    → (AreSound now × (is_name_of now (name_told x) ≡ false) → CanAdd true x now) → ((new : Listed) → AddsOf true x now new → AddsTold x now new) → IsNextTold true pages l row left now
first_told pages l row left now before rest x pass indexed all tells each listed can adds_it =
    let parted = first_parted before rest x in record {
      item = x;
      tells = tells;
      can = can (
        now_sound l now indexed.sound (before ++ x ∷ rest) (listed_by true before (x ∷ rest)) x all parted listed,
        next_fresh l now indexed.sound (before ++ x ∷ rest) (listed_by true before (x ∷ rest)) x all parted listed,
      );
      goes_on = λ new adds. on_added true pages l before rest x left now all each new (filter_one (is_of_pass true) before x pass) listed (adds_it new adds);
    }

-- where the second pass lists nothing more
no_more : (before rest : List Told) (x : Told) → is_of_pass false x ≡ false → listed_by false (before ++ x ∷ []) rest ≡ listed_by false before (x ∷ rest)
no_more before rest x pass =
    ap (λ ls. filter (is_of_pass true) ls ++ filter (is_of_pass false) (before ++ x ∷ [])) (append_assoc before (x ∷ []) rest)
    ∙ ap (λ ls. filter (is_of_pass true) (before ++ x ∷ rest) ++ ls) (filter_none (is_of_pass false) before x pass)

next_told : (first : Bool) (pages : ℕ) (l : Listed) (row : Entry) (left : List Entry) (now : Listed) (before rest : List Told) (x : Told) → AreIndexed l
    → AreReordered (before ++ x ∷ rest) (all_told l) → Tells pages x row → Pairwise (Tells pages) rest left → AreReordered (map bare_told (listed_by first before (x ∷ rest))) (parts_of now)
    → IsNextTold first pages l row left now
next_told true pages l row left now before rest (TableTold t) indexed all tells each listed = first_told pages l row left now before rest (TableTold t) refl indexed all tells each listed (λ both. both) (λ new adds. adds)
next_told true pages l row left now before rest (IndexTold t i) indexed all tells each listed = record {
  item = IndexTold t i;
  tells = tells;
  can = tt;
  goes_on = λ new same. on_same true pages l before rest (IndexTold t i) left now all each new (filter_none (is_of_pass true) before (IndexTold t i) refl) listed same;
}
next_told true pages l row left now before rest (ViewTold v) indexed all tells each listed = first_told pages l row left now before rest (ViewTold v) refl indexed all tells each listed (λ both. both) (λ new adds. adds)
next_told true pages l row left now before rest (TriggerTold g) indexed all tells each listed = first_told pages l row left now before rest (TriggerTold g) refl indexed all tells each listed (λ both. both) (λ new adds. adds)
next_told false pages l row left now before rest (TableTold t) indexed all tells each listed = record {
  item = TableTold t;
  tells = tells;
  can = tt;
  goes_on = λ new same. on_same false pages l before rest (TableTold t) left now all each new (no_more before rest (TableTold t) refl) listed same;
}
next_told false pages l row left now before rest (ViewTold v) indexed all tells each listed = record {
  item = ViewTold v;
  tells = tells;
  can = tt;
  goes_on = λ new same. on_same false pages l before rest (ViewTold v) left now all each new (no_more before rest (ViewTold v) refl) listed same;
}
next_told false pages l row left now before rest (TriggerTold g) indexed all tells each listed = record {
  item = TriggerTold g;
  tells = tells;
  can = tt;
  goes_on = λ new same. on_same false pages l before rest (TriggerTold g) left now all each new (no_more before rest (TriggerTold g) refl) listed same;
}
next_told false pages l row left now before rest (IndexTold t i) indexed all tells each listed =
    let x : Told = IndexTold t i in
    let told : List Told = before ++ x ∷ rest in
    let old : List Told = listed_by false before (x ∷ rest) in
    let parted = index_parted before rest t i in
    let can = can_come l told indexed x all (among_middle x before rest) in
    let owner = table_among l told t i all (among_middle x before rest) in
    let there = among_reordered (TableTold (bare t)) (map bare_told old) (parts_of now) listed
    (among_map bare_told (TableTold t) old (among_first (TableTold t) (filter (is_of_pass true) told) (filter (is_of_pass false) before) (among_filter (is_of_pass true) (TableTold t) told refl owner))) in
    let found = table_listed now (bare t) (parts_apart l now indexed.sound told old x all parted listed) there in
    record {
      item = x;
      tells = tells;
      can = record {
        sound = now_sound l now indexed.sound told old x all parted listed;
        fresh = next_fresh l now indexed.sound told old x all parted listed;
        due = can.0;
        due_once = can.1;
        other = found.other;
        listed = found.listed;
        alike = found.alike;
      };
      goes_on = λ new adds. on_added false pages l before rest x left now all each new
          (ap (λ ls. filter (is_of_pass true) ls ++ filter (is_of_pass false) (before ++ x ∷ [])) (append_assoc before (x ∷ []) rest)
          ∙ (ap (λ ls. filter (is_of_pass true) told ++ ls) (filter_one (is_of_pass false) before x refl) ∙ sym (append_assoc (filter (is_of_pass true) told) (filter (is_of_pass false) before) (x ∷ [])))) listed adds;
    }

pub row_comes : (first : Bool) (pages : ℕ) (l : Listed) (row : Entry) (whole left : List Entry) (now : Listed) → AreIndexed l → whole ≡ row ∷ left → IsLoading first pages l whole now
    → IsNextTold first pages l row left now
row_comes first pages l row whole left now indexed is so_far =
    by_rest so_far.rest so_far.all (subst (Pairwise (Tells pages) so_far.rest) is so_far.each) so_far.listed
  where
    by_rest : (rest : List Told) → AreReordered (so_far.before ++ rest) (all_told l) → Pairwise (Tells pages) rest (row ∷ left) → AreReordered (map bare_told (listed_by first so_far.before rest)) (parts_of now)
        → IsNextTold first pages l row left now
    by_rest [] all each listed = absurd each
    by_rest (x ∷ rest) all each listed = next_told first pages l row left now so_far.before rest x indexed all each.0 each.1 listed

-- ---- whole passes

-- before the first pass
pub first_begins : (pages : ℕ) (l : Listed) (rows : List Entry) (now : Listed) → now ≡ record { tables = []; views = []; triggers = [] } → AreRowsOf pages l rows → IsLoading true pages l rows now
first_begins pages l rows now none tell = record {
  before = [];
  rest = tell.told;
  all = tell.all;
  each = tell.each;
  listed = ap parts_of none;
}

no_rest : (pages : ℕ) (rest : List Told) → Pairwise (Tells pages) rest [] → rest ≡ []
no_rest pages [] each = refl
no_rest pages (x ∷ rest) each = absurd each

-- between the passes
pub second_begins : (pages : ℕ) (l : Listed) (rows : List Entry) (now : Listed) → AreRowsOf pages l rows → IsLoading true pages l [] now → IsLoading false pages l rows now
second_begins pages l rows now tell so_far = record {
  before = [];
  rest = tell.told;
  all = tell.all;
  each = tell.each;
  listed =
      reordered_trans (map bare_told (filter (is_of_pass true) tell.told ++ [])) (map bare_told (filter (is_of_pass true) so_far.before)) (parts_of now)
      (reordered_map bare_told (filter (is_of_pass true) tell.told ++ []) (filter (is_of_pass true) so_far.before)
      (is_reordered (filter (is_of_pass true) tell.told) (filter (is_of_pass true) tell.told ++ []) (filter (is_of_pass true) so_far.before) (sym (append-nil (filter (is_of_pass true) tell.told)))
      (reordered_filter (is_of_pass true) tell.told so_far.before (reordered_trans tell.told (all_told l) so_far.before tell.all (reordered_sym so_far.before (all_told l) all)))))
      so_far.listed;
}
  where
    all : AreReordered so_far.before (all_told l)
    all = is_reordered (so_far.before ++ so_far.rest) so_far.before (all_told l) (ap (λ ls. so_far.before ++ ls) (no_rest pages so_far.rest so_far.each) ∙ append-nil so_far.before) so_far.all

-- after the second
pub all_listed : (pages : ℕ) (l now : Listed) → IsLoading false pages l [] now → AreAlike l now
all_listed pages l now so_far =
    reordered_trans (parts_of l) (map bare_told so_far.before) (parts_of now) (reordered_map bare_told (all_told l) so_far.before (reordered_sym so_far.before (all_told l) all))
    (reordered_trans (map bare_told so_far.before) (map bare_told (filter (is_of_pass true) so_far.before ++ filter (is_of_pass false) so_far.before)) (parts_of now)
    (reordered_map bare_told so_far.before (filter (is_of_pass true) so_far.before ++ filter (is_of_pass false) so_far.before) (passes_apart so_far.before))
    (is_reordered (map bare_told (listed_by false so_far.before so_far.rest)) (map bare_told (filter (is_of_pass true) so_far.before ++ filter (is_of_pass false) so_far.before)) (parts_of now)
    (ap (λ ls. map bare_told (filter (is_of_pass true) ls ++ filter (is_of_pass false) so_far.before)) without) so_far.listed))
  where
    without : so_far.before ++ so_far.rest ≡ so_far.before
    without = ap (λ ls. so_far.before ++ ls) (no_rest pages so_far.rest so_far.each) ∙ append-nil so_far.before

    all : AreReordered so_far.before (all_told l)
    all = is_reordered (so_far.before ++ so_far.rest) so_far.before (all_told l) without so_far.all
