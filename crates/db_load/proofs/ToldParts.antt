-- What is listed, as parts in any order: the tables, each without its indexes, the indexes, the views, and the triggers.
use Rattle.std.proofs.Common.{◌≡◌, ◌∙◌, refl, sym, ap, ap₂, subst, ℕ, Bool, true, false, not, ◌||◌, cond, List, [], ◌∷◌, ◌++◌, map, Some}
use Rattle.std.specs.Prelude.{⊤, flat_map}
use Rattle.std.specs.List.{AllByRecursion, find, list_any}
use Rattle.std.proofs.lemmas.Bool.{false≢true}
use Rattle.std.proofs.lemmas.List.{append_assoc}
use Rattle.std.proofs.lemmas.Slice.Eq.{bytes_eq-Decides}
use Rattle.sqlval.specs.Lists.{any_twice}
use Rattle.sqlval.specs.Names.{folded, is_same_name}
use Rattle.catalog.specs.Database.{Name}
use Rattle.catalog.specs.Listed.{Listed, are_named_once, has_index, has_table_name, is_name_of, is_table, is_trigger, is_view, names_of, treeless_names}
use Rattle.catalog.specs.declared.tables.Index.{Index}
use Rattle.catalog.specs.declared.tables.Table.{Table}
use Rattle.catalog.specs.declared.tables.Trigger.{Trigger}
use Rattle.catalog.specs.declared.tables.View.{View}
use Rattle.db_pages.specs.Reordering.{AreReordered}
use Rattle.query_names.specs.Bound.{AreOnce, is_twice_named}
use Rattle.db_pages.specs.Schema.{IndexTold, TableTold, Told, TriggerTold, ViewTold, all_told, tables_told}
use Rattle.db_load.specs.Reading.{AddsTold, bare_told, name_told, parts_of}
use Rattle.db_pages.proofs.Reordering.{is_reordered, reordered_any, reordered_both, reordered_front, reordered_is, reordered_map, reordered_refl, reordered_swapped, reordered_trans}

-- ---- lists

pub map_append : {A B : Type 0} (f : A → B) (xs ys : List A) → map f (xs ++ ys) ≡ map f xs ++ map f ys
map_append f [] ys = refl
map_append f (x ∷ xs) ys = ap (λ ls. f x ∷ ls) (map_append f xs ys)

pub flat_append : {A B : Type 0} (f : A → List B) (xs ys : List A) → flat_map f (xs ++ ys) ≡ flat_map f xs ++ flat_map f ys
flat_append f [] ys = refl
flat_append f (x ∷ xs) ys = ap (λ ls. f x ++ ls) (flat_append f xs ys) ∙ sym (append_assoc (f x) (flat_map f xs) (flat_map f ys))

any_append : {A : Type 0} (p : A → Bool) (xs ys : List A) → list_any p (xs ++ ys) ≡ (list_any p xs || list_any p ys)
any_append p [] ys = refl
any_append p (x ∷ xs) ys = ap (λ b. p x || b) (any_append p xs ys) ∙ or_assoc (p x) (list_any p xs) (list_any p ys)
  where
    or_assoc : (a b c : Bool) → (a || (b || c)) ≡ ((a || b) || c)
    or_assoc true b c = refl
    or_assoc false b c = refl

pub neither : (a b : Bool) → (a || b) ≡ false → (a ≡ false) × (b ≡ false)
neither true b h = absurd (false≢true (sym h))
neither false b h = (refl, h)

-- ---- what has no tree

-- the views, and then the triggers
abbrev pub treeless_told : Listed → List Told
treeless_told l = map ViewTold l.views ++ map TriggerTold l.triggers

-- what holds of each view and of each trigger
pub treeless_all : (P : Told → Type 0) (l : Listed) → ((v : View) → P (ViewTold v)) → ((g : Trigger) → P (TriggerTold g)) → AllByRecursion P (treeless_told l)
treeless_all P l view trigger = of_views l.views
  where
    of_triggers : (gs : List Trigger) → AllByRecursion P (map TriggerTold gs)
    of_triggers [] = tt
    of_triggers (g ∷ gs) = (trigger g, of_triggers gs)

    of_views : (vs : List View) → AllByRecursion P (map ViewTold vs ++ map TriggerTold l.triggers)
    of_views [] = of_triggers l.triggers
    of_views (v ∷ vs) = (view v, of_views vs)

-- ---- names

pub is_named : (a b : List ℕ) → folded b ≡ folded a → is_same_name a b ≡ true
is_named a b h = (bytes_eq-Decides (folded a) (folded b)).1 (sym h)

pub is_folded : (a b : List ℕ) → is_same_name a b ≡ true → folded b ≡ folded a
is_folded a b h = sym ((bytes_eq-Decides (folded a) (folded b)).0 h)

pub same_turned : (a b : Name) → is_same_name a b ≡ is_same_name b a
same_turned a b = by_test (is_same_name a b) refl (is_same_name b a) refl
  where
    by_test : (t : Bool) → is_same_name a b ≡ t → (u : Bool) → is_same_name b a ≡ u → t ≡ u
    by_test true e true f = refl
    by_test false e false f = refl
    by_test true e false f = absurd (false≢true (sym f ∙ is_named b a (sym (is_folded a b e))))
    by_test false e true f = absurd (false≢true (sym e ∙ is_named a b (sym (is_folded b a f))))

abbrev pub names_told : List Told → List Name
names_told items = map name_told items

pub bare_name : (item : Told) → name_told (bare_told item) ≡ name_told item
bare_name (TableTold t) = refl
bare_name (IndexTold t i) = refl
bare_name (ViewTold v) = refl
bare_name (TriggerTold g) = refl

pub bare_names : (items : List Told) → names_told (map bare_told items) ≡ names_told items
bare_names [] = refl
bare_names (x ∷ xs) = ap (λ n. n ∷ names_told (map bare_told xs)) (bare_name x) ∙ ap (λ ns. name_told x ∷ ns) (bare_names xs)

abbrev names_in : Table → List Name
names_in t = map (λ (i : Index). i.name) t.indexes

pub index_names : (t : Table) (is : List Index) → names_told (map (λ (i : Index). IndexTold t i) is) ≡ map (λ (i : Index). i.name) is
index_names t [] = refl
index_names t (i ∷ is) = ap (λ ns. i.name ∷ ns) (index_names t is)

view_names : (vs : List View) → names_told (map ViewTold vs) ≡ map (λ (v : View). v.definition.name) vs
view_names [] = refl
view_names (v ∷ vs) = ap (λ ns. v.definition.name ∷ ns) (view_names vs)

trigger_names : (gs : List Trigger) → names_told (map TriggerTold gs) ≡ map (λ (g : Trigger). g.definition.name) gs
trigger_names [] = refl
trigger_names (g ∷ gs) = ap (λ ns. g.definition.name ∷ ns) (trigger_names gs)

names_treeless : (l : Listed) → names_told (treeless_told l) ≡ treeless_names l
names_treeless l =
    map_append name_told (map ViewTold l.views) (map TriggerTold l.triggers)
    ∙ ap₂ (λ (ns ms : List Name). ns ++ ms) (view_names l.views) (trigger_names l.triggers)

-- the names of the tables and their indexes are those of the tables and then those of the indexes, reordered
table_names : (ts : List Table) → AreReordered (names_told (tables_told ts)) (map (λ (t : Table). t.name) ts ++ flat_map names_in ts)
table_names [] = refl
table_names (t ∷ ts) =
    reordered_front t.name (names_told (map (λ (i : Index). IndexTold t i) t.indexes ++ tables_told ts)) (tables ++ (mine ++ others))
    (is_reordered (mine ++ names_told (tables_told ts)) (names_told (map (λ (i : Index). IndexTold t i) t.indexes ++ tables_told ts)) (tables ++ (mine ++ others)) front
    (reordered_trans (mine ++ names_told (tables_told ts)) (mine ++ (tables ++ others)) (tables ++ (mine ++ others))
    (reordered_both mine mine (names_told (tables_told ts)) (tables ++ others) (reordered_refl mine) (table_names ts)) turn))
  where
    mine : List Name
    mine = names_in t

    tables : List Name
    tables = map (λ (u : Table). u.name) ts

    others : List Name
    others = flat_map names_in ts

    front : mine ++ names_told (tables_told ts) ≡ names_told (map (λ (i : Index). IndexTold t i) t.indexes ++ tables_told ts)
    front = sym (map_append name_told (map (λ (i : Index). IndexTold t i) t.indexes) (tables_told ts) ∙ ap (λ ns. ns ++ names_told (tables_told ts)) (index_names t t.indexes))

    turn : AreReordered (mine ++ (tables ++ others)) (tables ++ (mine ++ others))
    turn =
        is_reordered ((mine ++ tables) ++ others) (mine ++ (tables ++ others)) (tables ++ (mine ++ others)) (append_assoc mine tables others)
        (reordered_is ((mine ++ tables) ++ others) ((tables ++ mine) ++ others) (tables ++ (mine ++ others)) (append_assoc tables mine others)
        (reordered_both (mine ++ tables) (tables ++ mine) others others (reordered_swapped mine tables) (reordered_refl others)))

-- the names of all that is told are those of the tables, then those of what has no tree and then those of the indexes, reordered
pub told_names : (l : Listed) → AreReordered (names_told (all_told l)) (names_of l)
told_names l =
    is_reordered (names_told (tables_told l.tables) ++ treeless) (names_told (all_told l)) (tables ++ (treeless ++ others)) front
    (reordered_trans (names_told (tables_told l.tables) ++ treeless) ((tables ++ others) ++ treeless) (tables ++ (treeless ++ others))
    (reordered_both (names_told (tables_told l.tables)) (tables ++ others) treeless treeless (table_names l.tables) (reordered_refl treeless)) turn)
  where
    tables : List Name
    tables = map (λ (t : Table). t.name) l.tables

    treeless : List Name
    treeless = treeless_names l

    others : List Name
    others = flat_map names_in l.tables

    front : names_told (tables_told l.tables) ++ treeless ≡ names_told (all_told l)
    front = sym (map_append name_told (tables_told l.tables) (treeless_told l) ∙ ap (λ ns. names_told (tables_told l.tables) ++ ns) (names_treeless l))

    turn : AreReordered ((tables ++ others) ++ treeless) (tables ++ (treeless ++ others))
    turn =
        is_reordered (tables ++ (others ++ treeless)) ((tables ++ others) ++ treeless) (tables ++ (treeless ++ others)) (sym (append_assoc tables others treeless))
        (reordered_both tables tables (others ++ treeless) (treeless ++ others) (reordered_refl tables) (reordered_swapped others treeless))

-- names that stand once do in any order
twice_out : (c d : List Name) (x : Name) → any_twice is_same_name (c ++ x ∷ d) ≡ (list_any (is_same_name x) (c ++ d) || any_twice is_same_name (c ++ d))
twice_out [] d x = refl
twice_out (u ∷ c) d x =
    ap (λ b. b || any_twice is_same_name (c ++ x ∷ d)) (any_middle c)
    ∙ (ap (λ b. (is_same_name u x || list_any (is_same_name u) (c ++ d)) || b) (twice_out c d x)
    ∙ (ap (λ b. (b || list_any (is_same_name u) (c ++ d)) || (list_any (is_same_name x) (c ++ d) || any_twice is_same_name (c ++ d))) (same_turned u x)
    ∙ crossed (is_same_name x u) (list_any (is_same_name u) (c ++ d)) (list_any (is_same_name x) (c ++ d)) (any_twice is_same_name (c ++ d))))
  where
    or_swapped : (a b c : Bool) → (a || (b || c)) ≡ (b || (a || c))
    or_swapped true true c = refl
    or_swapped true false c = refl
    or_swapped false true c = refl
    or_swapped false false c = refl

    any_middle : (c : List Name) → list_any (is_same_name u) (c ++ x ∷ d) ≡ (is_same_name u x || list_any (is_same_name u) (c ++ d))
    any_middle [] = refl
    any_middle (v ∷ c) = ap (λ b. is_same_name u v || b) (any_middle c) ∙ or_swapped (is_same_name u v) (is_same_name u x) (list_any (is_same_name u) (c ++ d))

    crossed : (a b e f : Bool) → ((a || b) || (e || f)) ≡ ((a || e) || (b || f))
    crossed true b e f = refl
    crossed false true true f = refl
    crossed false true false f = refl
    crossed false false e f = refl

pub reordered_twice : (xs ys : List Name) → AreReordered xs ys → any_twice is_same_name xs ≡ any_twice is_same_name ys
reordered_twice [] ys h = ap (any_twice is_same_name) (sym h)
reordered_twice (x ∷ xs) ys (c, d, is, rest) =
    ap (λ b. b || any_twice is_same_name xs) (reordered_any (is_same_name x) xs (c ++ d) rest)
    ∙ (ap (λ b. list_any (is_same_name x) (c ++ d) || b) (reordered_twice xs (c ++ d) rest)
    ∙ (sym (twice_out c d x) ∙ ap (any_twice is_same_name) (sym is)))

-- no two items have one name
abbrev pub AreApart : List Told → Type 0
AreApart items = any_twice is_same_name (names_told items) ≡ false

pub apart_reordered : (xs ys : List Told) → AreReordered xs ys → AreApart xs → AreApart ys
apart_reordered xs ys h apart = sym (reordered_twice (names_told xs) (names_told ys) (reordered_map name_told xs ys h)) ∙ apart

-- the last of items of different names have different names
pub apart_more : (xs ys : List Told) → AreApart (xs ++ ys) → AreApart ys
apart_more [] ys apart = apart
apart_more (x ∷ xs) ys apart = apart_more xs ys (neither (list_any (is_same_name (name_told x)) (names_told (xs ++ ys))) (any_twice is_same_name (names_told (xs ++ ys))) apart).1

-- a name that none of them has, none of the first has
pub none_first : (p : Name → Bool) (xs ys : List Told) → list_any p (names_told (xs ++ ys)) ≡ false → list_any p (names_told xs) ≡ false
none_first p [] ys h = refl
none_first p (y ∷ xs) ys h =
    let both = neither (p (name_told y)) (list_any p (names_told (xs ++ ys))) h in ap (λ b. b || list_any p (names_told xs)) both.0 ∙ none_first p xs ys both.1

-- and so have the first
pub apart_first : (xs ys : List Told) → AreApart (xs ++ ys) → AreApart xs
apart_first [] ys h = refl
apart_first (y ∷ xs) ys h =
    let both = neither (list_any (is_same_name (name_told y)) (names_told (xs ++ ys))) (any_twice is_same_name (names_told (xs ++ ys))) h in
    ap (λ b. b || any_twice is_same_name (names_told xs)) (none_first (is_same_name (name_told y)) xs ys both.0) ∙ apart_first xs ys both.1

pub bare_apart : (items : List Told) → AreApart items → AreApart (map bare_told items)
bare_apart items apart = ap (any_twice is_same_name) (bare_names items) ∙ apart

pub apart_bare : (items : List Told) → AreApart (map bare_told items) → AreApart items
apart_bare items apart = sym (ap (any_twice is_same_name) (bare_names items)) ∙ apart

is_not : (b : Bool) → not b ≡ true → b ≡ false
is_not true h = absurd (false≢true h)
is_not false h = refl

pub named_apart : (l : Listed) → are_named_once l ≡ true → AreApart (all_told l)
named_apart l once = reordered_twice (names_told (all_told l)) (names_of l) (told_names l) ∙ is_not (any_twice is_same_name (names_of l)) once

pub apart_named : (l : Listed) → AreApart (all_told l) → are_named_once l ≡ true
apart_named l apart = ap not (sym (reordered_twice (names_told (all_told l)) (names_of l) (told_names l)) ∙ apart)

-- ---- a name that is taken

any_named : (n : Name) (t : Table) (is : List Index) → list_any (λ (i : Index). is_same_name i.name n) is ≡ list_any (is_same_name n) (names_told (map (λ (i : Index). IndexTold t i) is))
any_named n t [] = refl
any_named n t (i ∷ is) = ap (λ b. b || list_any (λ (j : Index). is_same_name j.name n) is) (same_turned i.name n) ∙ ap (λ b. is_same_name n i.name || b) (any_named n t is)

tables_taken : (ts : List Table) (n : Name) → list_any (has_table_name n) ts ≡ list_any (is_same_name n) (names_told (tables_told ts))
tables_taken [] n = refl
tables_taken (t ∷ ts) n =
    ap (λ b. (b || has_index n t) || list_any (has_table_name n) ts) (same_turned t.name n)
    ∙ (ap (λ b. (is_same_name n t.name || b) || list_any (has_table_name n) ts) (any_named n t t.indexes)
    ∙ (ap (λ b. (is_same_name n t.name || list_any (is_same_name n) mine) || b) (tables_taken ts n)
    ∙ (grouped (is_same_name n t.name) (list_any (is_same_name n) mine) (list_any (is_same_name n) (names_told (tables_told ts)))
    ∙ (ap (λ b. is_same_name n t.name || b) (sym (any_append (is_same_name n) mine (names_told (tables_told ts))))
    ∙ ap (λ ns. is_same_name n t.name || list_any (is_same_name n) ns) (sym (map_append name_told (map (λ (i : Index). IndexTold t i) t.indexes) (tables_told ts)))))))
  where
    mine : List Name
    mine = names_told (map (λ (i : Index). IndexTold t i) t.indexes)

    grouped : (a b c : Bool) → ((a || b) || c) ≡ (a || (b || c))
    grouped true b c = refl
    grouped false b c = refl

views_taken : (vs : List View) (n : Name) → list_any (is_view n) vs ≡ list_any (is_same_name n) (names_told (map ViewTold vs))
views_taken [] n = refl
views_taken (v ∷ vs) n = ap (λ b. b || list_any (is_view n) vs) (same_turned v.definition.name n) ∙ ap (λ b. is_same_name n v.definition.name || b) (views_taken vs n)

triggers_taken : (gs : List Trigger) (n : Name) → list_any (is_trigger n) gs ≡ list_any (is_same_name n) (names_told (map TriggerTold gs))
triggers_taken [] n = refl
triggers_taken (g ∷ gs) n = ap (λ b. b || list_any (is_trigger n) gs) (same_turned g.definition.name n) ∙ ap (λ b. is_same_name n g.definition.name || b) (triggers_taken gs n)

treeless_taken : (l : Listed) (n : Name) → (list_any (is_view n) l.views || list_any (is_trigger n) l.triggers) ≡ list_any (is_same_name n) (names_told (treeless_told l))
treeless_taken l n =
    ap₂ (λ (b c : Bool). b || c) (views_taken l.views n) (triggers_taken l.triggers n)
    ∙ (sym (any_append (is_same_name n) (names_told (map ViewTold l.views)) (names_told (map TriggerTold l.triggers)))
    ∙ ap (list_any (is_same_name n)) (sym (map_append name_told (map ViewTold l.views) (map TriggerTold l.triggers))))

pub name_taken : (l : Listed) (n : Name) → is_name_of l n ≡ list_any (is_same_name n) (names_told (all_told l))
name_taken l n =
    ap₂ (λ (b c : Bool). b || c) (tables_taken l.tables n) (treeless_taken l n)
    ∙ (sym (any_append (is_same_name n) (names_told (tables_told l.tables)) (names_told (treeless_told l)))
    ∙ ap (list_any (is_same_name n)) (sym (map_append name_told (tables_told l.tables) (treeless_told l))))

-- the same of the parts
pub name_parts : (l : Listed) (n : Name) → is_name_of l n ≡ list_any (is_same_name n) (names_told (parts_of l))
name_parts l n = name_taken l n ∙ ap (list_any (is_same_name n)) (sym (bare_names (all_told l)))

-- a name that none of these items has isn't taken where they are listed
pub not_taken : (items : List Told) (l : Listed) (n : Name) → AreReordered items (parts_of l) → list_any (is_same_name n) (names_told items) ≡ false → is_name_of l n ≡ false
not_taken items l n h none = name_parts l n ∙ (sym (reordered_any (is_same_name n) (names_told items) (names_told (parts_of l)) (reordered_map name_told items (parts_of l) h)) ∙ none)

-- ---- one more

-- with an item of a new name, names still stand once
pub added_named : (item : Told) (old new : Listed) → AddsTold item old new → are_named_once old ≡ true → are_named_once new ≡ true
added_named item old new adds once =
    apart_named new (apart_bare (all_told new) (apart_reordered (bare_told item ∷ parts_of old) (parts_of new) adds.more first))
  where
    none : list_any (is_same_name (name_told (bare_told item))) (names_told (parts_of old)) ≡ false
    none = ap (λ (n : Name). list_any (is_same_name n) (names_told (parts_of old))) (bare_name item) ∙ (sym (name_parts old (name_told item)) ∙ adds.fresh)

    first : AreApart (bare_told item ∷ parts_of old)
    first = ap (λ b. b || any_twice is_same_name (names_told (parts_of old))) none ∙ bare_apart (all_told old) (named_apart old once)

-- ---- the parts of tables, and of what has no tree

-- tables, each without its indexes, and the indexes
abbrev pub table_parts : List Table → List Told
table_parts ts = map bare_told (tables_told ts)

bare_treeless : (vs : List View) (gs : List Trigger) → map bare_told (map ViewTold vs ++ map TriggerTold gs) ≡ map ViewTold vs ++ map TriggerTold gs
bare_treeless [] [] = refl
bare_treeless [] (g ∷ gs) = ap (λ ls. TriggerTold g ∷ ls) (bare_treeless [] gs)
bare_treeless (v ∷ vs) gs = ap (λ ls. ViewTold v ∷ ls) (bare_treeless vs gs)

pub parts_are : (l : Listed) → parts_of l ≡ table_parts l.tables ++ treeless_told l
parts_are l = map_append bare_told (tables_told l.tables) (treeless_told l) ∙ ap (λ ls. table_parts l.tables ++ ls) (bare_treeless l.views l.triggers)

-- ---- columns

-- a table's columns have different names
abbrev pub HasOwnColumns : Told → Type 0
HasOwnColumns (TableTold t) = is_twice_named t.columns ≡ false
HasOwnColumns (IndexTold t i) = ⊤
HasOwnColumns (ViewTold v) = ⊤
HasOwnColumns (TriggerTold g) = ⊤

pub bare_columns : (item : Told) → HasOwnColumns item → HasOwnColumns (bare_told item)
bare_columns (TableTold t) h = h
bare_columns (IndexTold t i) h = tt
bare_columns (ViewTold v) h = tt
bare_columns (TriggerTold g) h = tt

pub columns_bare : (items : List Told) → AllByRecursion HasOwnColumns items → AllByRecursion HasOwnColumns (map bare_told items)
columns_bare [] all = tt
columns_bare (x ∷ xs) all = (bare_columns x all.0, columns_bare xs all.1)

all_first : (P : Told → Type 0) (xs ys : List Told) → AllByRecursion P (xs ++ ys) → AllByRecursion P xs
all_first P [] ys all = tt
all_first P (x ∷ xs) ys all = (all.0, all_first P xs ys all.1)

all_second : (P : Told → Type 0) (xs ys : List Told) → AllByRecursion P (xs ++ ys) → AllByRecursion P ys
all_second P [] ys all = all
all_second P (x ∷ xs) ys all = all_second P xs ys all.1

-- what holds of the parts of all that is listed holds of those of the tables
pub of_tables : (P : Told → Type 0) (l : Listed) → AllByRecursion P (parts_of l) → AllByRecursion P (table_parts l.tables)
of_tables P l all = all_first P (table_parts l.tables) (treeless_told l) (subst (AllByRecursion P) (parts_are l) all)

pub columns_once : (l : Listed) → AllByRecursion HasOwnColumns (parts_of l) → AreOnce l.tables
columns_once l all = of_each l.tables (of_tables HasOwnColumns l all)
  where
    of_each : (ts : List Table) → AllByRecursion HasOwnColumns (table_parts ts) → AreOnce ts
    of_each [] all name t found = absurd cc
    of_each (u ∷ us) all name t found = by_test (of_each us rest name t) (is_table name u) found
      where
        rest : AllByRecursion HasOwnColumns (table_parts us)
        rest =
            all_second HasOwnColumns (map bare_told (map (λ (i : Index). IndexTold u i) u.indexes)) (table_parts us)
            (subst (AllByRecursion HasOwnColumns) (map_append bare_told (map (λ (i : Index). IndexTold u i) u.indexes) (tables_told us)) all.1)

        by_test : (find (is_table name) us ≡ Some t → is_twice_named t.columns ≡ false) → (b : Bool) → cond b (Some u) (find (is_table name) us) ≡ Some t → is_twice_named t.columns ≡ false
        by_test later true is = let same : u ≡ t = cc in subst (λ (x : Table). is_twice_named x.columns ≡ false) same all.0
        by_test later false is = later is
