-- Tables that are alike have the indexes that their keys ask for, if one list of them has. What is listed alike has alike tables.
use Rattle.std.proofs.Common.{◌≡◌, ◌∙◌, ◌≤◌, ◌+◌, ◌&&◌, refl, sym, ap, ℕ, Bool, true, false, cond, List, [], ◌∷◌, ◌++◌, length, map, filter, arith}
use Rattle.std.specs.List.{AllByRecursion, list_all}
use Rattle.std.proofs.lemmas.List.{append-nil}
use Rattle.catalog.specs.Listed.{Listed}
use Rattle.catalog.specs.declared.tables.Index.{Index}
use Rattle.catalog.specs.declared.tables.Table.{Table}
use Rattle.catalog.specs.declared.tables.Trigger.{Trigger}
use Rattle.catalog.specs.declared.tables.View.{View}
use Rattle.db_pages.specs.Reordering.{AreReordered}
use Rattle.db_pages.specs.Schema.{HasKeyIndexes, IndexTold, TableTold, Told, TriggerTold, ViewTold, all_told, automatic_objects, due_objects, tables_told}
use Rattle.db_load.specs.Loading.{bare}
use Rattle.db_load.specs.Reading.{AreAlike, IsDueTold, bare_told, has_all_keys, parts_of}
use Rattle.db_pages.proofs.Reordering.{all_reordered, is_reordered, reordered_is}
use Rattle.db_load.proofs.DueItems.{reordered_length}
use Rattle.db_load.proofs.Items.{filter_append, reordered_filter}
use Rattle.db_load.proofs.KeyIndexes.{AreAllDue, HasOwnNames, and_parts, are_due, automatic_in, due_many, due_parts, is_number, objects_few, objects_many, own_names, parts_due}
use Rattle.db_load.proofs.ToldAdded.{index_parts, parts_more}
use Rattle.db_load.proofs.ToldParts.{AreApart, apart_bare, apart_first, apart_reordered, bare_apart, parts_are, table_parts, treeless_told}

-- ---- tables that are alike

-- it is a table or an index
abbrev has_tree : Told → Bool
has_tree (TableTold t) = true
has_tree (IndexTold t i) = true
has_tree (ViewTold v) = false
has_tree (TriggerTold g) = false

bare_tree : (x : Told) → has_tree (bare_told x) ≡ has_tree x
bare_tree (TableTold t) = refl
bare_tree (IndexTold t i) = refl
bare_tree (ViewTold v) = refl
bare_tree (TriggerTold g) = refl

all_kept : (xs : List Told) → list_all has_tree xs ≡ true → filter has_tree (map bare_told xs) ≡ map bare_told xs
all_kept [] all = refl
all_kept (x ∷ xs) all =
    let both = and_parts (has_tree x) (list_all has_tree xs) all in
    ap (λ (b : Bool). cond b (bare_told x ∷ filter has_tree (map bare_told xs)) (filter has_tree (map bare_told xs))) (bare_tree x ∙ both.0) ∙ ap (λ ls. bare_told x ∷ ls) (all_kept xs both.1)

indexes_kept : (t : Table) (is : List Index) (xs : List Told) → list_all has_tree xs ≡ true → list_all has_tree (map (λ (i : Index). IndexTold t i) is ++ xs) ≡ true
indexes_kept t [] xs rest = rest
indexes_kept t (i ∷ is) xs rest = indexes_kept t is xs rest

tables_kept : (ts : List Table) → list_all has_tree (tables_told ts) ≡ true
tables_kept [] = refl
tables_kept (t ∷ ts) = indexes_kept t t.indexes (tables_told ts) (tables_kept ts)

none_treeless : (vs : List View) (gs : List Trigger) → filter has_tree (map ViewTold vs ++ map TriggerTold gs) ≡ []
none_treeless [] [] = refl
none_treeless [] (g ∷ gs) = none_treeless [] gs
none_treeless (v ∷ vs) gs = none_treeless vs gs

with_trees : (l : Listed) → filter has_tree (parts_of l) ≡ table_parts l.tables
with_trees l =
    ap (filter has_tree) (parts_are l)
    ∙ (filter_append has_tree (table_parts l.tables) (treeless_told l)
    ∙ (ap (λ ls. filter has_tree (table_parts l.tables) ++ ls) (none_treeless l.views l.triggers)
    ∙ (append-nil (filter has_tree (table_parts l.tables)) ∙ all_kept (tables_told l.tables) (tables_kept l.tables))))

-- the same tables, in whatever order, each with the same indexes, in whatever order
abbrev pub AreAlikeTables : List Table → List Table → Type 0
AreAlikeTables tables others = AreReordered (table_parts tables) (table_parts others)

-- what is listed alike has alike tables
pub tables_alike : (l others : Listed) → AreAlike l others → AreAlikeTables l.tables others.tables
tables_alike l others alike =
    is_reordered (filter has_tree (parts_of l)) (table_parts l.tables) (table_parts others.tables) (with_trees l)
    (reordered_is (filter has_tree (parts_of l)) (filter has_tree (parts_of others)) (table_parts others.tables) (with_trees others) (reordered_filter has_tree (parts_of l) (parts_of others) alike))

-- ---- sums over what is told

abbrev total : (Told → ℕ) → List Told → ℕ
total f [] = 0
total f (x ∷ xs) = f x + total f xs

total_both : (f : Told → ℕ) (xs ys : List Told) → total f (xs ++ ys) ≡ total f xs + total f ys
total_both f [] ys = omega arith
total_both f (x ∷ xs) ys = let rest = total_both f xs ys in omega (arith, rest)

total_reordered : (f : Told → ℕ) (xs ys : List Told) → AreReordered xs ys → total f xs ≡ total f ys
total_reordered f [] ys h = ap (total f) (sym h)
total_reordered f (x ∷ xs) ys (c, d, is, rest) =
    let more = total_reordered f xs (c ++ d) rest in
    let shorter = total_both f c d in
    let longer = total_both f c (x ∷ d) in
    let whole : total f ys ≡ total f (c ++ x ∷ d) = ap (total f) is in omega (arith, more, shorter, longer, whole)

abbrev autos : Told → ℕ
autos (TableTold t) = 0
autos (IndexTold t i) = cond i.is_automatic 1 0
autos (ViewTold v) = 0
autos (TriggerTold g) = 0

abbrev keys : Told → ℕ
keys (TableTold t) = length t.keys
keys (IndexTold t i) = 0
keys (ViewTold v) = 0
keys (TriggerTold g) = 0

autos_in : (t : Table) (is : List Index) → total autos (map (λ (i : Index). IndexTold (bare t) i) is) ≡ length (filter (λ (i : Index). i.is_automatic) is)
autos_in t [] = refl
autos_in t (i ∷ is) = by_test i.is_automatic (autos_in t is)
  where
    by_test : (b : Bool) → total autos (map (λ (i : Index). IndexTold (bare t) i) is) ≡ length (filter (λ (i : Index). i.is_automatic) is)
        → cond b 1 0 + total autos (map (λ (i : Index). IndexTold (bare t) i) is) ≡ length (cond b (i ∷ filter (λ (i : Index). i.is_automatic) is) (filter (λ (i : Index). i.is_automatic) is))
    by_test true rest = omega (arith, rest)
    by_test false rest = omega (arith, rest)

no_keys : (t : Table) (is : List Index) → total keys (map (λ (i : Index). IndexTold (bare t) i) is) ≡ 0
no_keys t [] = refl
no_keys t (i ∷ is) = let rest = no_keys t is in omega (arith, rest)

autos_more : (t : Table) (ts : List Table) → total autos (table_parts (t ∷ ts)) ≡ length (automatic_in t) + total autos (table_parts ts)
autos_more t ts =
    let whole : total autos (table_parts (t ∷ ts)) ≡ 0 + total autos (index_parts t ++ table_parts ts) = ap (total autos) (parts_more t ts) in
    let both = total_both autos (index_parts t) (table_parts ts) in
    let mine = autos_in t t.indexes in omega (arith, whole, both, mine)

keys_more : (t : Table) (ts : List Table) → total keys (table_parts (t ∷ ts)) ≡ length t.keys + total keys (table_parts ts)
keys_more t ts =
    let whole : total keys (table_parts (t ∷ ts)) ≡ length t.keys + total keys (index_parts t ++ table_parts ts) = ap (total keys) (parts_more t ts) in
    let both = total_both keys (index_parts t) (table_parts ts) in
    let mine = no_keys t t.indexes in omega (arith, whole, both, mine)

-- there are as many as keys
as_many : (ts : List Table) → AllByRecursion HasKeyIndexes ts → total autos (table_parts ts) ≡ total keys (table_parts ts)
as_many [] has = refl
as_many (t ∷ ts) has =
    let here = reordered_length (automatic_objects t) (due_objects t) has.0 in
    let mine = objects_many t in
    let theirs = due_many t in
    let rest = as_many ts has.1 in
    let a = autos_more t ts in
    let k = keys_more t ts in omega (arith, here, mine, theirs, rest, a, k)

abbrev HasFew : Table → Type 0
HasFew t = length (automatic_in t) ≤ length t.keys

no_more : (ts : List Table) → AllByRecursion HasFew ts → total autos (table_parts ts) ≤ total keys (table_parts ts)
no_more [] few = omega arith
no_more (t ∷ ts) few =
    let rest = no_more ts few.1 in
    let here = few.0 in
    let a = autos_more t ts in
    let k = keys_more t ts in omega (arith, rest, here, a, k)

-- where none has more than keys, and all together as many, each has as many
each_has : (ts : List Table) → AllByRecursion HasFew ts → total autos (table_parts ts) ≡ total keys (table_parts ts) → list_all has_all_keys ts ≡ true
each_has [] few same = refl
each_has (t ∷ ts) few same =
    let rest = no_more ts few.1 in
    let here = few.0 in
    let a = autos_more t ts in
    let k = keys_more t ts in
    let mine : length (automatic_in t) ≡ length t.keys = omega (arith, rest, here, a, k, same) in
    let others : total autos (table_parts ts) ≡ total keys (table_parts ts) = omega (arith, rest, here, a, k, same) in
    ap (λ b. b && list_all has_all_keys ts) (is_number (length (automatic_in t)) (length t.keys) mine) ∙ each_has ts few.1 others

each_few : (ts : List Table) → AllByRecursion HasOwnNames ts → AreAllDue ts → AllByRecursion HasFew ts
each_few [] once due = tt
each_few (t ∷ ts) once due = (objects_few t once.0 due.0, each_few ts once.1 due.1)

all_due : (ts : List Table) → AllByRecursion HasKeyIndexes ts → AreAllDue ts
all_due [] has = tt
all_due (t ∷ ts) has = (are_due t has.0, all_due ts has.1)

tables_keys : (tables others : List Table) → AreAlikeTables tables others → AreApart (tables_told tables) → AllByRecursion HasKeyIndexes tables → list_all has_all_keys others ≡ true
tables_keys tables others alike apart has =
    each_has others (each_few others (own_names others apart_too) due)
    (sym (total_reordered autos (table_parts tables) (table_parts others) alike) ∙ (as_many tables has ∙ total_reordered keys (table_parts tables) (table_parts others) alike))
  where
    apart_too : AreApart (tables_told others)
    apart_too = apart_bare (tables_told others) (apart_reordered (table_parts tables) (table_parts others) alike (bare_apart (tables_told tables) apart))

    due : AreAllDue others
    due = due_parts others (all_reordered IsDueTold (table_parts tables) (table_parts others) alike (parts_due tables (all_due tables has)))

-- tables that are alike have as many automatic indexes as keys, if each of the others has those that its keys ask for
pub alike_keys : (l others : Listed) → AreAlike l others → AreApart (all_told l) → AllByRecursion HasKeyIndexes l.tables → list_all has_all_keys others.tables ≡ true
alike_keys l others alike apart has =
    tables_keys l.tables others.tables (tables_alike l others alike) (apart_first (tables_told l.tables) (treeless_told l) apart) has
