-- A table and a view that come after the others, and an index that comes to its table, are listed beside the others.
use Rattle.std.proofs.Common.{◌≡◌, ◌∙◌, refl, sym, ap, subst, Bool, true, false, ◌||◌, cond, List, [], ◌∷◌, ◌++◌, map, Option, Some}
use Rattle.std.specs.Prelude.{flat_map}
use Rattle.std.specs.List.{list_any}
use Rattle.std.proofs.lemmas.Bool.{false≢true}
use Rattle.std.proofs.lemmas.List.{append-nil, append_assoc}
use Rattle.sqlval.specs.Lists.{any_twice}
use Rattle.sqlval.specs.Names.{folded, is_same_name}
use Rattle.catalog.specs.Database.{Name}
use Rattle.catalog.specs.Listed.{Listed, are_named_once, is_name_of, is_table, names_of, table_named, treeless_names, with_replaced}
use Rattle.catalog.specs.NewIndexes.{replacing, with_index}
use Rattle.catalog.specs.declared.tables.Index.{Index}
use Rattle.catalog.specs.declared.tables.Table.{Table}
use Rattle.catalog.specs.declared.tables.Trigger.{Trigger}
use Rattle.catalog.specs.declared.tables.View.{View}
use Rattle.db_pages.specs.Reordering.{AreReordered}
use Rattle.db_pages.specs.Schema.{IndexTold, TableTold, Told, TriggerTold, ViewTold, all_told, tables_told}
use Rattle.db_load.specs.Loading.{bare}
use Rattle.db_load.specs.Reading.{AddsTold, IsGrown, bare_told, parts_of}
use Rattle.db_pages.proofs.Reordering.{is_reordered, reordered_both, reordered_is, reordered_refl, reordered_trans}
use Rattle.db_load.proofs.ToldParts.{is_folded, is_named, map_append, named_apart, names_told, neither, parts_are, same_turned, table_parts, told_names, treeless_told, reordered_twice}

-- ---- parts

-- the indexes of a table, as parts
abbrev pub index_parts : Table → List Told
index_parts t = map (λ (i : Index). IndexTold (bare t) i) t.indexes

bare_indexes : (t : Table) (is : List Index) → map bare_told (map (λ (i : Index). IndexTold t i) is) ≡ map (λ (i : Index). IndexTold (bare t) i) is
bare_indexes t [] = refl
bare_indexes t (i ∷ is) = ap (λ ls. IndexTold (bare t) i ∷ ls) (bare_indexes t is)

-- the parts of a table, and then those of the others
pub parts_more : (t : Table) (ts : List Table) → table_parts (t ∷ ts) ≡ TableTold (bare t) ∷ (index_parts t ++ table_parts ts)
parts_more t ts =
    ap (λ ls. TableTold (bare t) ∷ ls) (map_append bare_told (map (λ (i : Index). IndexTold t i) t.indexes) (tables_told ts) ∙ ap (λ ls. ls ++ table_parts ts) (bare_indexes t t.indexes))

pub parts_both : (ts us : List Table) → table_parts (ts ++ us) ≡ table_parts ts ++ table_parts us
parts_both [] us = refl
parts_both (t ∷ ts) us =
    parts_more t (ts ++ us)
    ∙ (ap (λ ls. TableTold (bare t) ∷ (index_parts t ++ ls)) (parts_both ts us)
    ∙ (ap (λ ls. TableTold (bare t) ∷ ls) (sym (append_assoc (index_parts t) (table_parts ts) (table_parts us)))
    ∙ ap (λ ls. ls ++ table_parts us) (sym (parts_more t ts))))

-- other tables are listed beside the same views and triggers
with_tables : (x : Told) (old new : Listed) → new ≡ record old { tables = new.tables } → AreReordered (x ∷ table_parts old.tables) (table_parts new.tables) → AreReordered (x ∷ parts_of old) (parts_of new)
with_tables x old new same h =
    is_reordered (x ∷ (table_parts old.tables ++ treeless)) (x ∷ parts_of old) (parts_of new) (ap (λ ls. x ∷ ls) (sym (parts_are old)))
    (reordered_is (x ∷ (table_parts old.tables ++ treeless)) (table_parts new.tables ++ treeless) (parts_of new)
    (sym (parts_are new ∙ ap (λ (l : Listed). table_parts new.tables ++ treeless_told l) same))
    (reordered_both (x ∷ table_parts old.tables) (table_parts new.tables) treeless treeless h (reordered_refl treeless)))
  where
    treeless : List Told
    treeless = treeless_told old

-- ---- a table

last_first : {A : Type 0} (xs : List A) (x : A) → AreReordered (x ∷ xs) (xs ++ x ∷ [])
last_first xs x = (xs, [], refl, reordered_is xs xs (xs ++ []) (sym (append-nil xs)) (reordered_refl xs))

bare_alone : (t : Table) → t.indexes ≡ [] → table_parts (t ∷ []) ≡ TableTold (bare t) ∷ []
bare_alone t none = parts_more t [] ∙ ap (λ (is : List Index). TableTold (bare t) ∷ (map (λ (i : Index). IndexTold (bare t) i) is ++ [])) none

-- a table without indexes is listed after the others
pub table_adds : (t found : Table) (old new : Listed) → found.indexes ≡ [] → bare found ≡ bare t → is_name_of old t.name ≡ false → new ≡ record old { tables = old.tables ++ found ∷ [] }
    → AddsTold (TableTold t) old new
table_adds t found old new none alike fresh is = record {
  fresh = fresh;
  more = with_tables (TableTold (bare t)) old new (is ∙ ap (λ (ts : List Table). record old { tables = ts }) (sym tables))
      (reordered_is (TableTold (bare t) ∷ table_parts old.tables) (table_parts old.tables ++ TableTold (bare t) ∷ []) (table_parts new.tables) there (last_first (table_parts old.tables) (TableTold (bare t))));
}
  where
    tables : new.tables ≡ old.tables ++ found ∷ []
    tables = ap (λ (l : Listed). l.tables) is

    there : table_parts old.tables ++ TableTold (bare t) ∷ [] ≡ table_parts new.tables
    there =
        sym (ap table_parts tables ∙ (parts_both old.tables (found ∷ []) ∙ (ap (λ ls. table_parts old.tables ++ ls) (bare_alone found none) ∙ ap (λ (u : Table). table_parts old.tables ++ TableTold u ∷ []) alike)))

-- ---- a view, and a trigger

-- it stands between the others
placed_at : (x : Told) (before after : List Told) (old new : Listed) → parts_of old ≡ before ++ after → parts_of new ≡ before ++ x ∷ after → AreReordered (x ∷ parts_of old) (parts_of new)
placed_at x before after old new are is = (before, after, is, reordered_is (parts_of old) (parts_of old) (before ++ after) are (reordered_refl (parts_of old)))

-- a view is listed after the other views
pub view_adds : (v : View) (old new : Listed) → is_name_of old v.definition.name ≡ false → new ≡ record old { views = old.views ++ v ∷ [] } → AddsTold (ViewTold v) old new
view_adds v old new fresh is = record { fresh = fresh; more = placed_at (ViewTold v) (tables ++ views) triggers old new (parts_are old ∙ sym (append_assoc tables views triggers)) there }
  where
    tables : List Told
    tables = table_parts old.tables

    views : List Told
    views = map ViewTold old.views

    triggers : List Told
    triggers = map TriggerTold old.triggers

    there : parts_of new ≡ (tables ++ views) ++ ViewTold v ∷ triggers
    there =
        ap parts_of is ∙ parts_are (record old { views = old.views ++ v ∷ [] })
        ∙ ap (λ ls. tables ++ (ls ++ triggers)) (map_append ViewTold old.views (v ∷ []))
        ∙ ap (λ ls. tables ++ ls) (append_assoc views (ViewTold v ∷ []) triggers)
        ∙ sym (append_assoc tables views (ViewTold v ∷ triggers))

-- a trigger is listed after the others
pub trigger_adds : (g : Trigger) (old new : Listed) → is_name_of old g.definition.name ≡ false → new ≡ record old { triggers = old.triggers ++ g ∷ [] } → AddsTold (TriggerTold g) old new
trigger_adds g old new fresh is = record { fresh = fresh; more = placed_at (TriggerTold g) (tables ++ treeless_told old) [] old new (parts_are old ∙ sym (append-nil (tables ++ treeless_told old))) there }
  where
    tables : List Told
    tables = table_parts old.tables

    views : List Told
    views = map ViewTold old.views

    triggers : List Told
    triggers = map TriggerTold old.triggers

    there : parts_of new ≡ (tables ++ treeless_told old) ++ TriggerTold g ∷ []
    there =
        ap parts_of is ∙ parts_are (record old { triggers = old.triggers ++ g ∷ [] })
        ∙ ap (λ ls. tables ++ (views ++ ls)) (map_append TriggerTold old.triggers (g ∷ []))
        ∙ ap (λ ls. tables ++ ls) (sym (append_assoc views triggers (TriggerTold g ∷ [])))
        ∙ sym (append_assoc tables (views ++ triggers) (TriggerTold g ∷ []))

-- ---- an index

abbrev names_alone : List Table → List Name
names_alone ts = map (λ (t : Table). t.name) ts

any_first : (p : Name → Bool) (xs ys : List Name) → list_any p (xs ++ ys) ≡ false → list_any p xs ≡ false
any_first p [] ys h = refl
any_first p (x ∷ xs) ys h =
    let both = neither (p x) (list_any p (xs ++ ys)) h in ap (λ b. b || list_any p xs) both.0 ∙ any_first p xs ys both.1

pub once_first : (xs ys : List Name) → any_twice is_same_name (xs ++ ys) ≡ false → any_twice is_same_name xs ≡ false
once_first [] ys h = refl
once_first (x ∷ xs) ys h =
    let both = neither (list_any (is_same_name x) (xs ++ ys)) (any_twice is_same_name (xs ++ ys)) h in
    ap (λ b. b || any_twice is_same_name xs) (any_first (is_same_name x) xs ys both.0) ∙ once_first xs ys both.1

tables_once : (l : Listed) → are_named_once l ≡ true → any_twice is_same_name (names_alone l.tables) ≡ false
tables_once l once =
    once_first (names_alone l.tables) (treeless_names l ++ flat_map (λ (t : Table). map (λ (i : Index). i.name) t.indexes) l.tables)
    (sym (reordered_twice (names_told (all_told l)) (names_of l) (told_names l)) ∙ named_apart l once)

-- a name is the same in letters of either case
pub named_folded : (ts : List Table) (a b : Name) → folded a ≡ folded b → table_named a ts ≡ table_named b ts
named_folded [] a b h = refl
named_folded (t ∷ ts) a b h = ap (λ (o : Option Table). cond (is_table a t) (Some t) o) (named_folded ts a b h) ∙ ap (λ (c : Bool). cond c (Some t) (table_named b ts)) same
  where
    same : is_table a t ≡ is_table b t
    same = by_test (is_table a t) refl (is_table b t) refl
      where
        by_test : (x : Bool) → is_table a t ≡ x → (y : Bool) → is_table b t ≡ y → x ≡ y
        by_test true e true f = refl
        by_test false e false f = refl
        by_test true e false f = absurd (false≢true (sym f ∙ is_named t.name b (sym h ∙ is_folded t.name a e)))
        by_test false e true f = absurd (false≢true (sym e ∙ is_named t.name a (h ∙ is_folded t.name b f)))

pub itself : (n : Name) → is_same_name n n ≡ true
itself n = is_named n n refl

-- another name than all of these isn't that of the table that is found
other_found : (m n : Name) (ts : List Table) (u : Table) → list_any (is_same_name m) (names_alone ts) ≡ false → table_named n ts ≡ Some u → is_same_name m u.name ≡ false
other_found m n [] u none found = absurd cc
other_found m n (t ∷ ts) u none found =
    let both = neither (is_same_name m t.name) (list_any (is_same_name m) (names_alone ts)) none in by_test (other_found m n ts u both.1) both.0 (is_table n t) found
  where
    by_test : (table_named n ts ≡ Some u → is_same_name m u.name ≡ false) → is_same_name m t.name ≡ false → (b : Bool) → cond b (Some t) (table_named n ts) ≡ Some u → is_same_name m u.name ≡ false
    by_test later here true is = let same : t ≡ u = cc in subst (λ (x : Table). is_same_name m x.name ≡ false) same here
    by_test later here false is = later is

-- none is replaced where none has the name
none_replaced : (new : Table) (ts : List Table) → list_any (is_same_name new.name) (names_alone ts) ≡ false → with_replaced new ts ≡ ts
none_replaced new [] none = refl
none_replaced new (t ∷ ts) none =
    let both = neither (is_same_name new.name t.name) (list_any (is_same_name new.name) (names_alone ts)) none in
    ap (λ b. cond b new t ∷ with_replaced new ts) (same_turned t.name new.name ∙ both.0) ∙ ap (λ ls. t ∷ ls) (none_replaced new ts both.1)

grown_first : (u : Table) (i : Index) (ts : List Table) → AreReordered (IndexTold (bare u) i ∷ table_parts (u ∷ ts)) (table_parts (with_index i u ∷ ts))
grown_first u i ts =
    is_reordered (x ∷ TableTold (bare u) ∷ (mine ++ table_parts ts)) (x ∷ table_parts (u ∷ ts)) (table_parts (with_index i u ∷ ts)) (ap (λ ls. x ∷ ls) (sym (parts_more u ts)))
    (reordered_is (x ∷ TableTold (bare u) ∷ (mine ++ table_parts ts)) (TableTold (bare u) ∷ (mine ++ x ∷ table_parts ts)) (table_parts (with_index i u ∷ ts)) there
    (TableTold (bare u) ∷ mine, table_parts ts, refl, reordered_refl (TableTold (bare u) ∷ (mine ++ table_parts ts))))
  where
    x : Told
    x = IndexTold (bare u) i

    mine : List Told
    mine = index_parts u

    there : TableTold (bare u) ∷ (mine ++ x ∷ table_parts ts) ≡ table_parts (with_index i u ∷ ts)
    there =
        sym (parts_more (with_index i u) ts
        ∙ (ap (λ ls. TableTold (bare u) ∷ (ls ++ table_parts ts)) (map_append (λ (j : Index). IndexTold (bare u) j) u.indexes (i ∷ []))
        ∙ ap (λ ls. TableTold (bare u) ∷ ls) (append_assoc mine (x ∷ []) (table_parts ts))))

pub grown_parts : (n : Name) (i : Index) (ts : List Table) (u : Table) → any_twice is_same_name (names_alone ts) ≡ false → table_named n ts ≡ Some u
    → AreReordered (IndexTold (bare u) i ∷ table_parts ts) (table_parts (with_replaced (with_index i u) ts))
grown_parts n i [] u once found = absurd cc
grown_parts n i (t ∷ ts) u once found =
    let both = neither (list_any (is_same_name t.name) (names_alone ts)) (any_twice is_same_name (names_alone ts)) once in
    by_test (grown_parts n i ts u both.1) both.0 (is_table n t) found
  where
    by_test : (table_named n ts ≡ Some u → AreReordered (IndexTold (bare u) i ∷ table_parts ts) (table_parts (with_replaced (with_index i u) ts)))
        → list_any (is_same_name t.name) (names_alone ts) ≡ false → (b : Bool) → cond b (Some t) (table_named n ts) ≡ Some u
        → AreReordered (IndexTold (bare u) i ∷ table_parts (t ∷ ts)) (table_parts (with_replaced (with_index i u) (t ∷ ts)))
    by_test later none true is =
        let same : t ≡ u = cc in
        subst (λ (v : Table). AreReordered (IndexTold (bare v) i ∷ table_parts (t ∷ ts)) (table_parts (with_replaced (with_index i v) (t ∷ ts)))) same
        (reordered_is (IndexTold (bare t) i ∷ table_parts (t ∷ ts)) (table_parts (with_index i t ∷ ts)) (table_parts (with_replaced (with_index i t) (t ∷ ts)))
        (ap table_parts (sym (ap (λ b. cond b (with_index i t) t ∷ with_replaced (with_index i t) ts) (itself t.name) ∙ ap (λ ls. with_index i t ∷ ls) (none_replaced (with_index i t) ts none))))
        (grown_first t i ts))
    by_test later none false is =
        let here : with_replaced (with_index i u) (t ∷ ts) ≡ t ∷ with_replaced (with_index i u) ts = ap (λ b. cond b (with_index i u) t ∷ with_replaced (with_index i u) ts) (other_found t.name n ts u none is) in
        reordered_is (IndexTold (bare u) i ∷ table_parts (t ∷ ts)) (table_parts (t ∷ with_replaced (with_index i u) ts)) (table_parts (with_replaced (with_index i u) (t ∷ ts))) (ap table_parts (sym here))
        (behind (later is))
      where
        x : Told
        x = IndexTold (bare u) i

        front : List Told
        front = TableTold (bare t) ∷ index_parts t

        behind : AreReordered (IndexTold (bare u) i ∷ table_parts ts) (table_parts (with_replaced (with_index i u) ts))
            → AreReordered (IndexTold (bare u) i ∷ table_parts (t ∷ ts)) (table_parts (t ∷ with_replaced (with_index i u) ts))
        behind rest =
            is_reordered (x ∷ (front ++ table_parts ts)) (x ∷ table_parts (t ∷ ts)) (table_parts (t ∷ with_replaced (with_index i u) ts)) (ap (λ ls. x ∷ ls) (sym (parts_more t ts)))
            (reordered_is (x ∷ (front ++ table_parts ts)) (front ++ table_parts (with_replaced (with_index i u) ts)) (table_parts (t ∷ with_replaced (with_index i u) ts)) (sym (parts_more t (with_replaced (with_index i u) ts)))
            (reordered_trans (x ∷ (front ++ table_parts ts)) (front ++ x ∷ table_parts ts) (front ++ table_parts (with_replaced (with_index i u) ts))
            (front, table_parts ts, refl, reordered_refl (front ++ table_parts ts))
            (reordered_both front front (x ∷ table_parts ts) (table_parts (with_replaced (with_index i u) ts)) (reordered_refl front) rest)))

-- an index of a new name is listed with its table
pub index_adds : (t : Table) (i : Index) (grown : Table) (old new : Listed) → are_named_once old ≡ true → is_name_of old i.name ≡ false → IsGrown old.tables t i grown
    → new ≡ replacing grown old → AddsTold (IndexTold t i) old new
index_adds t i grown old new once fresh is by = record {
  fresh = fresh;
  more = with_tables (IndexTold (bare t) i) old new (by ∙ ap (λ (ts : List Table). record old { tables = ts }) (sym tables))
      (reordered_is (IndexTold (bare t) i ∷ table_parts old.tables) (table_parts (with_replaced (with_index i is.other) old.tables)) (table_parts new.tables)
      (ap table_parts (sym (tables ∙ ap (λ (u : Table). with_replaced u old.tables) is.grown_is)))
      (subst (λ (u : Table). AreReordered (IndexTold u i ∷ table_parts old.tables) (table_parts (with_replaced (with_index i is.other) old.tables))) is.alike
      (grown_parts is.name i old.tables is.other (tables_once old once) is.listed)));
}
  where
    tables : new.tables ≡ with_replaced grown old.tables
    tables = ap (λ (l : Listed). l.tables) by
