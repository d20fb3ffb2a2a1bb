-- A listed table of a name: those before it and after it, and the lists with another in its place, or without it.
use Rattle.std.proofs.Common.{◌≡◌, refl, sym, ap, subst, ◌∙◌, Bool, true, false, not, ◌||◌, cond, map, filter, List, [], ◌∷◌, ◌++◌, Some, None}
use Rattle.std.proofs.lemmas.Bool.{false≢true}
use Rattle.std.proofs.lemmas.Map.Lookups.{exact_bytes}
use Rattle.std.proofs.lemmas.Map.Text.{is_eq-slice_cmp}
use Rattle.std.proofs.lemmas.Map.Views.{tells_apart}
use Rattle.std.specs.List.{find, list_any}
use Rattle.std.specs.Prelude.{bytes_eq, flat_map}
use Rattle.sqlval.specs.Lists.{any_twice}
use Rattle.sqlval.specs.Names.{folded, is_same_name}
use Rattle.catalog.specs.Database.{Name}
use Rattle.catalog.specs.Listed.{are_named_once, is_table, names_of, table_named, treeless_names, with_replaced, without_table, Listed}
use Rattle.catalog.specs.declared.tables.Index.{Index}
use Rattle.catalog.specs.declared.tables.Table.{Table}
use Rattle.executor.proofs.FoundTables.{neither, no_no, same_bytes}

-- ---- names

pub same_folded : (a b : Name) → is_same_name a b ≡ true → folded a ≡ folded b
same_folded a b is = tells_apart exact_bytes (folded a) (folded b) (is_eq-slice_cmp (folded a) (folded b) ∙ is)

pub folded_same : (a b : Name) → folded a ≡ folded b → is_same_name a b ≡ true
folded_same a b e = subst (λ (n : Name). bytes_eq (folded a) n ≡ true) e (same_bytes (folded a))

pub not_same : (a b : Name) → (folded a ≡ folded b → ⊥) → is_same_name a b ≡ false
not_same a b other = by_test (is_same_name a b) refl
  where
    by_test : (t : Bool) → is_same_name a b ≡ t → t ≡ false
    by_test true is = absurd (other (same_folded a b is))
    by_test false is = refl

-- a name that isn't another's is none of those that are the same as that
pub other_way : (a b n : Name) → is_same_name a b ≡ false → is_same_name b n ≡ true → is_same_name a n ≡ false
other_way a b n other is = not_same a n (λ e. false≢true (sym other ∙ folded_same a b (e ∙ sym (same_folded b n is))))

pub turned : (a b : Name) → is_same_name a b ≡ false → is_same_name b a ≡ false
turned a b other = not_same b a (λ e. false≢true (sym other ∙ folded_same a b (sym e)))

-- ---- tables

abbrev pub table_names : List Table → List Name
table_names tables = map (λ (t : Table). t.name) tables

pub once_first : (xs ys : List Name) → any_twice is_same_name (xs ++ ys) ≡ false → any_twice is_same_name xs ≡ false
once_first [] ys once = refl
once_first (x ∷ xs) ys once =
    let both = neither (list_any (is_same_name x) (xs ++ ys)) (any_twice is_same_name (xs ++ ys)) once in
    ap (λ b. b || any_twice is_same_name xs) (first_part (is_same_name x) xs ys both.0) ∙ once_first xs ys both.1
  where
    first_part : (p : Name → Bool) (xs ys : List Name) → list_any p (xs ++ ys) ≡ false → list_any p xs ≡ false
    first_part p [] ys none = refl
    first_part p (x ∷ xs) ys none = let both = neither (p x) (list_any p (xs ++ ys)) none in ap (λ b. b || list_any p xs) both.0 ∙ first_part p xs ys both.1

pub once_last : (xs ys : List Name) → any_twice is_same_name (xs ++ ys) ≡ false → any_twice is_same_name ys ≡ false
once_last [] ys once = once
once_last (x ∷ xs) ys once = once_last xs ys (neither (list_any (is_same_name x) (xs ++ ys)) (any_twice is_same_name (xs ++ ys)) once).1

pub names_once : (l : Listed) → are_named_once l ≡ true → any_twice is_same_name (table_names l.tables) ≡ false
names_once l once =
    once_first (table_names l.tables) (treeless_names l ++ flat_map (λ (t : Table). map (λ (i : Index). i.name) t.indexes) l.tables) (no_no (any_twice is_same_name (names_of l)) once)

-- where none has its name, none is replaced and none left out
none_replaced : (new : Table) (tables : List Table) → list_any (is_same_name new.name) (table_names tables) ≡ false → with_replaced new tables ≡ tables
none_replaced new [] none = refl
none_replaced new (u ∷ us) none =
    let both = neither (is_same_name new.name u.name) (list_any (is_same_name new.name) (table_names us)) none in
    ap (λ b. cond b new u ∷ with_replaced new us) (turned new.name u.name both.0) ∙ ap (λ ts. u ∷ ts) (none_replaced new us both.1)

none_left_out : (name own : Name) (tables : List Table) → is_same_name own name ≡ true → list_any (is_same_name own) (table_names tables) ≡ false → without_table name tables ≡ tables
none_left_out name own [] is none = refl
none_left_out name own (u ∷ us) is none =
    let both = neither (is_same_name own u.name) (list_any (is_same_name own) (table_names us)) none in
    ap (λ b. cond (not b) (u ∷ without_table name us) (without_table name us)) (other_way u.name own name (turned own u.name both.0) is) ∙ ap (λ ts. u ∷ ts) (none_left_out name own us is both.1)

-- the tables before a table, and those after it
pub record IsSplit (t : Table) (tables : List Table) : Type 0 where
  pub before : List Table
  pub after : List Table
  pub parts : tables ≡ before ++ t ∷ after
  pub replaced : (new : Table) → new.name ≡ t.name → with_replaced new tables ≡ before ++ new ∷ after
  pub without : (name : Name) → is_table name t ≡ true → without_table name tables ≡ before ++ after

in_middle : (p : Name → Bool) (before : List Table) (t : Table) (after : List Table) → list_any p (table_names (before ++ t ∷ after)) ≡ false → p t.name ≡ false
in_middle p [] t after none = (neither (p t.name) (list_any p (table_names after)) none).0
in_middle p (u ∷ before) t after none = in_middle p before t after (neither (p u.name) (list_any p (table_names (before ++ t ∷ after))) none).1

same_table : (u t : Table) → Some u ≡ Some t → u ≡ t
same_table u t e = cc

pub split_at : (p : Table → Bool) (tables : List Table) (t : Table) → any_twice is_same_name (table_names tables) ≡ false → find p tables ≡ Some t → IsSplit t tables
split_at p [] t once found = absurd cc
split_at p (u ∷ us) t once found =
    let both = neither (list_any (is_same_name u.name) (table_names us)) (any_twice is_same_name (table_names us)) once in
    by_test both.0 (split_at p us t both.1) (p u) found
  where
    by_test : list_any (is_same_name u.name) (table_names us) ≡ false → (find p us ≡ Some t → IsSplit t us) → (b : Bool) → cond b (Some u) (find p us) ≡ Some t → IsSplit t (u ∷ us)
    by_test none later true found =
        let is : u ≡ t = same_table u t found in record {
          before = [];
          after = us;
          parts = ap (λ (x : Table). x ∷ us) is;
          replaced = λ new name.
              (let at : new.name ≡ u.name = name ∙ ap (λ (x : Table). x.name) (sym is) in
              ap (λ b. cond b new u ∷ with_replaced new us) (folded_same u.name new.name (ap folded (sym at)))
              ∙ ap (λ ts. new ∷ ts) (none_replaced new us (subst (λ (n : Name). list_any (is_same_name n) (table_names us) ≡ false) (sym at) none)));
          without = λ name named.
              (let own : is_same_name u.name name ≡ true = subst (λ (x : Table). is_table name x ≡ true) (sym is) named in
              ap (λ b. cond (not b) (u ∷ without_table name us) (without_table name us)) own ∙ none_left_out name u.name us own none);
        }
    by_test none later false found =
        let rest = later found in
        let other : is_same_name u.name t.name ≡ false = in_middle (is_same_name u.name) rest.before t rest.after (subst (λ (ts : List Table). list_any (is_same_name u.name) (table_names ts) ≡ false) rest.parts none) in record {
          before = u ∷ rest.before;
          after = rest.after;
          parts = ap (λ ts. u ∷ ts) rest.parts;
          replaced = λ new name.
              ap (λ b. cond b new u ∷ with_replaced new us) (subst (λ (n : Name). is_same_name u.name n ≡ false) (sym name) other) ∙ ap (λ ts. u ∷ ts) (rest.replaced new name);
          without = λ name named.
              ap (λ b. cond (not b) (u ∷ without_table name us) (without_table name us)) (other_way u.name t.name name other named) ∙ ap (λ ts. u ∷ ts) (rest.without name named);
        }

-- a table in another's place is found by the name of both
pub found_in_place : (t new : Table) → new.name ≡ t.name → (tables : List Table) → table_named t.name tables ≡ Some t → table_named t.name (with_replaced new tables) ≡ Some new
found_in_place t new e [] found = absurd cc
found_in_place t new e (u ∷ us) found = by_test (is_same_name u.name t.name) refl found (found_in_place t new e us)
  where
    own : is_same_name new.name t.name ≡ true
    own = folded_same new.name t.name (ap folded e)

    by_test : (b : Bool) → is_same_name u.name t.name ≡ b → cond b (Some u) (table_named t.name us) ≡ Some t → (table_named t.name us ≡ Some t → table_named t.name (with_replaced new us) ≡ Some new)
        → table_named t.name (with_replaced new (u ∷ us)) ≡ Some new
    by_test true is found rest =
        ap (λ (b : Bool). table_named t.name (cond b new u ∷ with_replaced new us)) (subst (λ (n : Name). is_same_name u.name n ≡ true) (sym e) is)
        ∙ ap (λ (b : Bool). cond b (Some new) (table_named t.name (with_replaced new us))) own
    by_test false is found rest =
        ap (λ (b : Bool). table_named t.name (cond b new u ∷ with_replaced new us)) (subst (λ (n : Name). is_same_name u.name n ≡ false) (sym e) is)
        ∙ (ap (λ (b : Bool). cond b (Some u) (table_named t.name (with_replaced new us))) is ∙ rest found)

-- a table that was found by its name has it
pub found_is : {A : Type 0} (p : A → Bool) (xs : List A) (x : A) → find p xs ≡ Some x → p x ≡ true
found_is p [] x e = absurd cc
found_is p (y ∷ xs) x e = by_test (p y) refl (found_is p xs x) e
  where
    one : Some y ≡ Some x → y ≡ x
    one e = cc

    by_test : (b : Bool) → p y ≡ b → (find p xs ≡ Some x → p x ≡ true) → cond b (Some y) (find p xs) ≡ Some x → p x ≡ true
    by_test true is rest e = subst (λ z. p z ≡ true) (one e) is
    by_test false is rest e = rest e

-- ---- indexes

-- the indexes before an index, and those after it; it goes where those of a name are left out
pub record IsSplitAt (i : Index) (indexes : List Index) : Type 0 where
  pub before : List Index
  pub after : List Index
  pub parts : indexes ≡ before ++ i ∷ after
  pub without : (name : Name) → is_same_name i.name name ≡ true → filter (λ (j : Index). not (is_same_name j.name name)) indexes ≡ before ++ after

abbrev index_names : List Index → List Name
index_names indexes = map (λ (i : Index). i.name) indexes

none_out : (name own : Name) (indexes : List Index) → is_same_name own name ≡ true → list_any (is_same_name own) (index_names indexes) ≡ false → filter (λ (j : Index). not (is_same_name j.name name)) indexes ≡ indexes
none_out name own [] is none = refl
none_out name own (j ∷ js) is none =
    let both = neither (is_same_name own j.name) (list_any (is_same_name own) (index_names js)) none in
    ap (λ b. cond (not b) (j ∷ filter (λ (j : Index). not (is_same_name j.name name)) js) (filter (λ (j : Index). not (is_same_name j.name name)) js)) (other_way j.name own name (turned own j.name both.0) is)
    ∙ ap (λ xs. j ∷ xs) (none_out name own js is both.1)

index_in_middle : (p : Name → Bool) (before : List Index) (i : Index) (after : List Index) → list_any p (index_names (before ++ i ∷ after)) ≡ false → p i.name ≡ false
index_in_middle p [] i after none = (neither (p i.name) (list_any p (index_names after)) none).0
index_in_middle p (j ∷ before) i after none = index_in_middle p before i after (neither (p j.name) (list_any p (index_names (before ++ i ∷ after))) none).1

pub split_index : (p : Index → Bool) (indexes : List Index) (i : Index) → any_twice is_same_name (index_names indexes) ≡ false → find p indexes ≡ Some i → IsSplitAt i indexes
split_index p [] i once found = absurd cc
split_index p (j ∷ js) i once found =
    let both = neither (list_any (is_same_name j.name) (index_names js)) (any_twice is_same_name (index_names js)) once in
    by_test both.0 (split_index p js i both.1) (p j) found
  where
    one : Some j ≡ Some i → j ≡ i
    one e = cc

    by_test : list_any (is_same_name j.name) (index_names js) ≡ false → (find p js ≡ Some i → IsSplitAt i js) → (b : Bool) → cond b (Some j) (find p js) ≡ Some i → IsSplitAt i (j ∷ js)
    by_test none later true found =
        let is : j ≡ i = one found in record {
          before = [];
          after = js;
          parts = ap (λ (x : Index). x ∷ js) is;
          without = λ name named.
              (let own : is_same_name j.name name ≡ true = subst (λ (x : Index). is_same_name x.name name ≡ true) (sym is) named in
              ap (λ b. cond (not b) (j ∷ filter (λ (j : Index). not (is_same_name j.name name)) js) (filter (λ (j : Index). not (is_same_name j.name name)) js)) own ∙ none_out name j.name js own none);
        }
    by_test none later false found =
        let rest = later found in
        let other : is_same_name j.name i.name ≡ false = index_in_middle (is_same_name j.name) rest.before i rest.after (subst (λ (is : List Index). list_any (is_same_name j.name) (index_names is) ≡ false) rest.parts none) in record {
          before = j ∷ rest.before;
          after = rest.after;
          parts = ap (λ is. j ∷ is) rest.parts;
          without = λ name named.
              ap (λ b. cond (not b) (j ∷ filter (λ (j : Index). not (is_same_name j.name name)) js) (filter (λ (j : Index). not (is_same_name j.name name)) js)) (other_way j.name i.name name other named)
              ∙ ap (λ is. j ∷ is) (rest.without name named);
        }

group_once : (front : List Table) (t : Table) (back : List Table) → any_twice is_same_name (flat_map (λ (t : Table). index_names t.indexes) (front ++ t ∷ back)) ≡ false → any_twice is_same_name (index_names t.indexes) ≡ false
group_once [] t back once = once_first (index_names t.indexes) (flat_map (λ (t : Table). index_names t.indexes) back) once
group_once (u ∷ front) t back once = group_once front t back (once_last (index_names u.indexes) (flat_map (λ (t : Table). index_names t.indexes) (front ++ t ∷ back)) once)

-- the names of a listed table's indexes stand once
pub indexes_once : (l : Listed) (front : List Table) (t : Table) (back : List Table) → l.tables ≡ front ++ t ∷ back → are_named_once l ≡ true → any_twice is_same_name (index_names t.indexes) ≡ false
indexes_once l front t back parts once =
    group_once front t back (once_last (treeless_names l) (flat_map (λ (t : Table). index_names t.indexes) (front ++ t ∷ back))
    (once_last (table_names (front ++ t ∷ back)) (treeless_names l ++ flat_map (λ (t : Table). index_names t.indexes) (front ++ t ∷ back))
    (subst (λ (ts : List Table). any_twice is_same_name (names_of (record l { tables = ts })) ≡ false) parts (no_no (any_twice is_same_name (names_of l)) once))))

-- what is true of one of them is found
pub any_found : {A : Type 0} (p : A → Bool) (xs : List A) → list_any p xs ≡ true → find p xs ≡ None → ⊥
any_found p [] any none = false≢true any
any_found p (x ∷ xs) any none = by_test (p x) any none (any_found p xs)
  where
    by_test : (b : Bool) → (b || list_any p xs) ≡ true → cond b (Some x) (find p xs) ≡ None → (list_any p xs ≡ true → find p xs ≡ None → ⊥) → ⊥
    by_test true any none rest = absurd cc
    by_test false any none rest = rest any none
