-- Two lists of tables, indexes, views and triggers that are alike at each place: a name finds the same in both.
use Rattle.std.proofs.Common.{◌≡◌, ◌∙◌, refl, sym, ap, ℕ, ℤ, Bool, true, false, cond, List, [], ◌∷◌, map, Some}
use Rattle.std.specs.List.{AllByRecursion}
use Rattle.std.specs.Str.{bytes_eq}
use Rattle.sqlval.specs.Names.{folded, is_same_name}
use Rattle.sqlval.specs.declared.value.Value.{Value}
use Rattle.tree_page.specs.Cells.{Pairwise}
use Rattle.catalog.specs.Database as database
use Rattle.catalog.specs.Database.{ATable, AnIndex, Name, Object}
use Rattle.catalog.specs.Listed.{named_among, as_index}
use Rattle.db_pages.specs.Schema.{IndexTold, TableTold, Told, TriggerTold, ViewTold}
use Rattle.db_pages.proofs.NamedObjects.{one_among}
use Rattle.db_pages.proofs.ToldObjects.{told_name, told_object, told_pair}

-- what is told by one row in two ways is alike
pub by_rows : {A B : Type 0} (P Q : A → B → Type 0) (R S : A → Type 0) (T : A → A → Type 0) → ((x y : A) (row : B) → P x row → Q y row → R x → S y → T x y)
    → (xs ys : List A) (rows : List B) → Pairwise P xs rows → Pairwise Q ys rows → AllByRecursion R xs → AllByRecursion S ys → Pairwise T xs ys
by_rows P Q R S T each [] [] rows one other left right = tt
by_rows P Q R S T each [] (y ∷ ys) [] one other left right = absurd other
by_rows P Q R S T each [] (y ∷ ys) (row ∷ rows) one other left right = absurd one
by_rows P Q R S T each (x ∷ xs) [] [] one other left right = absurd one
by_rows P Q R S T each (x ∷ xs) [] (row ∷ rows) one other left right = absurd other
by_rows P Q R S T each (x ∷ xs) (y ∷ ys) [] one other left right = absurd one
by_rows P Q R S T each (x ∷ xs) (y ∷ ys) (row ∷ rows) one other left right =
    (each x y row one.0 other.0 left.0 right.0, by_rows P Q R S T each xs ys rows one.1 other.1 left.1 right.1)

-- what follows for each pair
pub each_pair : {A B : Type 0} (P Q : A → B → Type 0) → ((x : A) (y : B) → P x y → Q x y) → (xs : List A) (ys : List B) → Pairwise P xs ys → Pairwise Q xs ys
each_pair P Q so [] [] each = tt
each_pair P Q so [] (y ∷ ys) each = absurd each
each_pair P Q so (x ∷ xs) [] each = absurd each
each_pair P Q so (x ∷ xs) (y ∷ ys) each = (so x y each.0, each_pair P Q so xs ys each.1)

-- what each of a list has beside it
pub beside : {A B : Type 0} (P : A → B → Type 0) (xs : List A) (ys : List B) → Pairwise P xs ys → AllByRecursion (λ x. (y : B) × P x y) xs
beside P [] ys each = tt
beside P (x ∷ xs) [] each = absurd each
beside P (x ∷ xs) (y ∷ ys) each = ((y, each.0), beside P xs ys each.1)

module _ (rows_at others_at : ℕ → List (ℤ × List Value)) where
  -- one name, and one object
  abbrev pub AreAlike : Told → Told → Type 0
  AreAlike one other = (folded (told_name one) ≡ folded (told_name other)) × (told_object rows_at one ≡ told_object others_at other)

  -- tables, views or triggers that are alike, or indexes of one name
  abbrev pub HaveAlikeTables : Told → Told → Type 0
  HaveAlikeTables (TableTold t) (TableTold u) = AreAlike (TableTold t) (TableTold u)
  HaveAlikeTables (IndexTold t i) (IndexTold u j) = folded i.name ≡ folded j.name
  HaveAlikeTables (ViewTold v) (ViewTold w) = AreAlike (ViewTold v) (ViewTold w)
  HaveAlikeTables (TriggerTold g) (TriggerTold h) = AreAlike (TriggerTold g) (TriggerTold h)
  HaveAlikeTables _ _ = ⊥

  same_test : (a b name : Name) → folded a ≡ folded b → is_same_name a name ≡ is_same_name b name
  same_test a b name same = ap (λ n. bytes_eq n (folded name)) same

  no_table : {A : Type 0} (i : database.Index) (t : database.Table) → Some (AnIndex i) ≡ Some (ATable t) → A
  no_table i t h = absurd cc

  none_found : {A : Type 0} (name : Name) (t : database.Table) → named_among name [] ≡ Some (ATable t) → A
  none_found name t h = absurd cc

  -- a table that is found in the first is found in the second
  picked : (name : Name) (t : database.Table) (x y : Name × Object) (xs ys : List (Name × Object)) → folded x.0 ≡ folded y.0 → (Some x.1 ≡ Some (ATable t) → Some y.1 ≡ Some (ATable t))
      → (named_among name xs ≡ Some (ATable t) → named_among name ys ≡ Some (ATable t)) → named_among name (x ∷ xs) ≡ Some (ATable t) → named_among name (y ∷ ys) ≡ Some (ATable t)
  picked name t x y xs ys same here rest found =
      one_among name y ys ∙ ap (λ b. cond b (Some y.1) (named_among name ys)) (sym (same_test x.0 y.0 name same))
      ∙ by_test (is_same_name x.0 name) (sym (one_among name x xs) ∙ found)
    where
      by_test : (b : Bool) → cond b (Some x.1) (named_among name xs) ≡ Some (ATable t) → cond b (Some y.1) (named_among name ys) ≡ Some (ATable t)
      by_test true h = here h
      by_test false h = rest h

  pub table_found : (name : Name) (t : database.Table) (told others : List Told) → Pairwise HaveAlikeTables told others
      → named_among name (map (told_pair rows_at) told) ≡ Some (ATable t) → named_among name (map (told_pair others_at) others) ≡ Some (ATable t)
  table_found name t [] others alike found = none_found name t found
  table_found name t (x ∷ told) [] alike found = absurd alike
  table_found name t (TableTold v ∷ told) (TableTold w ∷ others) alike found =
      picked name t (told_pair rows_at (TableTold v)) (told_pair others_at (TableTold w)) (map (told_pair rows_at) told) (map (told_pair others_at) others) alike.0.0
      (λ h. ap (λ (o : Object). Some o) (sym alike.0.1) ∙ h) (table_found name t told others alike.1) found
  table_found name t (TableTold v ∷ told) (IndexTold w j ∷ others) alike found = absurd alike.0
  table_found name t (TableTold v ∷ told) (ViewTold w ∷ others) alike found = absurd alike.0
  table_found name t (TableTold v ∷ told) (TriggerTold h ∷ others) alike found = absurd alike.0
  table_found name t (IndexTold v i ∷ told) (TableTold w ∷ others) alike found = absurd alike.0
  table_found name t (IndexTold v i ∷ told) (ViewTold w ∷ others) alike found = absurd alike.0
  table_found name t (IndexTold v i ∷ told) (TriggerTold h ∷ others) alike found = absurd alike.0
  table_found name t (ViewTold v ∷ told) (TableTold w ∷ others) alike found = absurd alike.0
  table_found name t (ViewTold v ∷ told) (IndexTold w j ∷ others) alike found = absurd alike.0
  table_found name t (ViewTold v ∷ told) (TriggerTold h ∷ others) alike found = absurd alike.0
  table_found name t (TriggerTold g ∷ told) (TableTold w ∷ others) alike found = absurd alike.0
  table_found name t (TriggerTold g ∷ told) (IndexTold w j ∷ others) alike found = absurd alike.0
  table_found name t (TriggerTold g ∷ told) (ViewTold w ∷ others) alike found = absurd alike.0
  table_found name t (IndexTold v i ∷ told) (IndexTold w j ∷ others) alike found =
      picked name t (told_pair rows_at (IndexTold v i)) (told_pair others_at (IndexTold w j)) (map (told_pair rows_at) told) (map (told_pair others_at) others) alike.0
      (λ h. no_table (as_index v i) t h) (table_found name t told others alike.1) found
  table_found name t (ViewTold v ∷ told) (ViewTold w ∷ others) alike found =
      picked name t (told_pair rows_at (ViewTold v)) (told_pair others_at (ViewTold w)) (map (told_pair rows_at) told) (map (told_pair others_at) others) alike.0.0
      (λ h. ap (λ (o : Object). Some o) (sym alike.0.1) ∙ h) (table_found name t told others alike.1) found
  table_found name t (TriggerTold g ∷ told) (TriggerTold k ∷ others) alike found =
      picked name t (told_pair rows_at (TriggerTold g)) (told_pair others_at (TriggerTold k)) (map (told_pair rows_at) told) (map (told_pair others_at) others) alike.0.0
      (λ h. ap (λ (o : Object). Some o) (sym alike.0.1) ∙ h) (table_found name t told others alike.1) found

  -- and a name finds the same in both
  pub same_found : (name : Name) (told others : List Told) → Pairwise AreAlike told others
      → named_among name (map (told_pair rows_at) told) ≡ named_among name (map (told_pair others_at) others)
  same_found name [] [] alike = refl
  same_found name [] (y ∷ others) alike = absurd alike
  same_found name (x ∷ told) [] alike = absurd alike
  same_found name (x ∷ told) (y ∷ others) alike =
      one_among name (told_pair rows_at x) (map (told_pair rows_at) told)
      ∙ ap (λ b. cond b (Some (told_object rows_at x)) (named_among name (map (told_pair rows_at) told))) (same_test (told_name x) (told_name y) name alike.0.0)
      ∙ ap (λ o. cond (is_same_name (told_name y) name) (Some o) (named_among name (map (told_pair rows_at) told))) alike.0.1
      ∙ ap (cond (is_same_name (told_name y) name) (Some (told_object others_at y))) (same_found name told others alike.1)
      ∙ sym (one_among name (told_pair others_at y) (map (told_pair others_at) others))
