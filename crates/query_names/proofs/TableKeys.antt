-- The keys of a definition, looked up over its columns.
use Rattle.std.proofs.Common.{◌≡◌, refl, ap, subst, ◌∙◌, ℕ, Bool, true, false, cond, filter, List, [], ◌∷◌, ◌++◌, map, Option, Some, None}
use Rattle.std.specs.Prelude.{is_none}
use Rattle.std.specs.List.{AllByRecursion}
use Rattle.sqlval.specs.Refusals.{Refusal}
use Rattle.sqlval.specs.declared.collation.Collation.{Collation}
use Rattle.sql_syntax.specs.declared.create.ColumnDefinition.{ColumnDefinition}
use Rattle.query_names.specs.Checked.{Checked, Meant, both, faults, good, known_all, known_map, meant, unless}
use Rattle.query_names.specs.Creating.{other_keys, rowid_place}
use Rattle.query_names.specs.Tables.{first_some, has_no_rowid_key, rowid_key}

-- ---- what isn't refused

pub map_good : {A B : Type 0} (h : A → B) (k : Checked A) (y : B) → known_map h k ≡ good y → (x : A) × (k ≡ good x) × (h x ≡ y)
map_good h (Meant x rs) y e = (x, ap (Meant x) (ap faults e), ap meant e)

no_parts : {A : Type 0} (xs ys : List A) → xs ++ ys ≡ [] → (xs ≡ []) × (ys ≡ [])
no_parts [] ys e = (refl, e)
no_parts (x ∷ xs) ys e = absurd cc

pub both_parts : {A B C : Type 0} (f : A → B → C) (k : Checked A) (l : Checked B) (z : C) → both f k l ≡ good z → (k ≡ good (meant k)) × (l ≡ good (meant l)) × (f (meant k) (meant l) ≡ z)
both_parts f (Meant x rs) (Meant y ss) z e = let none = no_parts rs ss (ap faults e) in (ap (Meant x) none.0, ap (Meant y) none.1, ap meant e)

pub unless_good : {A : Type 0} (b : Bool) (r : Refusal) (k : Checked A) (x : A) → unless b r k ≡ good x → (b ≡ false) × (k ≡ good x)
unless_good true r (Meant y ss) x e = absurd (one_none (ap faults e))
  where
    one_none : r ∷ ss ≡ [] → ⊥
    one_none h = absurd cc
unless_good false r (Meant y ss) x e = (refl, e)

-- ---- each text with what it stands for

abbrev pub with_item : {A B : Type 0} → (A → Checked B) → A → Checked (A × B)
with_item g k = known_map (λ y. (k, y)) (g k)

step : {A B C : Type 0} (f : A → B → C) (k : A) (a : Checked B) (b : Checked (List (A × B)))
    → both (λ x xs. x ∷ xs) (known_map (f k) a) (known_map (map (λ (p : A × B). f p.0 p.1)) b) ≡ known_map (map (λ (p : A × B). f p.0 p.1)) (both (λ x xs. x ∷ xs) (known_map (λ y. (k, y)) a) b)
step f k (Meant y rs) (Meant ps ss) = refl

pub paired : {A B C : Type 0} (g : A → Checked B) (f : A → B → C) (xs : List A)
    → known_all (map (λ k. known_map (f k) (g k)) xs) ≡ known_map (map (λ (p : A × B). f p.0 p.1)) (known_all (map (with_item g) xs))
paired g f [] = refl
paired g f (k ∷ ks) = ap (both (λ x xs. x ∷ xs) (known_map (f k) (g k))) (paired g f ks) ∙ step f k (g k) (known_all (map (with_item g) ks))

-- these items with what they stand for, of which nothing is refused
pub record ArePairs {A B : Type 0} (g : A → Checked B) (xs : List A) (ps : List (A × B)) : Type 0 where
  pub each : AllByRecursion (λ (p : A × B). g p.0 ≡ good p.1) ps
  pub items : map (λ (p : A × B). p.0) ps ≡ xs

pub pairs_hold : {A B : Type 0} (g : A → Checked B) (xs : List A) (ps : List (A × B)) → known_all (map (with_item g) xs) ≡ good ps → ArePairs g xs ps
pairs_hold {A} {B} g [] ps e = subst (ArePairs g []) (ap meant e) (record { each = tt; items = refl })
pairs_hold {A} {B} g (k ∷ ks) ps e =
    let parts = both_parts (λ x xs. x ∷ xs) (with_item g k) (known_all (map (with_item g) ks)) ps e in
    let one = map_good (λ (y : B). (k, y)) (g k) (meant (with_item g k)) parts.0 in
    let rest = pairs_hold g ks (meant (known_all (map (with_item g) ks))) parts.1 in
    subst (ArePairs g (k ∷ ks)) (ap (λ (p : A × B). p ∷ meant (known_all (map (with_item g) ks))) one.2 ∙ parts.2)
    (record { each = (one.1, rest.each); items = ap (λ xs. k ∷ xs) rest.items })

-- ---- keys by their columns, with and without collations

pub map_of_map : {A B C : Type 0} (f : B → C) (g : A → B) (k : Checked A) → known_map f (known_map g k) ≡ known_map (λ x. f (g x)) k
map_of_map f g (Meant x rs) = refl

pub each_alike : {A B : Type 0} (f g : A → B) (same : (x : A) → f x ≡ g x) (xs : List A) → map f xs ≡ map g xs
each_alike f g same [] = refl
each_alike f g same (x ∷ xs) = ap (λ y. y ∷ map f xs) (same x) ∙ ap (λ ys. g x ∷ ys) (each_alike f g same xs)

module _ (cs : List ColumnDefinition) (collation : ℕ → Collation) where
  abbrev pub with_collations : List ℕ → List (ℕ × Collation)
  with_collations is = map (λ i. (i, collation i)) is

  abbrev pub bound : Bool × List ℕ → Bool × List (ℕ × Collation)
  bound key = (key.0, with_collations key.1)

  places_left : (is : List ℕ) → map (λ c. c.0) (with_collations is) ≡ is
  places_left [] = refl
  places_left (i ∷ is) = ap (λ rest. i ∷ rest) (places_left is)

  same_place : (key : Bool × List ℕ) → rowid_place cs (bound key) ≡ rowid_key cs key
  same_place key = ap (λ is. rowid_key cs (key.0, is)) (places_left key.1)

  pub same_first : (keys : List (Bool × List ℕ)) → first_some (rowid_place cs) (map bound keys) ≡ first_some (rowid_key cs) keys
  same_first [] = refl
  same_first (key ∷ keys) =
      ap (λ (o : Option ℕ). elim o as (λ x. Option ℕ) [ Some y ↦ Some y | None ↦ first_some (rowid_place cs) (map bound keys) ]) (same_place key)
      ∙ ap (λ (rest : Option ℕ). elim (rowid_key cs key) as (λ x. Option ℕ) [ Some y ↦ Some y | None ↦ rest ]) (same_first keys)

  none_is : (o : Option ℕ) → is_none o ≡ (elim o as (λ x. Bool) [ None ↦ true | Some i ↦ false ])
  none_is None = refl
  none_is (Some i) = refl

  abbrev bound_others : List (Bool × List ℕ) → List (Bool × List (ℕ × Collation))
  bound_others keys = filter (λ k. is_none (rowid_place cs k)) (map bound keys)

  by_test : (key : Bool × List ℕ) (keys : List (Bool × List ℕ)) → other_keys cs (map bound keys) ≡ map (λ key. with_collations key.1) (filter (has_no_rowid_key cs) keys)
      → (b : Bool) → map (λ (k : Bool × List (ℕ × Collation)). k.1) (cond b (bound key ∷ bound_others keys) (bound_others keys))
      ≡ map (λ key. with_collations key.1) (cond b (key ∷ filter (has_no_rowid_key cs) keys) (filter (has_no_rowid_key cs) keys))
  by_test key keys rest true = ap (λ them. with_collations key.1 ∷ them) rest
  by_test key keys rest false = rest

  pub same_others : (keys : List (Bool × List ℕ)) → other_keys cs (map bound keys) ≡ map (λ key. with_collations key.1) (filter (has_no_rowid_key cs) keys)
  same_others [] = refl
  same_others (key ∷ keys) =
      ap (λ (b : Bool). map (λ (k : Bool × List (ℕ × Collation)). k.1) (cond b (bound key ∷ bound_others keys) (bound_others keys)))
      (ap is_none (same_place key) ∙ none_is (rowid_key cs key))
      ∙ by_test key keys (same_others keys) (has_no_rowid_key cs key)
