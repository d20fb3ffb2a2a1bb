-- Items of two kinds, where each of the second goes with one of the first: all of them, in two orders.
use Rattle.std.proofs.Common.{◌≡◌, ◌⊎◌, inl, inr, refl, sym, ap, ap₂, subst, ◌∙◌, append_assoc, append-nil, Bool, true, false, cond, List, [], ◌∷◌, ◌++◌, map, filter, flat_map}
use Rattle.std.specs.Prelude.{⊤}
use Rattle.std.specs.List.{AllByRecursion}
use Rattle.db_pages.specs.Reordering.{AreReordered}
use Rattle.db_pages.proofs.Reordering.{all_reordered, reordered_between, reordered_refl}

-- ---- different items

-- no two are one
abbrev pub AllApart : {A : Type 0} → List A → Type 0
AllApart [] = ⊤
AllApart (x ∷ xs) = AllByRecursion (λ y. x ≡ y → ⊥) xs × AllApart xs

all_between : {A : Type 0} (P : A → Type 0) (before : List A) (x : A) (after : List A) → P x → AllByRecursion P (before ++ after) → AllByRecursion P (before ++ x ∷ after)
all_between P [] x after p all = (p, all)
all_between P (y ∷ before) x after p all = (all.0, all_between P before x after p all.1)

apart_between : {A : Type 0} (before : List A) (x : A) (after : List A) → AllByRecursion (λ y. x ≡ y → ⊥) (before ++ after) → AllApart (before ++ after) → AllApart (before ++ x ∷ after)
apart_between [] x after misses apart = (misses, apart)
apart_between (y ∷ before) x after misses apart = (
  all_between (λ z. y ≡ z → ⊥) before x after (λ same. misses.0 (sym same)) apart.0,
  apart_between before x after misses.1 apart.1,
)

pub apart_reordered : {A : Type 0} (xs ys : List A) → AreReordered xs ys → AllApart xs → AllApart ys
apart_reordered {A} [] ys is apart = subst (λ (zs : List A). AllApart zs) (sym is) tt
apart_reordered {A} (x ∷ xs) ys (before, after, same, rest) apart =
    subst (λ (zs : List A). AllApart zs) (sym same)
    (apart_between before x after (all_reordered (λ y. x ≡ y → ⊥) xs (before ++ after) rest apart.0) (apart_reordered xs (before ++ after) rest apart.1))

-- ---- items that go with others

-- it goes with one of these alone
abbrev pub GoesWithOne : {A B : Type 0} → (A → B → Bool) → B → List A → Type 0
GoesWithOne on y [] = ⊥
GoesWithOne on y (x ∷ xs) = ((on x y ≡ true) × AllByRecursion (λ u. on u y ≡ false) xs) ⊎ ((on x y ≡ false) × GoesWithOne on y xs)

-- those that go with it
abbrev pub theirs : {A B : Type 0} → (A → B → Bool) → List B → A → List B
theirs on ys x = filter (on x) ys

-- what each of the first gives, and then what those give that go with it
abbrev pub with_theirs : {A B X : Type 0} → (A → B → Bool) → (A → List X) → (B → X) → List B → List A → List X
with_theirs on f g ys xs = flat_map (λ x. f x ++ map g (theirs on ys x)) xs

module _ {A B X : Type 0} (on : A → B → Bool) (f : A → List X) (g : B → X) where
  none_theirs : (xs : List A) → with_theirs on f g [] xs ≡ flat_map f xs ++ []
  none_theirs xs = alone xs ∙ sym (append-nil (flat_map f xs))
    where
      alone : (xs : List A) → with_theirs on f g [] xs ≡ flat_map f xs
      alone [] = refl
      alone (x ∷ xs) = ap₂ (λ a b. a ++ b) (append-nil (f x)) (alone xs)

  here : (y : B) (ys : List B) (x : A) → on x y ≡ true → theirs on (y ∷ ys) x ≡ y ∷ theirs on ys x
  here y ys x is = ap (λ b. cond b (y ∷ filter (on x) ys) (filter (on x) ys)) is

  elsewhere : (y : B) (ys : List B) (x : A) → on x y ≡ false → theirs on (y ∷ ys) x ≡ theirs on ys x
  elsewhere y ys x is = ap (λ b. cond b (y ∷ filter (on x) ys) (filter (on x) ys)) is

  none_on : (y : B) (ys : List B) (xs : List A) → AllByRecursion (λ u. on u y ≡ false) xs → with_theirs on f g (y ∷ ys) xs ≡ with_theirs on f g ys xs
  none_on y ys [] none = refl
  none_on y ys (x ∷ xs) none = ap₂ (λ (a : List B) b. (f x ++ map g a) ++ b) (elsewhere y ys x none.0) (none_on y ys xs none.1)

  -- where it stands among all
  record Place (y : B) (ys : List B) (xs : List A) : Type 0 where
    before : List X
    after : List X
    with_it : with_theirs on f g (y ∷ ys) xs ≡ before ++ g y ∷ after
    without : with_theirs on f g ys xs ≡ before ++ after

  place : (y : B) (ys : List B) (xs : List A) → GoesWithOne on y xs → Place y ys xs
  place y ys [] one = absurd one
  place y ys (x ∷ xs) (inl (is, none)) = record {
    before = f x;
    after = map g (theirs on ys x) ++ with_theirs on f g ys xs;
    with_it =
        ap₂ (λ (a : List B) b. (f x ++ map g a) ++ b) (here y ys x is) (none_on y ys xs none)
        ∙ append_assoc (f x) (g y ∷ map g (theirs on ys x)) (with_theirs on f g ys xs);
    without = append_assoc (f x) (map g (theirs on ys x)) (with_theirs on f g ys xs);
  }
  place y ys (x ∷ xs) (inr (is, one)) =
      let rest = place y ys xs one in
      let own = f x ++ map g (theirs on ys x) in
      record {
        before = own ++ rest.before;
        after = rest.after;
        with_it =
            ap₂ (λ (a : List B) b. (f x ++ map g a) ++ b) (elsewhere y ys x is) rest.with_it
            ∙ sym (append_assoc own rest.before (g y ∷ rest.after));
        without = ap (λ b. own ++ b) rest.without ∙ sym (append_assoc own rest.before rest.after);
      }

  pub shared_out : (xs : List A) (ys : List B) → AllByRecursion (λ y. GoesWithOne on y xs) ys → AreReordered (flat_map f xs ++ map g ys) (with_theirs on f g ys xs)
  shared_out xs [] each = subst (AreReordered (flat_map f xs ++ [])) (sym (none_theirs xs)) (reordered_refl (flat_map f xs ++ []))
  shared_out xs (y ∷ ys) each =
      let at = place y ys xs each.0 in
      subst (AreReordered (flat_map f xs ++ g y ∷ map g ys)) (sym at.with_it)
      (reordered_between (flat_map f xs) (map g ys) at.before at.after (g y) (subst (AreReordered (flat_map f xs ++ map g ys)) at.without (shared_out xs ys each.1)))

pub flat_ones : {A X : Type 0} (f : A → X) (xs : List A) → flat_map (λ x. f x ∷ []) xs ≡ map f xs
flat_ones f [] = refl
flat_ones f (x ∷ xs) = ap (λ zs. f x ∷ zs) (flat_ones f xs)

-- none of the first gives anything
abbrev pub nothing_of : {A X : Type 0} → A → List X
nothing_of x = []

pub flat_none : {A X : Type 0} (xs : List A) → flat_map (nothing_of {A = A} {X = X}) xs ≡ []
flat_none [] = refl
flat_none (x ∷ xs) = flat_none xs
