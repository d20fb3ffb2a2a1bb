-- Sorted lists with an item more, and with one less.
use Rattle.std.proofs.Common.{◌≡◌, refl, sym, ap, ◌∙◌, Bool, true, false, not, cond, ◌||◌, List, [], ◌∷◌, ◌++◌, filter, map}
use mathlib.Core.Bool.{true≢false}
use Rattle.std.specs.Cmp.{IsTotalOrder}
use Rattle.std.specs.List.{AllByRecursion, list_any}
use Rattle.std.specs.Ordering.{is_eq, is_gt, ordering_reverse}
use Rattle.std.specs.declared.cmp.Ordering.{Ordering}
use Rattle.std.specs.declared.cmp.Ordering.TheVariants.{Less, Equal, Greater}
use Rattle.sqlval.specs.Lists.{placed, sorted}

-- ---- an order that is total

module _ {X : Type 0} (cmp : X → X → Ordering) (o : IsTotalOrder cmp) where
  abbrev tied : X → X → Bool
  tied x y = is_eq (cmp x y)

  abbrev above : X → X → Bool
  above x y = is_gt (cmp x y)

  -- of two that don't tie, one is above the other
  one_above : (x y : X) → tied x y ≡ false → above y x ≡ not (above x y)
  one_above x y apart = by (cmp x y) (cmp y x) (o.antisymm y x) apart where
    by : (p q : Ordering) → q ≡ ordering_reverse p → is_eq p ≡ false → is_gt q ≡ not (is_gt p)
    by Less q e apart = ap is_gt e
    by Equal q e apart = absurd (true≢false apart)
    by Greater q e apart = ap is_gt e

  pub tied_self : (x : X) → tied x x ≡ true
  tied_self x = by (cmp x x) (o.antisymm x x) where
    by : (p : Ordering) → p ≡ ordering_reverse p → is_eq p ≡ true
    by Less e = absurd (true≢false (sym (ap is_gt e)))
    by Equal e = refl
    by Greater e = absurd (true≢false (ap is_gt e))

  pub tied_back : (x y : X) → tied x y ≡ false → tied y x ≡ false
  tied_back x y apart = by (cmp x y) (cmp y x) (o.antisymm y x) apart where
    by : (p q : Ordering) → q ≡ ordering_reverse p → is_eq p ≡ false → is_eq q ≡ false
    by Less q e apart = ap is_eq e
    by Equal q e apart = absurd (true≢false apart)
    by Greater q e apart = ap is_eq e

  -- what is above a third, which another isn't above, is above that other
  above_between : (x y z : X) → above x z ≡ true → above y z ≡ false → above x y ≡ true
  above_between x y z up low = by (cmp y z) refl (cmp x z) refl low up where
    turn : (a b : X) (p : Ordering) → cmp a b ≡ p → cmp b a ≡ ordering_reverse p
    turn a b p e = o.antisymm b a ∙ ap ordering_reverse e

    by : (p : Ordering) → cmp y z ≡ p → (q : Ordering) → cmp x z ≡ q → is_gt p ≡ false → is_gt q ≡ true → above x y ≡ true
    by Greater e q f low up = absurd (true≢false low)
    by p e Less f low up = absurd (true≢false (sym up))
    by p e Equal f low up = absurd (true≢false (sym up))
    by Less e Greater f low up = ap is_gt (turn y x Less (o.trans y z x e (turn x z Greater f)))
    by Equal e Greater f low up = ap is_gt (turn y x Less (o.congr y z x e ∙ turn x z Greater f))

  -- two that don't tie are placed in either order
  pub placed_swap : (x y : X) (zs : List X) → tied x y ≡ false → placed cmp x (placed cmp y zs) ≡ placed cmp y (placed cmp x zs)
  placed_swap x y [] apart = by (above x y) (above y x) (one_above x y apart) where
    by : (b c : Bool) → c ≡ not b → cond b (y ∷ x ∷ []) (x ∷ y ∷ []) ≡ cond c (x ∷ y ∷ []) (y ∷ x ∷ [])
    by true c e = ap (λ (d : Bool). cond d (x ∷ y ∷ []) (y ∷ x ∷ [])) (sym e)
    by false c e = ap (λ (d : Bool). cond d (x ∷ y ∷ []) (y ∷ x ∷ [])) (sym e)
  placed_swap x y (z ∷ zs) apart = by (above x z) refl (above y z) refl (placed_swap x y zs apart) where
    -- x in front of y and the rest, or after y
    beside : (rest : List X) → List X → X → X → Bool → List X
    beside rest more a b test = cond test (b ∷ more) (a ∷ b ∷ rest)

    at : (a : X) (b : Bool) → above a z ≡ b → placed cmp a (z ∷ zs) ≡ cond b (z ∷ placed cmp a zs) (a ∷ z ∷ zs)
    at a b e = ap (λ (d : Bool). cond d (z ∷ placed cmp a zs) (a ∷ z ∷ zs)) e

    under : (a b : X) (more : List X) (c : Bool) → above a b ≡ c → placed cmp a (b ∷ more) ≡ cond c (b ∷ placed cmp a more) (a ∷ b ∷ more)
    under a b more c e = ap (λ (d : Bool). cond d (b ∷ placed cmp a more) (a ∷ b ∷ more)) e

    by : (b : Bool) → above x z ≡ b → (c : Bool) → above y z ≡ c → placed cmp x (placed cmp y zs) ≡ placed cmp y (placed cmp x zs)
        → placed cmp x (placed cmp y (z ∷ zs)) ≡ placed cmp y (placed cmp x (z ∷ zs))
    by true e true f more =
        ap (placed cmp x) (at y true f) ∙ under x z (placed cmp y zs) true e ∙ ap (λ (ws : List X). z ∷ ws) more
        ∙ sym (ap (placed cmp y) (at x true e) ∙ under y z (placed cmp x zs) true f)
    by true e false f more =
        ap (placed cmp x) (at y false f) ∙ under x y (z ∷ zs) true (above_between x y z e f) ∙ ap (λ (ws : List X). y ∷ ws) (at x true e)
        ∙ sym (ap (placed cmp y) (at x true e) ∙ under y z (placed cmp x zs) false f)
    by false e true f more =
        ap (placed cmp x) (at y true f) ∙ under x z (placed cmp y zs) false e
        ∙ sym (ap (placed cmp y) (at x false e) ∙ under y x (z ∷ zs) true (above_between y x z f e) ∙ ap (λ (ws : List X). x ∷ ws) (at y true f))
    by false e false f more = ap (placed cmp x) (at y false f) ∙ last (above x y) refl ∙ sym (ap (placed cmp y) (at x false e)) where
      last : (d : Bool) → above x y ≡ d → placed cmp x (y ∷ z ∷ zs) ≡ placed cmp y (x ∷ z ∷ zs)
      last true g = under x y (z ∷ zs) true g ∙ ap (λ (ws : List X). y ∷ ws) (at x false e) ∙ sym (under y x (z ∷ zs) false (one_above x y apart ∙ ap not g))
      last false g = under x y (z ∷ zs) false g ∙ sym (under y x (z ∷ zs) true (one_above x y apart ∙ ap not g) ∙ ap (λ (ws : List X). x ∷ ws) (at y false f))

  -- an item that ties with none before it can be placed last
  pub sorted_with : (before after : List X) (x : X) → AllByRecursion (λ y. tied x y ≡ false) before
      → sorted cmp (before ++ x ∷ after) ≡ placed cmp x (sorted cmp (before ++ after))
  sorted_with [] after x apart = refl
  sorted_with (y ∷ before) after x apart =
      ap (placed cmp y) (sorted_with before after x apart.1) ∙ placed_swap y x (sorted cmp (before ++ after)) (tied_back x y apart.0)

-- ---- tests of sorted lists

module _ {X : Type 0} (cmp : X → X → Ordering) (p : X → Bool) where
  none_placed : (x : X) (xs : List X) → p x ≡ false → list_any p xs ≡ false → list_any p (placed cmp x xs) ≡ false
  none_placed x [] e f = both (p x) false e refl where
    both : (a b : Bool) → a ≡ false → b ≡ false → a || b ≡ false
    both false b e f = f
    both true b e f = absurd (true≢false e)
  none_placed x (y ∷ ys) e f = by (is_gt (cmp x y)) (none_placed x ys e (parts (p y) (list_any p ys) f).1) where
    parts : (a b : Bool) → a || b ≡ false → (a ≡ false) × (b ≡ false)
    parts false b e = (refl, e)
    parts true b e = absurd (true≢false e)

    both : (a b : Bool) → a ≡ false → b ≡ false → a || b ≡ false
    both false b e f = f
    both true b e f = absurd (true≢false e)

    by : (b : Bool) → list_any p (placed cmp x ys) ≡ false → list_any p (cond b (y ∷ placed cmp x ys) (x ∷ y ∷ ys)) ≡ false
    by true more = both (p y) (list_any p (placed cmp x ys)) (parts (p y) (list_any p ys) f).0 more
    by false more = both (p x) (p y || list_any p ys) e f

  pub none_sorted : (xs : List X) → AllByRecursion (λ x. p x ≡ false) xs → list_any p (sorted cmp xs) ≡ false
  none_sorted [] all = refl
  none_sorted (x ∷ xs) all = none_placed x (sorted cmp xs) all.0 (none_sorted xs all.1)

  pub one_placed : (x : X) (xs : List X) → p x ≡ true → list_any p (placed cmp x xs) ≡ true
  one_placed x [] e = first (p x) false e where
    first : (a b : Bool) → a ≡ true → a || b ≡ true
    first true b e = refl
    first false b e = absurd (true≢false (sym e))
  one_placed x (y ∷ ys) e = by (is_gt (cmp x y)) (one_placed x ys e) where
    first : (a b : Bool) → a ≡ true → a || b ≡ true
    first true b e = refl
    first false b e = absurd (true≢false (sym e))

    second : (a b : Bool) → b ≡ true → a || b ≡ true
    second true b e = refl
    second false b e = e

    by : (b : Bool) → list_any p (placed cmp x ys) ≡ true → list_any p (cond b (y ∷ placed cmp x ys) (x ∷ y ∷ ys)) ≡ true
    by true more = second (p y) (list_any p (placed cmp x ys)) more
    by false more = first (p x) (p y || list_any p ys) e

  -- where no item passes the test, those that don't are all
  kept_all : (xs : List X) → list_any p xs ≡ false → filter (λ x. not (p x)) xs ≡ xs
  kept_all [] e = refl
  kept_all (x ∷ xs) e = by (p x) refl (kept_all xs (parts (p x) (list_any p xs) e).1) where
    parts : (a b : Bool) → a || b ≡ false → (a ≡ false) × (b ≡ false)
    parts false b e = (refl, e)
    parts true b e = absurd (true≢false e)

    by : (b : Bool) → p x ≡ b → filter (λ y. not (p y)) xs ≡ xs → cond (not b) (x ∷ filter (λ y. not (p y)) xs) (filter (λ y. not (p y)) xs) ≡ x ∷ xs
    by true f more = absurd (true≢false (sym f ∙ (parts (p x) (list_any p xs) e).0))
    by false f more = ap (λ (ys : List X). x ∷ ys) more

  pub without_placed : (x : X) (xs : List X) → p x ≡ true → list_any p xs ≡ false → filter (λ y. not (p y)) (placed cmp x xs) ≡ xs
  without_placed x [] e f = ap (λ (b : Bool). cond (not b) (x ∷ []) []) e
  without_placed x (y ∷ ys) e f = by (is_gt (cmp x y)) (without_placed x ys e (parts (p y) (list_any p ys) f).1) where
    parts : (a b : Bool) → a || b ≡ false → (a ≡ false) × (b ≡ false)
    parts false b e = (refl, e)
    parts true b e = absurd (true≢false e)

    by : (b : Bool) → filter (λ z. not (p z)) (placed cmp x ys) ≡ ys → filter (λ z. not (p z)) (cond b (y ∷ placed cmp x ys) (x ∷ y ∷ ys)) ≡ y ∷ ys
    by true more =
        ap (λ (b : Bool). cond (not b) (y ∷ filter (λ z. not (p z)) (placed cmp x ys)) (filter (λ z. not (p z)) (placed cmp x ys))) (parts (p y) (list_any p ys) f).0
        ∙ ap (λ (zs : List X). y ∷ zs) more
    by false more =
        ap (λ (b : Bool). cond (not b) (x ∷ filter (λ z. not (p z)) (y ∷ ys)) (filter (λ z. not (p z)) (y ∷ ys))) e ∙ kept_all (y ∷ ys) f

-- ---- through a function

module _ {X Y : Type 0} (cmp : Y → Y → Ordering) (f : X → Y) where
  abbrev along : X → X → Ordering
  along x y = cmp (f x) (f y)

  pub placed_map : (x : X) (xs : List X) → placed cmp (f x) (map f xs) ≡ map f (placed along x xs)
  placed_map x [] = refl
  placed_map x (y ∷ ys) = by (is_gt (cmp (f x) (f y))) (placed_map x ys) where
    by : (b : Bool) → placed cmp (f x) (map f ys) ≡ map f (placed along x ys)
        → cond b (f y ∷ placed cmp (f x) (map f ys)) (f x ∷ f y ∷ map f ys) ≡ map f (cond b (y ∷ placed along x ys) (x ∷ y ∷ ys))
    by true more = ap (λ (ws : List Y). f y ∷ ws) more
    by false more = refl

  pub sorted_map : (xs : List X) → sorted cmp (map f xs) ≡ map f (sorted along xs)
  sorted_map [] = refl
  sorted_map (x ∷ xs) = ap (placed cmp (f x)) (sorted_map xs) ∙ placed_map x (sorted along xs)

  pub any_map : (p : Y → Bool) (xs : List X) → list_any p (map f xs) ≡ list_any (λ x. p (f x)) xs
  any_map p [] = refl
  any_map p (x ∷ xs) = ap (λ (b : Bool). p (f x) || b) (any_map p xs)

  pub filter_map_through : (p : Y → Bool) (xs : List X) → filter p (map f xs) ≡ map f (filter (λ x. p (f x)) xs)
  filter_map_through p [] = refl
  filter_map_through p (x ∷ xs) = by (p (f x)) (filter_map_through p xs) where
    by : (b : Bool) → filter p (map f xs) ≡ map f (filter (λ y. p (f y)) xs)
        → cond b (f x ∷ filter p (map f xs)) (filter p (map f xs)) ≡ map f (cond b (x ∷ filter (λ y. p (f y)) xs) (filter (λ y. p (f y)) xs))
    by true more = ap (λ (ws : List Y). f x ∷ ws) more
    by false more = more
