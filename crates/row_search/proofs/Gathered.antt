-- What is gathered of items that pass a test is sorted to one list, however the items stood.
use Rattle.std.proofs.Common.{◌≡◌, refl, sym, ap, ◌∙◌, Bool, true, false, cond, List, [], ◌∷◌, map, filter}
use mathlib.Core.Bool.{true≢false}
use Rattle.std.specs.Cmp.{IsTotalOrder}
use Rattle.std.specs.Ordering.{is_gt, is_lt, ordering_reverse}
use Rattle.std.specs.declared.cmp.Ordering.{Ordering}
use Rattle.std.specs.declared.cmp.Ordering.TheVariants.{Less, Equal, Greater}
use Rattle.sqlval.specs.Lists.{placed, sorted}

module _ {X : Type 0} (cmp : X → X → Ordering) (o : IsTotalOrder cmp) (exact : (x y : X) → cmp x y ≡ Equal → x ≡ y) where
  greater_back : (x y : X) → is_gt (cmp y x) ≡ is_lt (cmp x y)
  greater_back x y = ap is_gt (o.antisymm y x) ∙ turned (cmp x y)
    where
      turned : (p : Ordering) → is_gt (ordering_reverse p) ≡ is_lt p
      turned Less = refl
      turned Equal = refl
      turned Greater = refl

  two : (x y : X) (ws : List X) → cond (is_gt (cmp x y)) (y ∷ x ∷ ws) (x ∷ y ∷ ws) ≡ cond (is_gt (cmp y x)) (x ∷ y ∷ ws) (y ∷ x ∷ ws)
  two x y ws = by (cmp x y) refl ∙ ap (λ b. cond b (x ∷ y ∷ ws) (y ∷ x ∷ ws)) (sym (greater_back x y))
    where
      left : Ordering → List X
      left p = cond (is_gt p) (y ∷ x ∷ ws) (x ∷ y ∷ ws)

      right : Ordering → List X
      right p = cond (is_lt p) (x ∷ y ∷ ws) (y ∷ x ∷ ws)

      by : (p : Ordering) → cmp x y ≡ p → left (cmp x y) ≡ right (cmp x y)
      by Less e = ap left e ∙ sym (ap right e)
      by Equal e = ap left e ∙ (ap (λ z. z ∷ y ∷ ws) (exact x y e) ∙ (ap (λ z. y ∷ z ∷ ws) (sym (exact x y e)) ∙ sym (ap right e)))
      by Greater e = ap left e ∙ sym (ap right e)

  -- what is past something is past all that isn't
  past_both : (x y z : X) → is_gt (cmp x z) ≡ true → is_gt (cmp y z) ≡ false → is_gt (cmp x y) ≡ true
  past_both x y z h k = greater_back y x ∙ by (cmp y z) refl
    where
      less_of : (p : Ordering) → is_lt p ≡ true → p ≡ Less
      less_of Less e = refl
      less_of Equal e = absurd (true≢false (sym e))
      less_of Greater e = absurd (true≢false (sym e))

      less : cmp z x ≡ Less
      less = less_of (cmp z x) (sym (greater_back z x) ∙ h)

      by : (p : Ordering) → cmp y z ≡ p → is_lt (cmp y x) ≡ true
      by Less e = ap is_lt (o.trans y z x e less)
      by Equal e = ap is_lt (o.congr y z x e ∙ less)
      by Greater e = absurd (true≢false (sym (ap is_gt e) ∙ k))

  placed_at : (x z : X) (zs : List X) (b : Bool) → is_gt (cmp x z) ≡ b → placed cmp x (z ∷ zs) ≡ cond b (z ∷ placed cmp x zs) (x ∷ z ∷ zs)
  placed_at x z zs b e = ap (λ d. cond d (z ∷ placed cmp x zs) (x ∷ z ∷ zs)) e

  -- two items are placed in either order
  either_first : (x y : X) (zs : List X) → placed cmp x (placed cmp y zs) ≡ placed cmp y (placed cmp x zs)
  either_first x y [] = two x y []
  either_first x y (z ∷ zs) = by (either_first x y zs) (is_gt (cmp x z)) refl (is_gt (cmp y z)) refl
    where
      by : placed cmp x (placed cmp y zs) ≡ placed cmp y (placed cmp x zs) → (b : Bool) → is_gt (cmp x z) ≡ b → (d : Bool) → is_gt (cmp y z) ≡ d
          → placed cmp x (placed cmp y (z ∷ zs)) ≡ placed cmp y (placed cmp x (z ∷ zs))
      by rest true e true f =
          ap (placed cmp x) (placed_at y z zs true f)
          ∙ (placed_at x z (placed cmp y zs) true e ∙ (ap (λ ws. z ∷ ws) rest ∙ (sym (placed_at y z (placed cmp x zs) true f) ∙ ap (placed cmp y) (sym (placed_at x z zs true e)))))
      by rest true e false f =
          ap (placed cmp x) (placed_at y z zs false f)
          ∙ (placed_at x y (z ∷ zs) true (past_both x y z e f)
          ∙ (ap (λ ws. y ∷ ws) (placed_at x z zs true e) ∙ (sym (placed_at y z (placed cmp x zs) false f) ∙ ap (placed cmp y) (sym (placed_at x z zs true e)))))
      by rest false e true f =
          ap (placed cmp x) (placed_at y z zs true f)
          ∙ (placed_at x z (placed cmp y zs) false e
          ∙ (ap (λ ws. x ∷ ws) (sym (placed_at y z zs true f)) ∙ (sym (placed_at y x (z ∷ zs) true (past_both y x z f e)) ∙ ap (placed cmp y) (sym (placed_at x z zs false e)))))
      by rest false e false f =
          ap (placed cmp x) (placed_at y z zs false f)
          ∙ (ap (λ ws. cond (is_gt (cmp x y)) (y ∷ ws) (x ∷ y ∷ z ∷ zs)) (placed_at x z zs false e)
          ∙ (two x y (z ∷ zs)
          ∙ (sym (ap (λ ws. cond (is_gt (cmp y x)) (x ∷ ws) (y ∷ x ∷ z ∷ zs)) (placed_at y z zs false f)) ∙ ap (placed cmp y) (sym (placed_at x z zs false e)))))

  module _ {E : Type 0} (by_items : E → E → Ordering) (f : E → X) (p : E → Bool) where
    abbrev gathered : List E → List X
    gathered es = sorted cmp (map f (filter p es))

    -- what is gathered with one more item in front
    abbrev with_one : E → List X → List X
    with_one e xs = cond (p e) (placed cmp (f e) xs) xs

    with_first : (e : E) (es : List E) → gathered (e ∷ es) ≡ with_one e (gathered es)
    with_first e es = by (p e)
      where
        by : (b : Bool) → sorted cmp (map f (cond b (e ∷ filter p es) (filter p es))) ≡ cond b (placed cmp (f e) (gathered es)) (gathered es)
        by true = refl
        by false = refl

    turned_round : (d e : E) (es : List E) → gathered (d ∷ e ∷ es) ≡ gathered (e ∷ d ∷ es)
    turned_round d e es =
        with_first d (e ∷ es) ∙ (ap (with_one d) (with_first e es) ∙ (by (p d) (p e) ∙ (sym (ap (with_one e) (with_first d es)) ∙ sym (with_first e (d ∷ es)))))
      where
        by : (a b : Bool) → cond a (placed cmp (f d) (cond b (placed cmp (f e) (gathered es)) (gathered es))) (cond b (placed cmp (f e) (gathered es)) (gathered es))
            ≡ cond b (placed cmp (f e) (cond a (placed cmp (f d) (gathered es)) (gathered es))) (cond a (placed cmp (f d) (gathered es)) (gathered es))
        by true true = either_first (f d) (f e) (gathered es)
        by true false = refl
        by false true = refl
        by false false = refl

    of_placed : (d : E) (es : List E) → gathered (placed by_items d es) ≡ gathered (d ∷ es)
    of_placed d [] = refl
    of_placed d (e ∷ es) = by (of_placed d es) (is_gt (by_items d e))
      where
        by : gathered (placed by_items d es) ≡ gathered (d ∷ es) → (b : Bool) → gathered (cond b (e ∷ placed by_items d es) (d ∷ e ∷ es)) ≡ gathered (d ∷ e ∷ es)
        by rest true = with_first e (placed by_items d es) ∙ (ap (with_one e) rest ∙ (sym (with_first e (d ∷ es)) ∙ turned_round e d es))
        by rest false = refl

    pub of_sorted : (es : List E) → gathered (sorted by_items es) ≡ gathered es
    of_sorted [] = refl
    of_sorted (e ∷ es) = of_placed e (sorted by_items es) ∙ (with_first e (sorted by_items es) ∙ (ap (with_one e) (of_sorted es) ∙ sym (with_first e es)))
