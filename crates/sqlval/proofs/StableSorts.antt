-- A stable sort gives one list.
use Rattle.std.proofs.Common.{◌≡◌, refl, sym, ap, subst, ◌∙◌, ℕ, suc, ◌+◌, Bool, true, false, not, ◌&&◌, cond, List, [], ◌∷◌, filter, slice_index_or, arith}
use mathlib.Core.Bool.{true≢false}
use Rattle.std.specs.Cmp.{IsStrictWeakOrder, IsTotalOrder}
use Rattle.std.specs.Fn.{Called, ComparesAs}
use Rattle.std.specs.List.Sorted.{IsSortedBy, IsSortedByClosure, IsSorted, IsStable, IsStableBy, IsStableByClosure, ties}
use Rattle.std.proofs.lemmas.Fn.{always_returns_same}
use denote.Ref.{Bor}
use denote.Param.Members.{Mut}
use Rattle.std.specs.Ordering.{is_lt, is_gt, ordering_reverse}
use Rattle.std.specs.declared.cmp.Ordering.{Ordering}
use Rattle.std.specs.declared.cmp.Ordering.TheVariants.{Less, Equal, Greater}
use Rattle.std.proofs.lemmas.List.MinMax.{ranks_by}
use Rattle.sqlval.specs.Lists.{placed, sorted}

module _ {X : Type 0} (lt : X → X → Bool) (o : IsStrictWeakOrder lt) where
  -- each is no less than the one before it
  abbrev Rising : List X → Type 0
  Rising [] = Unit {0}
  Rising (x ∷ []) = Unit {0}
  Rising (x ∷ y ∷ ys) = (lt y x ≡ false) × Rising (y ∷ ys)

  -- none is less than y
  abbrev AtLeast : X → List X → Type 0
  AtLeast y [] = Unit {0}
  AtLeast y (z ∷ zs) = (lt z y ≡ false) × AtLeast y zs

  itself : (x : X) → lt x x ≡ false
  itself x = by (lt x x) refl
    where
      by : (b : Bool) → lt x x ≡ b → lt x x ≡ false
      by true e = o.one_way x x e
      by false e = e

  ties_itself : (x : X) → ties lt x x ≡ true
  ties_itself x = ap (λ b. not b && not b) (itself x)

  above : (y : X) (zs : List X) → Rising (y ∷ zs) → AtLeast y zs
  above y [] h = tt
  above y (z ∷ zs) h = (h.0, raised zs (above z zs h.1))
    where
      raised : (ws : List X) → AtLeast z ws → AtLeast y ws
      raised [] k = tt
      raised (w ∷ ws) k = (o.chain w z y k.0 h.0, raised ws k.1)

  -- what is behind something greater ties with nothing less
  none_ties : (z y : X) (ws : List X) → lt z y ≡ true → AtLeast y ws → filter (ties lt z) ws ≡ []
  none_ties z y [] h k = refl
  none_ties z y (w ∷ ws) h k = by (lt z w) refl ∙ none_ties z y ws h k.1
    where
      by : (b : Bool) → lt z w ≡ b → filter (ties lt z) (w ∷ ws) ≡ filter (ties lt z) ws
      by true e = ap (λ c. cond (not c && not (lt w z)) (w ∷ filter (ties lt z) ws) (filter (ties lt z) ws)) e
      by false e = absurd (true≢false (sym h ∙ o.chain z w y e k.0))

  first_stays : (z : X) (zs : List X) → filter (ties lt z) (z ∷ zs) ≡ z ∷ filter (ties lt z) zs
  first_stays z zs = ap (λ b. cond b (z ∷ filter (ties lt z) zs) (filter (ties lt z) zs)) (ties_itself z)

  not_empty : (z : X) (zs : List X) → z ∷ zs ≡ [] → ⊥
  not_empty z zs e = cc

  not_less : (y z : X) (ys zs : List X) → Rising (y ∷ ys) → filter (ties lt z) (y ∷ ys) ≡ filter (ties lt z) (z ∷ zs) → lt z y ≡ false
  not_less y z ys zs h e = by (lt z y) refl
    where
      by : (b : Bool) → lt z y ≡ b → lt z y ≡ false
      by true k = absurd (not_empty z (filter (ties lt z) zs) (sym (first_stays z zs) ∙ (sym e ∙ none_ties z y (y ∷ ys) k (itself y, above y ys h))))
      by false k = k

  abbrev head_or : X → List X → X
  head_or d [] = d
  head_or d (x ∷ xs) = x

  abbrev rest_of : List X → List X
  rest_of [] = []
  rest_of (x ∷ xs) = xs

  same_first : (y z : X) (ys zs : List X) → Rising (y ∷ ys) → Rising (z ∷ zs) → ((x : X) → filter (ties lt x) (y ∷ ys) ≡ filter (ties lt x) (z ∷ zs)) → y ≡ z
  same_first y z ys zs h k e = ap (head_or y) (sym kept ∙ (e z ∙ first_stays z zs))
    where
      tied : ties lt z y ≡ true
      tied = (λ i. not (not_less y z ys zs h (e z) i) && not (not_less z y zs ys k (sym (e y)) i))

      kept : filter (ties lt z) (y ∷ ys) ≡ y ∷ filter (ties lt z) ys
      kept = ap (λ b. cond b (y ∷ filter (ties lt z) ys) (filter (ties lt z) ys)) tied

  without_first : (x y : X) (ys zs : List X) → filter (ties lt x) (y ∷ ys) ≡ filter (ties lt x) (y ∷ zs) → filter (ties lt x) ys ≡ filter (ties lt x) zs
  without_first x y ys zs e = by (ties lt x y) e
    where
      by : (b : Bool) → cond b (y ∷ filter (ties lt x) ys) (filter (ties lt x) ys) ≡ cond b (y ∷ filter (ties lt x) zs) (filter (ties lt x) zs) → filter (ties lt x) ys ≡ filter (ties lt x) zs
      by true h = ap rest_of h
      by false h = h

  rising_rest : (y : X) (ys : List X) → Rising (y ∷ ys) → Rising ys
  rising_rest y [] h = tt
  rising_rest y (z ∷ zs) h = h.1

  one_list : (ys zs : List X) → Rising ys → Rising zs → ((x : X) → filter (ties lt x) ys ≡ filter (ties lt x) zs) → ys ≡ zs
  one_list [] [] h k e = refl
  one_list [] (z ∷ zs) h k e = absurd (not_empty z (filter (ties lt z) zs) (sym (first_stays z zs) ∙ sym (e z)))
  one_list (y ∷ ys) [] h k e = absurd (not_empty y (filter (ties lt y) ys) (sym (first_stays y ys) ∙ e y))
  one_list (y ∷ ys) (z ∷ zs) h k e =
      let same : y ≡ z = same_first y z ys zs h k e in
      (λ i. same i ∷ one_list ys zs (rising_rest y ys h) (rising_rest z zs k) (λ x. without_first x z ys zs (subst (λ w. filter (ties lt x) (w ∷ ys) ≡ filter (ties lt x) (z ∷ zs)) same (e x))) i)

  rising_from : (xs : List X) → IsSortedBy lt xs → Rising xs
  rising_from [] h = tt
  rising_from (x ∷ []) h = tt
  rising_from (x ∷ y ∷ ys) h = (h 0 x (omega arith) (omega arith), rising_from (y ∷ ys) (λ k d low high. next k d (h (suc k) d (omega arith) (omega (arith, high)))))
    where
      next : (k : ℕ) (d : X) → lt (slice_index_or (x ∷ y ∷ ys) (suc k + 1) d) (slice_index_or (y ∷ ys) k d) ≡ false → lt (slice_index_or (y ∷ ys) (k + 1) d) (slice_index_or (y ∷ ys) k d) ≡ false
      next k d e = let s : suc k + 1 ≡ suc (k + 1) = omega arith in subst (λ m. lt (slice_index_or (x ∷ y ∷ ys) m d) (slice_index_or (y ∷ ys) k d) ≡ false) s e

  -- ---- the definition's sort

  module _ (cmp : X → X → Ordering) (greater : (x y : X) → is_gt (cmp x y) ≡ lt y x) where
    rising_on : (y x : X) (ys : List X) → Rising (y ∷ ys) → lt x y ≡ false → Rising (y ∷ placed cmp x ys)
    rising_on y x [] h e = (e, tt)
    rising_on y x (w ∷ ws) h e = by (λ k. rising_on w x ws h.1 k) (is_gt (cmp x w)) refl
      where
        by : (lt x w ≡ false → Rising (w ∷ placed cmp x ws)) → (b : Bool) → is_gt (cmp x w) ≡ b → Rising (y ∷ cond b (w ∷ placed cmp x ws) (x ∷ w ∷ ws))
        by rest true k = (h.0, rest (o.one_way w x (sym (greater x w) ∙ k)))
        by rest false k = (e, (sym (greater x w) ∙ k, h.1))

    rising_placed : (x : X) (ys : List X) → Rising ys → Rising (placed cmp x ys)
    rising_placed x [] h = tt
    rising_placed x (w ∷ ws) h = by (is_gt (cmp x w)) refl
      where
        by : (b : Bool) → is_gt (cmp x w) ≡ b → Rising (cond b (w ∷ placed cmp x ws) (x ∷ w ∷ ws))
        by true k = rising_on w x ws h (o.one_way w x (sym (greater x w) ∙ k))
        by false k = (sym (greater x w) ∙ k, h)

    sorted_rises : (xs : List X) → Rising (sorted cmp xs)
    sorted_rises [] = tt
    sorted_rises (x ∷ xs) = rising_placed x (sorted cmp xs) (sorted_rises xs)

    -- two that don't tie may change places
    swapped : (x y z : X) (zs : List X) → lt z y ≡ true → filter (ties lt x) (z ∷ y ∷ zs) ≡ filter (ties lt x) (y ∷ z ∷ zs)
    swapped x y z zs h = by (lt x y) refl (lt z x) refl
      where
        by : (b : Bool) → lt x y ≡ b → (c : Bool) → lt z x ≡ c → filter (ties lt x) (z ∷ y ∷ zs) ≡ filter (ties lt x) (y ∷ z ∷ zs)
        by true e c f = ap (λ d. cond (ties lt x z) (z ∷ cond (not d && not (lt y x)) (y ∷ filter (ties lt x) zs) (filter (ties lt x) zs)) (cond (not d && not (lt y x)) (y ∷ filter (ties lt x) zs) (filter (ties lt x) zs))) e
            ∙ sym (ap (λ d. cond (not d && not (lt y x)) (y ∷ filter (ties lt x) (z ∷ zs)) (filter (ties lt x) (z ∷ zs))) e)
        by false e true f = untied (ties lt x z) (without (not (lt x z)) (lt z x) f)
          where
            without : (a d : Bool) → d ≡ true → (a && not d) ≡ false
            without true d k = ap not k
            without false d k = refl

            untied : (b : Bool) → b ≡ false → cond b (z ∷ filter (ties lt x) (y ∷ zs)) (filter (ties lt x) (y ∷ zs)) ≡ cond (ties lt x y) (y ∷ cond b (z ∷ filter (ties lt x) zs) (filter (ties lt x) zs)) (cond b (z ∷ filter (ties lt x) zs) (filter (ties lt x) zs))
            untied true k = absurd (true≢false k)
            untied false k = refl
        by false e false f = absurd (true≢false (sym h ∙ o.chain z x y f e))

    placed_is_stable : (x y : X) (zs : List X) → filter (ties lt x) (placed cmp y zs) ≡ filter (ties lt x) (y ∷ zs)
    placed_is_stable x y [] = refl
    placed_is_stable x y (z ∷ zs) = by (placed_is_stable x y zs) (is_gt (cmp y z)) refl
      where
        by : filter (ties lt x) (placed cmp y zs) ≡ filter (ties lt x) (y ∷ zs) → (b : Bool) → is_gt (cmp y z) ≡ b → filter (ties lt x) (cond b (z ∷ placed cmp y zs) (y ∷ z ∷ zs)) ≡ filter (ties lt x) (y ∷ z ∷ zs)
        by rest true k = ap (λ ws. cond (ties lt x z) (z ∷ ws) ws) rest ∙ swapped x y z zs (sym (greater y z) ∙ k)
        by rest false k = refl

    sorted_is_stable : (x : X) (xs : List X) → filter (ties lt x) (sorted cmp xs) ≡ filter (ties lt x) xs
    sorted_is_stable x [] = refl
    sorted_is_stable x (y ∷ ys) = placed_is_stable x y (sorted cmp ys) ∙ ap (λ ws. cond (ties lt x y) (y ∷ ws) ws) (sorted_is_stable x ys)

    pub sort_is : (xs ys : List X) → IsSortedBy lt ys → IsStableBy lt xs ys → ys ≡ sorted cmp xs
    sort_is xs ys h k = one_list ys (sorted cmp xs) (rising_from ys h) (sorted_rises xs) (λ x. k x ∙ sym (sorted_is_stable x xs))

-- under a total order
pub sort_is_one : {X : Type 0} (cmp : X → X → Ordering) (xs ys : List X) → IsTotalOrder cmp → IsSorted cmp ys → IsStable cmp xs ys → ys ≡ sorted cmp xs
sort_is_one {X} cmp xs ys o h k = sort_is (λ x y. is_lt (cmp x y)) (ranks_by o (λ x. x)) cmp (λ x y. turned (cmp x y) (cmp y x) (o.antisymm x y)) xs ys h k
  where
    turned : (r s : Ordering) → r ≡ ordering_reverse s → is_gt r ≡ is_lt s
    turned r Less e = ap is_gt e
    turned r Equal e = ap is_gt e
    turned r Greater e = ap is_gt e

-- what `sort_by` ensures, where each call of its closure compares by the order
pub sort_by_is : {F X : Type 0} {g : Mut F (Bor X × (Bor X × Unit {0})) Ordering} {f : F} (cmp : X → X → Ordering) (xs ys : List X) → IsTotalOrder cmp → IsSortedByClosure g f ys → IsStableByClosure g f xs ys
    → ((a : Bor X × (Bor X × Unit {0})) (r : Ordering) (f' : F) → Called g f a r f' → (r ≡ cmp a.0.now a.1.0.now) × (f' ≡ f)) → ys ≡ sorted cmp xs
sort_by_is {F} {X} {g} {f} cmp xs ys o h k answers =
    let weak = ranks_by o (λ (x : X). x) in
    let compares : ComparesAs g (λ x y. is_lt (cmp x y)) f = always_returns_same g (λ a r. is_lt r ≡ is_lt (cmp a.0.now a.1.0.now)) f (λ a r f' q. (ap is_lt (answers a r f' q).0, (answers a r f' q).1)) in
    sort_is_one cmp xs ys o (h (λ x y. is_lt (cmp x y)) weak compares) (k (λ x y. is_lt (cmp x y)) weak compares)
