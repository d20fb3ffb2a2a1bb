-- One more row comes to its group.
use Rattle.std.proofs.Common.{◌≡◌, refl, sym, ap, ◌∙◌, Bool, true, false, true≢false, cond, List, [], ◌∷◌, ◌++◌}
use Rattle.std.specs.Cmp.{IsTotalOrder}
use Rattle.std.specs.List.{AllByRecursion}
use Rattle.std.specs.Ordering.{is_eq, is_gt, match_ordering, ordering_reverse}
use Rattle.std.specs.declared.cmp.Ordering.{Ordering}
use Rattle.std.specs.declared.cmp.Ordering.TheVariants.{Less, Equal, Greater}
use Rattle.sqlval.specs.Lists.{groups, onto_group, placed, sorted}
use Rattle.query_groups.specs.Keeping.{AllSome, put_last}

module _ {X : Type 0} where
  -- at the front of its group
  abbrev put_first : (X → X → Ordering) → X → List (List X) → List (List X)
  put_first cmp x [] = (x ∷ []) ∷ []
  put_first cmp x ([] ∷ gs) = [] ∷ put_first cmp x gs
  put_first cmp x ((y ∷ ys) ∷ gs) = match_ordering (cmp x y) ((x ∷ []) ∷ (y ∷ ys) ∷ gs) ((x ∷ y ∷ ys) ∷ gs) ((y ∷ ys) ∷ put_first cmp x gs)

  -- the first group has an item
  abbrev FirstSome : List (List X) → Type 0
  FirstSome [] = Unit {0}
  FirstSome ([] ∷ gs) = ⊥
  FirstSome ((y ∷ ys) ∷ gs) = Unit {0}

  first_some : (gs : List (List X)) → AllSome gs → FirstSome gs
  first_some [] h = tt
  first_some ([] ∷ gs) h = h
  first_some ((y ∷ ys) ∷ gs) h = tt

  abbrev alike : (X → X → Ordering) → X → X → Bool
  alike cmp x y = is_eq (cmp x y)

  onto_some : (same : X → X → Bool) (x : X) (gs : List (List X)) → AllSome gs → AllSome (onto_group same x gs)
  onto_some same x [] h = tt
  onto_some same x ([] ∷ gs) h = absurd h
  onto_some same x ((y ∷ ys) ∷ gs) h = by (same x y)
    where
      by : (b : Bool) → AllSome (cond b ((x ∷ y ∷ ys) ∷ gs) ((x ∷ []) ∷ (y ∷ ys) ∷ gs))
      by true = h
      by false = h

  pub groups_some : (same : X → X → Bool) (xs : List X) → AllSome (groups same xs)
  groups_some same [] = tt
  groups_some same (x ∷ xs) = onto_some same x (groups same xs) (groups_some same xs)

  -- the first group begins with the item that is put onto it
  onto_begins : (same : X → X → Bool) (y : X) (gs : List (List X)) → (r : List X) × (rest : List (List X)) × (onto_group same y gs ≡ (y ∷ r) ∷ rest)
  onto_begins same y [] = ([], [], refl)
  onto_begins same y ([] ∷ gs) = ([], gs, refl)
  onto_begins same y ((z ∷ zs) ∷ gs) = by (same y z)
    where
      by : (b : Bool) → (r : List X) × (rest : List (List X)) × (cond b ((y ∷ z ∷ zs) ∷ gs) ((y ∷ []) ∷ (z ∷ zs) ∷ gs) ≡ (y ∷ r) ∷ rest)
      by true = (z ∷ zs, gs, refl)
      by false = ([], (z ∷ zs) ∷ gs, refl)

module _ {X : Type 0} (cmp : X → X → Ordering) (o : IsTotalOrder cmp) where
  turned : (x y : X) (r : Ordering) → cmp x y ≡ r → cmp y x ≡ ordering_reverse r
  turned x y r e = o.antisymm y x ∙ ap ordering_reverse e

  -- to the right of it two that are alike stand alike
  alike_right : (x y z : X) → cmp y z ≡ Equal → cmp x y ≡ cmp x z
  alike_right x y z e = o.antisymm x y ∙ (ap ordering_reverse (o.congr y z x e) ∙ sym (o.antisymm x z))

  last_so : (x y : X) (ys : List X) (gs : List (List X)) (r : Ordering) → cmp x y ≡ r → put_last cmp x ((y ∷ ys) ∷ gs) ≡ match_ordering r ((x ∷ []) ∷ (y ∷ ys) ∷ gs) (((y ∷ ys) ++ x ∷ []) ∷ gs) ((y ∷ ys) ∷ put_last cmp x gs)
  last_so x y ys gs r e = ap (λ q. match_ordering q ((x ∷ []) ∷ (y ∷ ys) ∷ gs) (((y ∷ ys) ++ x ∷ []) ∷ gs) ((y ∷ ys) ∷ put_last cmp x gs)) e

  first_so : (x y : X) (ys : List X) (gs : List (List X)) (r : Ordering) → cmp x y ≡ r → put_first cmp x ((y ∷ ys) ∷ gs) ≡ match_ordering r ((x ∷ []) ∷ (y ∷ ys) ∷ gs) ((x ∷ y ∷ ys) ∷ gs) ((y ∷ ys) ∷ put_first cmp x gs)
  first_so x y ys gs r e = ap (λ q. match_ordering q ((x ∷ []) ∷ (y ∷ ys) ∷ gs) ((x ∷ y ∷ ys) ∷ gs) ((y ∷ ys) ∷ put_first cmp x gs)) e

  onto_so : (x y : X) (ys : List X) (gs : List (List X)) (r : Ordering) → cmp x y ≡ r → onto_group (alike cmp) x ((y ∷ ys) ∷ gs) ≡ cond (is_eq r) ((x ∷ y ∷ ys) ∷ gs) ((x ∷ []) ∷ (y ∷ ys) ∷ gs)
  onto_so x y ys gs r e = ap (λ q. cond (is_eq q) ((x ∷ y ∷ ys) ∷ gs) ((x ∷ []) ∷ (y ∷ ys) ∷ gs)) e

  -- ---- at the front of a group, and at its end

  -- two that each begin a group before all others
  both_begin : (b x : X) (gs : List (List X)) → put_first cmp b gs ≡ (b ∷ []) ∷ gs → put_last cmp x gs ≡ (x ∷ []) ∷ gs → put_first cmp b ((x ∷ []) ∷ gs) ≡ put_last cmp x ((b ∷ []) ∷ gs)
  both_begin b x gs h k = by (cmp b x) refl
    where
      by : (r : Ordering) → cmp b x ≡ r → put_first cmp b ((x ∷ []) ∷ gs) ≡ put_last cmp x ((b ∷ []) ∷ gs)
      by Less e = first_so b x [] gs Less e ∙ (ap (λ (ls : List (List X)). (b ∷ []) ∷ ls) (sym k) ∙ sym (last_so x b [] gs Greater (turned b x Less e)))
      by Equal e = first_so b x [] gs Equal e ∙ sym (last_so x b [] gs Equal (turned b x Equal e))
      by Greater e = first_so b x [] gs Greater e ∙ (ap (λ (ls : List (List X)). (x ∷ []) ∷ ls) h ∙ sym (last_so x b [] gs Less (turned b x Greater e)))

  changed : (b x : X) (gs : List (List X)) → put_first cmp b (put_last cmp x gs) ≡ put_last cmp x (put_first cmp b gs)
  changed b x [] = both_begin b x [] refl refl
  changed b x ([] ∷ gs) = ap (λ (ls : List (List X)). [] ∷ ls) (changed b x gs)
  changed b x ((y ∷ ys) ∷ gs) = by (cmp x y) refl (cmp b y) refl (changed b x gs)
    where
      all : List (List X)
      all = (y ∷ ys) ∷ gs

      by : (p : Ordering) → cmp x y ≡ p → (q : Ordering) → cmp b y ≡ q → put_first cmp b (put_last cmp x gs) ≡ put_last cmp x (put_first cmp b gs) → put_first cmp b (put_last cmp x ((y ∷ ys) ∷ gs)) ≡ put_last cmp x (put_first cmp b ((y ∷ ys) ∷ gs))
      by Less e Less f rest =
          ap (put_first cmp b) (last_so x y ys gs Less e)
          ∙ (both_begin b x ((y ∷ ys) ∷ gs) (first_so b y ys gs Less f) (last_so x y ys gs Less e) ∙ sym (ap (put_last cmp x) (first_so b y ys gs Less f)))
      by Less e Equal f rest =
          ap (put_first cmp b) (last_so x y ys gs Less e)
          ∙ (first_so b x [] ((y ∷ ys) ∷ gs) Greater (o.congr b y x f ∙ turned x y Less e)
          ∙ (ap (λ (ls : List (List X)). (x ∷ []) ∷ ls) (first_so b y ys gs Equal f)
          ∙ (sym (last_so x b (y ∷ ys) gs Less (alike_right x b y f ∙ e)) ∙ sym (ap (put_last cmp x) (first_so b y ys gs Equal f)))))
      by Less e Greater f rest =
          ap (put_first cmp b) (last_so x y ys gs Less e)
          ∙ (first_so b x [] ((y ∷ ys) ∷ gs) Greater (turned x b Less (o.trans x y b e (turned b y Greater f)))
          ∙ (ap (λ (ls : List (List X)). (x ∷ []) ∷ ls) (first_so b y ys gs Greater f)
          ∙ (sym (last_so x y ys (put_first cmp b gs) Less e) ∙ sym (ap (put_last cmp x) (first_so b y ys gs Greater f)))))
      by Equal e Less f rest =
          ap (put_first cmp b) (last_so x y ys gs Equal e)
          ∙ (first_so b y (ys ++ x ∷ []) gs Less f
          ∙ (ap (λ (ls : List (List X)). (b ∷ []) ∷ ls) (sym (last_so x y ys gs Equal e))
          ∙ (sym (last_so x b [] ((y ∷ ys) ∷ gs) Greater (o.congr x y b e ∙ turned b y Less f)) ∙ sym (ap (put_last cmp x) (first_so b y ys gs Less f)))))
      by Equal e Equal f rest =
          ap (put_first cmp b) (last_so x y ys gs Equal e)
          ∙ (first_so b y (ys ++ x ∷ []) gs Equal f
          ∙ (sym (last_so x b (y ∷ ys) gs Equal (alike_right x b y f ∙ e)) ∙ sym (ap (put_last cmp x) (first_so b y ys gs Equal f))))
      by Equal e Greater f rest =
          ap (put_first cmp b) (last_so x y ys gs Equal e)
          ∙ (first_so b y (ys ++ x ∷ []) gs Greater f
          ∙ (sym (last_so x y ys (put_first cmp b gs) Equal e) ∙ sym (ap (put_last cmp x) (first_so b y ys gs Greater f))))
      by Greater e Less f rest =
          ap (put_first cmp b) (last_so x y ys gs Greater e)
          ∙ (first_so b y ys (put_last cmp x gs) Less f
          ∙ (ap (λ (ls : List (List X)). (b ∷ []) ∷ ls) (sym (last_so x y ys gs Greater e))
          ∙ (sym (last_so x b [] ((y ∷ ys) ∷ gs) Greater (turned b x Less (o.trans b y x f (turned x y Greater e)))) ∙ sym (ap (put_last cmp x) (first_so b y ys gs Less f)))))
      by Greater e Equal f rest =
          ap (put_first cmp b) (last_so x y ys gs Greater e)
          ∙ (first_so b y ys (put_last cmp x gs) Equal f
          ∙ (sym (last_so x b (y ∷ ys) gs Greater (alike_right x b y f ∙ e)) ∙ sym (ap (put_last cmp x) (first_so b y ys gs Equal f))))
      by Greater e Greater f rest =
          ap (put_first cmp b) (last_so x y ys gs Greater e)
          ∙ (first_so b y ys (put_last cmp x gs) Greater f
          ∙ (ap (λ (ls : List (List X)). (y ∷ ys) ∷ ls) rest
          ∙ (sym (last_so x y ys (put_first cmp b gs) Greater e) ∙ sym (ap (put_last cmp x) (first_so b y ys gs Greater f)))))

  -- ---- a sort puts each at the front of its group

  past : (b y : X) (gs : List (List X)) → FirstSome gs → cmp b y ≡ Greater → onto_group (alike cmp) y (put_first cmp b gs) ≡ put_first cmp b (onto_group (alike cmp) y gs)
  past b y [] h e = onto_so y b [] [] Less (turned b y Greater e) ∙ sym (first_so b y [] [] Greater e)
  past b y ([] ∷ gs) h e = absurd h
  past b y ((z ∷ zs) ∷ gs) h e = by (cmp y z) refl
    where
      apart : (p : Ordering) → cmp y z ≡ p → is_eq p ≡ false → onto_group (alike cmp) y (put_first cmp b ((z ∷ zs) ∷ gs)) ≡ put_first cmp b (onto_group (alike cmp) y ((z ∷ zs) ∷ gs))
      apart p f none = at (cmp b z) refl
        where
          alone : onto_group (alike cmp) y ((z ∷ zs) ∷ gs) ≡ (y ∷ []) ∷ (z ∷ zs) ∷ gs
          alone = ap (λ t. cond t ((y ∷ z ∷ zs) ∷ gs) ((y ∷ []) ∷ (z ∷ zs) ∷ gs)) (ap is_eq f ∙ none)

          below : put_first cmp b (onto_group (alike cmp) y ((z ∷ zs) ∷ gs)) ≡ (y ∷ []) ∷ put_first cmp b ((z ∷ zs) ∷ gs)
          below = ap (put_first cmp b) alone ∙ first_so b y [] ((z ∷ zs) ∷ gs) Greater e

          at : (q : Ordering) → cmp b z ≡ q → onto_group (alike cmp) y (put_first cmp b ((z ∷ zs) ∷ gs)) ≡ put_first cmp b (onto_group (alike cmp) y ((z ∷ zs) ∷ gs))
          at Less k =
              ap (onto_group (alike cmp) y) (first_so b z zs gs Less k)
              ∙ (onto_so y b [] ((z ∷ zs) ∷ gs) Less (turned b y Greater e)
              ∙ (ap (λ (ls : List (List X)). (y ∷ []) ∷ ls) (sym (first_so b z zs gs Less k)) ∙ sym below))
          at Equal k =
              ap (onto_group (alike cmp) y) (first_so b z zs gs Equal k)
              ∙ (onto_so y b (z ∷ zs) gs Less (turned b y Greater e)
              ∙ (ap (λ (ls : List (List X)). (y ∷ []) ∷ ls) (sym (first_so b z zs gs Equal k)) ∙ sym below))
          at Greater k =
              ap (onto_group (alike cmp) y) (first_so b z zs gs Greater k)
              ∙ (ap (λ t. cond t ((y ∷ z ∷ zs) ∷ put_first cmp b gs) ((y ∷ []) ∷ (z ∷ zs) ∷ put_first cmp b gs)) (ap is_eq f ∙ none)
              ∙ (ap (λ (ls : List (List X)). (y ∷ []) ∷ ls) (sym (first_so b z zs gs Greater k)) ∙ sym below))

      by : (p : Ordering) → cmp y z ≡ p → onto_group (alike cmp) y (put_first cmp b ((z ∷ zs) ∷ gs)) ≡ put_first cmp b (onto_group (alike cmp) y ((z ∷ zs) ∷ gs))
      by Less f = apart Less f refl
      by Equal f =
          ap (onto_group (alike cmp) y) (first_so b z zs gs Greater (sym (alike_right b y z f) ∙ e))
          ∙ (onto_so y z zs (put_first cmp b gs) Equal f
          ∙ (sym (first_so b y (z ∷ zs) gs Greater e) ∙ sym (ap (put_first cmp b) (onto_so y z zs gs Equal f))))
      by Greater f = apart Greater f refl

  -- onto a group that begins with what it is not above
  before_all : (b y : X) (ys : List X) (gs : List (List X)) (r : Ordering) → cmp b y ≡ r → is_gt r ≡ false → onto_group (alike cmp) b ((y ∷ ys) ∷ gs) ≡ put_first cmp b ((y ∷ ys) ∷ gs)
  before_all b y ys gs Less e h = onto_so b y ys gs Less e ∙ sym (first_so b y ys gs Less e)
  before_all b y ys gs Equal e h = onto_so b y ys gs Equal e ∙ sym (first_so b y ys gs Equal e)
  before_all b y ys gs Greater e h = absurd (true≢false h)

  placed_is : (b : X) (zs : List X) → groups (alike cmp) (placed cmp b zs) ≡ put_first cmp b (groups (alike cmp) zs)
  placed_is b [] = refl
  placed_is b (y ∷ ys) = by (cmp b y) refl (placed_is b ys)
    where
      stays : (r : Ordering) → cmp b y ≡ r → is_gt r ≡ false → groups (alike cmp) (placed cmp b (y ∷ ys)) ≡ put_first cmp b (groups (alike cmp) (y ∷ ys))
      stays r e none =
          ap (λ t. groups (alike cmp) (cond t (y ∷ placed cmp b ys) (b ∷ y ∷ ys))) (ap is_gt e ∙ none)
          ∙ (let begun = onto_begins (alike cmp) y (groups (alike cmp) ys) in
          ap (onto_group (alike cmp) b) begun.2 ∙ (before_all b y begun.0 begun.1 r e none ∙ sym (ap (put_first cmp b) begun.2)))

      by : (r : Ordering) → cmp b y ≡ r → groups (alike cmp) (placed cmp b ys) ≡ put_first cmp b (groups (alike cmp) ys) → groups (alike cmp) (placed cmp b (y ∷ ys)) ≡ put_first cmp b (groups (alike cmp) (y ∷ ys))
      by Less e rest = stays Less e refl
      by Equal e rest = stays Equal e refl
      by Greater e rest =
          ap (λ t. groups (alike cmp) (cond t (y ∷ placed cmp b ys) (b ∷ y ∷ ys))) (ap is_gt e)
          ∙ (ap (onto_group (alike cmp) y) rest ∙ past b y (groups (alike cmp) ys) (first_some (groups (alike cmp) ys) (groups_some (alike cmp) ys)) e)

  -- the groups of what is sorted, with one more
  pub put_is : (before : List X) (x : X) → groups (alike cmp) (sorted cmp (before ++ x ∷ [])) ≡ put_last cmp x (groups (alike cmp) (sorted cmp before))
  put_is [] x = refl
  put_is (b ∷ bs) x =
      placed_is b (sorted cmp (bs ++ x ∷ []))
      ∙ (ap (put_first cmp b) (put_is bs x)
      ∙ (changed b x (groups (alike cmp) (sorted cmp bs)) ∙ ap (put_last cmp x) (sym (placed_is b (sorted cmp bs)))))

-- ---- what is so of all of them

module _ {X : Type 0} (P : X → Type 0) where
  placed_all : (cmp : X → X → Ordering) (x : X) (ys : List X) → P x → AllByRecursion P ys → AllByRecursion P (placed cmp x ys)
  placed_all cmp x [] p h = (p, tt)
  placed_all cmp x (y ∷ ys) p h = by (is_gt (cmp x y)) (placed_all cmp x ys p h.1)
    where
      by : (b : Bool) → AllByRecursion P (placed cmp x ys) → AllByRecursion P (cond b (y ∷ placed cmp x ys) (x ∷ y ∷ ys))
      by true k = (h.0, k)
      by false k = (p, h)

  sorted_all : (cmp : X → X → Ordering) (xs : List X) → AllByRecursion P xs → AllByRecursion P (sorted cmp xs)
  sorted_all cmp [] h = tt
  sorted_all cmp (x ∷ xs) h = placed_all cmp x (sorted cmp xs) h.0 (sorted_all cmp xs h.1)

  onto_all : (same : X → X → Bool) (x : X) (gs : List (List X)) → P x → AllByRecursion (AllByRecursion P) gs → AllByRecursion (AllByRecursion P) (onto_group same x gs)
  onto_all same x [] p h = ((p, tt), tt)
  onto_all same x ([] ∷ gs) p h = ((p, tt), h.1)
  onto_all same x ((y ∷ ys) ∷ gs) p h = by (same x y)
    where
      by : (b : Bool) → AllByRecursion (AllByRecursion P) (cond b ((x ∷ y ∷ ys) ∷ gs) ((x ∷ []) ∷ (y ∷ ys) ∷ gs))
      by true = ((p, h.0), h.1)
      by false = ((p, tt), h)

  groups_all : (same : X → X → Bool) (xs : List X) → AllByRecursion P xs → AllByRecursion (AllByRecursion P) (groups same xs)
  groups_all same [] h = tt
  groups_all same (x ∷ xs) h = onto_all same x (groups same xs) h.0 (groups_all same xs h.1)

  -- what is so of each item is so of each item of each group
  pub all_grouped : (cmp : X → X → Ordering) (xs : List X) → AllByRecursion P xs → AllByRecursion (AllByRecursion P) (groups (alike cmp) (sorted cmp xs))
  all_grouped cmp xs h = groups_all (alike cmp) (sorted cmp xs) (sorted_all cmp xs h)

-- ---- two orders that agree on what is there

module _ {X : Type 0} (P : X → Type 0) (cmp other : X → X → Ordering) (agree : (x y : X) → P x → P y → cmp x y ≡ other x y) where
  placed_as : (x : X) (ys : List X) → P x → AllByRecursion P ys → placed cmp x ys ≡ placed other x ys
  placed_as x [] p h = refl
  placed_as x (y ∷ ys) p h =
      ap (λ (zs : List X). cond (is_gt (cmp x y)) (y ∷ zs) (x ∷ y ∷ ys)) (placed_as x ys p h.1)
      ∙ ap (λ t. cond (is_gt t) (y ∷ placed other x ys) (x ∷ y ∷ ys)) (agree x y p h.0)

  sorted_as : (xs : List X) → AllByRecursion P xs → sorted cmp xs ≡ sorted other xs
  sorted_as [] h = refl
  sorted_as (x ∷ xs) h = ap (placed cmp x) (sorted_as xs h.1) ∙ placed_as x (sorted other xs) h.0 (sorted_all P other xs h.1)

  onto_as : (x y : X) (ys : List X) (gs : List (List X)) → P x → P y → onto_group (alike cmp) x ((y ∷ ys) ∷ gs) ≡ onto_group (alike other) x ((y ∷ ys) ∷ gs)
  onto_as x y ys gs p q = ap (λ t. cond (is_eq t) ((x ∷ y ∷ ys) ∷ gs) ((x ∷ []) ∷ (y ∷ ys) ∷ gs)) (agree x y p q)

  groups_as : (xs : List X) → AllByRecursion P xs → groups (alike cmp) xs ≡ groups (alike other) xs
  groups_as [] h = refl
  groups_as (x ∷ []) h = refl
  groups_as (x ∷ y ∷ ys) h =
      ap (onto_group (alike cmp) x) (groups_as (y ∷ ys) h.1)
      ∙ (let begun = onto_begins (alike other) y (groups (alike other) ys) in
      ap (onto_group (alike cmp) x) begun.2 ∙ (onto_as x y begun.0 begun.1 h.0 h.1.0 ∙ sym (ap (onto_group (alike other) x) begun.2)))

  pub grouped_as : (xs : List X) → AllByRecursion P xs → groups (alike cmp) (sorted cmp xs) ≡ groups (alike other) (sorted other xs)
  grouped_as xs h = ap (groups (alike cmp)) (sorted_as xs h) ∙ groups_as (sorted other xs) (sorted_all P other xs h)

-- what is so of the first item of each group
abbrev pub AllHeads : {X : Type 0} → (X → Type 0) → List (List X) → Type 0
AllHeads P [] = Unit {0}
AllHeads P ([] ∷ gs) = AllHeads P gs
AllHeads P ((y ∷ ys) ∷ gs) = P y × AllHeads P gs

-- two orders that agree on an item and the first of each group put it in the same place
pub put_as : {X : Type 0} (P : X → Type 0) (cmp other : X → X → Ordering) (x : X) → ((y : X) → P y → cmp x y ≡ other x y) → (gs : List (List X)) → AllHeads P gs → put_last cmp x gs ≡ put_last other x gs
put_as P cmp other x agree [] h = refl
put_as {X} P cmp other x agree ([] ∷ gs) h = ap (λ (ls : List (List X)). [] ∷ ls) (put_as P cmp other x agree gs h)
put_as {X} P cmp other x agree ((y ∷ ys) ∷ gs) h =
    ap (λ o. match_ordering o ((x ∷ []) ∷ (y ∷ ys) ∷ gs) (((y ∷ ys) ++ x ∷ []) ∷ gs) ((y ∷ ys) ∷ put_last cmp x gs)) (agree y h.0)
    ∙ ap (λ (ls : List (List X)). match_ordering (other x y) ((x ∷ []) ∷ (y ∷ ys) ∷ gs) (((y ∷ ys) ++ x ∷ []) ∷ gs) ((y ∷ ys) ∷ ls)) (put_as P cmp other x agree gs h.1)
