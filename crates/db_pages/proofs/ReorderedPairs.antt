-- What goes over to lists of the same items in another order: what holds of items at one place, and how often numbers stand.
use Rattle.std.proofs.Common.{◌≡◌, ◌∙◌, ◌+◌, refl, sym, ap, subst, ℕ, List, [], ◌∷◌, ◌++◌, flat_map, arith}
use Rattle.pages.proofs.Moving.{occurs_append}
use Rattle.pages.specs.Counting.{occurs}
use Rattle.tree_page.specs.Cells.{Pairwise}
use Rattle.db_pages.specs.Reordering.{AreReordered}
use Rattle.db_pages.proofs.Reordering.{reordered_is}

-- ---- lists of one length

-- where the first list has an item, the second has one
pub pairs_out : {A B : Type 0} (P : A → B → Type 0) (c d : List A) (x : A) (ys : List B) → Pairwise P (c ++ x ∷ d) ys
    → (e : List B) × (y : B) × (f : List B) × (ys ≡ e ++ y ∷ f) × P x y × Pairwise P (c ++ d) (e ++ f)
pairs_out P [] d x [] each = absurd each
pairs_out P [] d x (y ∷ ys) each = ([], y, ys, refl, each.0, each.1)
pairs_out P (u ∷ c) d x [] each = absurd each
pairs_out P (u ∷ c) d x (y ∷ ys) each =
    let out = pairs_out P c d x ys each.1 in
    (y ∷ out.0, out.1, out.2, ap (λ ls. y ∷ ls) out.3, out.4, (each.0, out.5))

-- and with one item more there, the second has one more
pub pairs_in : {A B : Type 0} (P : A → B → Type 0) (c d : List A) (x : A) (y : B) (ys : List B) → P x y → Pairwise P (c ++ d) ys
    → (e : List B) × (f : List B) × (ys ≡ e ++ f) × Pairwise P (c ++ x ∷ d) (e ++ y ∷ f)
pairs_in P [] d x y ys is each = ([], ys, refl, (is, each))
pairs_in P (u ∷ c) d x y [] is each = absurd each
pairs_in P (u ∷ c) d x y (v ∷ ys) is each =
    let more = pairs_in P c d x y ys is each.1 in
    (v ∷ more.0, more.1, ap (λ ls. v ∷ ls) more.2, (each.0, more.3))

-- the second list may be put in the order of the first
pub reordered_pairs : {A B : Type 0} (P : A → B → Type 0) (xs : List A) (ys : List B) (us : List A) → Pairwise P xs ys → AreReordered xs us
    → (vs : List B) × Pairwise P us vs × AreReordered ys vs
reordered_pairs {A} {B} P [] [] us each h = ([], subst (λ (ls : List A). Pairwise P ls []) (sym h) tt, refl)
reordered_pairs P [] (y ∷ ys) us each h = absurd each
reordered_pairs P (x ∷ xs) [] us each h = absurd each
reordered_pairs {A} {B} P (x ∷ xs) (y ∷ ys) us each (c, d, is, rest) =
    let others = reordered_pairs P xs ys (c ++ d) each.1 rest in
    let more = pairs_in P c d x y others.0 each.0 others.1 in (
      more.0 ++ y ∷ more.1,
      subst (λ (ls : List A). Pairwise P ls (more.0 ++ y ∷ more.1)) (sym is) more.3,
      (more.0, more.1, refl, reordered_is ys others.0 (more.0 ++ more.1) more.2 others.2),
    )

-- what holds at each place holds of the lists put one after another
pub pairs_both : {A B : Type 0} (P : A → B → Type 0) (xs us : List A) (ys vs : List B) → Pairwise P xs ys → Pairwise P us vs → Pairwise P (xs ++ us) (ys ++ vs)
pairs_both P [] us [] vs each more = more
pairs_both P [] us (y ∷ ys) vs each more = absurd each
pairs_both P (x ∷ xs) us [] vs each more = absurd each
pairs_both P (x ∷ xs) us (y ∷ ys) vs each more = (each.0, pairs_both P xs us ys vs each.1 more)

-- the other way about
pub pairs_turned : {A B : Type 0} (P : A → B → Type 0) (xs : List A) (ys : List B) → Pairwise P xs ys → Pairwise (λ y x. P x y) ys xs
pairs_turned P [] [] each = tt
pairs_turned P [] (y ∷ ys) each = absurd each
pairs_turned P (x ∷ xs) [] each = absurd each
pairs_turned P (x ∷ xs) (y ∷ ys) each = (each.0, pairs_turned P xs ys each.1)

-- ---- counting

flat_out : {A : Type 0} (n : ℕ) (f : A → List ℕ) (c d : List A) (x : A) → occurs n (flat_map f (c ++ x ∷ d)) ≡ occurs n (f x) + occurs n (flat_map f (c ++ d))
flat_out n f [] d x = occurs_append n (f x) (flat_map f d)
flat_out n f (u ∷ c) d x =
    let first = occurs_append n (f u) (flat_map f (c ++ x ∷ d)) in
    let then_x = flat_out n f c d x in
    let other = occurs_append n (f u) (flat_map f (c ++ d)) in
    omega (arith, first, then_x, other)

-- a number stands as often in the parts of the items
pub reordered_count : {A : Type 0} (n : ℕ) (f : A → List ℕ) (xs ys : List A) → AreReordered xs ys → occurs n (flat_map f xs) ≡ occurs n (flat_map f ys)
reordered_count n f [] ys h = ap (λ ls. occurs n (flat_map f ls)) (sym h)
reordered_count n f (x ∷ xs) ys (c, d, is, rest) =
    let front = occurs_append n (f x) (flat_map f xs) in
    let others = reordered_count n f xs (c ++ d) rest in
    let there = flat_out n f c d x in
    front ∙ ap (λ k. occurs n (f x) + k) others ∙ sym there ∙ ap (λ ls. occurs n (flat_map f ls)) (sym is)
