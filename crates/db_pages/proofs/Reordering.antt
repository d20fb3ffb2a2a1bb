-- Lists of the same items in another order: the relation is an equivalence, and what is carried over by it.
use Rattle.std.proofs.Common.{◌≡◌, ◌∙◌, ◌⊎◌, inl, inr, refl, sym, ap, subst, Bool, true, false, not, ◌||◌, cond, List, [], ◌∷◌, ◌++◌, map, filter}
use Rattle.std.specs.List.{AllByRecursion, list_any}
use Rattle.std.proofs.lemmas.List.{append-nil, append_assoc}
use Rattle.db_pages.specs.Reordering.{AreReordered}

-- ---- one list cut in two ways

cut_front : {A : Type 0} (u v : A) (xs ys : List A) → u ∷ xs ≡ v ∷ ys → u ≡ v
cut_front u v xs ys h = cc

cut_rest : {A : Type 0} (u v : A) (xs ys : List A) → u ∷ xs ≡ v ∷ ys → xs ≡ ys
cut_rest u v xs ys h = cc

-- an item of two lists one after another is in the first or in the second
abbrev pub Cuts : {A : Type 0} → List A → List A → List A → A → List A → Type 0
Cuts {A} c d e y f = ((m : List A) × (c ≡ e ++ y ∷ m) × (f ≡ m ++ d)) ⊎ ((m : List A) × (e ≡ c ++ m) × (d ≡ m ++ y ∷ f))

pub cuts : {A : Type 0} (c d e : List A) (y : A) (f : List A) → c ++ d ≡ e ++ y ∷ f → Cuts c d e y f
cuts [] d e y f h = inr (e, refl, h)
cuts (u ∷ c) d [] y f h = inl (c, ap (λ v. v ∷ c) (cut_front u y (c ++ d) f h), sym (cut_rest u y (c ++ d) f h))
cuts {A} (u ∷ c) d (v ∷ e) y f h = more (cuts c d e y f (cut_rest u v (c ++ d) (e ++ y ∷ f) h))
  where
    same : u ≡ v
    same = cut_front u v (c ++ d) (e ++ y ∷ f) h

    more : Cuts c d e y f → Cuts (u ∷ c) d (v ∷ e) y f
    more (inl (m, first, second)) = inl (m, subst (λ w. u ∷ c ≡ w ∷ (e ++ y ∷ m)) same (ap (λ xs. u ∷ xs) first), second)
    more (inr (m, first, second)) = inr (m, subst (λ w. w ∷ e ≡ u ∷ (c ++ m)) same (ap (λ xs. u ∷ xs) first), second)

-- ---- the relation

pub reordered_is : {A : Type 0} (xs ys zs : List A) → ys ≡ zs → AreReordered xs ys → AreReordered xs zs
reordered_is xs ys zs e h = subst (AreReordered xs) e h

pub is_reordered : {A : Type 0} (xs ys zs : List A) → xs ≡ ys → AreReordered xs zs → AreReordered ys zs
is_reordered xs ys zs e h = subst (λ ls. AreReordered ls zs) e h

pub reordered_refl : {A : Type 0} (xs : List A) → AreReordered xs xs
reordered_refl [] = refl
reordered_refl (x ∷ xs) = ([], xs, refl, reordered_refl xs)

pub reordered_front : {A : Type 0} (x : A) (xs ys : List A) → AreReordered xs ys → AreReordered (x ∷ xs) (x ∷ ys)
reordered_front x xs ys h = ([], ys, refl, h)

-- with one item more on both sides, anywhere
pub reordered_between : {A : Type 0} (a b c d : List A) (x : A) → AreReordered (a ++ b) (c ++ d) → AreReordered (a ++ x ∷ b) (c ++ x ∷ d)
reordered_between [] b c d x h = (c, d, refl, h)
reordered_between {A} (y ∷ a) b c d x (e, f, is, rest) = by_cut (λ g h. reordered_between a b g h x) (cuts c d e y f is)
  where
    by_cut : ((g h : List A) → AreReordered (a ++ b) (g ++ h) → AreReordered (a ++ x ∷ b) (g ++ x ∷ h)) → Cuts c d e y f → AreReordered (y ∷ (a ++ x ∷ b)) (c ++ x ∷ d)
    by_cut between (inl (m, first, second)) = (
      e,
      m ++ x ∷ d,
      ap (λ ls. ls ++ x ∷ d) first ∙ append_assoc e (y ∷ m) (x ∷ d),
      reordered_is (a ++ x ∷ b) ((e ++ m) ++ x ∷ d) (e ++ (m ++ x ∷ d)) (append_assoc e m (x ∷ d))
          (between (e ++ m) d (reordered_is (a ++ b) (e ++ f) ((e ++ m) ++ d) (ap (λ ls. e ++ ls) second ∙ sym (append_assoc e m d)) rest)),
    )
    by_cut between (inr (m, first, second)) = (
      c ++ x ∷ m,
      f,
      ap (λ ls. c ++ x ∷ ls) second ∙ sym (append_assoc c (x ∷ m) (y ∷ f)),
      reordered_is (a ++ x ∷ b) (c ++ x ∷ (m ++ f)) ((c ++ x ∷ m) ++ f) (sym (append_assoc c (x ∷ m) f))
          (between c (m ++ f) (reordered_is (a ++ b) (e ++ f) (c ++ (m ++ f)) (ap (λ ls. ls ++ f) first ∙ append_assoc c m f) rest)),
    )

-- where an item stands in the other list
pub reordered_without : {A : Type 0} (a b : List A) (x : A) (ys : List A) → AreReordered (a ++ x ∷ b) ys
    → (c : List A) × (d : List A) × (ys ≡ c ++ x ∷ d) × AreReordered (a ++ b) (c ++ d)
reordered_without [] b x ys h = h
reordered_without {A} (y ∷ a) b x ys (e, f, is, rest) = by_place (reordered_without a b x (e ++ f) rest)
  where
    by_place : ((c : List A) × (d : List A) × (e ++ f ≡ c ++ x ∷ d) × AreReordered (a ++ b) (c ++ d))
        → (c : List A) × (d : List A) × (ys ≡ c ++ x ∷ d) × AreReordered (y ∷ (a ++ b)) (c ++ d)
    by_place (c, d, at, others) = by_cut (cuts e f c x d at)
      where
        by_cut : Cuts e f c x d → (c : List A) × (d : List A) × (ys ≡ c ++ x ∷ d) × AreReordered (y ∷ (a ++ b)) (c ++ d)
        by_cut (inl (m, first, second)) = (
          c,
          m ++ y ∷ f,
          is ∙ ap (λ ls. ls ++ y ∷ f) first ∙ append_assoc c (x ∷ m) (y ∷ f),
          (c ++ m, f, sym (append_assoc c m (y ∷ f)), reordered_is (a ++ b) (c ++ d) ((c ++ m) ++ f) (ap (λ ls. c ++ ls) second ∙ sym (append_assoc c m f)) others),
        )
        by_cut (inr (m, first, second)) = (
          e ++ y ∷ m,
          d,
          is ∙ ap (λ ls. e ++ y ∷ ls) second ∙ sym (append_assoc e (y ∷ m) (x ∷ d)),
          (e, m ++ d, append_assoc e (y ∷ m) d, reordered_is (a ++ b) (c ++ d) (e ++ (m ++ d)) (ap (λ ls. ls ++ d) first ∙ append_assoc e m d) others),
        )

pub reordered_sym : {A : Type 0} (xs ys : List A) → AreReordered xs ys → AreReordered ys xs
reordered_sym [] ys h = is_reordered [] ys [] (sym h) refl
reordered_sym (x ∷ xs) ys (c, d, is, rest) =
    is_reordered (c ++ x ∷ d) ys (x ∷ xs) (sym is) (reordered_between c d [] xs x (reordered_sym xs (c ++ d) rest))

pub reordered_trans : {A : Type 0} (xs ys zs : List A) → AreReordered xs ys → AreReordered ys zs → AreReordered xs zs
reordered_trans [] ys zs h k = is_reordered ys [] zs h k
reordered_trans (x ∷ xs) ys zs (c, d, is, rest) k =
    let there = reordered_without c d x zs (is_reordered ys (c ++ x ∷ d) zs is k) in
    (there.0, there.1, there.2, reordered_trans xs (c ++ d) (there.0 ++ there.1) rest there.3)

-- without an item that both have
pub reordered_cancel : {A : Type 0} (a b c d : List A) (x : A) → AreReordered (a ++ x ∷ b) (c ++ x ∷ d) → AreReordered (a ++ b) (c ++ d)
reordered_cancel {A} a b c d x h = by_place (reordered_without a b x (c ++ x ∷ d) h)
  where
    by_place : ((e : List A) × (f : List A) × (c ++ x ∷ d ≡ e ++ x ∷ f) × AreReordered (a ++ b) (e ++ f)) → AreReordered (a ++ b) (c ++ d)
    by_place (e, f, at, others) = reordered_trans (a ++ b) (e ++ f) (c ++ d) others (by_cut (cuts c (x ∷ d) e x f at))
      where
        by_cut : Cuts c (x ∷ d) e x f → AreReordered (e ++ f) (c ++ d)
        by_cut (inl (m, first, second)) =
            is_reordered ((e ++ m) ++ x ∷ d) (e ++ f) (c ++ d) (append_assoc e m (x ∷ d) ∙ ap (λ ls. e ++ ls) (sym second))
            (reordered_is ((e ++ m) ++ x ∷ d) (e ++ x ∷ (m ++ d)) (c ++ d) (sym (append_assoc e (x ∷ m) d) ∙ ap (λ ls. ls ++ d) (sym first))
            (reordered_between (e ++ m) d e (m ++ d) x (is_reordered (e ++ (m ++ d)) ((e ++ m) ++ d) (e ++ (m ++ d)) (sym (append_assoc e m d)) (reordered_refl (e ++ (m ++ d))))))
        by_cut (inr ([], first, second)) =
            is_reordered (c ++ d) (e ++ f) (c ++ d) (ap (λ ls. c ++ ls) (cut_rest x x d f second) ∙ ap (λ ls. ls ++ f) (sym (append-nil c) ∙ sym first)) (reordered_refl (c ++ d))
        by_cut (inr (u ∷ m, first, second)) =
            is_reordered (c ++ x ∷ (m ++ f)) (e ++ f) (c ++ d)
            (sym (append_assoc c (x ∷ m) f) ∙ ap (λ ls. ls ++ f) (ap (λ w. c ++ w ∷ m) (cut_front x u d (m ++ x ∷ f) second) ∙ sym first))
            (reordered_is (c ++ x ∷ (m ++ f)) ((c ++ m) ++ x ∷ f) (c ++ d) (append_assoc c m (x ∷ f) ∙ ap (λ ls. c ++ ls) (sym (cut_rest x u d (m ++ x ∷ f) second)))
            (reordered_between c (m ++ f) (c ++ m) f x (reordered_is (c ++ (m ++ f)) (c ++ (m ++ f)) ((c ++ m) ++ f) (sym (append_assoc c m f)) (reordered_refl (c ++ (m ++ f))))))

-- ---- lists one after another

pub reordered_both : {A : Type 0} (xs ys us vs : List A) → AreReordered xs ys → AreReordered us vs → AreReordered (xs ++ us) (ys ++ vs)
reordered_both [] ys us vs h k = reordered_is us vs (ys ++ vs) (ap (λ ls. ls ++ vs) (sym h)) k
reordered_both (x ∷ xs) ys us vs (c, d, is, rest) k = (
  c,
  d ++ vs,
  ap (λ ls. ls ++ vs) is ∙ append_assoc c (x ∷ d) vs,
  reordered_is (xs ++ us) ((c ++ d) ++ vs) (c ++ (d ++ vs)) (append_assoc c d vs) (reordered_both xs (c ++ d) us vs rest k),
)

pub reordered_swapped : {A : Type 0} (xs ys : List A) → AreReordered (xs ++ ys) (ys ++ xs)
reordered_swapped [] ys = reordered_is ys ys (ys ++ []) (sym (append-nil ys)) (reordered_refl ys)
reordered_swapped (x ∷ xs) ys = (ys, xs, refl, reordered_swapped xs ys)

-- those that pass a test, and then the others
pub reordered_parts : {A : Type 0} (p : A → Bool) (xs : List A) → AreReordered xs (filter p xs ++ filter (λ x. not (p x)) xs)
reordered_parts p [] = refl
reordered_parts {A} p (x ∷ xs) = by_test (p x) (reordered_parts p xs)
  where
    by_test : (b : Bool) → AreReordered xs (filter p xs ++ filter (λ x. not (p x)) xs)
        → AreReordered (x ∷ xs) (cond b (x ∷ filter p xs) (filter p xs) ++ cond (not b) (x ∷ filter (λ x. not (p x)) xs) (filter (λ x. not (p x)) xs))
    by_test true rest = ([], filter p xs ++ filter (λ x. not (p x)) xs, refl, rest)
    by_test false rest = (filter p xs, filter (λ x. not (p x)) xs, refl, rest)

-- ---- what is carried over

map_both : {A B : Type 0} (f : A → B) (xs ys : List A) → map f (xs ++ ys) ≡ map f xs ++ map f ys
map_both f [] ys = refl
map_both f (x ∷ xs) ys = ap (λ ls. f x ∷ ls) (map_both f xs ys)

pub reordered_map : {A B : Type 0} (f : A → B) (xs ys : List A) → AreReordered xs ys → AreReordered (map f xs) (map f ys)
reordered_map f [] ys h = ap (map f) h
reordered_map f (x ∷ xs) ys (c, d, is, rest) = (
  map f c,
  map f d,
  ap (map f) is ∙ map_both f c (x ∷ d),
  reordered_is (map f xs) (map f (c ++ d)) (map f c ++ map f d) (map_both f c d) (reordered_map f xs (c ++ d) rest),
)

-- of all items, one is taken out
all_out : {A : Type 0} (P : A → Type 0) (c d : List A) (x : A) → AllByRecursion P (c ++ x ∷ d) → P x × AllByRecursion P (c ++ d)
all_out P [] d x all = all
all_out P (u ∷ c) d x all =
    let out = all_out P c d x all.1 in
    (out.0, (all.0, out.1))

pub reordered_all : {A : Type 0} (P : A → Type 0) (xs ys : List A) → AreReordered xs ys → AllByRecursion P ys → AllByRecursion P xs
reordered_all P [] ys h all = tt
reordered_all P (x ∷ xs) ys (c, d, is, rest) all =
    let out = all_out P c d x (subst (AllByRecursion P) is all) in
    (out.0, reordered_all P xs (c ++ d) rest out.1)

pub all_reordered : {A : Type 0} (P : A → Type 0) (xs ys : List A) → AreReordered xs ys → AllByRecursion P xs → AllByRecursion P ys
all_reordered P xs ys h all = reordered_all P ys xs (reordered_sym xs ys h) all

or_swapped : (a b c : Bool) → (a || (b || c)) ≡ (b || (a || c))
or_swapped true true c = refl
or_swapped true false c = refl
or_swapped false true c = refl
or_swapped false false c = refl

any_out : {A : Type 0} (p : A → Bool) (c d : List A) (x : A) → list_any p (c ++ x ∷ d) ≡ (p x || list_any p (c ++ d))
any_out p [] d x = refl
any_out p (u ∷ c) d x = ap (λ b. p u || b) (any_out p c d x) ∙ or_swapped (p u) (p x) (list_any p (c ++ d))

pub reordered_any : {A : Type 0} (p : A → Bool) (xs ys : List A) → AreReordered xs ys → list_any p xs ≡ list_any p ys
reordered_any p [] ys h = ap (list_any p) (sym h)
reordered_any p (x ∷ xs) ys (c, d, is, rest) =
    ap (λ b. p x || b) (reordered_any p xs (c ++ d) rest) ∙ sym (any_out p c d x) ∙ ap (list_any p) (sym is)
