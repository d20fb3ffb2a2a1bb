-- Lists: tests of their items, items that stand in them, and such lists in another order.
use Rattle.std.proofs.Common.{◌≡◌, ◌∙◌, inl, inr, refl, sym, ap, subst, Bool, true, false, cond, List, [], ◌∷◌, ◌++◌, map, filter}
use Rattle.std.specs.List.{AllByRecursion}
use Rattle.std.proofs.lemmas.Bool.{false≢true}
use Rattle.std.proofs.lemmas.List.{append-nil}
use Rattle.db_pages.specs.Reordering.{AreReordered}
use Rattle.db_load.specs.Reading.{StandsIn}
use Rattle.db_pages.proofs.Reordering.{reordered_is, reordered_refl, reordered_sym}

-- ---- lists

pub filter_append : {A : Type 0} (p : A → Bool) (xs ys : List A) → filter p (xs ++ ys) ≡ filter p xs ++ filter p ys
filter_append p [] ys = refl
filter_append {A} p (x ∷ xs) ys = by_test (p x) (filter_append p xs ys)
  where
    by_test : (b : Bool) → filter p (xs ++ ys) ≡ filter p xs ++ filter p ys → cond b (x ∷ filter p (xs ++ ys)) (filter p (xs ++ ys)) ≡ cond b (x ∷ filter p xs) (filter p xs) ++ filter p ys
    by_test true e = ap (λ ls. x ∷ ls) e
    by_test false e = e

pub filter_one : {A : Type 0} (p : A → Bool) (xs : List A) (x : A) → p x ≡ true → filter p (xs ++ x ∷ []) ≡ filter p xs ++ x ∷ []
filter_one p xs x h = filter_append p xs (x ∷ []) ∙ ap (λ (b : Bool). filter p xs ++ cond b (x ∷ []) []) h

pub filter_none : {A : Type 0} (p : A → Bool) (xs : List A) (x : A) → p x ≡ false → filter p (xs ++ x ∷ []) ≡ filter p xs
filter_none p xs x h = filter_append p xs (x ∷ []) ∙ (ap (λ (b : Bool). filter p xs ++ cond b (x ∷ []) []) h ∙ append-nil (filter p xs))

pub filter_middle : {A : Type 0} (p : A → Bool) (c d : List A) (x : A) → filter p (c ++ x ∷ d) ≡ filter p c ++ cond (p x) (x ∷ filter p d) (filter p d)
filter_middle p c d x = filter_append p c (x ∷ d)

pub reordered_filter : {A : Type 0} (p : A → Bool) (xs ys : List A) → AreReordered xs ys → AreReordered (filter p xs) (filter p ys)
reordered_filter p [] ys h = ap (filter p) h
reordered_filter {A} p (x ∷ xs) ys (c, d, is, rest) =
    reordered_is (filter p (x ∷ xs)) (filter p (c ++ x ∷ d)) (filter p ys) (ap (filter p) (sym is))
    (by_test (p x) refl (reordered_is (filter p xs) (filter p (c ++ d)) (filter p c ++ filter p d) (filter_append p c d) (reordered_filter p xs (c ++ d) rest)))
  where
    by_test : (b : Bool) → p x ≡ b → AreReordered (filter p xs) (filter p c ++ filter p d) → AreReordered (cond b (x ∷ filter p xs) (filter p xs)) (filter p (c ++ x ∷ d))
    by_test true e h =
        reordered_is (x ∷ filter p xs) (filter p c ++ x ∷ filter p d) (filter p (c ++ x ∷ d)) (sym (filter_middle p c d x ∙ ap (λ b. filter p c ++ cond b (x ∷ filter p d) (filter p d)) e))
        (filter p c, filter p d, refl, h)
    by_test false e h =
        reordered_is (filter p xs) (filter p c ++ filter p d) (filter p (c ++ x ∷ d)) (sym (filter_middle p c d x ∙ ap (λ b. filter p c ++ cond b (x ∷ filter p d) (filter p d)) e)) h

pub all_both : {A : Type 0} (P : A → Type 0) (xs ys : List A) → AllByRecursion P xs → AllByRecursion P ys → AllByRecursion P (xs ++ ys)
all_both P [] ys all others = others
all_both P (x ∷ xs) ys all others = (all.0, all_both P xs ys all.1 others)

pub all_front : {A : Type 0} (P : A → Type 0) (xs ys : List A) → AllByRecursion P (xs ++ ys) → AllByRecursion P xs
all_front P [] ys all = tt
all_front P (x ∷ xs) ys all = (all.0, all_front P xs ys all.1)

pub all_back : {A : Type 0} (P : A → Type 0) (xs ys : List A) → AllByRecursion P (xs ++ ys) → AllByRecursion P ys
all_back P [] ys all = all
all_back P (x ∷ xs) ys all = all_back P xs ys all.1

-- ---- an item among others

pub among_first : {A : Type 0} (x : A) (xs ys : List A) → StandsIn x xs → StandsIn x (xs ++ ys)
among_first x [] ys is = absurd is
among_first x (y ∷ xs) ys (inl same) = inl same
among_first x (y ∷ xs) ys (inr later) = inr (among_first x xs ys later)

pub among_second : {A : Type 0} (x : A) (xs ys : List A) → StandsIn x ys → StandsIn x (xs ++ ys)
among_second x [] ys is = is
among_second x (y ∷ xs) ys is = inr (among_second x xs ys is)

pub among_apart : {A B : Type 0} (x : A) (xs ys : List A) → (StandsIn x xs → B) → (StandsIn x ys → B) → StandsIn x (xs ++ ys) → B
among_apart x [] ys first then is = then is
among_apart x (y ∷ xs) ys first then (inl same) = first (inl same)
among_apart x (y ∷ xs) ys first then (inr later) = among_apart x xs ys (λ is. first (inr is)) then later

pub among_map : {A B : Type 0} (f : A → B) (x : A) (xs : List A) → StandsIn x xs → StandsIn (f x) (map f xs)
among_map f x [] is = absurd is
among_map f x (y ∷ xs) (inl same) = inl (ap f same)
among_map f x (y ∷ xs) (inr later) = inr (among_map f x xs later)

pub among_middle : {A : Type 0} (x : A) (c d : List A) → StandsIn x (c ++ x ∷ d)
among_middle x c d = among_second x c (x ∷ d) (inl refl)

pub among_reordered : {A : Type 0} (x : A) (xs ys : List A) → AreReordered xs ys → StandsIn x xs → StandsIn x ys
among_reordered x [] ys h is = absurd is
among_reordered x (y ∷ xs) ys (c, d, at, rest) (inl same) = subst (StandsIn x) (sym at) (among_second x c (y ∷ d) (inl same))
among_reordered x (y ∷ xs) ys (c, d, at, rest) (inr later) =
    subst (StandsIn x) (sym at)
    (among_apart x c d (λ is. among_first x c (y ∷ d) is) (λ is. among_second x c (y ∷ d) (inr is)) (among_reordered x xs (c ++ d) rest later))

pub among_filter : {A : Type 0} (p : A → Bool) (x : A) (xs : List A) → p x ≡ true → StandsIn x xs → StandsIn x (filter p xs)
among_filter p x [] h is = absurd is
among_filter {A} p x (y ∷ xs) h is = by_test (p y) refl (among_filter p x xs h) is
  where
    by_test : (b : Bool) → p y ≡ b → (StandsIn x xs → StandsIn x (filter p xs)) → StandsIn x (y ∷ xs) → StandsIn x (cond b (y ∷ filter p xs) (filter p xs))
    by_test true e later (inl same) = inl same
    by_test true e later (inr is) = inr (later is)
    by_test false e later (inl same) = absurd (false≢true (sym e ∙ (ap p same ∙ h)))
    by_test false e later (inr is) = later is

-- what holds of each holds of it
pub all_among : {A : Type 0} (P : A → Type 0) (x : A) (xs : List A) → AllByRecursion P xs → StandsIn x xs → P x
all_among P x [] all is = absurd is
all_among P x (y ∷ xs) all (inl same) = subst P same all.0
all_among P x (y ∷ xs) all (inr later) = all_among P x xs all.1 later

-- what is moved to the front
pub to_front : {A : Type 0} (c d : List A) (x : A) → AreReordered (c ++ x ∷ d) (x ∷ (c ++ d))
to_front c d x = reordered_sym (x ∷ (c ++ d)) (c ++ x ∷ d) (c, d, refl, reordered_refl (c ++ d))
