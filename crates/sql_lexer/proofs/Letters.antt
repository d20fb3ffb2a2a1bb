-- The reserved words that begin with a letter stand together in the table.
use Rattle.std.proofs.Common.{◌≡◌, ℕ, zero, suc, ◌+◌, ◌<◌, ◌≤◌, Bool, true, false, cond, eqb, List, [], ◌∷◌, length, map, filter, slice_index, slice_range, take, drop, ◌-◌, Option, Some, refl, sym, ap, subst, ◌∙◌, arith, ◌⊎◌, inl, inr, ◌≢◌, lit≤}
use Rattle.std.proofs.lemmas.Bool.Decides.{eqb_tells}
use Rattle.std.specs.Char.{to_ascii_lowercase}
use Rattle.std.specs.Str.{str_eq_ignore_ascii_case}
use Rattle.sql_lexer.specs.Lex.{Text, lookup, next_byte, reserved}
use Rattle.sql_lexer.specs.Words.{words}
use Rattle.sql_lexer.specs.declared.keyword.Keyword.{Keyword}
use Rattle.sql_lexer.specs.declared.keyword.TheConstants.{KEYWORDS, STARTS}

-- the reserved words, as the table has them
abbrev pub all : List (Text × Keyword)
all = map (λ k. (k.0.now, k.1)) KEYWORDS

-- a part of them
abbrev pub entries : ℕ → ℕ → List (Text × Keyword)
entries from to = slice_range all from to

-- whether a word begins with this small letter, in either case
abbrev begins : ℕ → Text × Keyword → Bool
begins letter k = eqb (to_ascii_lowercase (next_byte k.0)) letter

-- a word that begins with another letter is another word
differs : (letter b : ℕ) (z w : Text) → to_ascii_lowercase b ≡ letter → eqb (to_ascii_lowercase (next_byte w)) letter ≡ false → str_eq_ignore_ascii_case w (b ∷ z) ≡ false
differs letter b z [] e h = refl
differs letter b z (c ∷ w) e h = rw (e, h) refl

-- a word is found among those that begin with its letter, if anywhere
by_letter : (letter b : ℕ) (z : Text) → to_ascii_lowercase b ≡ letter → (ks : List (Text × Keyword)) → lookup (filter (begins letter) ks) (b ∷ z) ≡ lookup ks (b ∷ z)
by_letter letter b z e [] = refl
by_letter letter b z e (k ∷ ks) = by_test (by_letter letter b z e ks) (begins letter k) refl
  where
    by_test : lookup (filter (begins letter) ks) (b ∷ z) ≡ lookup ks (b ∷ z) → (t : Bool) → begins letter k ≡ t → lookup (cond (begins letter k) (k ∷ filter (begins letter) ks) (filter (begins letter) ks)) (b ∷ z) ≡ lookup (k ∷ ks) (b ∷ z)
    by_test others true h = rw h (ap (λ (found : Option Keyword). cond (str_eq_ignore_ascii_case k.0 (b ∷ z)) (Some k.1) found) others)
    by_test others false h = rw (h, differs letter b z k.0 e h) others

-- where the words of a letter begin, by its number in the alphabet
abbrev pub start : ℕ → ℕ
start n = slice_index STARTS n

-- the words of a letter stand where the table of beginnings says
abbrev Stands : ℕ → Type 0
Stands n = (start n ≤ start (n + 1)) × (start (n + 1) ≤ 72) × (entries (start n) (start (n + 1)) ≡ filter (begins (97 + n)) all)

-- of each number below
abbrev Each : (ℕ → Type 0) → ℕ → Type 0
Each p zero = Unit {0}
Each p (suc n) = Each p n × p n

each_below : (p : ℕ → Type 0) (n k : ℕ) → Each p n → k < n → p k
each_below p zero k each lt = absurd (omega arith)
each_below p (suc n) k each lt = by_test (λ below. each_below p n k each.0 below) (eqb_tells k n)
  where
    by_test : (k < n → p k) → ((eqb k n ≡ true) × (k ≡ n)) ⊎ ((eqb k n ≡ false) × (k ≢ n)) → p k
    by_test lower (inl h) = subst p (sym h.1) each.1
    by_test lower (inr h) = let ne : k ≢ n = h.1 in lower (omega arith)

stand : Each Stands 26
stand = (
  (
    (
      (
        (
          (
            (
              (
                (
                  (
                    (
                      (
                        (
                          (
                            (
                              (
                                (
                                  (
                                    (
                                      (
                                        (
                                          (
                                            (
                                              (
                                                (
                                                  (
                                                    tt,
                                                    (lit≤ tt, lit≤ tt, refl),
                                                  ),
                                                  (lit≤ tt, lit≤ tt, refl),
                                                ),
                                                (lit≤ tt, lit≤ tt, refl),
                                              ),
                                              (lit≤ tt, lit≤ tt, refl),
                                            ),
                                            (lit≤ tt, lit≤ tt, refl),
                                          ),
                                          (lit≤ tt, lit≤ tt, refl),
                                        ),
                                        (lit≤ tt, lit≤ tt, refl),
                                      ),
                                      (lit≤ tt, lit≤ tt, refl),
                                    ),
                                    (lit≤ tt, lit≤ tt, refl),
                                  ),
                                  (lit≤ tt, lit≤ tt, refl),
                                ),
                                (lit≤ tt, lit≤ tt, refl),
                              ),
                              (lit≤ tt, lit≤ tt, refl),
                            ),
                            (lit≤ tt, lit≤ tt, refl),
                          ),
                          (lit≤ tt, lit≤ tt, refl),
                        ),
                        (lit≤ tt, lit≤ tt, refl),
                      ),
                      (lit≤ tt, lit≤ tt, refl),
                    ),
                    (lit≤ tt, lit≤ tt, refl),
                  ),
                  (lit≤ tt, lit≤ tt, refl),
                ),
                (lit≤ tt, lit≤ tt, refl),
              ),
              (lit≤ tt, lit≤ tt, refl),
            ),
            (lit≤ tt, lit≤ tt, refl),
          ),
          (lit≤ tt, lit≤ tt, refl),
        ),
        (lit≤ tt, lit≤ tt, refl),
      ),
      (lit≤ tt, lit≤ tt, refl),
    ),
    (lit≤ tt, lit≤ tt, refl),
  ),
  (lit≤ tt, lit≤ tt, refl),
)

pub stands_within : (n : ℕ) → n < 26 → (start n ≤ start (n + 1)) × (start (n + 1) ≤ 72)
stands_within n lt = let s = each_below Stands 26 n stand lt in (s.0, s.1)

pub stands : (n b : ℕ) (z : Text) → n < 26 → to_ascii_lowercase b ≡ 97 + n → lookup (entries (start n) (start (n + 1))) (b ∷ z) ≡ lookup all (b ∷ z)
stands n b z lt e = ap (λ (ks : List (Text × Keyword)). lookup ks (b ∷ z)) (each_below Stands 26 n stand lt).2 ∙ by_letter (97 + n) b z e all

-- a word that isn't empty is found in the part of its first letter
pub reserved_in : (from to : ℕ) (z : Text) → all ≡ words → 0 < length z → ((rest : Text) → lookup (entries from to) (slice_index z 0 ∷ rest) ≡ lookup all (slice_index z 0 ∷ rest)) → lookup (entries from to) z ≡ reserved z
unfolding reserved
reserved_in from to [] spelled some h = absurd (omega arith)
reserved_in from to (b ∷ z) spelled some h = h z ∙ ap (λ (ks : List (Text × Keyword)). lookup ks (b ∷ z)) spelled

-- a part of a list, and the function on each element
take_map : {X Y : Type 0} (f : X → Y) (n : ℕ) (xs : List X) → map f (take n xs) ≡ take n (map f xs)
take_map f zero xs = refl
take_map f (suc n) [] = refl
take_map f (suc n) (x ∷ xs) = ap (λ ys. f x ∷ ys) (take_map f n xs)

drop_map : {X Y : Type 0} (f : X → Y) (n : ℕ) (xs : List X) → map f (drop n xs) ≡ drop n (map f xs)
drop_map f zero xs = refl
drop_map f (suc n) [] = refl
drop_map f (suc n) (x ∷ xs) = drop_map f n xs

pub map_range : {X Y : Type 0} (f : X → Y) (xs : List X) (from to : ℕ) → map f (slice_range xs from to) ≡ slice_range (map f xs) from to
map_range f xs from to = take_map f (to - from) (drop from xs) ∙ ap (take (to - from)) (drop_map f from xs)
