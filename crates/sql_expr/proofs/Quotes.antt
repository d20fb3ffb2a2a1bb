-- What stands between quotes, and quotes that are doubled.
use Rattle.std.proofs.Common.{◌≡◌, ◌≢◌, ℕ, suc, ◌+◌, ◌<◌, false, eqb, List, [], ◌∷◌, ◌++◌, length, Option, Some, None, refl, sym, ap, ◌∙◌, append_assoc, arith}
use Rattle.std.specs.Prelude.{option_map, MatchOption, get_or, take, drop, unwrap_or, ◌-◌}
use Rattle.std.specs.Borrow.{Bor}
use Rattle.std.specs.Str.Pattern.{FindsCharPrefix, FindsCharSuffix}
use Rattle.std.proofs.lemmas.Str.Pattern.{strip_prefix_char, strip_suffix_char}
use Rattle.std.proofs.lemmas.Bool.{eq-eqb, ne_eqb}
use Rattle.sql_expr.specs.Spelling.{with_first, before_last, between_quotes, undoubled, after_quote, blob_digits}

pub before_last_some : (q : ℕ) (w : List ℕ) → before_last q (w ++ q ∷ []) ≡ Some w
unfolding before_last
before_last_some q [] = rw (eq-eqb q q refl) refl
before_last_some q (b ∷ []) = rw (eq-eqb q q refl) refl
before_last_some q (b ∷ c ∷ w) = ap (with_first b) (before_last_some q (c ∷ w))

pub before_last_none : (q : ℕ) (z : List ℕ) → ((front : List ℕ) → z ≢ front ++ q ∷ []) → before_last q z ≡ None
unfolding before_last
before_last_none q [] h = refl
before_last_none q (b ∷ []) h = rw (ne_eqb b q (λ e. h [] (ap (λ x. x ∷ []) e))) refl
before_last_none q (b ∷ c ∷ z) h = ap (with_first b) (before_last_none q (c ∷ z) (λ front e. h (b ∷ front) (ap (λ y. b ∷ y) e)))

pub between_some : (q : ℕ) (z : List ℕ) → between_quotes q (q ∷ z) ≡ before_last q z
unfolding between_quotes
between_some q z = rw (eq-eqb q q refl) refl

pub between_none : (q : ℕ) (z : List ℕ) → ((rest : List ℕ) → z ≢ q ∷ rest) → between_quotes q z ≡ None
unfolding between_quotes
between_none q [] h = refl
between_none q (b ∷ z) h = rw (ne_eqb b q (λ e. h z (ap (λ x. x ∷ z) e))) refl

prefix_none : (q : ℕ) (z : List ℕ) (r : Option (Bor (List ℕ))) → MatchOption r ((rest : List ℕ) → z ≢ q ∷ rest) (λ x. z ≡ q ∷ x.now) → r ≡ None → between_quotes q z ≡ None
prefix_none q z None h e = between_none q z h
prefix_none q z (Some x) h e = absurd cc

suffix_is : (q : ℕ) (z : List ℕ) (r : Option (Bor (List ℕ))) → MatchOption r ((front : List ℕ) → z ≢ front ++ q ∷ []) (λ x. z ≡ x.now ++ q ∷ []) → option_map (λ (x : Bor (List ℕ)). x.now) r ≡ before_last q z
suffix_is q z None h = sym (before_last_none q z h)
suffix_is q z (Some x) h = sym (ap (before_last q) h ∙ before_last_some q x.now)

prefix_some : (q : ℕ) (z : List ℕ) (x : Bor (List ℕ)) (r : Option (Bor (List ℕ))) → MatchOption r ((rest : List ℕ) → z ≢ q ∷ rest) (λ x. z ≡ q ∷ x.now) → r ≡ Some x → z ≡ q ∷ x.now
prefix_some q z x None h e = absurd cc
prefix_some q z x (Some y) h e = h ∙ ap (λ (o : Option (Bor (List ℕ))). q ∷ now_of o) e
  where
    now_of : Option (Bor (List ℕ)) → List ℕ
    now_of None = []
    now_of (Some x) = x.now

-- where the first quote is missing
pub no_quote : (q : ℕ) (z : List ℕ) (r : Option (Bor (List ℕ))) → MatchOption r (FindsCharPrefix q z None) (λ x. (n : ℕ) × FindsCharPrefix q z (Some n) × (x.now ≡ drop n z) × (length x.now + n ≡ length z)) → q < 128
    → r ≡ None → between_quotes q z ≡ None
no_quote q z r h low e = prefix_none q z r (strip_prefix_char q z r h low) e

-- where it stands
pub behind_first : (q : ℕ) (z : List ℕ) (x : Bor (List ℕ)) (r : Option (Bor (List ℕ))) → MatchOption r (FindsCharPrefix q z None) (λ x. (n : ℕ) × FindsCharPrefix q z (Some n) × (x.now ≡ drop n z) × (length x.now + n ≡ length z)) → q < 128
    → r ≡ Some x → z ≡ q ∷ x.now
behind_first q z x r h low e = prefix_some q z x r (strip_prefix_char q z r h low) e

pub quoted : (q : ℕ) (z : List ℕ) (x : Bor (List ℕ)) (r : Option (Bor (List ℕ))) → z ≡ q ∷ x.now
    → MatchOption r (FindsCharSuffix q x.now None) (λ y. (n : ℕ) × FindsCharSuffix q x.now (Some n) × (y.now ≡ take (length x.now - n) x.now) × (length y.now + n ≡ length x.now)) → q < 128
    → option_map (λ (y : Bor (List ℕ)). y.now) r ≡ between_quotes q z
quoted q z x r e h low = suffix_is q x.now r (strip_suffix_char q x.now r h low) ∙ sym (ap (between_quotes q) e ∙ between_some q x.now)

-- ---- doubled quotes

abbrev pub Free : ℕ → List ℕ → Type 0
Free q z = (i : ℕ) → i < length z → get_or z i 0 ≢ q

free_first : (q b : ℕ) (z : List ℕ) → Free q (b ∷ z) → eqb b q ≡ false
free_first q b z f = ne_eqb b q (f 0 (omega arith))

free_rest : (q b : ℕ) (z : List ℕ) → Free q (b ∷ z) → Free q z
free_rest q b z f = λ i below. f (suc i) (omega arith)

pub undoubled_free : (q : ℕ) (z : List ℕ) → Free q z → undoubled q z ≡ z
unfolding undoubled
undoubled_free q [] f = refl
undoubled_free q (b ∷ z) f = rw (free_first q b z f) (ap (λ (y : List ℕ). b ∷ y) (undoubled_free q z (free_rest q b z f)))

pub undoubled_at : (q : ℕ) (front back : List ℕ) → Free q front → undoubled q (front ++ q ∷ back) ≡ front ++ q ∷ after_quote q back
unfolding undoubled
undoubled_at q [] back f = rw (eq-eqb q q refl) refl
undoubled_at q (b ∷ front) back f = rw (free_first q b front f) (ap (λ (y : List ℕ). b ∷ y) (undoubled_at q front back (free_rest q b front f)))

behind_none : (q : ℕ) (z : List ℕ) → ((rest : List ℕ) → z ≢ q ∷ rest) → after_quote q z ≡ undoubled q z
unfolding undoubled
behind_none q [] h = refl
behind_none q (b ∷ z) h = rw (ne_eqb b q (λ e. h z (ap (λ x. x ∷ z) e))) refl

behind_some : (q : ℕ) (z : List ℕ) → after_quote q (q ∷ z) ≡ undoubled q z
unfolding undoubled
behind_some q z = rw (eq-eqb q q refl) refl

-- the text after a quote that may be doubled
pub behind_is : (q : ℕ) (back : Bor (List ℕ)) (r : Option (Bor (List ℕ))) → MatchOption r (FindsCharPrefix q back.now None) (λ x. (n : ℕ) × FindsCharPrefix q back.now (Some n) × (x.now ≡ drop n back.now) × (length x.now + n ≡ length back.now)) → q < 128
    → after_quote q back.now ≡ undoubled q (unwrap_or r back).now
behind_is q back r h low = by_case r (strip_prefix_char q back.now r h low)
  where
    by_case : (r : Option (Bor (List ℕ))) → MatchOption r ((rest : List ℕ) → back.now ≢ q ∷ rest) (λ x. back.now ≡ q ∷ x.now) → after_quote q back.now ≡ undoubled q (unwrap_or r back).now
    by_case None k = behind_none q back.now k
    by_case (Some x) k = ap (after_quote q) k ∙ behind_some q x.now

-- one turn
pub quotes_step : (q : ℕ) (text plain rest front back next : List ℕ) → plain ++ undoubled q rest ≡ undoubled q text → rest ≡ front ++ q ∷ back → Free q front → after_quote q back ≡ undoubled q next
    → ((plain ++ front) ++ q ∷ []) ++ undoubled q next ≡ undoubled q text
quotes_step q text plain rest front back next e parts f b =
    append_assoc (plain ++ front) (q ∷ []) (undoubled q next)
    ∙ append_assoc plain front (q ∷ undoubled q next)
    ∙ ap (λ (y : List ℕ). plain ++ (front ++ q ∷ y)) (sym b)
    ∙ ap (λ (y : List ℕ). plain ++ y) (sym (ap (undoubled q) parts ∙ undoubled_at q front back f))
    ∙ e

-- the last turn
pub quotes_end : (q : ℕ) (text plain rest : List ℕ) → plain ++ undoubled q rest ≡ undoubled q text → Free q rest → plain ++ rest ≡ undoubled q text
quotes_end q text plain rest e f = ap (λ (y : List ℕ). plain ++ y) (sym (undoubled_free q rest f)) ∙ e

-- ---- blobs

x_none : (z : List ℕ) (r : Option (Bor (List ℕ))) → MatchOption r ((rest : List ℕ) → z ≢ 88 ∷ rest) (λ x. z ≡ 88 ∷ x.now) → r ≡ None → blob_digits z ≡ None
unfolding blob_digits
x_none [] r h e = refl
x_none (b ∷ z) None h e = rw (ne_eqb b 88 (λ k. h z (ap (λ (x : ℕ). x ∷ z) k))) refl
x_none (b ∷ z) (Some x) h e = absurd cc

pub no_x : (z : List ℕ) (r : Option (Bor (List ℕ))) → MatchOption r (FindsCharPrefix 88 z None) (λ x. (n : ℕ) × FindsCharPrefix 88 z (Some n) × (x.now ≡ drop n z) × (length x.now + n ≡ length z)) → r ≡ None → blob_digits z ≡ None
no_x z r h e = x_none z r (strip_prefix_char 88 z r h (omega arith)) e
