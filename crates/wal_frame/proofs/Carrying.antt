-- How sums are carried over bytes.
use Rattle.std.proofs.Common.{◌≡◌, ◌≤◌, ◌*◌, ◌<◌, ℕ, zero, suc, List, [], ◌∷◌, ◌++◌, length, take, drop, refl, sym, ◌∙◌, ap, arith}
use Rattle.wal_frame.specs.declared.sums.Sum.{Sum}
use Rattle.wal_frame.specs.declared.sums.WordOrder.{WordOrder}
use Rattle.wal_frame.specs.Sums.{word_of, words, carried, next}

-- eight bytes first
carried_eight : (order : WordOrder) (sum : Sum) (xs : List ℕ) → 8 ≤ length xs
    → carried sum (words order xs) ≡ carried (next sum (word_of order (take 4 xs)) (word_of order (take 4 (drop 4 xs)))) (words order (drop 4 (drop 4 xs)))
carried_eight order sum (a ∷ b ∷ c ∷ d ∷ e ∷ f ∷ g ∷ h ∷ rest) long = refl
carried_eight order sum (a ∷ b ∷ c ∷ d ∷ e ∷ f ∷ g ∷ []) long = absurd (omega (arith, long))
carried_eight order sum (a ∷ b ∷ c ∷ d ∷ e ∷ f ∷ []) long = absurd (omega (arith, long))
carried_eight order sum (a ∷ b ∷ c ∷ d ∷ e ∷ []) long = absurd (omega (arith, long))
carried_eight order sum (a ∷ b ∷ c ∷ d ∷ []) long = absurd (omega (arith, long))
carried_eight order sum (a ∷ b ∷ c ∷ []) long = absurd (omega (arith, long))
carried_eight order sum (a ∷ b ∷ []) long = absurd (omega (arith, long))
carried_eight order sum (a ∷ []) long = absurd (omega (arith, long))
carried_eight order sum [] long = absurd (omega (arith, long))

-- fewer than eight bytes are none
pub carried_few : (order : WordOrder) (sum : Sum) (xs : List ℕ) → length xs < 8 → carried sum (words order xs) ≡ sum
carried_few order sum (a ∷ b ∷ c ∷ d ∷ e ∷ f ∷ g ∷ h ∷ rest) short = absurd (omega (arith, short))
carried_few order sum (a ∷ b ∷ c ∷ d ∷ e ∷ f ∷ g ∷ []) short = refl
carried_few order sum (a ∷ b ∷ c ∷ d ∷ e ∷ f ∷ []) short = refl
carried_few order sum (a ∷ b ∷ c ∷ d ∷ e ∷ []) short = refl
carried_few order sum (a ∷ b ∷ c ∷ d ∷ []) short = refl
carried_few order sum (a ∷ b ∷ c ∷ []) short = refl
carried_few order sum (a ∷ b ∷ []) short = refl
carried_few order sum (a ∷ []) short = refl
carried_few order sum [] short = refl

-- one step of the loop: four bytes, four more, and the rest
pub carried_step : (order : WordOrder) (sum more : Sum) (xs one after other rest : List ℕ) (x y : ℕ) → 8 ≤ length xs → one ≡ take 4 xs → after ≡ drop 4 xs → other ≡ take 4 after → rest ≡ drop 4 after
    → x ≡ word_of order one → y ≡ word_of order other → more ≡ next sum x y → carried more (words order rest) ≡ carried sum (words order xs)
carried_step order sum more xs one after other rest x y long is_one is_after is_other is_rest is_x is_y is_more =
    ap (λ (s : Sum). carried s (words order rest)) (is_more
    ∙ ap (λ (n : ℕ). next sum n y) (is_x ∙ ap (word_of order) is_one)
    ∙ ap (λ (n : ℕ). next sum (word_of order (take 4 xs)) n) (is_y ∙ ap (word_of order) (is_other ∙ ap (take 4) is_after)))
    ∙ ap (λ (l : List ℕ). carried (next sum (word_of order (take 4 xs)) (word_of order (take 4 (drop 4 xs)))) (words order l)) (is_rest ∙ ap (drop 4) is_after)
    ∙ sym (carried_eight order sum xs long)

-- over 8 n bytes and then over others
pub carried_both : (order : WordOrder) (n : ℕ) (sum : Sum) (xs ys : List ℕ) → length xs ≡ 8 * n → carried sum (words order (xs ++ ys)) ≡ carried (carried sum (words order xs)) (words order ys)
carried_both order zero sum [] ys size = refl
carried_both order zero sum (x ∷ xs) ys size = absurd (omega (arith, size))
carried_both order (suc n) sum (a ∷ b ∷ c ∷ d ∷ e ∷ f ∷ g ∷ h ∷ rest) ys size = carried_both order n _ rest ys (omega (arith, size))
carried_both order (suc n) sum (a ∷ b ∷ c ∷ d ∷ e ∷ f ∷ g ∷ []) ys size = absurd (omega (arith, size))
carried_both order (suc n) sum (a ∷ b ∷ c ∷ d ∷ e ∷ f ∷ []) ys size = absurd (omega (arith, size))
carried_both order (suc n) sum (a ∷ b ∷ c ∷ d ∷ e ∷ []) ys size = absurd (omega (arith, size))
carried_both order (suc n) sum (a ∷ b ∷ c ∷ d ∷ []) ys size = absurd (omega (arith, size))
carried_both order (suc n) sum (a ∷ b ∷ c ∷ []) ys size = absurd (omega (arith, size))
carried_both order (suc n) sum (a ∷ b ∷ []) ys size = absurd (omega (arith, size))
carried_both order (suc n) sum (a ∷ []) ys size = absurd (omega (arith, size))
carried_both order (suc n) sum [] ys size = absurd (omega (arith, size))
