-- A token that is spelled is the token at the front.
use Rattle.std.proofs.Common.{◌≡◌, ◌≢◌, ℕ, suc, ◌+◌, ◌%◌, Bool, true, false, ◌==◌, ◌&&◌, ◌||◌, if◌then◌else◌, eqb, [], ◌∷◌, ◌++◌, Some, None, Ok, refl, ap, sym, ◌∙◌, length, take, drop, arith, append_assoc, length-append}
use Rattle.std.specs.List.{prefix_len}
use Rattle.std.specs.Char.{is_ascii_digit}
use Rattle.std.proofs.lemmas.Bool.{ne_eqb, eq-eqb}
use Rattle.std.proofs.lemmas.List.{drop_at, take_at}
use Rattle.std.proofs.lemmas.Bool.Decides.{nat_tests}
use Rattle.sql_lexer.specs.Bytes.{begins_word, is_in}
use Rattle.sql_lexer.specs.declared.class.Class.TheVariants as class
use Rattle.sql_lexer.specs.declared.token.Kind.{Kind}
use Rattle.sql_lexer.specs.declared.token.Kind.TheVariants as k
use Rattle.sql_lexer.specs.Cut as c
use Rattle.sql_lexer.specs.Cut.{Every, doubled, Spells}
use Rattle.sql_lexer.specs.Lex.{Text, next_byte, closing, blob, word, word_kind, reserved, number, number_by, is_whole, number_from, real_len, fraction, exponent, digits, pair, single, mark, other, found_or, front}

pub run_ends : (p : ℕ → Bool) (z rest : Text) → Every p z → p (next_byte rest) ≡ false → prefix_len p (z ++ rest) ≡ length z
run_ends p [] [] e q = refl
run_ends p [] (b ∷ rest) e q = rw q refl
run_ends p (b ∷ z) rest e q = let h = e.0 in let ih = run_ends p z rest e.1 q in rw (h, ih) (omega arith)

digit_is : (b : ℕ) → is_in class.Digit b ≡ true → (is_ascii_digit b ≡ true) × (b ≢ 88)
digit_is b e = (e, grind (arith, nat_tests))

word_is : (b : ℕ) → begins_word b ≡ true → (is_ascii_digit b ≡ false) × ((b == 39) ≡ false) × ((b == 34) ≡ false) × (is_in class.Word b ≡ true)
word_is b e = (grind (arith, nat_tests), grind (arith, nat_tests), grind (arith, nat_tests), grind (arith, nat_tests))

not_digit : (b : ℕ) → is_in class.Word b ≡ false → is_in class.Digit b ≡ false
not_digit b e = grind (arith, nat_tests)

not_exponent : (b : ℕ) → is_in class.Word b ≡ false → (b == 101 || b == 69) ≡ false
not_exponent b e = grind (arith, nat_tests)

no_real : (rest : Text) → is_in class.Word (next_byte rest) ≡ false → next_byte rest ≢ 46 → real_len rest ≡ 0
unfolding real_len fraction exponent
no_real [] w ne = refl
no_real (b ∷ z) w ne = let e : eqb b 46 ≡ false = ne_eqb b 46 ne in let x = not_exponent b w in rw (e, x) refl

closing_is : (q : ℕ) (z rest : Text) → next_byte rest ≢ q → closing q (doubled q z ++ q ∷ rest) ≡ Some (length (doubled q z) + 1)
unfolding closing
closing_is q [] [] ne = let e : eqb q q ≡ true = eq-eqb q q refl in rw e refl
closing_is q [] (b ∷ rest) ne = let e : eqb b q ≡ false = ne_eqb b q ne in let e' : eqb q q ≡ true = eq-eqb q q refl in rw (e', e) refl
closing_is q (b ∷ z) rest ne = by_test (eqb b q) refl (closing_is q z rest ne)
  where
    by_test : (t : Bool) → eqb b q ≡ t → closing q (doubled q z ++ q ∷ rest) ≡ Some (length (doubled q z) + 1)
        → closing q (doubled q (b ∷ z) ++ q ∷ rest) ≡ Some (length (doubled q (b ∷ z)) + 1)
    by_test true e ih = let e' : eqb q q ≡ true = eq-eqb q q refl in rw (e, e', ih) (ap (λ (n : ℕ). Some n) (omega arith))
    by_test false e ih = rw e (rw (e, ih) (ap (λ (n : ℕ). Some n) (omega arith)))

blob_is : (z rest : Text) → Every (is_in class.Hex) z → length z % 2 ≡ 0 → blob (z ++ 39 ∷ rest) ≡ Some (length z + 1)
unfolding blob
blob_is z rest e even =
    let n = run_ends (is_in class.Hex) z (39 ∷ rest) e refl in
    let after : drop (length z) (z ++ 39 ∷ rest) ≡ 39 ∷ rest = drop_at z (39 ∷ rest) (length z) refl in
    rw (n, after, even) refl

pub next_same : (z rest : Text) (next : ℕ) → next ≡ next_byte rest → next_byte (z ++ next ∷ []) ≡ next_byte (z ++ rest)
next_same [] rest next e = e
next_same (b ∷ z) rest next e = refl

word_front : (m : Bool) (b start : ℕ) (z rest : Text) → begins_word b ≡ true → Every (is_in class.Word) z → is_in class.Word (next_byte rest) ≡ false
    → (b == 88 && next_byte (z ++ rest) == 39) ≡ false → front start m (b ∷ (z ++ rest)) ≡ Ok (word_kind (reserved (b ∷ z)), length (b ∷ z))
unfolding front other word
word_front m b start z rest h e q x =
    let (d, a, o, w) = word_is b h in
    let n = run_ends (is_in class.Word) z rest e q in
    let one : 1 + length z ≡ suc (length z) = omega arith in
    let taken : take (length z) (z ++ rest) ≡ z = take_at z rest (length z) refl in
    rw (d, x, a, o, h, n, one, taken) refl

number_front : (m : Bool) (b start : ℕ) (z rest : Text) → is_in class.Digit b ≡ true → Every (is_in class.Digit) z → is_in class.Word (next_byte rest) ≡ false
    → next_byte rest ≢ 46 → is_whole m (number_from 0 (b ∷ z)) ≡ true → front start m (b ∷ (z ++ rest)) ≡ Ok (k.Integer (number_from 0 (b ∷ z)), length (b ∷ z))
unfolding front number
number_front m b start z rest h e q ne w =
    let n : digits (b ∷ (z ++ rest)) ≡ suc (length z) = let t = run_ends (is_in class.Digit) z rest e (not_digit (next_byte rest) q) in rw (h, t) (omega arith) in
    let after : drop (suc (length z)) (b ∷ (z ++ rest)) ≡ rest = drop_at z rest (length z) refl in
    let taken : take (suc (length z)) (b ∷ (z ++ rest)) ≡ b ∷ z = ap (λ (y : Text). b ∷ y) (take_at z rest (length z) refl) in
    let real : real_len (drop (digits (b ∷ (z ++ rest))) (b ∷ (z ++ rest))) ≡ 0 =
    ap (λ (i : ℕ). real_len (drop i (b ∷ (z ++ rest)))) n ∙ ap real_len after ∙ no_real rest q ne in
    let by : number_by start m (b ∷ (z ++ rest)) (suc (length z)) 0 ≡ Ok (k.Integer (number_from 0 (b ∷ z)), suc (length z)) =
    let sum : suc (length z) + 0 ≡ suc (length z) = omega arith in rw (sum, after, q, taken, w) refl in
    let all : number start m (b ∷ (z ++ rest)) ≡ Ok (k.Integer (number_from 0 (b ∷ z)), suc (length z)) =
    ap (λ (i : ℕ). number_by start m (b ∷ (z ++ rest)) i (real_len (drop (digits (b ∷ (z ++ rest))) (b ∷ (z ++ rest))))) n
    ∙ ap (number_by start m (b ∷ (z ++ rest)) (suc (length z))) real ∙ by in
    let all_of : Text = b ∷ (z ++ rest) in
    ap (λ (t : Bool). if t then number start m all_of else found_or start (other all_of)) h ∙ all

-- no other token begins with a mark's byte
abbrev IsMark : ℕ → Type 0
IsMark b = (is_ascii_digit b ≡ false) × ((b == 88) ≡ false) × ((b == 39) ≡ false) × ((b == 34) ≡ false) × (begins_word b ≡ false)

single_is : (b : ℕ) (kind : Kind) → single b ≡ Some kind → IsMark b
single_is b kind e = (grind (arith, nat_tests), grind (arith, nat_tests), grind (arith, nat_tests), grind (arith, nat_tests), grind (arith, nat_tests))

pair_is : (b d : ℕ) (kind : Kind) → pair b d ≡ Some kind → IsMark b × ((b == 47) ≡ false)
pair_is b d kind e = ((grind (arith, nat_tests), grind (arith, nat_tests), grind (arith, nat_tests), grind (arith, nat_tests), grind (arith, nat_tests)), grind (arith, nat_tests))

mark_front : (m : Bool) (b start : ℕ) (z : Text) → IsMark b → front start m (b ∷ z) ≡ found_or start (mark (b ∷ z))
unfolding front other
mark_front m b start z (d, x, a, o, w) = rw (d, x, a, o, w) refl

two_mark : (b d : ℕ) (z : Text) (kind : Kind) → (b == 47) ≡ false → pair b d ≡ Some kind → mark (b ∷ d ∷ z) ≡ Some (kind, 2)
unfolding mark
two_mark b d z kind f e = rw (f, e) refl

one_mark : (b next : ℕ) (z : Text) (kind : Kind) → next ≡ next_byte z → single b ≡ Some kind → pair b next ≡ None → (b == 47 && next == 42) ≡ false
    → mark (b ∷ z) ≡ Some (kind, 1)
unfolding mark
one_mark b next [] kind is e none shut = rw e refl
one_mark b next (d ∷ z) kind is e none shut =
    let none' : pair b d ≡ None = ap (pair b) (sym is) ∙ none in
    let shut' : (b == 47 && d == 42) ≡ false = ap (λ (i : ℕ). b == 47 && i == 42) (sym is) ∙ shut in
    rw (shut', none', e) refl

pub front_is : {m : Bool} {kind : Kind} {s : Text} {next : ℕ} → Spells m kind s next → (rest : Text) (start : ℕ) → next ≡ next_byte rest
    → front start m (s ++ rest) ≡ Ok (kind, length s)
unfolding front other
front_is (c.word {m = m} {b = b} {next = next} {z = z} h e q x) rest start is =
    word_front m b start z rest h e (ap (is_in class.Word) (sym is) ∙ q) (ap (λ (i : ℕ). b == 88 && i == 39) (sym (next_same z rest next is)) ∙ x)
front_is (c.number {m = m} {b = b} {z = z} h e q ne w) rest start is =
    number_front m b start z rest h e (ap (is_in class.Word) (sym is) ∙ q) (λ p. ne (is ∙ p)) w
front_is (c.text z ne) rest start is =
    let e = closing_is 39 z rest (λ h. ne (is ∙ h)) in
    let all : (doubled 39 z ++ 39 ∷ []) ++ rest ≡ doubled 39 z ++ 39 ∷ rest = append_assoc (doubled 39 z) (39 ∷ []) rest in
    rw (all, e) (ap (λ (n : ℕ). Ok (k.Text, n)) (omega (arith, length-append (doubled 39 z) (39 ∷ []))))
front_is (c.name z ne) rest start is =
    let e = closing_is 34 z rest (λ h. ne (is ∙ h)) in
    let all : (doubled 34 z ++ 34 ∷ []) ++ rest ≡ doubled 34 z ++ 34 ∷ rest = append_assoc (doubled 34 z) (34 ∷ []) rest in
    rw (all, e) (ap (λ (n : ℕ). Ok (k.QuotedName, n)) (omega (arith, length-append (doubled 34 z) (34 ∷ []))))
front_is (c.blob z e even) rest start is =
    let h = blob_is z rest e even in
    let all : (z ++ 39 ∷ []) ++ rest ≡ z ++ 39 ∷ rest = append_assoc z (39 ∷ []) rest in
    rw (all, h) (ap (λ (n : ℕ). Ok (k.Blob, n)) (omega (arith, length-append z (39 ∷ []))))
front_is (c.two {m = m} {b = b} {c = d} {kind = kind} e) rest start is =
    let (begins, f) = pair_is b d kind e in
    mark_front m b start (d ∷ rest) begins ∙ ap (found_or start) (two_mark b d rest kind f e)
front_is (c.one {m = m} {b = b} {next = next} {kind = kind} e none shut line) rest start is =
    mark_front m b start rest (single_is b kind e) ∙ ap (found_or start) (one_mark b next rest kind is e none shut)
