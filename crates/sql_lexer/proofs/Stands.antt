-- The token that is read at the front is spelled so.
use Rattle.std.proofs.Common.{◌≡◌, ◌≢◌, ℕ, suc, ◌+◌, ◌%◌, ◌<◌, Bool, true, false, ◌==◌, ◌&&◌, if◌then◌else◌, lit<, [], ◌∷◌, ◌++◌, Option, Some, None, Result, Ok, Err, refl, ap, sym, subst, ◌∙◌, length, take, drop, arith, append_assoc, length-append, inl, inr}
use Rattle.std.specs.List.{prefix_len}
use Rattle.std.specs.Char.{is_ascii_digit}
use Rattle.std.proofs.lemmas.Bool.Decides.{nat_tests}
use Rattle.std.proofs.lemmas.List.{take_at, drop_at, take-append-drop, length-take-le}
use Rattle.std.proofs.lemmas.List.Sums.{prefix_len-le-length}
use Rattle.sqlval.specs.declared.fault.Fault.{Fault}
use Rattle.sqlval.specs.declared.fault.Fault.TheVariants.{Syntax, RealRefused}
use Rattle.sql_lexer.specs.Bytes.{begins_word, is_in}
use Rattle.sql_lexer.specs.declared.class.Class.TheVariants as class
use Rattle.sql_lexer.specs.declared.token.Kind.{Kind}
use Rattle.sql_lexer.specs.declared.token.Kind.TheVariants as k
use Rattle.sql_lexer.specs.Cut as c
use Rattle.sql_lexer.specs.Cut.{Every, doubled, Spells}
use Rattle.sql_lexer.specs.Lex.{Text, next_byte, plus, line, piece, closing, second, blob, word, word_kind, reserved, number, number_by, whole_by, is_whole, number_from, real_len, fraction, digits, quoted, pair, single, long, or_else, mark, other, found_or, front}
use Rattle.sql_lexer.proofs.Gaps.{either, both_hold, plus_some}
use Rattle.sql_lexer.proofs.Spelled.{next_same}
use Rattle.sql_lexer.proofs.Whole.{piece_line}
use Rattle.sql_lexer.proofs.Parted.{run_every, run_stops}

-- the front of a text, where it is a token of this length
pub record Stands (m : Bool) (kind : Kind) (n : ℕ) (z : Text) : Type 0 where
  pub spelled : Spells m kind (take n z) (next_byte (drop n z))

stands_at : (m : Bool) (kind : Kind) (s rest z : Text) (n : ℕ) → z ≡ s ++ rest → n ≡ length s → Spells m kind s (next_byte rest) → Stands m kind n z
stands_at m kind s rest z n is long spelled =
    let text : take n z ≡ s = ap (take n) is ∙ take_at s rest n (omega arith) in
    let after : drop n z ≡ rest = ap (drop n) is ∙ drop_at s rest n (omega arith) in
    record { spelled = rw (text, after) spelled }

-- ---- quoted tokens

-- what a quoted token takes
record Quotes (q : ℕ) (z : Text) (n : ℕ) : Type 0 where
  content : Text
  rest : Text
  whole : z ≡ doubled q content ++ q ∷ rest
  len : n ≡ length (doubled q content) + 1
  stops : next_byte rest ≢ q

quote_doubled : (q b : ℕ) (z : Text) → (b == q) ≡ true → doubled q (b ∷ z) ≡ q ∷ q ∷ doubled q z
quote_doubled q b z e = rw e refl

other_doubled : (q b : ℕ) (z : Text) → (b == q) ≡ false → doubled q (b ∷ z) ≡ b ∷ doubled q z
other_doubled q b z e = rw e refl

same_byte : (b q : ℕ) → (b == q) ≡ true → b ≡ q
same_byte b q e = grind (arith, nat_tests)

other_byte : (b q : ℕ) → (b == q) ≡ false → b ≢ q
other_byte b q e = grind (arith, nat_tests)

mutual
  unfolding closing

  closing_parts : (q : ℕ) (z : Text) (n : ℕ) → 0 < q → closing q z ≡ Some n → Quotes q z n
  closing_parts q [] n some e = absurd cc
  closing_parts q (b ∷ z) n some e = elim (either (b == q)) [
    | inl h ↦ let e' : second q z ≡ Some n = rw h at e in second_parts q b z n some h e'
    | inr h ↦
        let e' : plus 1 (closing q z) ≡ Some n = rw h at e in
        let (m, is, long) = plus_some 1 n (closing q z) e' in
        let ih = closing_parts q z m some is in
        let d = other_doubled q b ih.content h in
        record {
          content = b ∷ ih.content;
          rest = ih.rest;
          whole = ap (λ (x : Text). b ∷ x) ih.whole ∙ ap (λ (x : Text). x ++ q ∷ ih.rest) (sym d);
          len = omega (arith, long, ih.len, ap length d);
          stops = ih.stops;
        }
  ]

  second_parts : (q b : ℕ) (z : Text) (n : ℕ) → 0 < q → (b == q) ≡ true → second q z ≡ Some n → Quotes q (b ∷ z) n
  second_parts q b [] n some h e =
      let one : 1 ≡ n = cc in
      record { content = []; rest = []; whole = ap (λ (i : ℕ). i ∷ []) (same_byte b q h); len = omega arith; stops = λ p. absurd (omega (arith, p)) }
  second_parts q b (c ∷ z) n some h e = elim (either (c == q)) [
    | inl h' ↦
        let e' : plus 2 (closing q z) ≡ Some n = rw h' at e in
        let (m, is, long) = plus_some 2 n (closing q z) e' in
        let ih = closing_parts q z m some is in
        let d = quote_doubled q b ih.content h in
        let first = same_byte b q h in
        let next = same_byte c q h' in
        let front : b ∷ c ∷ z ≡ q ∷ q ∷ z = λ i. first i ∷ next i ∷ z in
        record {
          content = b ∷ ih.content;
          rest = ih.rest;
          whole = front ∙ ap (λ (x : Text). q ∷ q ∷ x) ih.whole ∙ ap (λ (x : Text). x ++ q ∷ ih.rest) (sym d);
          len = omega (arith, long, ih.len, ap length d);
          stops = ih.stops;
        }
    | inr h' ↦
        let e' : Some 1 ≡ Some n = rw h' at e in
        let one : 1 ≡ n = cc in
        record { content = []; rest = c ∷ z; whole = ap (λ (i : ℕ). i ∷ c ∷ z) (same_byte b q h); len = omega arith; stops = other_byte c q h' }
  ]

text_stands : (m : Bool) (y : Text) (n : ℕ) → closing 39 y ≡ Some n → Stands m k.Text (n + 1) (39 ∷ y)
text_stands m y n e =
    let found = closing_parts 39 y n (lit< tt) e in
    let long = length-append (doubled 39 found.content) (39 ∷ []) in
    let whole : 39 ∷ y ≡ (39 ∷ doubled 39 found.content ++ 39 ∷ []) ++ found.rest =
    ap (λ (x : Text). 39 ∷ x) (found.whole ∙ sym (append_assoc (doubled 39 found.content) (39 ∷ []) found.rest)) in
    stands_at m k.Text (39 ∷ doubled 39 found.content ++ 39 ∷ []) found.rest (39 ∷ y) (n + 1) whole (omega (arith, found.len)) (c.text found.content found.stops)

name_stands : (m : Bool) (y : Text) (n : ℕ) → closing 34 y ≡ Some n → Stands m k.QuotedName (n + 1) (34 ∷ y)
name_stands m y n e =
    let found = closing_parts 34 y n (lit< tt) e in
    let long = length-append (doubled 34 found.content) (34 ∷ []) in
    let whole : 34 ∷ y ≡ (34 ∷ doubled 34 found.content ++ 34 ∷ []) ++ found.rest =
    ap (λ (x : Text). 34 ∷ x) (found.whole ∙ sym (append_assoc (doubled 34 found.content) (34 ∷ []) found.rest)) in
    stands_at m k.QuotedName (34 ∷ doubled 34 found.content ++ 34 ∷ []) found.rest (34 ∷ y) (n + 1) whole (omega (arith, found.len)) (c.name found.content found.stops)

first_is : (q : ℕ) (z : Text) → 0 < q → next_byte z ≡ q → z ≡ q ∷ drop 1 z
first_is q [] some e = absurd (omega (arith, e))
first_is q (b ∷ z) some e = ap (λ (i : ℕ). i ∷ z) e

blob_test : (n : ℕ) (z : Text) → (n % 2 == 0 && next_byte z == 39) ≡ true → (n % 2 ≡ 0) × (next_byte z ≡ 39)
blob_test n z e = let i : ℕ = next_byte z in let j : ℕ = n % 2 in (grind (arith, nat_tests), grind (arith, nat_tests))

blob_stands : (m : Bool) (y : Text) (n : ℕ) → blob y ≡ Some n → Stands m k.Blob (n + 2) (88 ∷ 39 ∷ y)
unfolding blob
blob_stands m y n e =
    let j : ℕ = prefix_len (is_in class.Hex) y in
    elim (either (j % 2 == 0 && next_byte (drop j y) == 39)) [
      | inl h ↦
          let one : j + 1 ≡ n = let e' : Some (j + 1) ≡ Some n = rw h at e in cc in
          let (even, quote) = blob_test j (drop j y) h in
          let z : Text = take j y in
          let rest : Text = drop 1 (drop j y) in
          let long : length z ≡ j = length-take-le j y (prefix_len-le-length (is_in class.Hex) y) in
          let parts : y ≡ z ++ 39 ∷ rest = sym (take-append-drop j y) ∙ ap (λ (x : Text). take j y ++ x) (first_is 39 (drop j y) (lit< tt) quote) in
          let whole : 88 ∷ 39 ∷ y ≡ (88 ∷ 39 ∷ z ++ 39 ∷ []) ++ rest = ap (λ (x : Text). 88 ∷ 39 ∷ x) (parts ∙ sym (append_assoc z (39 ∷ []) rest)) in
          let all = length-append z (39 ∷ []) in
          stands_at m k.Blob (88 ∷ 39 ∷ z ++ 39 ∷ []) rest (88 ∷ 39 ∷ y) (n + 2) whole (omega arith)
          (c.blob z (run_every (is_in class.Hex) y) (ap (λ (i : ℕ). i % 2) long ∙ even))
      | inr h ↦ let e' : None ≡ Some n = rw h at e in absurd cc
    ]

-- ---- words and numbers

word_stands : (m : Bool) (b : ℕ) (y : Text) → begins_word b ≡ true → (b == 88 && next_byte y == 39) ≡ false → Stands m (word (b ∷ y)).0 (word (b ∷ y)).1 (b ∷ y)
unfolding word
word_stands m b y h x =
    let p = is_in class.Word in
    let j : ℕ = prefix_len p y in
    let first : p b ≡ true = grind (arith, nat_tests) in
    let is : prefix_len p (b ∷ y) ≡ suc j = rw first (omega arith) in
    let next : next_byte (take j y ++ next_byte (drop j y) ∷ []) ≡ next_byte y = next_same (take j y) (drop j y) _ refl ∙ ap next_byte (take-append-drop j y) in
    let x' : (b == 88 && next_byte (take j y ++ next_byte (drop j y) ∷ []) == 39) ≡ false = ap (λ (i : ℕ). b == 88 && i == 39) next ∙ x in
    let stands : Stands m (word_kind (reserved (b ∷ take j y))) (suc j) (b ∷ y) = record { spelled = c.word h (run_every p y) (run_stops p y refl) x' } in
    subst (λ (i : ℕ). Stands m (word_kind (reserved (take i (b ∷ y)))) i (b ∷ y)) (sym is) stands

real_none : (z : Text) → real_len z ≡ 0 → next_byte z ≢ 46
unfolding real_len fraction
real_none [] e p = absurd (omega (arith, p))
real_none (b ∷ z) e p =
    let t : (b == 46) ≡ true = grind (arith, nat_tests) in
    let e' = rw t at e in
    absurd (omega (arith, e'))

some_parts : (t u : Kind × ℕ) → Some t ≡ Some u → (t.0 ≡ u.0) × (t.1 ≡ u.1)
some_parts t u e = let same : t ≡ u = cc in (ap (λ (v : Kind × ℕ). v.0) same, ap (λ (v : Kind × ℕ). v.1) same)

ok_parts : (t u : Kind × ℕ) (r : Result (Kind × ℕ) Fault) → r ≡ Ok t → r ≡ Ok u → (t.0 ≡ u.0) × (t.1 ≡ u.1)
ok_parts t u r d e = let same : t ≡ u = cc in (ap (λ (v : Kind × ℕ). v.0) same, ap (λ (v : Kind × ℕ). v.1) same)

-- what a number that was read is
record Numbered (m : Bool) (z : Text) (whole real : ℕ) (kind : Kind) (n : ℕ) : Type 0 where
  stops : is_in class.Word (next_byte (drop (whole + real) z)) ≡ false
  no_real : real ≡ 0
  small : is_whole m (number_from 0 (take whole z)) ≡ true
  kind_is : k.Integer (number_from 0 (take whole z)) ≡ kind
  len_is : whole ≡ n

numbered : (start : ℕ) (m : Bool) (z : Text) (whole real : ℕ) (kind : Kind) (n : ℕ) → number_by start m z whole real ≡ Ok (kind, n) → Numbered m z whole real kind n
numbered start m z whole real kind n e = elim (either (is_in class.Word (next_byte (drop (whole + real) z)))) [
  | inl a ↦ let e' : Err (Syntax start) ≡ Ok (kind, n) = rw a at e in absurd cc
  | inr a ↦
      let e1 : (if real == 0 then whole_by m (number_from 0 (take whole z)) whole else Err RealRefused) ≡ Ok (kind, n) = rw a at e in
      elim (either (real == 0)) [
        | inl r ↦
            let e2 : whole_by m (number_from 0 (take whole z)) whole ≡ Ok (kind, n) = rw r at e1 in
            elim (either (is_whole m (number_from 0 (take whole z)))) [
              | inl w ↦
                  let e3 : Ok (k.Integer (number_from 0 (take whole z)), whole) ≡ Ok (kind, n) = rw w at e2 in
                  let parts = ok_parts (k.Integer (number_from 0 (take whole z)), whole) (kind, n) _ refl e3 in
                  record { stops = a; no_real = same_byte real 0 r; small = w; kind_is = parts.0; len_is = parts.1 }
              | inr w ↦ let e3 : Err RealRefused ≡ Ok (kind, n) = rw w at e2 in absurd cc
            ]
        | inr r ↦ let e2 : Err RealRefused ≡ Ok (kind, n) = rw r at e1 in absurd cc
      ]
]

number_stands : (m : Bool) (start b : ℕ) (y : Text) (kind : Kind) (n : ℕ) → is_in class.Digit b ≡ true → number start m (b ∷ y) ≡ Ok (kind, n) → Stands m kind n (b ∷ y)
unfolding number
number_stands m start b y kind n h e =
    let p = is_in class.Digit in
    let j : ℕ = prefix_len p y in
    let is : digits (b ∷ y) ≡ suc j = rw h (omega arith) in
    let e' : number_by start m (b ∷ y) (suc j) (real_len (drop (suc j) (b ∷ y))) ≡ Ok (kind, n) =
    subst (λ (i : ℕ). number_by start m (b ∷ y) i (real_len (drop i (b ∷ y))) ≡ Ok (kind, n)) is e in
    let found = numbered start m (b ∷ y) (suc j) (real_len (drop j y)) kind n e' in
    let at : suc j + real_len (drop j y) ≡ suc j = omega (arith, found.no_real) in
    let stops : is_in class.Word (next_byte (drop j y)) ≡ false = subst (λ (i : ℕ). is_in class.Word (next_byte (drop i (b ∷ y))) ≡ false) at found.stops in
    let stands : Stands m (k.Integer (number_from 0 (b ∷ take j y))) (suc j) (b ∷ y) =
    record { spelled = c.number h (run_every p y) stops (real_none (drop j y) found.no_real) found.small } in
    subst (λ (i : ℕ). Stands m kind i (b ∷ y)) found.len_is (subst (λ (x : Kind). Stands m x (suc j) (b ∷ y)) found.kind_is stands)

-- ---- marks

pair_end : (b : ℕ) → pair b 0 ≡ None
pair_end b = grind (arith, nat_tests)

shut_end : (b : ℕ) → (b == 47 && 0 == 42) ≡ false
shut_end b = grind (arith, nat_tests)

one_stands : (m : Bool) (b : ℕ) (y : Text) (kind : Kind) (n : ℕ) (o : Option Kind) → single b ≡ o → long 1 o ≡ Some (kind, n) → pair b (next_byte y) ≡ None
    → (b == 47 && next_byte y == 42) ≡ false → (b == 45 && next_byte y == 45) ≡ false → Stands m kind n (b ∷ y)
one_stands m b y kind n None is e none shut line = absurd cc
one_stands m b y kind n (Some found) is e none shut line =
    let (same, one) = some_parts (found, 1) (kind, n) e in
    let stands : Stands m found 1 (b ∷ y) = record { spelled = c.one is none shut line } in
    subst (λ (i : ℕ). Stands m kind i (b ∷ y)) one (subst (λ (x : Kind). Stands m x 1 (b ∷ y)) same stands)

pair_stands : (m : Bool) (b d : ℕ) (y : Text) (kind : Kind) (n : ℕ) (o : Option Kind) → pair b d ≡ o → or_else (long 2 o) (long 1 (single b)) ≡ Some (kind, n)
    → (b == 47 && d == 42) ≡ false → (b == 45 && d == 45) ≡ false → Stands m kind n (b ∷ d ∷ y)
pair_stands m b d y kind n None is e shut line = one_stands m b (d ∷ y) kind n (single b) refl e is shut line
pair_stands m b d y kind n (Some found) is e shut line =
    let (same, two) = some_parts (found, 2) (kind, n) e in
    let stands : Stands m found 2 (b ∷ d ∷ y) = record { spelled = c.two is } in
    subst (λ (i : ℕ). Stands m kind i (b ∷ d ∷ y)) two (subst (λ (x : Kind). Stands m x 2 (b ∷ d ∷ y)) same stands)

mark_stands : (m : Bool) (b : ℕ) (y : Text) (kind : Kind) (n : ℕ) → (b == 45 && next_byte y == 45) ≡ false → mark (b ∷ y) ≡ Some (kind, n) → Stands m kind n (b ∷ y)
unfolding mark
mark_stands m b [] kind n line e = one_stands m b [] kind n (single b) refl e (pair_end b) (shut_end b) line
mark_stands m b (d ∷ y) kind n line e = elim (either (b == 47 && d == 42)) [
  | inl o ↦ let e' : None ≡ Some (kind, n) = rw o at e in absurd cc
  | inr o ↦
      let e' : or_else (long 2 (pair b d)) (long 1 (single b)) ≡ Some (kind, n) = rw o at e in
      pair_stands m b d y kind n (pair b d) refl e' o line
]

-- ---- any token

quoted_stands : (m : Bool) (found kind : Kind) (i n : ℕ) (z : Text) (o : Option ℕ) → quoted found i o ≡ Some (kind, n)
    → ((j : ℕ) → o ≡ Some j → Stands m found (j + i) z) → Stands m kind n z
quoted_stands m found kind i n z None e by = absurd cc
quoted_stands m found kind i n z (Some j) e by =
    let (same, long) = some_parts (found, j + i) (kind, n) e in
    subst (λ (x : ℕ). Stands m kind x z) long (subst (λ (x : Kind). Stands m x (j + i) z) same (by j refl))

blob_opens : (b : ℕ) (y : Text) → (b == 88 && next_byte y == 39) ≡ true → b ∷ y ≡ 88 ∷ 39 ∷ drop 1 y
blob_opens b y e =
    let first : b ≡ 88 = grind (arith, nat_tests) in
    let rest = first_is 39 y (lit< tt) (both_hold b (next_byte y) 88 39 e) in
    λ i. first i ∷ rest i

other_stands : (m : Bool) (b : ℕ) (y : Text) (kind : Kind) (n : ℕ) → (b == 45 && next_byte y == 45) ≡ false → other (b ∷ y) ≡ Some (kind, n) → Stands m kind n (b ∷ y)
unfolding other
other_stands m b y kind n line e = elim (either (b == 88 && next_byte y == 39)) [
  | inl x ↦
      let e' : quoted k.Blob 2 (blob (drop 1 y)) ≡ Some (kind, n) = rw x at e in
      subst (λ (z : Text). Stands m kind n z) (sym (blob_opens b y x))
      (quoted_stands m k.Blob kind 2 n (88 ∷ 39 ∷ drop 1 y) (blob (drop 1 y)) e' (λ j h. blob_stands m (drop 1 y) j h))
  | inr x ↦
      let e1 : (if b == 39 then quoted k.Text 1 (closing 39 y) else (if b == 34 then quoted k.QuotedName 1 (closing 34 y)
      else (if begins_word b then Some (word (b ∷ y)) else mark (b ∷ y)))) ≡ Some (kind, n) = rw x at e in
      elim (either (b == 39)) [
        | inl a ↦
            let e2 : quoted k.Text 1 (closing 39 y) ≡ Some (kind, n) = rw a at e1 in
            subst (λ (i : ℕ). Stands m kind n (i ∷ y)) (sym (same_byte b 39 a))
            (quoted_stands m k.Text kind 1 n (39 ∷ y) (closing 39 y) e2 (λ j h. text_stands m y j h))
        | inr a ↦
            let e2 : (if b == 34 then quoted k.QuotedName 1 (closing 34 y) else (if begins_word b then Some (word (b ∷ y)) else mark (b ∷ y))) ≡ Some (kind, n) = rw a at e1 in
            elim (either (b == 34)) [
              | inl o ↦
                  let e3 : quoted k.QuotedName 1 (closing 34 y) ≡ Some (kind, n) = rw o at e2 in
                  subst (λ (i : ℕ). Stands m kind n (i ∷ y)) (sym (same_byte b 34 o))
                  (quoted_stands m k.QuotedName kind 1 n (34 ∷ y) (closing 34 y) e3 (λ j h. name_stands m y j h))
              | inr o ↦
                  let e3 : (if begins_word b then Some (word (b ∷ y)) else mark (b ∷ y)) ≡ Some (kind, n) = rw o at e2 in
                  elim (either (begins_word b)) [
                    | inl w ↦
                        let e4 : Some (word (b ∷ y)) ≡ Some (kind, n) = rw w at e3 in
                        let same : word (b ∷ y) ≡ (kind, n) = cc in
                        subst (λ (t : Kind × ℕ). Stands m t.0 t.1 (b ∷ y)) same (word_stands m b y w x)
                    | inr w ↦ let e4 : mark (b ∷ y) ≡ Some (kind, n) = rw w at e3 in mark_stands m b y kind n line e4
                  ]
            ]
      ]
]

found_some : (start : ℕ) (o : Option (Kind × ℕ)) (t : Kind × ℕ) → found_or start o ≡ Ok t → o ≡ Some t
found_some start None t e = absurd cc
found_some start (Some u) t e = cc

pub front_stands : (m : Bool) (start b : ℕ) (y : Text) (kind : Kind) (n : ℕ) → (b == 45 && next_byte y == 45) ≡ false → front start m (b ∷ y) ≡ Ok (kind, n)
    → Stands m kind n (b ∷ y)
unfolding front
front_stands m start b y kind n line e = elim (either (is_ascii_digit b)) [
  | inl h ↦ let e' : number start m (b ∷ y) ≡ Ok (kind, n) = rw h at e in number_stands m start b y kind n h e'
  | inr h ↦
      let e' : found_or start (other (b ∷ y)) ≡ Ok (kind, n) = rw h at e in
      other_stands m b y kind n line (found_some start (other (b ∷ y)) (kind, n) e')
]

minus_after : (b d : ℕ) (y : Text) → (b == 45 && d == 45) ≡ true → piece (b ∷ d ∷ y) ≢ 0
minus_after b d y e p =
    let first : b ≡ 45 = grind (arith, nat_tests) in
    let is : b ∷ d ∷ y ≡ 45 ∷ 45 ∷ y = let next = both_hold b d 45 45 e in λ i. first i ∷ next i ∷ y in
    let none : piece (45 ∷ 45 ∷ y) ≡ 0 = ap piece (sym is) ∙ p in
    absurd (omega (arith, piece_line y, none))

pub no_comment : (b : ℕ) (y : Text) → piece (b ∷ y) ≡ 0 → (b == 45 && next_byte y == 45) ≡ false
no_comment b [] p = grind (arith, nat_tests)
no_comment b (d ∷ y) p = elim (either (b == 45 && d == 45)) [ inl e ↦ absurd (minus_after b d y e p) | inr e ↦ e ]
