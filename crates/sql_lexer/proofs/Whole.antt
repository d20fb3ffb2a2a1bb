-- A text that is cut into these tokens is read as these.
use Rattle.std.proofs.Common.{◌≡◌, ℕ, ◌+◌, ◌-◌, ◌<◌, ◌≤◌, Bool, true, false, ◌&&◌, ◌==◌, List, [], ◌∷◌, ◌++◌, Some, Ok, refl, ap, sym, ◌∙◌, length, take, drop, arith, append_assoc, length-append}
use Rattle.std.specs.Char.{is_ascii_digit}
use Rattle.std.proofs.lemmas.Bool.Decides.{nat_tests}
use Rattle.std.proofs.lemmas.List.{append-nil, take_at, drop_at}
use Rattle.sql_lexer.specs.Bytes.{is_space, begins_word}
use Rattle.sql_lexer.specs.declared.token.Kind.{Kind}
use Rattle.sql_lexer.specs.Cut as c
use Rattle.sql_lexer.specs.Cut.{Every, not_line, IsComment, IsGap, Spells, Cuts}
use Rattle.sql_lexer.specs.Lex.{Text, Lexed, next_byte, line, comment, piece, gap, gap_from, pair, single, tokens_from, tokens}
use Rattle.sql_lexer.proofs.Gaps.{gap_stops, gap_goes}
use Rattle.sql_lexer.proofs.Turns.{step, ends, whole}
use Rattle.sql_lexer.proofs.Spelled.{front_is, run_ends}

pub piece_space : (b : ℕ) (z : Text) → is_space b ≡ true → piece (b ∷ z) ≡ 1
unfolding piece
piece_space b [] h = rw h refl
piece_space b (d ∷ z) h = rw h refl

pub piece_none : (b : ℕ) (z : Text) → is_space b ≡ false → (b == 45 && next_byte z == 45) ≡ false → (b == 47 && next_byte z == 42) ≡ false → piece (b ∷ z) ≡ 0
unfolding piece
piece_none b [] s l o = rw s refl
piece_none b (d ∷ z) s l o = rw (s, l, o) refl

pub piece_line : (z : Text) → piece (45 ∷ 45 ∷ z) ≡ line z + 2
unfolding piece
piece_line z = refl

pub piece_block : (z : Text) (n : ℕ) → comment z ≡ Some n → piece (47 ∷ 42 ∷ z) ≡ n + 2
unfolding piece
piece_block z n e = rw e refl

line_is : (z rest : Text) → Every not_line z → line (z ++ 10 ∷ rest) ≡ length z
line_is z rest e = run_ends not_line z (10 ∷ rest) e refl

line_all : (z : Text) → Every not_line z → line z ≡ length z
line_all [] e = refl
line_all (b ∷ z) e = let h = e.0 in let ih = line_all z e.1 in rw (h, ih) (omega arith)

pub same_front : (z rest : Text) → IsComment z → next_byte (z ++ rest) ≡ next_byte z
same_front z rest c.closes = refl
same_front z rest (c.goes e d) = refl

comment_is : {z : Text} → IsComment z → (rest : Text) → comment (z ++ rest) ≡ Some (length z)
unfolding comment
comment_is c.closes rest = refl
comment_is (c.goes {b = b} {z = z} e d) rest =
    let n = same_front z rest d in
    let ih = comment_is d rest in
    rw (n, e, ih) (ap (λ (k : ℕ). Some k) (omega arith))

pub gap_piece : (z rest : Text) (n : ℕ) → piece z ≡ n → 0 < n → drop n z ≡ rest → gap z ≡ gap rest
gap_piece z rest n e some d = sym (gap_goes z (λ p. absurd (omega (arith, e, p)))) ∙ ap (λ (k : ℕ). gap (drop k z)) e ∙ ap gap d

pub gap_over : {g : Text} → IsGap g → (rest : Text) → gap (g ++ rest) ≡ gap rest
gap_over c.nothing rest = refl
gap_over (c.space {b = b} {g = g} h d) rest = gap_piece (b ∷ (g ++ rest)) (g ++ rest) 1 (piece_space b (g ++ rest) h) (omega arith) refl ∙ gap_over d rest
gap_over (c.line {g = g} z e d) rest =
    let all : (z ++ 10 ∷ g) ++ rest ≡ z ++ 10 ∷ (g ++ rest) = append_assoc z (10 ∷ g) rest in
    let n : piece (45 ∷ 45 ∷ (z ++ 10 ∷ (g ++ rest))) ≡ length z + 2 = piece_line (z ++ 10 ∷ (g ++ rest)) ∙ ap (λ (k : ℕ). k + 2) (line_is z (g ++ rest) e) in
    let after : drop (length z + 2) (45 ∷ 45 ∷ (z ++ 10 ∷ (g ++ rest))) ≡ 10 ∷ (g ++ rest) = drop_at (45 ∷ 45 ∷ z) (10 ∷ (g ++ rest)) (length z + 2) (omega arith) in
    ap (λ (y : Text). gap (45 ∷ 45 ∷ y)) all ∙ gap_piece _ _ (length z + 2) n (omega arith) after
    ∙ gap_piece (10 ∷ (g ++ rest)) (g ++ rest) 1 (piece_space 10 (g ++ rest) refl) (omega arith) refl ∙ gap_over d rest
gap_over (c.block {g = g} z e d) rest =
    let all : (z ++ g) ++ rest ≡ z ++ (g ++ rest) = append_assoc z g rest in
    let n : piece (47 ∷ 42 ∷ (z ++ (g ++ rest))) ≡ length z + 2 = piece_block (z ++ (g ++ rest)) (length z) (comment_is e (g ++ rest)) in
    let after : drop (length z + 2) (47 ∷ 42 ∷ (z ++ (g ++ rest))) ≡ g ++ rest = drop_at (47 ∷ 42 ∷ z) (g ++ rest) (length z + 2) (omega arith) in
    ap (λ (y : Text). gap (47 ∷ 42 ∷ y)) all ∙ gap_piece _ _ (length z + 2) n (omega arith) after ∙ gap_over d rest

pub gap_none : gap [] ≡ []
unfolding gap_from
gap_none = refl

pub gap_last : (z : Text) → Every not_line z → gap (45 ∷ 45 ∷ z) ≡ []
gap_last z e =
    let n : piece (45 ∷ 45 ∷ z) ≡ length z + 2 = piece_line z ∙ ap (λ (k : ℕ). k + 2) (line_all z e) in
    let all : (45 ∷ 45 ∷ z) ++ [] ≡ 45 ∷ 45 ∷ z = append-nil (45 ∷ 45 ∷ z) in
    let after : drop (length z + 2) (45 ∷ 45 ∷ z) ≡ [] = ap (drop (length z + 2)) (sym all) ∙ drop_at (45 ∷ 45 ∷ z) [] (length z + 2) (omega arith) in
    gap_piece (45 ∷ 45 ∷ z) [] (length z + 2) n (omega arith) after ∙ gap_none

-- a byte that begins no space or comment
abbrev Stops : ℕ → Type 0
Stops b = (is_space b ≡ false) × ((b == 45) ≡ false) × ((b == 47) ≡ false)

stops_piece : (b : ℕ) (z : Text) → Stops b → piece (b ∷ z) ≡ 0
stops_piece b z (s, l, o) = piece_none b z s (rw l refl) (rw o refl)

word_stops : (b : ℕ) → begins_word b ≡ true → Stops b
word_stops b e = (grind (arith, nat_tests), grind (arith, nat_tests), grind (arith, nat_tests))

digit_stops : (b : ℕ) → is_ascii_digit b ≡ true → Stops b
digit_stops b e = (grind (arith, nat_tests), grind (arith, nat_tests), grind (arith, nat_tests))

pair_stops : (b d : ℕ) (kind : Kind) → pair b d ≡ Some kind → Stops b
pair_stops b d kind e = (grind (arith, nat_tests), grind (arith, nat_tests), grind (arith, nat_tests))

single_no_space : (b : ℕ) (kind : Kind) → single b ≡ Some kind → is_space b ≡ false
single_no_space b kind e = grind (arith, nat_tests)

piece_stops : {m : Bool} {kind : Kind} {s : Text} {next : ℕ} → Spells m kind s next → (rest : Text) → next ≡ next_byte rest → piece (s ++ rest) ≡ 0
piece_stops (c.word {b = b} {z = z} h e q x) rest is = stops_piece b (z ++ rest) (word_stops b h)
piece_stops (c.number {b = b} {z = z} h e q ne w) rest is = stops_piece b (z ++ rest) (digit_stops b h)
piece_stops (c.text z ne) rest is = stops_piece 39 _ (refl, refl, refl)
piece_stops (c.name z ne) rest is = stops_piece 34 _ (refl, refl, refl)
piece_stops (c.blob z e even) rest is = stops_piece 88 _ (refl, refl, refl)
piece_stops (c.two {b = b} {c = d} {kind = kind} e) rest is = stops_piece b (d ∷ rest) (pair_stops b d kind e)
piece_stops (c.one {b = b} {next = next} {kind = kind} e none shut line) rest is =
    piece_none b rest (single_no_space b kind e) (ap (λ (i : ℕ). b == 45 && i == 45) (sym is) ∙ line) (ap (λ (i : ℕ). b == 47 && i == 42) (sym is) ∙ shut)

pub some_spelled : {m : Bool} {kind : Kind} {s : Text} {next : ℕ} → Spells m kind s next → 0 < length s
some_spelled (c.word h e q x) = omega arith
some_spelled (c.number h e q ne w) = omega arith
some_spelled (c.text z ne) = omega arith
some_spelled (c.name z ne) = omega arith
some_spelled (c.blob z e even) = omega arith
some_spelled (c.two e) = omega arith
some_spelled (c.one e none shut line) = omega arith

read_cuts : {at : ℕ} {m : Bool} {z : Text} {ts : List Lexed} → Cuts at m z ts → (n total : ℕ) → at + length z ≡ total → length z ≤ n → tokens_from n total m (gap z) ≡ Ok ts
read_cuts (c.done {m = m} {g = g} d) n total e le =
    ap (tokens_from n total m) (ap gap (sym (append-nil g)) ∙ gap_over d [] ∙ gap_none) ∙ ends n total m [] refl
read_cuts (c.ends_in_comment {m = m} {g = g} z d e1) n total e le =
    ap (tokens_from n total m) (gap_over d (45 ∷ 45 ∷ z) ∙ gap_last z e1) ∙ ends n total m [] refl
read_cuts (c.cut {at = at} {m = m} {g = g} {s = s} {rest = rest} {kind = kind} {ts = ts} d sp more) n total e le =
    let lg = length-append g (s ++ rest) in
    let ls = length-append s rest in
    let pos = some_spelled sp in
    let stops : gap (g ++ (s ++ rest)) ≡ s ++ rest = gap_over d (s ++ rest) ∙ gap_stops (s ++ rest) (piece_stops sp rest refl) in
    let ih = read_cuts more (n - 1) total (omega arith) (omega arith) in
    let place : total - length (s ++ rest) ≡ at + length g = omega arith in
    let turn = step n total m (s ++ rest) kind (length s) (omega arith) (omega arith) (front_is sp rest (total - length (s ++ rest)) refl) in
    let text : take (length s) (s ++ rest) ≡ s = take_at s rest (length s) refl in
    let after : drop (length s) (s ++ rest) ≡ rest = drop_at s rest (length s) refl in
    ap (tokens_from n total m) stops ∙ turn ∙ rw (text, place, after, ih) refl

-- what is cut into these tokens is read as these
pub again : (z : Text) (ts : List Lexed) → length z ≤ 65536 → Cuts 0 false z ts → tokens z ≡ Ok ts
again z ts le d = whole z le ∙ read_cuts d (length z) (length z) (omega arith) (omega arith)

-- a text is cut in one way at most
pub one_way : (z : Text) (us vs : List Lexed) → Cuts 0 false z us → Cuts 0 false z vs → us ≡ vs
one_way z us vs d f =
    let e : tokens_from (length z) (length z) false (gap z) ≡ Ok us = read_cuts d (length z) (length z) (omega arith) (omega arith) in
    let h : tokens_from (length z) (length z) false (gap z) ≡ Ok vs = read_cuts f (length z) (length z) (omega arith) (omega arith) in
    cc
