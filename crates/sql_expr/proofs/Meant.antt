-- Each token of the lexer means one piece.
use Rattle.std.proofs.Common.{◌≡◌, ◌≢◌, ℕ, zero, suc, ◌<◌, get_or, Bool, true, false, cond, eqb, List, [], ◌∷◌, ◌++◌, length, Option, Some, None, refl, sym, ap, subst, ◌∙◌, arith}
use Rattle.std.specs.Prelude.{◌==◌, ◌&&◌, ◌||◌}
use Rattle.std.specs.List.{AllPass}
use Rattle.std.proofs.lemmas.Bool.{eqb-true, eq-eqb, ne_eqb}
use Rattle.std.proofs.lemmas.Bool.Decides.{nat_tests}
use Rattle.hex.specs.Hex.{decode_of, is_hex_digit}
use Rattle.hex.proofs.HexLemmas.{decode_of-digits}
use Rattle.sql_lexer.specs.Bytes.{begins_word, is_in}
use Rattle.sql_lexer.specs.Cut as cut
use Rattle.sql_lexer.specs.Cut.{doubled, Every, Spells}
use Rattle.sql_lexer.specs.Lex.{next_byte, word_kind, reserved, pair, single}
use Rattle.sql_lexer.specs.declared.class.Class.TheVariants as class
use Rattle.sql_lexer.specs.declared.keyword.Keyword.{Keyword}
use Rattle.sql_lexer.specs.declared.token.Kind.{Kind}
use Rattle.sql_lexer.specs.declared.token.Kind.TheVariants as t
use Rattle.sql_expr.specs.Meaning.{Means, plain_name, quoted_name, text, blob, plain}
use Rattle.sql_expr.specs.Symbols.{Symbol, Plain, Name, Text, Blob, meant, is_plain}
use Rattle.sql_expr.specs.Spelling.{between_quotes, undoubled, name_by, name_spelled, or_whole, text_spelled, blob_digits, or_nothing, blob_spelled}
use Rattle.sql_expr.proofs.Quotes.{before_last_some, between_some}

doubled_step : (q b : ℕ) (z : List ℕ) → undoubled q (doubled q z) ≡ z → undoubled q (doubled q (b ∷ z)) ≡ b ∷ z
unfolding undoubled
doubled_step q b z h = by_test (eqb b q) refl
  where
    by_test : (t : Bool) → eqb b q ≡ t → undoubled q (cond (eqb b q) (q ∷ q ∷ doubled q z) (b ∷ doubled q z)) ≡ b ∷ z
    by_test true e = let k : q ≡ b = sym (eqb-true b q e) in let r = eq-eqb q q refl in rw (e, r) (λ i. k i ∷ h i)
    by_test false e = rw (e, e) (ap (λ (y : List ℕ). b ∷ y) h)

pub undoubled_doubled : (q : ℕ) (z : List ℕ) → undoubled q (doubled q z) ≡ z
unfolding undoubled
undoubled_doubled q [] = refl
undoubled_doubled q (b ∷ z) = doubled_step q b z (undoubled_doubled q z)

quoted : (q : ℕ) (z : List ℕ) → between_quotes q (q ∷ z ++ q ∷ []) ≡ Some z
quoted q z = between_some q (z ++ q ∷ []) ∙ before_last_some q z

not_quote : (q : ℕ) (z : List ℕ) → next_byte z ≢ q → between_quotes q z ≡ None
unfolding between_quotes
not_quote q [] h = refl
not_quote q (b ∷ z) h = rw (ne_eqb b q h) refl

name_plain : (z : List ℕ) → next_byte z ≢ 34 → name_spelled z ≡ z
unfolding name_spelled
name_plain z h = ap (name_by z) (not_quote 34 z h)

name_quoted : (z : List ℕ) → name_spelled (34 ∷ doubled 34 z ++ 34 ∷ []) ≡ z
unfolding name_spelled
name_quoted z = ap (name_by (34 ∷ doubled 34 z ++ 34 ∷ [])) (quoted 34 (doubled 34 z)) ∙ undoubled_doubled 34 z

text_quoted : (z : List ℕ) → text_spelled (39 ∷ doubled 39 z ++ 39 ∷ []) ≡ z
unfolding text_spelled
text_quoted z = ap (λ (o : Option (List ℕ)). undoubled 39 (or_whole (39 ∷ doubled 39 z ++ 39 ∷ []) o)) (quoted 39 (doubled 39 z)) ∙ undoubled_doubled 39 z

blob_quoted : (z : List ℕ) → blob_spelled (88 ∷ 39 ∷ z ++ 39 ∷ []) ≡ or_nothing (decode_of z)
unfolding blob_spelled blob_digits
blob_quoted z = ap (λ (o : Option (List ℕ)). or_nothing (decode_of (or_whole [] o))) (quoted 39 z)

pub meant_plain : (kind : Kind) (z : List ℕ) → is_plain kind ≡ true → meant kind z ≡ Plain kind
meant_plain t.Name z h = absurd cc
meant_plain t.QuotedName z h = absurd cc
meant_plain t.Text z h = absurd cc
meant_plain t.Blob z h = absurd cc
meant_plain _ z h = refl

-- what a token means is what it is taken for
pub means_one : {kind : Kind} {z : List ℕ} {p : Symbol} → Means kind z p → p ≡ meant kind z
means_one (plain_name {z = z} h) = ap Name (sym (name_plain z h))
means_one (quoted_name z) = ap Name (sym (name_quoted z))
means_one (text z) = ap Text (sym (text_quoted z))
means_one (blob z {bytes = bytes} h) = ap Blob (sym (blob_quoted z ∙ ap or_nothing h))
means_one (plain {kind = kind} {z = z} h) = sym (meant_plain kind z h)

-- ---- each token of the lexer means something

abbrev in_plain : Option Kind → Bool
in_plain None = true
in_plain (Some kind) = is_plain kind

record IsPlainIn (o : Option Kind) : Type 0 where
  pub holds : in_plain o ≡ true

if_plain : (b : Bool) (x y : Option Kind) → IsPlainIn x → IsPlainIn y → IsPlainIn (cond b x y)
if_plain true x y h k = h
if_plain false x y h k = k

found_plain : (o : Option Kind) (kind : Kind) → IsPlainIn o → o ≡ Some kind → is_plain kind ≡ true
found_plain None kind h e = absurd cc
found_plain (Some s) kind h e = subst (λ (x : Kind). is_plain x ≡ true) (some_is s kind e) h.holds
  where
    some_is : (s kind : Kind) → Some s ≡ Some kind → s ≡ kind
    some_is s kind e = cc

no_mark : IsPlainIn None
no_mark = record { holds = refl }

or_mark : {y : Option Kind} (b : Bool) (kind : Kind) → is_plain kind ≡ true → IsPlainIn y → IsPlainIn (cond b (Some kind) y)
or_mark {y} b kind h k = if_plain b (Some kind) y (record { holds = h }) k

pair_plain : (b c : ℕ) → IsPlainIn (pair b c)
pair_plain b c =
    or_mark (b == 124 && c == 124) t.Bars refl
    (or_mark (b == 61 && c == 61) t.DoubleEqual refl
    (or_mark ((b == 60 && c == 62) || (b == 33 && c == 61)) t.NotEqual refl
    (or_mark (b == 60 && c == 61) t.LessOrEqual refl
    (or_mark (b == 62 && c == 61) t.GreaterOrEqual refl no_mark))))

single_plain : (b : ℕ) → IsPlainIn (single b)
single_plain b =
    or_mark (b == 46) t.Dot refl
    (or_mark (b == 44) t.Comma refl
    (or_mark (b == 59) t.Semicolon refl
    (or_mark (b == 40) t.LeftParen refl
    (or_mark (b == 41) t.RightParen refl
    (or_mark (b == 42) t.Star refl
    (or_mark (b == 43) t.Plus refl
    (or_mark (b == 45) t.Minus refl
    (or_mark (b == 47) t.Slash refl
    (or_mark (b == 37) t.Percent refl
    (or_mark (b == 61) t.Equal refl
    (or_mark (b == 60) t.Less refl
    (or_mark (b == 62) t.Greater refl no_mark))))))))))))

word_first : (b : ℕ) → begins_word b ≡ true → b ≢ 34
word_first b h e = absurd (bad (sym (ap begins_word e) ∙ h))
  where
    bad : begins_word 34 ≡ true → ⊥
    bad k = absurd cc

word_means : (o : Option Keyword) (b : ℕ) (z : List ℕ) → begins_word b ≡ true → Means (word_kind o) (b ∷ z) (meant (word_kind o) (b ∷ z))
word_means None b z h = subst (Means t.Name (b ∷ z)) (ap Name (sym (name_plain (b ∷ z) (word_first b h)))) (plain_name (word_first b h))
word_means (Some v) b z h = plain refl

hex_digit : (b : ℕ) → is_in class.Hex b ≡ true → is_hex_digit b ≡ true
hex_digit b h = grind (arith, nat_tests)

hex_digits : (z : List ℕ) → Every (is_in class.Hex) z → AllPass is_hex_digit z
hex_digits [] h = λ k d below. absurd (omega arith)
hex_digits (b ∷ z) h = λ k d below. at_place (hex_digits z h.1) k d below
  where
    at_place : AllPass is_hex_digit z → (k d : ℕ) → k < length (b ∷ z) → is_hex_digit (get_or (b ∷ z) k d) ≡ true
    at_place later zero d below = hex_digit b h.0
    at_place later (suc k) d below = later k d (omega arith)

plain_means : (kind : Kind) (z : List ℕ) → is_plain kind ≡ true → Means kind z (meant kind z)
plain_means kind z h = subst (Means kind z) (sym (meant_plain kind z h)) (plain h)

pub means_meant : {m : Bool} {kind : Kind} {z : List ℕ} {next : ℕ} → Spells m kind z next → Means kind z (meant kind z)
means_meant (cut.word {b = b} {z = z} h e n x) = word_means (reserved (b ∷ z)) b z h
means_meant (cut.number h e n x y) = plain refl
means_meant (cut.text z n) = subst (Means t.Text (39 ∷ doubled 39 z ++ 39 ∷ [])) (ap Text (sym (text_quoted z))) (text z)
means_meant (cut.name z n) = subst (Means t.QuotedName (34 ∷ doubled 34 z ++ 34 ∷ [])) (ap Name (sym (name_quoted z))) (quoted_name z)
means_meant (cut.blob z h e) =
    let d = decode_of-digits z e (hex_digits z h) in
    subst (Means t.Blob (88 ∷ 39 ∷ z ++ 39 ∷ [])) (ap Blob (sym (blob_quoted z ∙ ap or_nothing d.1))) (blob z d.1)
means_meant (cut.two {b = b} {c = c} {kind = kind} e) = plain_means kind (b ∷ c ∷ []) (found_plain (pair b c) kind (pair_plain b c) e)
means_meant (cut.one {b = b} {kind = kind} e n x y) = plain_means kind (b ∷ []) (found_plain (single b) kind (single_plain b) e)
