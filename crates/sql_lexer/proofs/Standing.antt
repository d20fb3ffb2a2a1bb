-- One more token.
use Rattle.std.proofs.Common.{◌≡◌, ℕ, zero, suc, get_or, ◌+◌, ◌-◌, ◌<◌, ◌≤◌, List, [], ◌∷◌, ◌++◌, length, take, drop, refl, ap, sym, ◌∙◌, subst, arith, length-drop, slice_range}
use Rattle.std.proofs.lemmas.List.{drop-drop, length-take-le}
use Rattle.sql_lexer.specs.declared.token.Token.{Token}
use Rattle.std.specs.Str.{IsUtf8, IsCharBoundary}
use Rattle.std.proofs.lemmas.Str.{IsCharBoundary-from_drop, IsCharBoundary-from_rest}
use Rattle.sql_lexer.specs.Spans.{Stand, IsPart, Ends, end_of, last_end}

pub last_more : (at : ℕ) (ts : List Token) (t : Token) → last_end at (ts ++ t ∷ []) ≡ end_of t
last_more at [] t = refl
last_more at (u ∷ us) t = last_more (end_of u) us t

stand_more : (at : ℕ) (z : List ℕ) (ts : List Token) (t : Token) → Stand at z ts → IsPart (last_end at ts) z t → end_of t ≤ length z → Stand at z (ts ++ t ∷ [])
stand_more at z [] t stand part le = (part, le)
stand_more at z (u ∷ us) t (first, more) part le = (first, stand_more (end_of u) z us t more part le)

-- a token at the front of what is left
pub stand_step : (z rest : List ℕ) (ts : List Token) (t : Token) (len : ℕ) → Stand 0 z ts → IsUtf8 rest → length rest ≤ length z
    → rest ≡ drop (length z - length rest) z → last_end 0 ts ≤ length z - length rest → Ends rest len
    → t.start ≡ length z - length rest → t.text.now ≡ take len rest → (Stand 0 z (ts ++ t ∷ [])) × (end_of t ≡ (length z - length rest) + len)
stand_step z rest ts t len stand utf8 within end after (some, le, cut) start text =
    let at : ℕ = length z - length rest in
    let long : length t.text.now ≡ len = ap length text ∙ length-take-le len rest le in
    let ends : end_of t ≡ at + len = omega arith in
    let n : end_of t - t.start ≡ len = omega arith in
    let part : t.text.now ≡ slice_range z t.start (end_of t) =
    text ∙ ap (take len) end ∙ ap (λ (i : ℕ). take len (drop i z)) (sym start) ∙ ap (λ (i : ℕ). take i (drop t.start z)) (sym n) in
    let begins : IsCharBoundary z at = IsCharBoundary-from_drop z at (omega arith) (subst IsUtf8 end utf8) in
    let stops : IsCharBoundary z (at + len) = IsCharBoundary-from_rest z at len (omega arith) (subst (λ (y : List ℕ). IsCharBoundary y len) end (cut utf8)) in (
      stand_more 0 z ts t stand
          (omega arith, omega arith, part, subst (IsCharBoundary z) (sym start) begins, subst (IsCharBoundary z) (sym ends) stops) (omega arith),
      ends,
    )

-- what is left of what was left
pub end_step : (z rest r : List ℕ) (len : ℕ) → length rest ≤ length z → rest ≡ drop (length z - length rest) z → len ≤ length rest
    → length r ≤ length (drop len rest) → r ≡ drop (length (drop len rest) - length r) (drop len rest) → r ≡ drop (length z - length r) z
end_step z rest r len within end le below is =
    let long = length-drop len rest in
    let n : (length z - length rest) + len + (length (drop len rest) - length r) ≡ length z - length r = omega arith in
    is ∙ ap (λ (y : List ℕ). drop (length (drop len rest) - length r) (drop len y)) end
    ∙ ap (drop (length (drop len rest) - length r)) (drop-drop len (length z - length rest) z) ∙ drop-drop _ _ z ∙ ap (λ (i : ℕ). drop i z) n

-- the tokens with those after them
pub stands_on : (at : ℕ) (z : List ℕ) (ts : List Token) → Stand at z ts → at ≤ length z
stands_on at z [] le = le
stands_on at z (t ∷ ts) (part, more) = omega (arith, stands_on (end_of t) z ts more)

-- each token of a text, by its place
pub token_is_part : (at : ℕ) (z : List ℕ) (ts : List Token) (i : ℕ) (d : Token) → Stand at z ts → i < length ts
    → IsPart at z (get_or ts i d) × (end_of (get_or ts i d) ≤ length z)
token_is_part at z [] i d stand lt = absurd (omega (arith, lt))
token_is_part at z (t ∷ ts) zero d (part, more) lt = (part, stands_on (end_of t) z ts more)
token_is_part at z (t ∷ ts) (suc i) d (part, more) lt =
    let ih = token_is_part (end_of t) z ts i d more (omega (arith, lt)) in
    ((omega arith, ih.0.1, ih.0.2, ih.0.3, ih.0.4), ih.1)
