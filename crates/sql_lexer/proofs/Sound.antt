-- What is read is cut so.
use Rattle.std.proofs.Common.{◌≡◌, ℕ, zero, suc, ◌+◌, ◌-◌, ◌<◌, ◌≤◌, Bool, false, List, [], ◌∷◌, ◌++◌, Result, Ok, Err, refl, ap, sym, subst, ◌∙◌, length, take, drop, arith, length-append, inl, inr}
use Rattle.std.proofs.lemmas.List.{append-nil, take-append-drop, nil_from_length}
use Rattle.std.specs.Prelude.{IfOk}
use Rattle.std.proofs.lemmas.Bool.{cases_lt}
use Rattle.sqlval.specs.Gives.{Gives}
use Rattle.sqlval.specs.declared.fault.Fault.{Fault}
use Rattle.sqlval.specs.declared.fault.Fault.TheVariants.{TooLong}
use Rattle.sql_lexer.specs.declared.token.Kind.{Kind}
use Rattle.sql_lexer.specs.Cut as c
use Rattle.sql_lexer.specs.Cut.{IsGap, Cuts}
use Rattle.sql_lexer.specs.Lex.{Text, Lexed, piece, gap, is_minus, onto, front, cut_by, tokens_from, tokens}
use Rattle.sql_lexer.proofs.Gaps.{gap_done}
use Rattle.sql_lexer.proofs.Parted.{Parted, parted, in_comment, part}
use Rattle.sql_lexer.proofs.Stands.{front_stands, no_comment}
use Rattle.sql_lexer.proofs.Turns.{turn, ends, whole}
use Rattle.sql_lexer.proofs.Whole.{gap_none, some_spelled}

by_rest : (u : Lexed) (q : Result (List Lexed) Fault) (ts : List Lexed) → onto u q ≡ Ok ts → (us : List Lexed) × (q ≡ Ok us) × (u ∷ us ≡ ts)
by_rest u (Err f) ts h = absurd cc
by_rest u (Ok us) ts h = let e : u ∷ us ≡ ts = cc in (us, refl, e)

-- what the rest of the turns finds
abbrev GoesOn : ℕ → ℕ → Type 0
GoesOn k total = (at : ℕ) (m : Bool) (y : Text) (us : List Lexed) → at + length y ≡ total → length y ≤ k → tokens_from k total m (gap y) ≡ Ok us → Cuts at m y us

by_read : (k total at : ℕ) (m : Bool) (g : Text) (b : ℕ) (w : Text) (ts : List Lexed) (r : Result (Kind × ℕ) Fault) → IsGap g
    → at + length g + length (b ∷ w) ≡ total → length (b ∷ w) ≤ suc k → piece (b ∷ w) ≡ 0 → front (total - length (b ∷ w)) m (b ∷ w) ≡ r
    → cut_by (tokens_from k total) (total - length (b ∷ w)) (b ∷ w) r ≡ Ok ts → GoesOn k total → Cuts at m (g ++ b ∷ w) ts
by_read k total at m g b w ts (Err f) d e le p is h go = absurd cc
by_read k total at m g b w ts (Ok (kind, n)) d e le p is h go =
    let z : Text = b ∷ w in
    let start : total - length z ≡ at + length g = omega arith in
    let spelled = (front_stands m (total - length z) b w kind n (no_comment b w p) is).spelled in
    let some = some_spelled spelled in
    let parts : take n z ++ drop n z ≡ z = take-append-drop n z in
    let long = length-append (take n z) (drop n z) in
    let all : length (take n z ++ drop n z) ≡ length z = ap length parts in
    let (us, rest, found) = by_rest (record { kind = kind; text = take n z; start = total - length z }) _ ts h in
    let more = go (at + length g + length (take n z)) (is_minus kind) (drop n z) us (omega arith) (omega arith) rest in
    let cuts : Cuts at m (g ++ (take n z ++ drop n z)) (record { kind = kind; text = take n z; start = at + length g } ∷ us) = c.cut d spelled more in
    let same : Cuts at m (g ++ (take n z ++ drop n z)) ts =
    subst (Cuts at m (g ++ (take n z ++ drop n z))) (ap (λ (i : ℕ). record { kind = kind; text = take n z; start = i } ∷ us) (sym start) ∙ found) cuts in
    subst (λ (x : Text). Cuts at m (g ++ x) ts) parts same

by_gap : (k total at : ℕ) (m : Bool) (g z : Text) (ts : List Lexed) → IsGap g → at + length g + length z ≡ total → length z ≤ suc k → piece z ≡ 0
    → tokens_from (suc k) total m z ≡ Ok ts → GoesOn k total → Cuts at m (g ++ z) ts
by_gap k total at m g [] ts d e le p h go =
    let none : [] ≡ ts = let h' = ends (suc k) total m [] refl in cc in
    subst (Cuts at m (g ++ [])) none (subst (λ (x : Text). Cuts at m x []) (sym (append-nil g)) (c.done d))
by_gap k total at m g (b ∷ w) ts d e le p h go =
    let r = front (total - length (b ∷ w)) m (b ∷ w) in
    by_read k total at m g b w ts r d e le p refl (sym (turn k total m (b ∷ w) r (omega arith) refl) ∙ h) go

by_part : (k total at : ℕ) (m : Bool) (y : Text) (ts : List Lexed) → at + length y ≡ total → length y ≤ suc k → tokens_from (suc k) total m (gap y) ≡ Ok ts
    → GoesOn k total → Parted y → Cuts at m y ts
by_part k total at m y ts e le h go (parted g d is) =
    let long = length-append g (gap y) in
    let same : length y ≡ length (g ++ gap y) = ap length is in
    subst (λ (x : Text). Cuts at m x ts) (sym is) (by_gap k total at m g (gap y) ts d (omega arith) (omega arith) (gap_done y) h go)
by_part k total at m y ts e le h go (in_comment g z d all is none) =
    let nothing : [] ≡ ts = let h' = ap (tokens_from (suc k) total m) none ∙ ends (suc k) total m [] refl in cc in
    subst (Cuts at m y) nothing (subst (λ (x : Text). Cuts at m x []) (sym is) (c.ends_in_comment z d all))

sound : (n total at : ℕ) (m : Bool) (y : Text) (ts : List Lexed) → at + length y ≡ total → length y ≤ n → tokens_from n total m (gap y) ≡ Ok ts → Cuts at m y ts
sound zero total at m y ts e le h =
    let nil : y ≡ [] = nil_from_length y (omega arith) in
    let none : gap y ≡ [] = ap gap nil ∙ gap_none in
    let nothing : [] ≡ ts = let h' = ap (tokens_from zero total m) none ∙ ends zero total m [] refl in cc in
    subst (Cuts at m y) nothing (subst (λ (x : Text). Cuts at m x []) (sym nil) (c.done c.nothing))
sound (suc k) total at m y ts e le h = by_part k total at m y ts e le h (λ at' m' y' us e' le' h'. sound k total at' m' y' us e' le' h') (part (length y) y (omega arith))

-- what is read is cut so
pub cuts : (z : Text) (ts : List Lexed) → length z ≤ 65536 → tokens z ≡ Ok ts → Cuts 0 false z ts
cuts z ts le e = sound (length z) (length z) 0 false z ts (omega arith) (omega arith) (sym (whole z le) ∙ e)

pub is_cut : {X : Type 0} (view : X → List Lexed) (z : Text) (r : Result X Fault) → Gives view r (tokens z) → (65536 < length z → r ≡ Err TooLong)
    → IfOk r (λ x. Cuts 0 false z (view x))
is_cut view z (Ok x) given long = elim (cases_lt 65536 (length z)) [ inl lt ↦ absurd (let e = long lt in cc) | inr le ↦ cuts z (view x) le given ]
is_cut view z (Err f) given long = tt
