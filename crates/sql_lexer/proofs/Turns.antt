-- One more token is read.
use Rattle.std.proofs.Common.{◌≡◌, ℕ, suc, ◌+◌, ◌-◌, ◌<◌, ◌≤◌, Bool, false, nat_lt, List, [], ◌∷◌, ◌++◌, length, take, drop, Result, Ok, Err, refl, ap, sym, ◌∙◌, append_assoc, arith}
use Rattle.std.proofs.lemmas.List.{append-nil}
use Rattle.std.proofs.lemmas.Bool.Decides.{nat_tests}
use Rattle.std.specs.Prelude.{IsErrAnd}
use Rattle.sqlval.specs.Gives.{Gives, Refuses}
use Rattle.sqlval.specs.declared.fault.Fault.{Fault}
use Rattle.sqlval.specs.declared.fault.Fault.TheVariants.{Memory}
use Rattle.sql_lexer.specs.declared.token.Kind.{Kind}
use Rattle.sql_lexer.specs.declared.token.Token.{Token}
use Rattle.sql_lexer.specs.Lex.{Text, Lexed, front, gap, is_minus, onto, cut_by, tokens_from, tokens}
use Rattle.sql_lexer.specs.Spans.{Stand, end_of, last_end}

abbrev pub ahead : List Lexed → Result (List Lexed) Fault → Result (List Lexed) Fault
ahead ts (Ok us) = Ok (ts ++ us)
ahead ts (Err e) = Err e

pub ahead-onto : (ts : List Lexed) (t : Lexed) (r : Result (List Lexed) Fault) → ahead ts (onto t r) ≡ ahead (ts ++ t ∷ []) r
ahead-onto ts t (Ok us) = ap (λ (x : List Lexed). Ok x) (sym (append_assoc ts (t ∷ []) us))
ahead-onto ts t (Err e) = refl

pub turn : (n total : ℕ) (m : Bool) (z : Text) (r : Result (Kind × ℕ) Fault) → 0 < length z → front (total - length z) m z ≡ r
    → tokens_from (suc n) total m z ≡ cut_by (tokens_from n total) (total - length z) z r
unfolding tokens_from
turn n total m [] r some e = absurd (omega (arith, some))
turn n total m (b ∷ z) r some e = ap (cut_by (tokens_from n total) (total - length (b ∷ z)) (b ∷ z)) e

pub step : (n total : ℕ) (m : Bool) (z : Text) (kind : Kind) (len : ℕ) → 0 < n → 0 < length z → front (total - length z) m z ≡ Ok (kind, len)
    → tokens_from n total m z
    ≡ onto (record { kind = kind; text = take len z; start = total - length z }) (tokens_from (n - 1) total (is_minus kind) (gap (drop len z)))
step n total m z kind len more some e =
    let turns : n ≡ suc (n - 1) = omega arith in
    ap (λ (k : ℕ). tokens_from k total m z) turns ∙ turn (n - 1) total m z (Ok (kind, len)) some e

pub refused : (n total : ℕ) (m : Bool) (z : Text) (fault : Fault) → 0 < n → 0 < length z → front (total - length z) m z ≡ Err fault
    → tokens_from n total m z ≡ Err fault
refused n total m z fault more some e =
    let turns : n ≡ suc (n - 1) = omega arith in
    ap (λ (k : ℕ). tokens_from k total m z) turns ∙ turn (n - 1) total m z (Err fault) some e

pub ends : (n total : ℕ) (m : Bool) (z : Text) → length z ≡ 0 → tokens_from n total m z ≡ Ok []
unfolding tokens_from
ends n total m [] e = refl
ends n total m (b ∷ z) e = absurd (omega (arith, e))

pub all_found : (ts : List Lexed) (r x : Result (List Lexed) Fault) → r ≡ Ok [] → ahead ts r ≡ x → x ≡ Ok ts
all_found ts r x e h = sym h ∙ ap (ahead ts) e ∙ ap (λ (us : List Lexed). Ok us) (append-nil ts)

pub some_turns : (at : ℕ) (z : List ℕ) (ts : List Token) → Stand at z ts → at + length ts ≤ last_end at ts
some_turns at z [] stand = omega arith
some_turns at z (t ∷ ts) (part, more) = omega (arith, part.0, part.1, some_turns (end_of t) z ts more)

pub whole : (z : Text) → length z ≤ 65536 → tokens z ≡ tokens_from (length z) (length z) false (gap z)
unfolding tokens
whole z le = let e : nat_lt 65536 (length z) ≡ false = grind (arith, nat_tests) in rw e refl

pub refuses_same : {Y : Type 0} (fault : Fault) (given : Result Y Fault) → given ≡ Err fault → Refuses fault given
refuses_same Memory given e = tt
refuses_same _ given e = e

pub gives_err : {X Y : Type 0} (view : X → Y) (r : Result X Fault) (fault : Fault) (given : Result Y Fault) → IsErrAnd r (λ e. e ≡ fault)
    → given ≡ Err fault → Gives view r given
gives_err view (Ok x) fault given h e = absurd h
gives_err view (Err f) fault given h e = refuses_same f given (e ∙ ap (λ x. Err x) (sym h))

-- a fault at the first token that is left
pub refused_after : (ts : List Lexed) (n total : ℕ) (m : Bool) (z : Text) (fault : Fault) (all : Result (List Lexed) Fault) → 0 < n → 0 < length z
    → front (total - length z) m z ≡ Err fault → ahead ts (tokens_from n total m z) ≡ all → all ≡ Err fault
refused_after ts n total m z fault all more some e read = sym read ∙ ap (ahead ts) (refused n total m z fault more some e)
