-- Tokens with where they stand in memory, and without.
use Rattle.std.proofs.Common.{◌≡◌, ℕ, zero, suc, ◌-◌, ◌<◌, ◌≤◌, Bool, true, false, eqb, if◌then◌else◌, List, [], ◌∷◌, length, map, drop, get_or, Some, Result, Ok, Err, refl, sym, ap, subst, ◌∙◌, arith, slice_range}
use Rattle.std.specs.Prelude.{slice_get}
use Rattle.std.proofs.lemmas.Bool.{ne_eqb}
use Rattle.sqlval.specs.declared.fault.Fault.{Fault}
use Rattle.sqlval.specs.declared.fault.Fault.TheVariants as fault
use Rattle.sqlval.specs.Gives as gives
use Rattle.sqlval.specs.Gives.{Refuses}
use Rattle.sql_lexer.specs.Lex as lex
use Rattle.sql_lexer.specs.Spans.{end_of}
use Rattle.sql_lexer.specs.Lex.{Lexed}
use Rattle.sql_lexer.specs.declared.token.Token.{Token}
use Rattle.sql_syntax.specs.declared.statement.Statement.{Statement}
use Rattle.sql_expr.specs.declared.refusal.Refusal.{Refusal}
use Rattle.sql_expr.specs.declared.refusal.Refusal.TheVariants.{Memory, Syntax, TooLong, Unsupported}
use Rattle.sql_expr.specs.Symbols.{Symbol, symbols}
use Rattle.sql_expr.specs.Reading.{Gives}
use Rattle.sql_parser.specs.StatementReading.{whole_from, statement_from, end_from}
use Rattle.sql_parser.specs.Spelled.{is_closing, start_at, end_at, span, sql_of}
use Rattle.sql_parser.specs.Parsing.{begins_at, place_of, fault_of, answered, parsed, parsed_by}
use Rattle.sql_grammar.specs.Texts.{is_semicolon, pieces_of, body_end, sql_in}

pub pieces_same : (ts : List Token) → pieces_of (map lex.seen ts) ≡ symbols ts
pieces_same [] = refl
pieces_same (t ∷ ts) = rw (pieces_same ts) refl

seen_count : (ts : List Token) → length (map lex.seen ts) ≡ length ts
seen_count [] = refl
seen_count (t ∷ ts) = ap suc (seen_count ts)

there : (total : ℕ) (ts : List Token) (i : ℕ) (d : Token) → i < length ts → (get_or ts i d).start ≡ begins_at total (drop i (map lex.seen ts))
there total [] i d lt = absurd (omega (arith, lt))
there total (t ∷ ts) zero d lt = refl
there total (t ∷ ts) (suc i) d lt = there total ts i d (omega (arith, lt))

preceded : (total : ℕ) (ts : List Token) (i : ℕ) → length ts ≤ i → total ≡ begins_at total (drop i (map lex.seen ts))
preceded total [] zero le = refl
preceded total [] (suc i) le = refl
preceded total (t ∷ ts) zero le = absurd (omega (arith, le))
preceded total (t ∷ ts) (suc i) le = preceded total ts i (omega (arith, le))

pub place_there : (total : ℕ) (ts : List Token) (left i : ℕ) (d : Token) → i ≡ length ts - left → i < length ts → (get_or ts i d).start ≡ place_of total (map lex.seen ts) left
place_there total ts left i d e lt =
    let same : i ≡ length (map lex.seen ts) - left = e ∙ ap (λ n. n - left) (sym (seen_count ts)) in
    there total ts i d lt ∙ ap (λ n. begins_at total (drop n (map lex.seen ts))) same

pub place_behind : (total : ℕ) (ts : List Token) (left i : ℕ) → i ≡ length ts - left → length ts ≤ i → total ≡ place_of total (map lex.seen ts) left
place_behind total ts left i e le =
    let same : i ≡ length (map lex.seen ts) - left = e ∙ ap (λ n. n - left) (sym (seen_count ts)) in
    preceded total ts i le ∙ ap (λ n. begins_at total (drop n (map lex.seen ts))) same

-- ---- the text of a statement

open_end : (i : ℕ) (ts : List Token) (at : ℕ) → length ts ≡ suc i → is_closing (slice_get ts i) ≡ false → end_at i ts ≡ body_end at (map lex.seen ts)
open_end i [] at n e = absurd (omega arith)
open_end zero (t ∷ []) at n e = rw e refl
open_end (suc i) (t ∷ []) at n e = absurd (omega arith)
open_end zero (t ∷ u ∷ ts) at n e = absurd (omega arith)
open_end (suc i) (t ∷ u ∷ ts) at n e = open_end i (u ∷ ts) (end_of t) (omega arith) e

closed_end : (i : ℕ) (ts : List Token) (at : ℕ) → length ts ≡ suc (suc i) → is_closing (slice_get ts (suc i)) ≡ true → end_at i ts ≡ body_end at (map lex.seen ts)
closed_end i [] at n e = absurd (omega arith)
closed_end i (t ∷ []) at n e = absurd (omega arith)
closed_end zero (t ∷ u ∷ []) at n e = rw e refl
closed_end zero (t ∷ u ∷ v ∷ ts) at n e = absurd (omega arith)
closed_end (suc i) (t ∷ u ∷ []) at n e = absurd (omega arith)
closed_end (suc i) (t ∷ u ∷ v ∷ ts) at n e = closed_end i (u ∷ v ∷ ts) (end_of t) (omega arith) e

span_some : (z : List ℕ) (ts : List Token) (n : ℕ) → 0 < n → span z ts n ≡ slice_range z (start_at 0 ts) (end_at (n - 1) ts)
span_some z ts n lt = let some : eqb n 0 ≡ false = ne_eqb n 0 (λ h. omega arith) in ap (λ (b : Bool). if b then [] else slice_range z (start_at 0 ts) (end_at (n - 1) ts)) some

longer_text : (z : List ℕ) (t u : Token) (us : List Token) (n : ℕ) (b : Bool) → n ≡ length (t ∷ u ∷ us) - 1 → is_closing (slice_get (t ∷ u ∷ us) n) ≡ b
    → span z (t ∷ u ∷ us) (if b then n else length (t ∷ u ∷ us)) ≡ sql_in z (map lex.seen (t ∷ u ∷ us))
longer_text z t u us n true e c =
    let long : n ≡ suc (length us) = omega arith in
    let ends : end_at (length us) (t ∷ u ∷ us) ≡ body_end t.start (map lex.seen (t ∷ u ∷ us)) =
    closed_end (length us) (t ∷ u ∷ us) t.start refl (subst (λ (n : ℕ). is_closing (slice_get (t ∷ u ∷ us) n) ≡ true) long c) in
    let less : n - 1 ≡ length us = omega arith in
    span_some z (t ∷ u ∷ us) n (omega arith) ∙ ap (λ (m : ℕ). slice_range z t.start (end_at m (t ∷ u ∷ us))) less ∙ ap (slice_range z t.start) ends
longer_text z t u us n false e c =
    let long : n ≡ suc (length us) = omega arith in
    let ends : end_at (suc (length us)) (t ∷ u ∷ us) ≡ body_end t.start (map lex.seen (t ∷ u ∷ us)) =
    open_end (suc (length us)) (t ∷ u ∷ us) t.start refl (subst (λ (n : ℕ). is_closing (slice_get (t ∷ u ∷ us) n) ≡ false) long c) in
    span_some z (t ∷ u ∷ us) (length (t ∷ u ∷ us)) (omega arith) ∙ ap (λ (m : ℕ). slice_range z t.start (end_at m (t ∷ u ∷ us))) (sym e ∙ long) ∙ ap (slice_range z t.start) ends

one_text : (z : List ℕ) (t : Token) (b : Bool) → is_semicolon t.kind ≡ b → is_closing (Some t) ≡ b → sql_of z (t ∷ []) ≡ sql_in z (map lex.seen (t ∷ []))
one_text z t true e f = let none : t.start - t.start ≡ 0 = omega arith in rw (e, none) refl
one_text z t false e f = rw e refl

pub sql_same : (z : List ℕ) (ts : List Token) → sql_of z ts ≡ sql_in z (map lex.seen ts)
sql_same z [] = refl
sql_same z (t ∷ []) = one_text z t (is_semicolon t.kind) refl refl
sql_same z (t ∷ u ∷ us) = longer_text z t u us (length (t ∷ u ∷ us) - 1) (is_closing (slice_get (t ∷ u ∷ us) (length (t ∷ u ∷ us) - 1))) refl refl

read_same : (z : List ℕ) (ts : List Token) (r : Result Statement Refusal) → whole_from (sql_of z ts) (symbols ts) ≡ r → parsed z (map lex.seen ts) ≡ answered (length z) (map lex.seen ts) r
read_same z ts r e = rw (← sql_same z ts, pieces_same ts, e) refl

-- what a text is answered whose tokens are these
abbrev pub Parses : List ℕ → Result (List Lexed) Fault → Result Statement Fault → Type 0
Parses z given result = gives.Gives (λ s. s) result (parsed_by z given)

refused_first : (z : List ℕ) (given : Result (List Lexed) Fault) (f : Fault) → given ≡ Err f → parsed_by z given ≡ Err f
refused_first z given f e = rw e refl

-- a text whose tokens are refused is refused for the same
pub parses_lexed : (z : List ℕ) (given : Result (List Lexed) Fault) (f : Fault) → Refuses f given → Parses z given (Err f)
parses_lexed z given fault.Memory h = tt
parses_lexed z given f h = refused_first z given f h

pub parses_ok : (z : List ℕ) (given : Result (List Lexed) Fault) (ts : List Token) (s : Statement) → given ≡ Ok (map lex.seen ts) → whole_from (sql_of z ts) (symbols ts) ≡ Ok s
    → Parses z given (Ok s)
parses_ok z given ts s e h = rw e (read_same z ts (Ok s) h)

refused_so : (z : List ℕ) (ts : List Token) (r : Refusal) → Gives {X = Statement} (λ s. s) (Err r) (whole_from (sql_of z ts) (symbols ts))
    → Parses z (Ok (map lex.seen ts)) (Err (fault_of (length z) (map lex.seen ts) r))
refused_so z ts Memory h = tt
refused_so z ts (Syntax n) h = read_same z ts (Err (Syntax n)) h
refused_so z ts TooLong h = read_same z ts (Err TooLong) h
refused_so z ts Unsupported h = read_same z ts (Err Unsupported) h

pub parses_err : (z : List ℕ) (given : Result (List Lexed) Fault) (ts : List Token) (r : Refusal) (f : Fault) → given ≡ Ok (map lex.seen ts)
    → Gives {X = Statement} (λ s. s) (Err r) (whole_from (sql_of z ts) (symbols ts)) → f ≡ fault_of (length z) (map lex.seen ts) r → Parses z given (Err f)
parses_err z given ts r f e h k = rw (e, k) (refused_so z ts r h)

-- a statement with more after it than a closing semicolon is refused as what is after it
pub refused_behind : (sql : List ℕ) (ts rest : List Symbol) (s : Statement) (r : Refusal) → statement_from sql ts ≡ Ok (s, rest) → Gives {X = Unit {0}} {Y = List Symbol} (λ u. []) (Err r) (end_from rest)
    → Gives {X = Statement} (λ s. s) (Err r) (whole_from sql ts)
unfolding whole_from
refused_behind sql ts rest s Memory h k = tt
refused_behind sql ts rest s (Syntax n) h k = rw (h, k) refl
refused_behind sql ts rest s TooLong h k = rw (h, k) refl
refused_behind sql ts rest s Unsupported h k = rw (h, k) refl
