-- The text that a CREATE keeps is cut into the same pieces.
use Rattle.std.proofs.Common.{◌≡◌, ℕ, zero, suc, ◌+◌, ◌-◌, true, false, List, [], ◌∷◌, ◌++◌, length, take, drop, slice_range, refl, sym, ap, subst, ◌∙◌, arith}
use Rattle.std.proofs.lemmas.List.{append-nil}
use Rattle.sql_lexer.specs.declared.token.Kind.{Kind}
use Rattle.sql_lexer.specs.declared.token.Kind.TheVariants as k
use Rattle.sql_lexer.specs.Cut.{Cuts, end_after, earlier}
use Rattle.sql_lexer.specs.Lex.{Text, Lexed}
use Rattle.sql_lexer.proofs.Part.{part_is_cut, part_ends}
use Rattle.sql_expr.specs.Symbols.{Symbol, meant, mark}
use Rattle.sql_parser.proofs.Quiet.{closes, Quiet}
use Rattle.sql_grammar.specs.Texts.{pieces_of, is_semicolon, body_end, sql_in}

piece_closes : (kind : Kind) (z : Text) → closes (meant kind z) ≡ is_semicolon kind
piece_closes k.Semicolon z = refl
piece_closes kind z = refl

-- where the last token is no semicolon, the body ends with it
quiet_end : (at : ℕ) (ts : List Lexed) → Quiet (pieces_of ts) → body_end at ts ≡ end_after at ts
quiet_end at [] q = refl
quiet_end at (t ∷ []) q = let h : is_semicolon t.kind ≡ false = sym (piece_closes t.kind t.text) ∙ q in rw h refl
quiet_end at (t ∷ u ∷ ts) q = quiet_end (t.start + length t.text) (u ∷ ts) q

-- a closing semicolon is no part of the body
closed_end : (at : ℕ) (ts : List Lexed) (t : Lexed) → is_semicolon t.kind ≡ true → body_end at (ts ++ t ∷ []) ≡ end_after at ts
closed_end at [] t h = rw h refl
closed_end at (u ∷ []) t h = closed_end (u.start + length u.text) [] t h
closed_end at (u ∷ v ∷ ts) t h = closed_end (u.start + length u.text) (v ∷ ts) t h

pieces_earlier : (n : ℕ) (ts : List Lexed) → pieces_of (earlier n ts) ≡ pieces_of ts
pieces_earlier n [] = refl
pieces_earlier n (t ∷ ts) = ap (λ (ps : List Symbol). meant t.kind t.text ∷ ps) (pieces_earlier n ts)

take_twice : (n : ℕ) (z : Text) → take n (take n z) ≡ take n z
take_twice zero z = refl
take_twice (suc n) [] = refl
take_twice (suc n) (b ∷ z) = ap (λ (y : Text). b ∷ y) (take_twice n z)

-- the tokens of the text that a statement keeps, their pieces, and that it keeps them all
pub record Keeps (sql : Text) (ps : List Symbol) : Type 0 where
  pub tokens : List Lexed
  pub cuts : Cuts 0 false sql tokens
  pub whole : sql_in sql tokens ≡ sql
  pub means : pieces_of tokens ≡ ps

-- the text of tokens of which the last isn't a semicolon keeps these
part_keeps : (z : Text) (t : Lexed) (ts us : List Lexed) → Cuts 0 false z (t ∷ (ts ++ us)) → Quiet (pieces_of (t ∷ ts)) → Keeps (slice_range z t.start (end_after t.start (t ∷ ts))) (pieces_of (t ∷ ts))
part_keeps z t ts us d q =
    let begin : ℕ = t.start in
    let n : ℕ = end_after begin (t ∷ ts) - begin in
    let sql : Text = slice_range z begin (end_after begin (t ∷ ts)) in
    let none : begin - begin ≡ 0 = omega arith in
    let means : pieces_of (earlier begin (t ∷ ts)) ≡ pieces_of (t ∷ ts) = pieces_earlier begin (t ∷ ts) in
    let quiet : Quiet (pieces_of (earlier begin (t ∷ ts))) = subst Quiet (sym means) q in
    let end : body_end 0 (earlier begin (t ∷ ts)) ≡ n = quiet_end 0 (earlier begin (t ∷ ts)) quiet ∙ part_ends z t ts us d in
    let same_end : body_end (begin - begin) (earlier begin (t ∷ ts)) ≡ n = ap (λ (k : ℕ). body_end k (earlier begin (t ∷ ts))) none ∙ end in
    let all : take (n - 0) sql ≡ sql = ap (λ (k : ℕ). take k sql) (omega arith) ∙ take_twice n (drop begin z) in
    record {
      tokens = earlier begin (t ∷ ts);
      cuts = part_is_cut z t ts us d;
      whole = ap (λ (k : ℕ). slice_range sql (begin - begin) k) same_end ∙ ap (λ (k : ℕ). slice_range sql k n) none ∙ all;
      means = means;
    }

pub open_keeps : (z : Text) (ts : List Lexed) (p : Symbol) (ps : List Symbol) → Cuts 0 false z ts → pieces_of ts ≡ p ∷ ps → Quiet (p ∷ ps) → Keeps (sql_in z ts) (p ∷ ps)
open_keeps z [] p ps d e q = absurd cc
open_keeps z (t ∷ ts) p ps d e q =
    let quiet : Quiet (pieces_of (t ∷ ts)) = subst Quiet (sym e) q in
    let none : ts ++ [] ≡ ts = append-nil ts in
    let part = part_keeps z t ts [] (subst (λ (us : List Lexed). Cuts 0 false z (t ∷ us)) (sym none) d) quiet in
    let end : body_end t.start (t ∷ ts) ≡ end_after t.start (t ∷ ts) = quiet_end t.start (t ∷ ts) quiet in
    subst (Keeps (sql_in z (t ∷ ts))) e (subst (λ (n : ℕ). Keeps (slice_range z t.start n) (pieces_of (t ∷ ts))) (sym end) part)

-- tokens of which the last means the last piece
record Split (ts : List Lexed) (ps : List Symbol) (p : Symbol) : Type 0 where
  front : List Lexed
  end : Lexed
  parts : ts ≡ front ++ end ∷ []
  means : pieces_of front ≡ ps
  last : meant end.kind end.text ≡ p

split : (ts : List Lexed) (ps : List Symbol) (p : Symbol) → pieces_of ts ≡ ps ++ p ∷ [] → Split ts ps p
split [] [] p e = absurd cc
split [] (r ∷ ps) p e = absurd cc
split (t ∷ []) [] p e = record { front = []; end = t; parts = refl; means = refl; last = cc }
split (t ∷ u ∷ ts) [] p e = absurd cc
split (t ∷ ts) (r ∷ ps) p e =
    let left : pieces_of ts ≡ ps ++ p ∷ [] = cc in
    let inner = split ts ps p left in
    let first : meant t.kind t.text ≡ r = cc in
    record { front = t ∷ inner.front; end = inner.end; parts = ap (λ (us : List Lexed). t ∷ us) inner.parts; means = rw (first, inner.means) refl; last = inner.last }

closing_kind : (kind : Kind) (z : Text) → meant kind z ≡ mark k.Semicolon → is_semicolon kind ≡ true
closing_kind kind z e = sym (piece_closes kind z) ∙ ap closes e

pub closed_keeps : (z : Text) (ts : List Lexed) (p : Symbol) (ps : List Symbol) → Cuts 0 false z ts → pieces_of ts ≡ p ∷ ps ++ mark k.Semicolon ∷ [] → Quiet (p ∷ ps) → Keeps (sql_in z ts) (p ∷ ps)
closed_keeps z ts p ps d e q = by_split (split ts (p ∷ ps) (mark k.Semicolon) e)
  where
    by_front : (front : List Lexed) (end : Lexed) → ts ≡ front ++ end ∷ [] → pieces_of front ≡ p ∷ ps → meant end.kind end.text ≡ mark k.Semicolon → Keeps (sql_in z ts) (p ∷ ps)
    by_front [] end parts means last = absurd cc
    by_front (t ∷ front) end parts means last =
        let quiet : Quiet (pieces_of (t ∷ front)) = subst Quiet (sym means) q in
        let part = part_keeps z t front (end ∷ []) (subst (Cuts 0 false z) parts d) quiet in
        let shut : body_end t.start (t ∷ (front ++ end ∷ [])) ≡ end_after t.start (t ∷ front) = closed_end t.start (t ∷ front) end (closing_kind end.kind end.text last) in
        let here : Keeps (sql_in z (t ∷ (front ++ end ∷ []))) (pieces_of (t ∷ front)) = subst (λ (n : ℕ). Keeps (slice_range z t.start n) (pieces_of (t ∷ front))) (sym shut) part in
        rw (parts, ← means) here

    by_split : Split ts (p ∷ ps) (mark k.Semicolon) → Keeps (sql_in z ts) (p ∷ ps)
    by_split s = by_front s.front s.end s.parts s.means s.last
