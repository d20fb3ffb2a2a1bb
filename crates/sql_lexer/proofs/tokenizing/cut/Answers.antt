use Rattle.std.proofs.Common.{rules, ◌≡◌, ◌+◌, ◌-◌, ◌∷◌, ◌++◌, [], length, take, drop, ap, sym, ◌∙◌, subst, ℕ, List, ◌≤◌, ◌<◌, arith, refl, length-drop, length-append, map, Ok, Err}
use Rattle.std.proofs.lemmas.Grind.{common_steps}
use Rattle.sql_lexer.specs.declared.token.Token.{Token}
use Rattle.sql_lexer.specs.Spans.{Stand, Ends, last_end}
use Rattle.std.proofs.lemmas.List.{map_push}
use Rattle.sql_lexer.specs.Lex.{Lexed, seen, front, gap, is_minus, onto, tokens_from, tokens}
use Rattle.sql_lexer.proofs.Turns.{ahead, ahead-onto, step, ends, all_found, some_turns, whole, gives_err, refused_after}
use Rattle.sql_lexer.proofs.Standing.{stand_step, end_step, last_more}
use Rattle.sql_lexer.proofs.tokenizing.cut.Goals as goal

pub tokens-preserved : goal.tokens-preserved
tokens-preserved c =
    let z = c.args.text.now in
    let rest = c.tokens.rest.now in
    let r = c.skip-rest-in-tokens.result.now in
    let found = c.tokens.found.items in
    let len = c.in_ok-kind.len in
    let t : Token = record { kind = c.in_ok-kind.kind; text = c.split_at.result.0; start = length z - length rest } in
    let i = c.tokens.invariant in
    let fits : len ≤ length rest = omega (arith, c.in_ok-kind.ensures.cut.1) in
    let ends : Ends rest len = subst (λ (y : List ℕ). Ends y len) c.as_bytes.ensures.value c.in_ok-kind.ensures.cut in
    let s = stand_step z rest found t len i.stand i.utf8 i.within i.end i.after ends refl c.split_at.ensures.front in
    let pushed : c.push.new.self.items ≡ found ++ t ∷ [] = search rules in
    let below : length r ≤ length (drop len rest) = subst (λ (y : List ℕ). length r ≤ length y) c.split_at.ensures.back c.skip-rest-in-tokens.ensures.within in
    let short = length-drop len rest in
    let last : last_end 0 c.push.new.self.items ≡ (length z - length rest) + len = ap (last_end 0) pushed ∙ last_more 0 found t ∙ s.1 in
    let n = length z in
    let k : ℕ = n - length found in
    let counted = some_turns 0 z found i.stand in
    let front : front (n - length rest) c.tokens.after_minus rest ≡ Ok (c.in_ok-kind.kind, len) =
    ap (front (n - length rest) c.tokens.after_minus) (sym c.as_bytes.ensures.value) ∙ sym c.in_ok-kind.ensures.value in
    let cut : Lexed = record { kind = c.in_ok-kind.kind; text = take len rest; start = n - length rest } in
    let left = tokens_from (k - 1) n (is_minus c.in_ok-kind.kind) (gap (drop len rest)) in
    let turn : tokens_from k n c.tokens.after_minus rest ≡ onto cut left = step k n c.tokens.after_minus rest c.in_ok-kind.kind len (omega arith) (omega arith) front in
    let items : map seen c.push.new.self.items ≡ map seen found ++ cut ∷ [] =
    ap (map seen) pushed ∙ map_push seen found t
    ∙ ap (λ (x : List ℕ). map seen found ++ (record { kind = c.in_ok-kind.kind; text = x; start = n - length rest }) ∷ []) c.split_at.ensures.front in
    let turns : n - length c.push.new.self.items ≡ k - 1 = omega (arith, ap length pushed, length-append found (t ∷ [])) in
    let minus : c.is_minus-after_minus.result ≡ is_minus c.in_ok-kind.kind = c.is_minus-after_minus.ensures in
    let behind : r ≡ gap (drop len rest) = c.skip-rest-in-tokens.ensures.value ∙ ap gap c.split_at.ensures.back in
    record {
      utf8 = search rules;
      within = omega arith;
      end = end_step z rest r len i.within i.end fits below
          (subst (λ (y : List ℕ). r ≡ drop (length y - length r) y) c.split_at.ensures.back c.skip-rest-in-tokens.ensures.end);
      stand = subst (Stand 0 z) (sym pushed) s.0;
      after = omega arith;
      read = rw (items, turns, minus, behind) (sym (ahead-onto (map seen found) cut left) ∙ ap (ahead (map seen found)) (sym turn) ∙ i.read);
    }

pub returns-clause-exact : goal.returns-clause-exact
returns-clause-exact c =
    let z = c.args.text.now in
    let found = c.tokens.found.items in
    let e : length c.tokens.rest.now ≡ 0 = grind (arith, common_steps) in
    whole z (omega arith) ∙ all_found (map seen found) _ _ (ends (length z - length found) (length z) c.tokens.after_minus c.tokens.rest.now e) c.tokens.invariant.read

pub returns-in_err-kind-clause-exact : goal.returns-in_err-kind-clause-exact
returns-in_err-kind-clause-exact c =
    let z = c.args.text.now in
    let rest = c.tokens.rest.now in
    let found = c.tokens.found.items in
    let fault = c.in_err-kind.field-0.0 in
    let counted = some_turns 0 z found c.tokens.invariant.stand in
    let after = c.tokens.invariant.after in
    let some : 0 < length rest = grind (arith, common_steps) in
    let e : front (length z - length rest) c.tokens.after_minus rest ≡ Err fault =
    ap (front (length z - length rest) c.tokens.after_minus) (sym c.as_bytes.ensures.value) ∙ sym c.in_err-kind.ensures.value in
    gives_err _ c.from_residual-in_err-kind.result fault (tokens z) c.from_residual-in_err-kind.ensures.1
    (whole z (omega arith) ∙ refused_after (map seen found) (length z - length found) (length z) c.tokens.after_minus rest fault _ (omega arith) some e c.tokens.invariant.read)
