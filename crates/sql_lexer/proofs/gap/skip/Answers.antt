use Rattle.std.proofs.Common.{rules, ◌≡◌, ◌≢◌, drop, ℕ, ap, sym, ◌∙◌, arith}
use Rattle.std.proofs.lemmas.Grind.{common_steps}
use Rattle.sql_lexer.specs.Lex.{gap, piece}
use Rattle.sql_lexer.proofs.Gaps.{gap_stops, gap_goes}
use Rattle.sql_lexer.proofs.gap.skip.Goals as goal

pub returns-then-len-eq0-clause-value : goal.returns-then-len-eq0-clause-value
returns-then-len-eq0-clause-value c =
    let e : piece c.pieces.rest.now ≡ 0 = ap piece (sym c.as_bytes.ensures.value) ∙ sym c.piece-len.ensures.value ∙ c.if-len-eq0.true in
    sym (gap_stops c.pieces.rest.now e) ∙ c.pieces.invariant.3

pub pieces-preserved : goal.pieces-preserved
pieces-preserved c =
    let is : c.piece-len.result ≡ piece c.pieces.rest.now = c.piece-len.ensures.value ∙ ap piece c.as_bytes.ensures.value in
    let ne : piece c.pieces.rest.now ≢ 0 = λ e. c.if-len-eq0.false (is ∙ e) in
    let same : gap c.split_at.result.1.now ≡ gap c.args.text.now =
    ap gap c.split_at.ensures.back ∙ ap (λ (n : ℕ). gap (drop n c.pieces.rest.now)) is ∙ gap_goes c.pieces.rest.now ne ∙ c.pieces.invariant.3 in
    (search rules, first_of (search rules, grind (arith, common_steps)), first_of (search rules, grind (arith, common_steps)), same)
