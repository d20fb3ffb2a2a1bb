use Rattle.std.proofs.Common.{◌≡◌, ◌∙◌, ap, arith, false, sym, true}
use Rattle.std.proofs.lemmas.Int.{ints}
use Rattle.std.specs.Ordering.{int_cmp, is_eq}
use Rattle.sqlval.specs.Fields.{value_of}
use Rattle.query_terms.specs.TextSides.{is_text}
use Rattle.query_terms.proofs.NumbersAmong.{is_another, is_here, is_nowhere, starts}
use Rattle.query_terms.proofs.finding.number_among.Goals as goal

pub terms-init : goal.terms-init
terms-init c = starts c.args.operand.now (value_of c.args.value) c.args.list.now

pub returns-then-are_equal : goal.returns-then-are_equal
returns-then-are_equal c =
    let told : is_eq (int_cmp c.in_ok-number.number c.in_ok-other.other) ≡ true = grind (arith, ints, c.are_equal.ensures, c.if-are_equal.true) in
    is_here c.args.operand.now (ap is_text (sym c.affinity.ensures) ∙ (sym c.is_text.ensures ∙ c.if-is_text.false)) (value_of c.args.value) c.in_ok-number.number c.in_ok-number.ensures c.args.list.now c.terms.term-index (omega (arith, c.terms-test.true)) c.term-item.result
    c.term-item.is c.in_ok-other.other c.in_ok-other.ensures c.terms.invariant told

pub terms-preserved : goal.terms-preserved
terms-preserved c =
    let told : is_eq (int_cmp c.in_ok-number.number c.in_ok-other.other) ≡ false = grind (arith, ints, c.are_equal.ensures, c.if-are_equal.false) in
    is_another c.args.operand.now (ap is_text (sym c.affinity.ensures) ∙ (sym c.is_text.ensures ∙ c.if-is_text.false)) (value_of c.args.value) c.in_ok-number.number c.in_ok-number.ensures c.args.list.now c.terms.term-index (omega (arith, c.terms-test.true)) c.term-item.result
    c.term-item.is c.in_ok-other.other c.in_ok-other.ensures c.terms.invariant told

pub returns : goal.returns
returns c = is_nowhere c.args.operand.now (value_of c.args.value) c.args.list.now c.terms.term-index (omega (arith, c.terms-test.false)) c.terms.invariant
