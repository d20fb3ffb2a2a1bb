use Rattle.std.proofs.Common.{◌∙◌, arith, rules, subst, sym}
use Rattle.query_terms.specs.Outcome.{IsRefusedBy}
use Rattle.query_terms.specs.Rows.{seen}
use Rattle.sqlval.specs.Fields.{value_of}
use Rattle.query_terms.specs.Terms.{terms}
use Rattle.query_terms.specs.Values.{value_among}
use Rattle.query_terms.proofs.Among.{found_at, goes_on, refused_at}
use Rattle.query_terms.proofs.Limits.{between_again}
use Rattle.query_terms.proofs.Pairs.{calculated, compared, concatenated, told_apart}
use Rattle.query_terms.proofs.evaluating.+evaluate.Goals as goal

pub found_among-returns-in_err-equal : goal.found_among-returns-in_err-equal
found_among-returns-in_err-equal t c =
    let h : IsRefusedBy (value_among c.args.operand.now (value_of c.args.value) (terms c.args.list.now) (seen c.args.env.now)) c.in_err-equal.field-0.0 =
    subst (λ a. IsRefusedBy a c.in_err-equal.field-0.0) c.terms.invariant
    (refused_at c.args.operand.now (value_of c.args.value) c.args.list.now c.terms.term-index c.term-item.result (seen c.args.env.now) c.terms.so_far c.in_err-equal.field-0.0
    (omega (arith, c.terms-test.true)) c.term-item.is c.in_err-equal.ensures) in
    search rules

pub found_among-returns-then-unwrap_or : goal.found_among-returns-then-unwrap_or
found_among-returns-then-unwrap_or t c =
    sym c.terms.invariant
    ∙ found_at c.args.operand.now (value_of c.args.value) c.args.list.now c.terms.term-index c.term-item.result (seen c.args.env.now) c.terms.so_far c.in_ok-equal.equal
    (omega (arith, c.terms-test.true)) c.term-item.is c.in_ok-equal.ensures (sym c.unwrap_or.ensures ∙ c.if-unwrap_or.true)

pub found_among-terms-preserved : goal.found_among-terms-preserved
found_among-terms-preserved t c =
    goes_on c.args.operand.now (value_of c.args.value) c.args.list.now c.terms.term-index c.term-item.result (seen c.args.env.now) c.terms.so_far c.in_ok-equal.equal c.one_holds-so_far.result
    (omega (arith, c.terms-test.true)) c.term-item.is c.in_ok-equal.ensures (sym c.unwrap_or.ensures ∙ c.if-unwrap_or.false) c.one_holds-so_far.ensures
    ∙ c.terms.invariant

pub evaluate-returns-in-Digits : goal.evaluate-returns-in-Digits
evaluate-returns-in-Digits t c =
    let given = c.made.ensures _ c.word.ensures in
    search rules

pub evaluate-returns-in-Total : goal.evaluate-returns-in-Total
evaluate-returns-in-Total t c =
    let given = c.made-in-Total.ensures _ c.total.ensures in
    search rules

pub evaluate-returns-in-One : goal.evaluate-returns-in-One
evaluate-returns-in-One t c =
    let given = c.made-in-One.ensures _ c.of_one.ensures in
    search rules

pub evaluate-returns-in-Two : goal.evaluate-returns-in-Two
evaluate-returns-in-Two t c =
    let given = c.made-in-Two.ensures _ c.of_two.ensures in
    search rules

pub evaluate-returns-in-In : goal.evaluate-returns-in-In
evaluate-returns-in-In t c =
    let given = c.made-in-In.ensures _ c.among.ensures in
    search rules

pub evaluate-returns-in-Between : goal.evaluate-returns-in-Between
evaluate-returns-in-Between t c =
    let given = c.made-in-Between.ensures _ c.between.ensures in
    search rules

pub value_holds-returns : goal.value_holds-returns
value_holds-returns t c =
    let given = c.truth_of.ensures _ c.evaluate.ensures in
    search rules

pub of_one-returns-in-Not : goal.of_one-returns-in-Not
of_one-returns-in-Not t c =
    let given = c.applied_of.ensures _ c.evaluate.ensures in
    search rules

pub minus-returns-in_default : goal.minus-returns-in_default
minus-returns-in_default t c =
    let given = c.applied_of.ensures _ c.evaluate.ensures in
    search rules

pub both-returns : goal.both-returns
both-returns t c =
    let given = c.beside.ensures _ c.evaluate-2.ensures in
    search rules

pub of_two-returns-in-Compare : goal.of_two-returns-in-Compare
of_two-returns-in-Compare t c =
    let given = compared c.in-Compare.operator c.args.left.now c.args.right.now (seen c.args.env.now) c.manner_of_two-manner.result c.compared_of.result c.manner_of_two-manner.ensures (c.compared_of.ensures _ c.both.ensures) in
    search rules

pub of_two-returns-in-Calculate : goal.of_two-returns-in-Calculate
of_two-returns-in-Calculate t c =
    let given = calculated c.in-Calculate.operator c.args.left.now c.args.right.now (seen c.args.env.now) c.calculated_of.result (c.calculated_of.ensures _ c.both-in-Calculate.ensures) in
    search rules

pub of_two-returns-in-Concatenate : goal.of_two-returns-in-Concatenate
of_two-returns-in-Concatenate t c =
    let given = concatenated c.args.left.now c.args.right.now (seen c.args.env.now) c.concatenated_of.result (c.concatenated_of.ensures _ c.both-in-Concatenate.ensures) in
    search rules

pub of_two-returns-in-And : goal.of_two-returns-in-And
of_two-returns-in-And t c =
    let given = c.of_holding.ensures _ c.joined.ensures in
    search rules

pub of_two-returns-in-Or : goal.of_two-returns-in-Or
of_two-returns-in-Or t c =
    let given = c.of_holding-in-Or.ensures _ c.joined-in-Or.ensures in
    search rules

pub identity-returns : goal.identity-returns
identity-returns t c =
    let given = told_apart c.args.is_not c.args.left.now c.args.right.now (seen c.args.env.now) c.manner_of_two-manner.result c.of_sameness.result c.manner_of_two-manner.ensures (c.of_sameness.ensures _ (c.sameness_of.ensures _ c.both.ensures)) in
    search rules

pub side-returns : goal.side-returns
side-returns t c =
    let given = c.stands.ensures _ c.evaluate.ensures in
    search rules

pub among-returns : goal.among-returns
among-returns t c =
    let given = c.turned_holding.ensures.of_value _ c.found_among-found.ensures in
    search rules

pub between-returns : goal.between-returns
between-returns t c =
    between_again c.args.is_negated c.args.operand.now c.args.low.now c.args.high.now (seen c.args.env.now) _ _ c.turned_holding.result c.in_ok-value.ensures c.as_field.ensures
    (c.turned_holding.ensures.of_truth _ c.within-is_within.ensures)

pub call-returns-in_default : goal.call-returns-in_default
call-returns-in_default t c =
    let given = c.made.ensures _ (c.applied_of.ensures _ c.first_argument.ensures) in
    search rules

pub total-returns-in_default : goal.total-returns-in_default
total-returns-in_default t c =
    let given = c.aggregated_of.ensures _ c.values_of_group.ensures in
    search rules
