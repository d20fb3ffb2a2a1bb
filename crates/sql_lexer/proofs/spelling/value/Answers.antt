use Rattle.std.proofs.Common.{arith, ℕ, ◌≤◌, ◌*◌, ◌+◌, ◌^◌, inl, inr}
use Rattle.std.proofs.lemmas.Bool.{cases_lt}
use Rattle.sql_lexer.proofs.Lengths.{past_64}
use Rattle.sql_lexer.proofs.spelling.value.Goals as goal

pub returns-in_err-checked_mul : goal.returns-in_err-checked_mul
returns-in_err-checked_mul c =
    let high : 2 ^ 64 ≤ c.digits.value * 10 = elim (cases_lt (c.digits.value * 10) (2 ^ 64)) [ inl lt ↦ absurd (c.in_err-checked_mul.ensures lt) | inr le ↦ le ] in
    rw c.from_residual.ensures (past_64 c.digits.value c.digits.digit-index _ c.args.digits.now (omega arith) (omega arith) c.digits.invariant)

pub returns-in_err-value : goal.returns-in_err-value
returns-in_err-value c =
    let n : ℕ = c.in_ok-checked_mul.field-0 + c.saturating_sub-digit.result in
    let high : 2 ^ 64 ≤ n = elim (cases_lt n (2 ^ 64)) [ inl lt ↦ absurd (c.in_err-value.ensures lt) | inr le ↦ le ] in
    rw c.from_residual-in_err-value.ensures (past_64 c.digits.value c.digits.digit-index _ c.args.digits.now (omega arith) (omega arith) c.digits.invariant)
