use Rattle.std.proofs.Common.{arith, refl}
use Rattle.engine.proofs.CountedCalls.{call_refused, part_behind}
use Rattle.engine.proofs.creating.is_blank.Goals as goal

pub returns-in_err-len-clause-counted : goal.returns-in_err-len-clause-counted
returns-in_err-len-clause-counted g c = call_refused _ c.in_err-len.field-0.0 _ _ _ c.from_residual.ensures.1 refl c.in_err-len.ensures.count

pub returns-then-len-gt-MAX_BLANK-clause-counted : goal.returns-then-len-gt-MAX_BLANK-clause-counted
returns-then-len-gt-MAX_BLANK-clause-counted g c = record { counts = omega (arith, c.in_ok-len.ensures.count); none_failed = c.in_ok-len.ensures.count; io = tt }

pub returns-clause-counted : goal.returns-clause-counted
returns-clause-counted g c = part_behind _ _ _ _ c.in_ok-len.ensures.count c.is_zero.ensures.counted
