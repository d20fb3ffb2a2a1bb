use Rattle.std.proofs.Common.{◌<◌, ◌^◌, arith, rules}
use Rattle.record.proofs.VarintLemmas.{below_49}
use Rattle.record.proofs.varint.read_digits.Goals as goal

pub overflow_mul-result : goal.overflow_mul-result
overflow_mul-result c = let cap : c.digits.high < 2 ^ 49 = below_49 c.digits.high c.digits.counter c.digits.invariant.1 (omega arith) in search rules

pub overflow_add-result : goal.overflow_add-result
overflow_add-result c = let cap : c.digits.high < 2 ^ 49 = below_49 c.digits.high c.digits.counter c.digits.invariant.1 (omega arith) in search rules

pub overflow_mul-high : goal.overflow_mul-high
overflow_mul-high c = let cap : c.digits.high < 2 ^ 49 = below_49 c.digits.high c.digits.counter c.digits.invariant.1 (omega arith) in search rules

pub overflow_add-high : goal.overflow_add-high
overflow_add-high c = let cap : c.digits.high < 2 ^ 49 = below_49 c.digits.high c.digits.counter c.digits.invariant.1 (omega arith) in search rules
