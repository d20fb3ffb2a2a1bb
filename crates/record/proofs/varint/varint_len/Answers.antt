use Rattle.std.proofs.Common.{arith}
use Rattle.record.proofs.VarintLemmas.{length-varint}
use Rattle.record.proofs.varint.varint_len.Goals as goal

pub returns-clause-value : goal.returns-clause-value
returns-clause-value c = omega (arith, length-varint c.args.n)
