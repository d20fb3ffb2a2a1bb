use Rattle.std.proofs.Common.{arith, append_assoc}
use Rattle.std.proofs.lemmas.Grind.{common_steps}
use Rattle.record.proofs.VarintLemmas.{varint_of_one, varint_of_two}
use Rattle.record.proofs.varint.write.Goals as goal

pub returns-in_ok-push : goal.returns-in_ok-push
returns-in_ok-push c = let spelled = varint_of_one c.args.n (omega arith) in grind (arith, common_steps, spelled)

pub returns-in_ok-push-3 : goal.returns-in_ok-push-3
returns-in_ok-push-3 c = let spelled = varint_of_two c.args.n (omega arith) (omega arith) in grind (arith, common_steps, spelled, append_assoc)
