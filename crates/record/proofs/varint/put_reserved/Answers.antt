use Rattle.std.proofs.Common.{ap, length, arith}
use Rattle.std.proofs.lemmas.Grind.{common_steps}
use Rattle.record.proofs.VarintLemmas.{varint_of_one}
use Rattle.record.proofs.varint.put_reserved.Goals as goal

pub push_reserved-requires : goal.push_reserved-requires
push_reserved-requires c =
    let spelled = varint_of_one c.args.n (omega arith) in omega (arith, c.requires, ap length spelled, c.args.out.now.ok.0)

pub returns-then-n-clause-exact : goal.returns-then-n-clause-exact
returns-then-n-clause-exact c = let spelled = varint_of_one c.args.n (omega arith) in grind (arith, common_steps, spelled)
