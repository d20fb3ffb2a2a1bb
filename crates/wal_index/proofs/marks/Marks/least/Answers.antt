use Rattle.std.proofs.Common.{◌≤◌, length, arith, rules}
use Rattle.wal_index.proofs.Sixteen.{least_is}
use Rattle.wal_index.proofs.marks.Marks.least.Goals as goal

pub returns-clause-some : goal.returns-clause-some
returns-clause-some c =
    let few : length c.args.self.now.marks ≤ 16 = search rules in
    least_is c.args.self.now c.marks.i c.marks.least (omega (arith, few, c.marks-test.false)) c.marks.invariant
