use Rattle.std.proofs.Common.{sym, arith}
use Rattle.std.proofs.lemmas.Bool.Decides.{nat_tests}
use Rattle.record.specs.Columns.{body_or_null}
use Rattle.record.specs.Reading.{body_at}
use Rattle.record.proofs.checking.check_body.Goals as goal

pub returns-in_default-clause-found : goal.returns-in_default-clause-found
unfolding body_at
returns-in_default-clause-found c = (body_or_null (body_at c.args.serial c.args.body.now), grind (arith, nat_tests))

pub returns-in_default-2-clause-found : goal.returns-in_default-2-clause-found
unfolding body_at
returns-in_default-2-clause-found c = (body_or_null (body_at c.args.serial c.args.body.now), grind (arith, nat_tests))

pub returns-in_default-3-clause-found : goal.returns-in_default-3-clause-found
unfolding body_at
returns-in_default-3-clause-found c = (body_or_null (body_at c.args.serial c.args.body.now), grind (arith, nat_tests, sym c.if-not-is_text.ensures))

pub returns-in_default-4-clause-found : goal.returns-in_default-4-clause-found
unfolding body_at
returns-in_default-4-clause-found c = (body_or_null (body_at c.args.serial c.args.body.now), grind (arith, nat_tests))
