use Rattle.std.proofs.Common.{refl}
use Rattle.session.proofs.Fresh.{fresh_shown}
use Rattle.session.proofs.transactions.Connections.new.Goals as goal

pub returns-clause-shown : goal.returns-clause-shown
returns-clause-shown g c db told settled fresh stored = fresh_shown _ c.args.seats db refl refl refl refl refl refl told settled fresh stored
