use Rattle.std.proofs.Common.{refl}
use Rattle.session.specs.Representation.{with_transaction}
use Rattle.session.proofs.SavingSteps.{saves_reading}
use Rattle.session.proofs.transactions.Connections.save_reading.Goals as goal

pub returns-clause-step : goal.returns-clause-step
returns-clause-step g c room reads =
    saves_reading (with_transaction c.args.self.now c.args.reading) _ c.args.name c.save.result reads room (record { files = refl; beside = refl }) c.save.ensures.saved c.save.ensures.refused refl
