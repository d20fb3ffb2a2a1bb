use Rattle.std.proofs.Common.{refl}
use Rattle.session.specs.Representation.{with_transaction}
use Rattle.session.specs.declared.seats.Transaction.TheVariants as transaction
use Rattle.session.proofs.SavingSteps.{saves_writing}
use Rattle.session.proofs.transactions.Connections.save_writing.Goals as goal

pub returns-clause-step : goal.returns-clause-step
returns-clause-step g c room =
    saves_writing (with_transaction c.args.self.now (transaction.Writing c.args.writer)) _ c.args.name c.args.writer c.save_marked-result.new.writer c.save_marked-result.result refl room (record { files = refl; beside = refl })
    c.save_marked-result.ensures.saved c.save_marked-result.ensures.marked c.save_marked-result.ensures.refused refl
