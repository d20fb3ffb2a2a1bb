use Rattle.std.proofs.Common.{refl}
use Rattle.session.proofs.Showing.{begun_deferred}
use Rattle.session.proofs.transactions.Connections.begin_deferred.Goals as goal

pub returns-clause-step : goal.returns-clause-step
returns-clause-step g c idle = begun_deferred c.args.self.now _ idle (record { files = refl; beside = refl; catalog = refl; now = refl })
