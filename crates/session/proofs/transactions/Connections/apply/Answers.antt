use Rattle.std.proofs.Common.{refl}
use Rattle.executor_programs.specs.Writes.{written}
use Rattle.session.proofs.Writing.{applied}
use Rattle.session.proofs.transactions.Connections.apply.Goals as goal

pub returns-clause-applies : goal.returns-clause-applies
returns-clause-applies g c db text on =
    let old = c.args.self.now in
    let new = record old { log = c.apply.new.log; buffer = c.apply.new.buffer; catalog = c.apply.new.catalog } in
    applied (written c.args.write) old c.args.writer.now db c.apply.result new c.apply.new.writer refl refl (c.apply.ensures.applies db text on)
