use Rattle.session.proofs.Writing.{dropped}
use Rattle.session.proofs.transactions.Connections.commit_autocommit.Goals as goal

pub returns-clause-ends : goal.returns-clause-ends
returns-clause-ends g c db was whole applies stored =
    dropped c.args.self.now c.commit_writer.new.self c.rollback.new.self c.args.writer c.commit_writer.new.writer db c.in-Err.fault c.rollback.ensures.committed c.rollback.ensures.current c.rollback.ensures.none (c.in-Err.ensures.commits db was whole applies stored)
