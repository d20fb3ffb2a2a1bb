use Rattle.std.proofs.Common.{refl}
use Rattle.sqlval.specs.declared.fault.Fault.TheVariants as fault
use Rattle.sql_syntax.specs.declared.statement.Statement.TheVariants as statement
use Rattle.session.proofs.Turning.{call_made, first_only, not_memory, only_so, reads_mark, refused_call}
use Rattle.session.proofs.transactions.Connections.rollback_to.Goals as goal

pub returns-in_err-turn_to-clause-call : goal.returns-in_err-turn_to-clause-call
returns-in_err-turn_to-clause-call g c =
    refused_call c.args.self.now c.turn_to.new.self c.args.connection (statement.RollbackTo c.args.name.now) c.in_err-turn_to.field-0.0 c.from_residual.result c.from_residual.ensures.1 c.in_err-turn_to.ensures.refused

pub returns-clause-call : goal.returns-clause-call
returns-clause-call g c =
    call_made c.args.self.now c.turn_to.new.self c.rollback_to_here.new.self c.args.connection (statement.RollbackTo c.args.name.now) c.rollback_to_here.result refl refl c.in_ok-turn_to.ensures.free c.in_ok-turn_to.ensures.turned c.rollback_to_here.ensures.step
    c.rollback_to_here.ensures.cause (reads_mark _ _ _ c.rollback_to_here.ensures.reads) (not_memory _ (statement.RollbackTo c.args.name.now) fault.NoSavepoint c.rollback_to_here.result refl (λ e. absurd cc) c.rollback_to_here.ensures.refused)

pub returns-in_err-turn_to-clause-only : goal.returns-in_err-turn_to-clause-only
returns-in_err-turn_to-clause-only g c = first_only fault.NoSavepoint c.args.self.now c.args.connection c.in_err-turn_to.field-0.0 c.from_residual.result c.from_residual.ensures.1 c.in_err-turn_to.ensures.refused.0

pub returns-clause-only : goal.returns-clause-only
returns-clause-only g c = only_so fault.NoSavepoint c.args.self.now c.args.connection c.rollback_to_here.result c.rollback_to_here.ensures.refused
