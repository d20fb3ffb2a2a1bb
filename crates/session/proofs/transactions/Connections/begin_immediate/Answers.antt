use Rattle.std.proofs.Common.{refl}
use Rattle.sql_syntax.specs.declared.statement.BeginMode.TheVariants as begins
use Rattle.sql_syntax.specs.declared.statement.Statement.TheVariants as statement
use Rattle.session.proofs.Turning.{call_made, memory_alone, reads_mark, refused_call}
use Rattle.session.proofs.transactions.Connections.begin_immediate.Goals as goal

pub returns-in_err-turn_to : goal.returns-in_err-turn_to
returns-in_err-turn_to g c =
    record { call = refused_call c.args.self.now c.turn_to.new.self c.args.connection (statement.Begin begins.Immediate) c.in_err-turn_to.field-0.0 c.from_residual.result c.from_residual.ensures.1 c.in_err-turn_to.ensures.refused }

pub returns : goal.returns
returns g c =
    record {
      call = call_made c.args.self.now c.turn_to.new.self c.begin_here.new.self c.args.connection (statement.Begin begins.Immediate) c.begin_here.result refl refl c.in_ok-turn_to.ensures.free c.in_ok-turn_to.ensures.turned c.begin_here.ensures.step
          c.begin_here.ensures.cause (reads_mark _ _ _ c.begin_here.ensures.reads) (memory_alone _ (statement.Begin begins.Immediate) c.begin_here.result refl c.begin_here.ensures.memory);
    }
