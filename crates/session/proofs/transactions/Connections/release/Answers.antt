use Rattle.std.proofs.Common.{refl}
use Rattle.sql_syntax.specs.declared.statement.Statement.TheVariants as statement
use Rattle.session.proofs.Turning.{call_made, refused_call}
use Rattle.session.proofs.transactions.Connections.release.Goals as goal

pub returns-in_err-turn_to : goal.returns-in_err-turn_to
returns-in_err-turn_to g c =
    record { call = refused_call c.args.self.now c.turn_to.new.self c.args.connection (statement.Release c.args.name.now) c.in_err-turn_to.field-0.0 c.from_residual.result c.from_residual.ensures.1 c.in_err-turn_to.ensures.refused }

pub returns : goal.returns
returns g c =
    record {
      call = call_made c.args.self.now c.turn_to.new.self c.release_here.new.self c.args.connection (statement.Release c.args.name.now) c.release_here.result refl refl c.in_ok-turn_to.ensures.free c.in_ok-turn_to.ensures.turned c.release_here.ensures.step
          c.release_here.ensures.cause (c.release_here.ensures.marks) (c.release_here.ensures.refused);
    }
