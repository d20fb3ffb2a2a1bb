use Rattle.std.proofs.Common.{refl}
use Rattle.sql_syntax.specs.declared.statement.Statement.TheVariants as statement
use Rattle.session.proofs.Turning.{call_made, refused_call}
use Rattle.session.proofs.transactions.Connections.commit.Goals as goal

pub returns-in_err-turn_to : goal.returns-in_err-turn_to
returns-in_err-turn_to g c =
    record { call = refused_call c.args.self.now c.turn_to.new.self c.args.connection statement.Commit c.in_err-turn_to.field-0.0 c.from_residual.result c.from_residual.ensures.1 c.in_err-turn_to.ensures.refused }

pub returns : goal.returns
returns g c =
    record {
      call = call_made c.args.self.now c.turn_to.new.self c.commit_here.new.self c.args.connection statement.Commit c.commit_here.result refl refl c.in_ok-turn_to.ensures.free c.in_ok-turn_to.ensures.turned (c.commit_here.ensures.step statement.Commit (λ m shown. refl))
          c.commit_here.ensures.cause (c.commit_here.ensures.marks) (c.commit_here.ensures.refused);
    }
