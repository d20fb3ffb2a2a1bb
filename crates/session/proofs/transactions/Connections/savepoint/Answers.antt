use Rattle.std.proofs.Common.{◌≡◌, refl, true, Result, Ok, Err}
use Rattle.std.specs.Prelude.{⊤, IfErr, IsTrue}
use Rattle.sqlval.specs.declared.fault.Fault.{Fault}
use Rattle.sqlval.specs.declared.fault.Fault.TheVariants as fault
use Rattle.sql_syntax.specs.declared.statement.Statement.TheVariants as statement
use Rattle.session.proofs.Turning.{call_made, memory_alone, reads_mark, refused_call}
use Rattle.session.proofs.transactions.Connections.savepoint.Goals as goal

-- it may take memory
may_take : (result : Result ⊤ Fault) → IfErr result (λ f. f ≡ fault.Memory → IsTrue true)
may_take (Ok u) = tt
may_take (Err f) = λ memory. refl

pub returns-in_err-turn_to : goal.returns-in_err-turn_to
returns-in_err-turn_to g c =
    record { call = refused_call c.args.self.now c.turn_to.new.self c.args.connection (statement.Savepoint c.args.name.now) c.in_err-turn_to.field-0.0 c.from_residual.result c.from_residual.ensures.1 c.in_err-turn_to.ensures.refused }

pub returns : goal.returns
returns g c =
    record {
      call = call_made c.args.self.now c.turn_to.new.self c.savepoint_here.new.self c.args.connection (statement.Savepoint c.args.name.now) c.savepoint_here.result refl refl c.in_ok-turn_to.ensures.free c.in_ok-turn_to.ensures.turned c.savepoint_here.ensures.step
          c.savepoint_here.ensures.cause (reads_mark _ _ _ c.savepoint_here.ensures.reads) (memory_alone _ (statement.Savepoint c.args.name.now) c.savepoint_here.result refl (may_take c.savepoint_here.result));
    }
