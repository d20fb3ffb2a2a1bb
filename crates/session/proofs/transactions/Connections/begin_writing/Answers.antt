use Rattle.std.proofs.Common.{refl, sym, subst, arith}
use Rattle.session.specs.ConnectionState.{files_of}
use Rattle.session.specs.Machine.{Reply}
use Rattle.session.specs.Representation.{StepsTo}
use Rattle.session.specs.Writers.{IsNewest}
use Rattle.sql_syntax.specs.declared.statement.BeginMode.TheVariants as begins
use Rattle.sql_syntax.specs.declared.statement.Statement.TheVariants as statement
use Rattle.session.proofs.Beginning.{begin_fails, begun_immediate, done_refused, first_there}
use Rattle.session.proofs.Showing.{read_files}
use Rattle.session.proofs.transactions.Connections.begin_writing.Goals as goal

pub returns-in_err-writer-clause-step : goal.returns-in_err-writer-clause-step
returns-in_err-writer-clause-step g c idle may m shown =
    let old = c.args.self.now in
    let newest : IsNewest (files_of old) c.begin-newest.result = record { seen = c.begin-newest.ensures.seen; sized = c.begin-newest.ensures.size } in
    let kept = c.in_err-writer.ensures.kept in
    let new = record c.args.self.now { log = c.begin.new.log } in
    subst (λ (r : Reply). StepsTo old m (statement.Begin begins.Immediate) r new) (sym (done_refused c.from_residual.result c.in_err-writer.field-0.0 c.from_residual.ensures.1))
    (begin_fails old new c.in_err-writer.field-0.0 idle (record { files = λ told. read_files _ _ told kept.0 kept.1 kept.2; beside = refl; catalog = refl; transaction = refl })
    (λ m shown. c.in_err-writer.ensures.there shown.settled.found.page shown.told (omega (arith, newest.seen)) (first_there old m shown c.begin-newest.result newest)) may m shown)

pub returns-clause-step : goal.returns-clause-step
returns-clause-step g c idle may =
    let old = c.args.self.now in
    let newest : IsNewest (files_of old) c.begin-newest.result = record { seen = c.begin-newest.ensures.seen; sized = c.begin-newest.ensures.size } in
    let kept = c.in_ok-writer.ensures.kept in
    begun_immediate old _ c.in_ok-writer.writer c.begin-newest.result idle may (λ m shown. record {
      files = read_files _ _ shown.told kept.0 kept.1 kept.2;
      beside = refl;
      catalog = refl;
      now = refl;
      stands = c.in_ok-writer.ensures.stands;
      newest = newest;
      begun = c.in_ok-writer.ensures.begun shown.told (omega (arith, newest.seen)) (omega (arith, (first_there old m shown c.begin-newest.result newest).last));
    })
