use Rattle.std.proofs.Common.{refl, sym, subst, arith}
use Rattle.session.specs.ConnectionState.{files_of}
use Rattle.session.specs.Machine.{Reply}
use Rattle.session.specs.Representation.{StepsTo}
use Rattle.session.specs.Writers.{IsNewest}
use Rattle.executor_programs.specs.Writes.{written}
use Rattle.session.proofs.Beginning.{done_refused, first_there}
use Rattle.session.proofs.Showing.{read_files}
use Rattle.session.proofs.Applying.{alone}
use Rattle.session.proofs.Writing.{begun_refused, ended_alone, not_begun, opens_alone}
use Rattle.session.proofs.transactions.Connections.write_alone.Goals as goal

pub returns-in_err-writer-clause-step : goal.returns-in_err-writer-clause-step
returns-in_err-writer-clause-step g c keeps idle may m shown =
    let old = c.args.self.now in
    let new = record c.args.self.now { log = c.begin.new.log } in
    let kept = c.in_err-writer.ensures.kept in
    subst (λ (r : Reply). StepsTo old m (written c.args.write) r new) (sym (done_refused c.from_residual.result c.in_err-writer.field-0.0 c.from_residual.ensures.1))
    (not_begun old new c.args.write c.in_err-writer.field-0.0 (record { files = λ told. read_files _ _ told kept.0 kept.1 kept.2; beside = refl; catalog = refl; transaction = refl })
    (λ m shown. (let newest = (let n : IsNewest (files_of old) c.begin-newest.result = record { seen = c.begin-newest.ensures.seen; sized = c.begin-newest.ensures.size } in n) in c.in_err-writer.ensures.there shown.settled.found.page shown.told (omega (arith, newest.seen)) (first_there old m shown c.begin-newest.result newest)))
    (λ m shown. (alone m, opens_alone old m shown c.args.write old.transaction may refl idle shown.transaction)) m shown)

pub returns-in_err-apply-clause-step : goal.returns-in_err-apply-clause-step
returns-in_err-apply-clause-step g c keeps idle may m shown =
    let old = c.args.self.now in
    let mid = record c.args.self.now { log = c.begin.new.log } in
    let kept = c.in_ok-writer.ensures.kept in
    subst (λ (r : Reply). StepsTo old m (written c.args.write) r c.apply.new.self) (sym (done_refused c.from_residual-in_err-apply.result c.in_err-apply.field-0.0 c.from_residual-in_err-apply.ensures.1))
    (begun_refused old mid c.apply.new.self c.in_ok-writer.writer c.begin-newest.result c.args.write c.in_err-apply.field-0.0 refl
    (λ m shown. (let newest = (let n : IsNewest (files_of old) c.begin-newest.result = record { seen = c.begin-newest.ensures.seen; sized = c.begin-newest.ensures.size } in n) in record {
      files = read_files _ _ shown.told kept.0 kept.1 kept.2;
      beside = refl;
      catalog = refl;
      now = refl;
      stands = c.in_ok-writer.ensures.stands;
      newest = newest;
      begun = c.in_ok-writer.ensures.begun shown.told (omega (arith, newest.seen)) (omega (arith, (first_there old m shown c.begin-newest.result newest).last));
    }))
    (λ db applies. c.in_err-apply.ensures.applies db keeps applies) (λ m shown. (alone m, opens_alone old m shown c.args.write old.transaction may refl idle shown.transaction)) m shown)

pub returns-clause-step : goal.returns-clause-step
returns-clause-step g c keeps idle may =
    let old = c.args.self.now in
    let mid = record c.args.self.now { log = c.begin.new.log } in
    let kept = c.in_ok-writer.ensures.kept in
    ended_alone old mid c.apply.new.self c.commit_autocommit.new.self c.in_ok-writer.writer c.apply.new.writer c.begin-newest.result c.args.write c.commit_autocommit.result idle may refl
    (λ m shown. (let newest = (let n : IsNewest (files_of old) c.begin-newest.result = record { seen = c.begin-newest.ensures.seen; sized = c.begin-newest.ensures.size } in n) in record {
      files = read_files _ _ shown.told kept.0 kept.1 kept.2;
      beside = refl;
      catalog = refl;
      now = refl;
      stands = c.in_ok-writer.ensures.stands;
      newest = newest;
      begun = c.in_ok-writer.ensures.begun shown.told (omega (arith, newest.seen)) (omega (arith, (first_there old m shown c.begin-newest.result newest).last));
    }))
    (λ db applies. c.in_ok-apply.ensures.applies db keeps applies) (λ db was whole applies stored. c.commit_autocommit.ensures.ends db was whole applies stored)
