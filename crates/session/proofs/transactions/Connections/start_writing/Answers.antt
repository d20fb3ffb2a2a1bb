use Rattle.std.proofs.Common.{inl, refl, sym, ap, subst, ◌∙◌, ◌++◌, arith}
use Rattle.std.specs.Prelude.{replicate}
use Rattle.pager.specs.Marks.{marks_of, now_of}
use Rattle.executor_programs.specs.Writes.{written}
use Rattle.session.specs.Machine.{Reply}
use Rattle.session.specs.Representation.{StepsTo}
use Rattle.session.proofs.Beginning.{done_refused, first_there}
use Rattle.session.proofs.Marked.{moved_on}
use Rattle.session.proofs.ReadingPhases.{newest_by}
use Rattle.session.proofs.Showing.{read_files}
use Rattle.session.specs.ConnectionState.{files_of}
use Rattle.session.proofs.Writing.{begun_refused, begun_writes, not_begun, opens_reading}
use Rattle.session.proofs.transactions.Connections.start_writing.Goals as goal

pub returns-in_err-writer-clause-step : goal.returns-in_err-writer-clause-step
returns-in_err-writer-clause-step g c keeps reads may m shown =
    let old = c.args.self.now in
    let new = record c.args.self.now { log = c.begin.new.log } in
    let kept = c.in_err-writer.ensures.kept in
    subst (λ (r : Reply). StepsTo old m (written c.args.write) r new) (sym (done_refused c.from_residual.result c.in_err-writer.field-0.0 c.from_residual.ensures.1))
    (not_begun old new c.args.write c.in_err-writer.field-0.0 (record { files = λ told. read_files _ _ told kept.0 kept.1 kept.2; beside = refl; catalog = refl; transaction = refl })
    (λ m shown. (let newest = newest_by (files_of old) old.transaction c.snapshot-snapshot.result reads may.fresh c.snapshot-snapshot.ensures in c.in_err-writer.ensures.there shown.settled.found.page shown.told (omega (arith, newest.seen)) (first_there old m shown c.snapshot-snapshot.result newest)))
    (λ m shown. opens_reading old m shown c.args.write reads may) m shown)

pub returns-in_err-mark_times-clause-step : goal.returns-in_err-mark_times-clause-step
returns-in_err-mark_times-clause-step g c keeps reads may m shown =
    let old = c.args.self.now in
    let new = record c.args.self.now { log = c.begin.new.log } in
    let kept = c.in_ok-writer.ensures.kept in
    subst (λ (r : Reply). StepsTo old m (written c.args.write) r new) (sym (done_refused c.from_residual-in_err-mark_times.result c.in_err-mark_times.field-0.0 c.from_residual-in_err-mark_times.ensures.1))
    (not_begun old new c.args.write c.in_err-mark_times.field-0.0 (record { files = λ told. read_files _ _ told kept.0 kept.1 kept.2; beside = refl; catalog = refl; transaction = refl })
    (λ m shown. inl c.in_err-mark_times.ensures.refused) (λ m shown. opens_reading old m shown c.args.write reads may) m shown)

pub returns-in_err-apply-clause-step : goal.returns-in_err-apply-clause-step
returns-in_err-apply-clause-step g c keeps reads may m shown =
    let old = c.args.self.now in
    let mid = record c.args.self.now { log = c.begin.new.log } in
    let kept = c.in_ok-writer.ensures.kept in
    let w = c.in_ok-writer.writer in
    let marked = c.mark_times.new.writer in
    let sets = c.in_ok-mark_times.ensures in
    subst (λ (r : Reply). StepsTo old m (written c.args.write) r c.apply.new.self) (sym (done_refused c.from_residual-in_err-apply.result c.in_err-apply.field-0.0 c.from_residual-in_err-apply.ensures.1))
    (begun_refused old mid c.apply.new.self w c.snapshot-snapshot.result c.args.write c.in_err-apply.field-0.0 refl
    (λ m shown. (let newest = newest_by (files_of old) old.transaction c.snapshot-snapshot.result reads may.fresh c.snapshot-snapshot.ensures in record {
      files = read_files _ _ shown.told kept.0 kept.1 kept.2;
      beside = refl;
      catalog = refl;
      now = refl;
      stands = c.in_ok-writer.ensures.stands;
      newest = newest;
      begun = c.in_ok-writer.ensures.begun shown.told (omega (arith, newest.seen)) (omega (arith, (first_there old m shown c.snapshot-snapshot.result newest).last));
    }))
    (λ db applies. c.in_err-apply.ensures.applies db keeps (moved_on mid w marked db sets.same sets.stands applies))
    (λ m shown. opens_reading old m shown c.args.write reads may) m shown)

pub returns-clause-step : goal.returns-clause-step
returns-clause-step g c keeps reads may =
    let old = c.args.self.now in
    let mid = record c.args.self.now { log = c.begin.new.log } in
    let kept = c.in_ok-writer.ensures.kept in
    let sets = c.in_ok-mark_times.ensures in
    let w = c.in_ok-writer.writer in
    begun_writes old mid c.apply.new.self w c.mark_times.new.writer c.apply.new.writer c.snapshot-snapshot.result c.args.write reads may
    (λ m shown. (let newest = newest_by (files_of old) old.transaction c.snapshot-snapshot.result reads may.fresh c.snapshot-snapshot.ensures in record {
      files = read_files _ _ shown.told kept.0 kept.1 kept.2;
      beside = refl;
      catalog = refl;
      now = refl;
      stands = c.in_ok-writer.ensures.stands;
      newest = newest;
      begun = c.in_ok-writer.ensures.begun shown.told (omega (arith, newest.seen)) (omega (arith, (first_there old m shown c.snapshot-snapshot.result newest).last));
    }))
    (record { now = sets.same; marks = sets.marked ∙ ap (λ n. marks_of w ++ replicate n (now_of w)) c.count.ensures; stands = sets.stands })
    (λ db applies. c.in_ok-apply.ensures.applies db keeps applies) c.in_ok-apply.ensures.marks c.in_ok-apply.ensures.stands
