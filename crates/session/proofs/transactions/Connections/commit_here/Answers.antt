use Rattle.std.proofs.Common.{inl, inr, refl, sym, subst, ap, ◌∙◌}
use Rattle.session.specs.Machine.{newest}
use Rattle.session.specs.Representation.{IsGivenUp, StepsTo, done_reply, is_idle, is_reading}
use Rattle.session.specs.declared.transactions.Connections.{Connections}
use Rattle.session.proofs.StatementCauses.{commit_refused_for}
use Rattle.session.proofs.CommitSteps.{ended_reading, err_step, none_to_commit, ok_step, writes_in}
use Rattle.session.proofs.transactions.Connections.commit_here.Goals as goal
use Rattle.session.proofs.transactions.Connections.commit_here.Goals.{then-is_err, else-is_err}

pub returns-in-Idle-clause-step : goal.returns-in-Idle-clause-step
returns-in-Idle-clause-step g c s commits =
    let idle = sym c.replace.ensures.value ∙ c.in-Idle.is in
    none_to_commit c.args.self.now _ s commits (ap is_idle idle) (record { files = refl; beside = refl; catalog = refl; now = c.replace.ensures.after ∙ sym idle })

pub returns-in-Begun-clause-step : goal.returns-in-Begun-clause-step
returns-in-Begun-clause-step g c s commits =
    let old = c.args.self.now in
    let new = record old { transaction = c.replace.new.dest; catalog = c.rollback.new.self } in
    let ends : IsGivenUp old new = record { files = refl; beside = refl; idle = c.replace.ensures.after; all = c.rollback.ensures.current ∙ sym c.rollback.ensures.committed; savepoints = c.rollback.ensures.none } in
    elim c.in-Begun.is [
      | inl begun ↦ ended_reading old new s commits (ap is_reading (sym c.replace.ensures.value ∙ begun)) ends
      | inr reading ↦ ended_reading old new s commits (ap is_reading (sym c.replace.ensures.value ∙ reading.1)) ends
    ]

pub returns-after-is_err-clause-step : goal.returns-after-is_err-clause-step
returns-after-is_err-clause-step g c s commits m shown =
    let old = c.args.self.now in
    let mid = record c.args.self.now { transaction = c.replace.new.dest } in
    let new = c.commit_writer-result.new.self in
    let left = c.commit_writer-result.new.writer in
    let result = c.commit_writer-result.result in
    let in_writing = writes_in old mid m c.in-Writing.writer shown (sym c.replace.ensures.value ∙ c.in-Writing.is) refl refl in
    let has = c.commit_writer-result.ensures.commits in_writing.on.db (newest m) shown.whole in_writing.applies in_writing.base in
    elim c.if-is_err.branch [
      | then-is_err w ↦ subst (λ (k : Connections g.row.D.Denot g.D.Disk). StepsTo old m s (done_reply result) k) (sym w.self-is) (err_step old mid new m c.in-Writing.writer in_writing s commits result left (sym w.if-is_err.ensures.value) refl refl refl has)
      | else-is_err w ↦ subst (λ (k : Connections g.row.D.Denot g.D.Disk). StepsTo old m s (done_reply result) k) (sym w.self-is) (ok_step old mid new m c.in-Writing.writer in_writing s commits result left (sym w.if-is_err.ensures.value) refl c.replace.ensures.after has)
    ]

pub returns-after-is_err-clause-refused : goal.returns-after-is_err-clause-refused
returns-after-is_err-clause-refused g c =
    commit_refused_for c.args.self.now (record c.args.self.now { transaction = c.replace.new.dest }) c.commit_writer-result.new.self c.in-Writing.writer c.commit_writer-result.new.writer (sym c.replace.ensures.value ∙ c.in-Writing.is) refl
    c.commit_writer-result.result refl refl c.commit_writer-result.ensures.commits
