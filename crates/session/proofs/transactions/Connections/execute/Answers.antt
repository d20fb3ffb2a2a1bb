use Rattle.std.proofs.Common.{refl, subst}
use Rattle.std.specs.Prelude.{⊤}
use Rattle.sqlval.specs.Refusals.{refusal_of}
use Rattle.session.specs.Machine.{Refused}
use Rattle.session.specs.ConnectionState.{HasCause, files_of}
use Rattle.session.specs.Limits.{may_be_full}
use Rattle.session.proofs.Switching.{was_present}
use Rattle.wal.specs.declared.log.Log.{Log}
use Rattle.session.proofs.EndedSteps.{rows_answered, settled_answered, settled_way}
use Rattle.session.proofs.Executing.{marks_switched, refused_copies, refused_switched, short_switched, steps_switched}
use Rattle.session.proofs.SettledFaults.{failing, settled_cause, settled_marks, settled_refused, settled_short}
use Rattle.session.proofs.transactions.Connections.execute.Goals as goal

pub returns-in-Ok-clause-step : goal.returns-in-Ok-clause-step
returns-in-Ok-clause-step g c keeps =
    steps_switched c.args.self.now c.switch.new.self c.serve.new.self c.args.connection c.args.statement.now _ c.requires.free c.switch.ensures c.in-Ok.ensures.copied
    (λ m shown. rows_answered c.switch.new.self c.serve.new.self m c.args.statement.now _ (c.in-Ok.ensures.step keeps m shown))

pub returns-in-Err-clause-step : goal.returns-in-Err-clause-step
returns-in-Err-clause-step g c keeps =
    let mid = c.switch.new.self in
    let s = c.args.statement.now in
    let r = refusal_of c.settle.result in
    steps_switched c.args.self.now mid c.settle.new.self c.args.connection s (Refused r) c.requires.free c.switch.ensures (refused_copies mid.parked.items (files_of mid) (files_of c.settle.new.self) s (Refused r) r refl)
    (λ m shown. settled_answered mid c.serve.new.self c.settle.new.self m s c.in-Err.fault c.settle.result (settled_way c.in-Err.fault c.settle.result c.serve.new.self c.settle.new.self c.settle.ensures) (c.in-Err.ensures.step keeps m shown))

pub returns-in-Err-clause-cause : goal.returns-in-Err-clause-cause
returns-in-Err-clause-cause g c =
    let way = settled_way c.in-Err.fault c.settle.result c.serve.new.self c.settle.new.self c.settle.ensures in
    subst (λ (l : Log g.row.D.Denot g.D.Disk). HasCause (may_be_full c.args.statement.now) (failing _ c.settle.result) l (files_of c.settle.new.self)) (was_present c.args.connection c.args.self.now c.switch.new.self c.switch.ensures).files
    (settled_cause _ c.in-Err.fault c.settle.result c.switch.new.self c.serve.new.self c.settle.new.self (may_be_full c.args.statement.now) way c.in-Err.ensures.cause)

pub returns-in-Ok-clause-marks : goal.returns-in-Ok-clause-marks
returns-in-Ok-clause-marks g c = marks_switched c.args.self.now c.switch.new.self c.serve.new.self c.args.connection _ c.switch.ensures c.in-Ok.ensures.marks

pub returns-in-Err-clause-marks : goal.returns-in-Err-clause-marks
returns-in-Err-clause-marks g c =
    let way = settled_way c.in-Err.fault c.settle.result c.serve.new.self c.settle.new.self c.settle.ensures in
    settled_marks _ c.in-Err.fault c.settle.result c.args.self.now c.serve.new.self c.settle.new.self way
    (marks_switched c.args.self.now c.switch.new.self c.serve.new.self c.args.connection _ c.switch.ensures c.in-Err.ensures.marks)

pub returns-in-Err-clause-refused : goal.returns-in-Err-clause-refused
returns-in-Err-clause-refused g c =
    let way = settled_way c.in-Err.fault c.settle.result c.serve.new.self c.settle.new.self c.settle.ensures in
    settled_refused ⊤ c.in-Err.fault c.settle.result c.args.self.now c.serve.new.self c.settle.new.self c.args.connection c.args.statement.now way
    (refused_switched c.args.self.now c.switch.new.self c.args.connection c.args.statement.now (failing ⊤ c.in-Err.fault) c.requires.free c.switch.ensures c.in-Err.ensures.refused)

pub returns-in-Ok-clause-early : goal.returns-in-Ok-clause-early
returns-in-Ok-clause-early g c = short_switched c.args.self.now c.switch.new.self c.serve.new.self c.args.connection c.args.statement.now _ c.switch.ensures c.in-Ok.ensures.early

pub returns-in-Err-clause-early : goal.returns-in-Err-clause-early
returns-in-Err-clause-early g c =
    let way = settled_way c.in-Err.fault c.settle.result c.serve.new.self c.settle.new.self c.settle.ensures in
    settled_short _ c.in-Err.fault c.settle.result c.args.self.now c.serve.new.self c.settle.new.self c.args.statement.now way
    (short_switched c.args.self.now c.switch.new.self c.serve.new.self c.args.connection c.args.statement.now (failing _ c.in-Err.fault) c.switch.ensures c.in-Err.ensures.early)
