use Rattle.std.proofs.Common.{◌≡◌, sym, subst, Bool, true, false, []}
use Rattle.std.specs.Prelude.{not, IfOk, IsFalse, IsTrue, OnOk, if◌then◌else◌, ◌≤◌}
use Rattle.std.specs.List.{list_any}
use Rattle.sql_syntax.specs.declared.statement.CheckpointMode.{CheckpointMode}
use Rattle.sql_syntax.specs.declared.statement.CheckpointMode.TheVariants as modes
use Rattle.wal.specs.Copies.{after_copying}
use Rattle.wal.specs.LogState.{log_of, state_of}
use Rattle.wal_checkpoint.specs.Answers.{counts_of, no_counts}
use Rattle.wal_checkpoint.specs.Shown.{Checkpoints}
use Rattle.session.specs.CopiedBack.{CopiesBack, may_restart}
use Rattle.session.specs.Seats.{holds_snapshot}
use Rattle.session.specs.Writers.{IsNewest}
use Rattle.session.proofs.CopyFrames.{causes_so, cut_not_passive, few_are, known_alone, known_always, not_passive, passive_counts, passive_gone, restart_counts, restart_gone, sees_all, truncate_counts, truncate_gone}
use Rattle.session.proofs.checkpoints.copy_frames.Goals as goal

pub returns-in-Passive-clause-copies : goal.returns-in-Passive-clause-copies
returns-in-Passive-clause-copies g c =
    let old = c.args.log.now in
    let new = c.passive.new.log in
    let result = c.passive.result in
    let target = c.least_snapshot-target.result in
    let others = list_any holds_snapshot c.args.seats.now in
    let newest_is : IsNewest old c.begin.result = record { seen = c.begin.ensures.seen; sized = c.begin.ensures.size } in
    subst (λ (m : CheckpointMode). CopiesBack m c.args.seats.now old result new) (sym c.in-Passive.is) (record {
      newest = c.begin.result;
      newest_is = newest_is;
      target = target;
      least = c.least_snapshot-target.ensures;
      done = c.passive.ensures.done;
      crash = c.passive.ensures.crash;
      refused = c.passive.ensures.refused;
      counts = passive_counts others (state_of old) target result c.passive.ensures.answer;
      few = few_are (λ counts. counts ≡ counts_of false (state_of old) target) result c.passive.ensures.answer;
      copied = known_always _ _ (may_restart modes.Passive others) result c.passive.ensures.known;
      gone = λ may. passive_gone _ others result;
      header = λ same. c.passive.ensures.kept;
    })

pub returns-in-Passive-clause-cause : goal.returns-in-Passive-clause-cause
returns-in-Passive-clause-cause g c = causes_so c.passive.result c.args.log.now c.passive.new.log c.passive.ensures.cause

pub returns-in-Restart-clause-copies : goal.returns-in-Restart-clause-copies
returns-in-Restart-clause-copies g c =
    let old = c.args.log.now in
    let new = c.restart.new.log in
    let result = c.restart.result in
    let target = c.least_snapshot-target.result in
    let others = list_any holds_snapshot c.args.seats.now in
    let any = c.any_holds_snapshot-is_alone in
    let newest_is : IsNewest old c.begin.result = record { seen = c.begin.ensures.seen; sized = c.begin.ensures.size } in
    subst (λ (m : CheckpointMode). CopiesBack m c.args.seats.now old result new) (sym c.in-Restart.is) (record {
      newest = c.begin.result;
      newest_is = newest_is;
      target = target;
      least = c.least_snapshot-target.ensures;
      done = λ may. subst (λ (b : Bool). OnOk result (Checkpoints old target (not b) new)) any.ensures (c.restart.ensures.done may);
      crash = c.restart.ensures.crash;
      refused = c.restart.ensures.refused;
      counts = restart_counts others (state_of old) target result (subst (λ (b : Bool). IfOk result (λ counts. (counts ≡ counts_of (not (not b)) (state_of old) target) × (counts.copied ≤ counts.frames))) any.ensures c.restart.ensures.answer);
      few = few_are _ result c.restart.ensures.answer;
      copied = subst (λ (b : Bool). OnOk result (IsFalse (not b) → state_of new ≡ after_copying (state_of old) target)) any.ensures (known_alone _ _ (not any.result) result c.restart.ensures.known);
      gone = λ may. restart_gone _ _ (not others) result
          (subst (λ (b : Bool). OnOk result (IsTrue (not b) → (state_of new).frames ≡ 0)) any.ensures
          (c.restart.ensures.anew may.told (λ alone. sees_all old c.args.seats.now c.begin.result target newest_is c.least_snapshot-target.ensures (subst (λ (b : Bool). IsTrue (not b)) any.ensures alone))));
      header = λ same. not_passive same;
    })

pub returns-in-Restart-clause-cause : goal.returns-in-Restart-clause-cause
returns-in-Restart-clause-cause g c = causes_so c.restart.result c.args.log.now c.restart.new.log c.restart.ensures.cause

pub returns-in-Truncate-clause-copies : goal.returns-in-Truncate-clause-copies
returns-in-Truncate-clause-copies g c =
    let old = c.args.log.now in
    let new = c.truncate.new.log in
    let result = c.truncate.result in
    let target = c.least_snapshot-target.result in
    let others = list_any holds_snapshot c.args.seats.now in
    let any = c.any_holds_snapshot-is_alone in
    let newest_is : IsNewest old c.begin.result = record { seen = c.begin.ensures.seen; sized = c.begin.ensures.size } in
    subst (λ (m : CheckpointMode). CopiesBack m c.args.seats.now old result new) (sym c.in-Truncate.is) (record {
      newest = c.begin.result;
      newest_is = newest_is;
      target = target;
      least = c.least_snapshot-target.ensures;
      done = λ may. subst (λ (b : Bool). OnOk result (Checkpoints old target (not b) new)) any.ensures (c.truncate.ensures.done may);
      crash = c.truncate.ensures.crash;
      refused = c.truncate.ensures.refused;
      counts = truncate_counts others (state_of old) target result (subst (λ (b : Bool). IfOk result (λ counts. (counts ≡ (if not b then no_counts else counts_of true (state_of old) target)) × (counts.copied ≤ counts.frames))) any.ensures c.truncate.ensures.answer);
      few = few_are _ result c.truncate.ensures.answer;
      copied = subst (λ (b : Bool). OnOk result (IsFalse (not b) → state_of new ≡ after_copying (state_of old) target)) any.ensures (known_alone _ _ (not any.result) result c.truncate.ensures.known);
      gone = λ may. truncate_gone _ _ _ (not others) result may.told.log
          (subst (λ (b : Bool). OnOk result (IsTrue (not b) → ((state_of new).frames ≡ 0) × (IsTrue (g.D.Disk.tells (log_of old)) → (g.D.Disk.file (log_of new)).content ≡ []))) any.ensures
          (c.truncate.ensures.anew (λ alone. sees_all old c.args.seats.now c.begin.result target newest_is c.least_snapshot-target.ensures (subst (λ (b : Bool). IsTrue (not b)) any.ensures alone))));
      header = λ same. cut_not_passive same;
    })

pub returns-in-Truncate-clause-cause : goal.returns-in-Truncate-clause-cause
returns-in-Truncate-clause-cause g c = causes_so c.truncate.result c.args.log.now c.truncate.new.log c.truncate.ensures.cause
