use Rattle.std.specs.Prelude.{is_ok}
use Rattle.disk.specs.Memory.{Follows, calls_of, lacked_memory, schedule_of}
use Rattle.disk.specs.Schedule.{IsNextCall, is_failing}
use Rattle.disk.proofs.Following.{follows}
use Rattle.std.proofs.Common.{◌∙◌, refl, sym, ap, subst}
use Rattle.disk.specs.File.{File, Elapses}
use Rattle.disk.specs.Calls.{Syncs}
use Rattle.disk.specs.Landing.{has_landed}
use Rattle.disk.specs.Replay.{file_of}
use Rattle.disk.specs.declared.memory.MemDisk.{MemDisk}
use Rattle.disk.proofs.Growing.{does_sync, on_ok}
use Rattle.disk.proofs.memory.MemDiskDisk.sync.Goals as goal

pub invariant_of-self : goal.invariant_of-self
invariant_of-self c = record {
  content_is =
      (let m1 = c.is_to_fail-ok.new.self in
      does_sync m1.start.items m1.content.items c.is_to_fail-ok.new.self.content.items m1.changes.items c.note_sync-landed.new.changes.items (has_landed c.note_sync-landed.result) c.note_sync-landed.ensures.landed c.note_sync-landed.ensures.not_landed refl).content c.is_to_fail-ok.new.self.content_is;
}

pub returns-clause-moments : goal.returns-clause-moments
returns-clause-moments c =
    let m1 = c.is_to_fail-ok.new.self in
    let f1 = file_of m1.start.items m1.changes.items in
    let same0 = ap (λ (m : MemDisk). file_of m.start.items m.changes.items) c.is_to_fail-ok.ensures.same in
    let same1 = ap (λ (m : MemDisk). file_of m.start.items m.changes.items) c.finish.ensures.same in
    let end = file_of c.finish.new.self.start.items c.finish.new.self.changes.items in
    let does = does_sync m1.start.items m1.content.items c.is_to_fail-ok.new.self.content.items m1.changes.items c.note_sync-landed.new.changes.items (has_landed c.note_sync-landed.result) c.note_sync-landed.ensures.landed c.note_sync-landed.ensures.not_landed refl in
    subst (λ (g : File). Elapses g end) same0 (subst (Elapses f1) (sym same1) does.moments)

pub returns-clause-done : goal.returns-clause-done
returns-clause-done c =
    let m1 = c.is_to_fail-ok.new.self in
    let f1 = file_of m1.start.items m1.changes.items in
    let same0 = ap (λ (m : MemDisk). file_of m.start.items m.changes.items) c.is_to_fail-ok.ensures.same in
    let same1 = ap (λ (m : MemDisk). file_of m.start.items m.changes.items) c.finish.ensures.same in
    let end = file_of c.finish.new.self.start.items c.finish.new.self.changes.items in
    let does = does_sync m1.start.items m1.content.items c.is_to_fail-ok.new.self.content.items m1.changes.items c.note_sync-landed.new.changes.items (has_landed c.note_sync-landed.result) c.note_sync-landed.ensures.landed c.note_sync-landed.ensures.not_landed refl in
    on_ok _ c.finish.result (has_landed c.note_sync-landed.result) c.finish.ensures.variant (λ t. subst (λ (g : File). Syncs g end) same0 (subst (Syncs f1) (sym same1) (does.done t)))

pub returns-clause-follows : goal.returns-clause-follows
returns-clause-follows c =
    let old = c.args.self.now in
    let m = c.finish.new.self in
    let call = c.note_sync-landed in
    let same_schedule = ap schedule_of c.finish.ensures.same ∙ ap schedule_of c.is_to_fail-ok.ensures.same in
    let same_call = ap calls_of c.finish.ensures.same in
    let lacked = ap lacked_memory c.finish.ensures.same in
    let by_schedule : Follows old m (is_ok c.finish.result) =
    follows old m (is_ok c.finish.result) c.is_to_fail-ok.result call.result same_schedule (subst (IsNextCall (calls_of old)) (sym same_call) c.is_to_fail-ok.ensures.counted)
    (c.is_to_fail-ok.ensures.value ∙ ap (is_failing (schedule_of old)) (sym same_call)) c.finish.ensures.variant call.ensures.answer lacked in
    by_schedule
