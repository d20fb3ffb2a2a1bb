use Rattle.std.specs.Prelude.{is_ok, not}
use Rattle.disk.specs.Memory.{Follows, calls_of, lacked_memory, memory_file, schedule_of}
use Rattle.disk.specs.Schedule.{IsNextCall, is_failing}
use Rattle.disk.proofs.Following.{follows, with_memory}
use Rattle.disk.specs.declared.change.Change.TheVariants.{Cut}
use Rattle.std.proofs.Common.{◌≡◌, ◌⊎◌, ◌∙◌, ◌++◌, ◌∷◌, [], sym, ap, subst}
use Rattle.disk.specs.File.{File, Elapses}
use Rattle.disk.specs.Calls.{Gains, cut_version, CutsFile, FailsToCut}
use Rattle.disk.specs.Landing.{has_landed}
use Rattle.disk.specs.Replay.{file_of}
use Rattle.disk.specs.declared.memory.MemDisk.{MemDisk}
use Rattle.disk.proofs.Growing.{cut_leaves, does_cut, on_ok, on_err}
use Rattle.disk.proofs.memory.MemDiskDisk.cut.Goals as goal

pub invariant_of-self : goal.invariant_of-self
invariant_of-self c = record {
  content_is =
      (let m1 = c.is_to_fail-ok.new.self in
      does_cut m1.start.items m1.content.items c.cut_to-landed.new.content.items m1.changes.items c.cut_to-landed.new.changes.items c.args.len (has_landed c.cut_to-landed.result) c.cut_to-landed.ensures.landed c.cut_to-landed.ensures.not_landed).content c.is_to_fail-ok.new.self.content_is;
}

pub returns-clause-moments : goal.returns-clause-moments
returns-clause-moments c =
    let m1 = c.is_to_fail-ok.new.self in
    let f1 = file_of m1.start.items m1.changes.items in
    let same0 = ap (λ (m : MemDisk). file_of m.start.items m.changes.items) c.is_to_fail-ok.ensures.same in
    let same1 = ap (λ (m : MemDisk). file_of m.start.items m.changes.items) c.finish.ensures.same in
    let end = file_of c.finish.new.self.start.items c.finish.new.self.changes.items in
    let does = does_cut m1.start.items m1.content.items c.cut_to-landed.new.content.items m1.changes.items c.cut_to-landed.new.changes.items c.args.len (has_landed c.cut_to-landed.result) c.cut_to-landed.ensures.landed c.cut_to-landed.ensures.not_landed in
    subst (λ (g : File). Elapses g end) same0 (subst (Elapses f1) (sym same1) does.moments)

pub returns-clause-done : goal.returns-clause-done
returns-clause-done c =
    let m1 = c.is_to_fail-ok.new.self in
    let f1 = file_of m1.start.items m1.changes.items in
    let same0 = ap (λ (m : MemDisk). file_of m.start.items m.changes.items) c.is_to_fail-ok.ensures.same in
    let same1 = ap (λ (m : MemDisk). file_of m.start.items m.changes.items) c.finish.ensures.same in
    let end = file_of c.finish.new.self.start.items c.finish.new.self.changes.items in
    let does = does_cut m1.start.items m1.content.items c.cut_to-landed.new.content.items m1.changes.items c.cut_to-landed.new.changes.items c.args.len (has_landed c.cut_to-landed.result) c.cut_to-landed.ensures.landed c.cut_to-landed.ensures.not_landed in
    on_ok _ c.finish.result (has_landed c.cut_to-landed.result) c.finish.ensures.variant (λ t. subst (λ (g : File). CutsFile c.args.len g end) same0 (subst (CutsFile c.args.len f1) (sym same1) (does.done t)))

pub returns-clause-failed : goal.returns-clause-failed
returns-clause-failed c =
    let m1 = c.is_to_fail-ok.new.self in
    let f1 = file_of m1.start.items m1.changes.items in
    let same0 = ap (λ (m : MemDisk). file_of m.start.items m.changes.items) c.is_to_fail-ok.ensures.same in
    let same1 = ap (λ (m : MemDisk). file_of m.start.items m.changes.items) c.finish.ensures.same in
    let end = file_of c.finish.new.self.start.items c.finish.new.self.changes.items in
    let does = does_cut m1.start.items m1.content.items c.cut_to-landed.new.content.items m1.changes.items c.cut_to-landed.new.changes.items c.args.len (has_landed c.cut_to-landed.result) c.cut_to-landed.ensures.landed c.cut_to-landed.ensures.not_landed in
    on_err _ c.finish.result (has_landed c.cut_to-landed.result) c.finish.ensures.variant (λ t. subst (λ (g : File). (end ≡ g) ⊎ FailsToCut c.args.len g end) same0 (subst (λ (e : File). (e ≡ f1) ⊎ FailsToCut c.args.len f1 e) (sym same1) (does.failed t)))

pub returns-clause-follows : goal.returns-clause-follows
returns-clause-follows c =
    let old = c.args.self.now in
    let m = c.finish.new.self in
    let call = c.cut_to-landed in
    let same_schedule = ap schedule_of c.finish.ensures.same ∙ ap schedule_of c.is_to_fail-ok.ensures.same in
    let same_call = ap calls_of c.finish.ensures.same in
    let lacked = ap lacked_memory c.finish.ensures.same in
    let by_schedule : Follows old m (is_ok c.finish.result) =
    follows old m (is_ok c.finish.result) c.is_to_fail-ok.result call.result same_schedule (subst (IsNextCall (calls_of old)) (sym same_call) c.is_to_fail-ok.ensures.counted)
    (c.is_to_fail-ok.ensures.value ∙ ap (is_failing (schedule_of old)) (sym same_call)) c.finish.ensures.variant call.ensures.answer lacked in
    record {
      follows = by_schedule;
      leaves = λ still found.
          (let m1 = c.is_to_fail-ok.new.self in
          let same0 : memory_file m1 ≡ memory_file old = ap memory_file c.is_to_fail-ok.ensures.same in
          let same1 = ap memory_file c.finish.ensures.same in
          let recorded = with_memory (call.new.changes.items ≡ c.is_to_fail-ok.new.self.changes.items ++ Cut c.args.len (not c.is_to_fail-ok.result) ∷ []) (lacked_memory m) call.result lacked found (call.ensures.recorded (c.is_gone-is_gone.ensures ∙ still)) in
          subst (λ (f : File). Gains (cut_version c.args.len f) f (memory_file m)) same0
          (subst (Gains (cut_version c.args.len (memory_file m1)) (memory_file m1)) (sym same1)
          (cut_leaves m1.start.items m1.content.items call.new.content.items m1.changes.items call.new.changes.items c.args.len (not c.is_to_fail-ok.result) recorded)));
      gone = λ come.
          (let m1 = c.is_to_fail-ok.new.self in
          let same0 : memory_file m1 ≡ memory_file old = ap memory_file c.is_to_fail-ok.ensures.same in
          let same1 : memory_file m ≡ file_of m1.start.items call.new.changes.items = ap memory_file c.finish.ensures.same in
          same1 ∙ (ap (file_of m1.start.items) (call.ensures.gone (c.is_gone-is_gone.ensures ∙ come)) ∙ same0));
    }
