use Rattle.std.proofs.Common.{◌≡◌, ◌∙◌, ◌≤◌, ap, length, refl, subst, sym, take, drop, List, ℕ}
use Rattle.std.specs.Prelude.{IsTrue}
use Rattle.disk_cache.proofs.Fronts.{front_written, kept_on, no_length, one_kept_on, written_there}
use Rattle.disk_cache.specs.Kept.{IsLength}
use Rattle.disk_cache.proofs.cached_disk.CachedDiskDisk.write_at.Goals as goal

pub invariant_of-self : goal.invariant_of-self
invariant_of-self g c = record {
  kept = λ told. kept_on end old new c.keep_before.new.self.blocks.items (front told) (c.keep_before.new.self.kept (before told));
  last = λ told. one_kept_on end old new c.keep_before.new.self.written (front told) (c.keep_before.new.self.last (before told));
  long = λ told.
      subst (IsLength c.len_after-self.result) (sym (c.in-Ok.ensures.done (before told)).content)
      (c.len_after-self.ensures c.args.bytes.now old refl (within told) (c.keep_before.new.self.long (before told)));
}
  where
    end : ℕ
    end = c.keep_before.new.self.end

    old : List ℕ
    old = (g.D.Disk.file c.keep_before.new.self.disk).content

    new : List ℕ
    new = (g.D.Disk.file c.write_at.new.self).content

    before : IsTrue (g.D.Disk.tells c.write_at.new.self) → IsTrue (g.D.Disk.tells c.keep_before.new.self.disk)
    before told = sym c.in-Ok.ensures.tells ∙ told

    within : IsTrue (g.D.Disk.tells c.write_at.new.self) → c.args.at ≤ length old
    within told =
        let same = c.keep_before.ensures.same in
        subst (λ d. c.args.at ≤ length (g.D.Disk.file d).content) (sym same) (c.requires (ap g.D.Disk.tells (sym same) ∙ before told))

    front : IsTrue (g.D.Disk.tells c.write_at.new.self) → take end new ≡ take end old
    front told =
        ap (take end) (c.in-Ok.ensures.done (before told)).content ∙ front_written end c.args.at c.args.bytes.now old c.keep_before.ensures.before (within told)

pub invariant_of-self-in-Err : goal.invariant_of-self-in-Err
invariant_of-self-in-Err g c = record {
  kept = λ told. (c.let_go.ensures (g.D.Disk.file c.write_at.new.self).content c.keep_before.new.self.end).0;
  last = λ told. (c.let_go.ensures (g.D.Disk.file c.write_at.new.self).content c.keep_before.new.self.end).1;
  long = λ told. no_length (g.D.Disk.file c.write_at.new.self).content;
}

pub remember_writing-requires : goal.remember_writing-requires
remember_writing-requires g c = λ told.
    (let now = c.keep_before.new.self in
    let before : IsTrue (g.D.Disk.tells now.disk) = sym c.in-Ok.ensures.tells ∙ told in
    let old = (g.D.Disk.file now.disk).content in
    let same = c.keep_before.ensures.same in
    let within : c.args.at ≤ length old = subst (λ d. c.args.at ≤ length (g.D.Disk.file d).content) (sym same) (c.requires (ap g.D.Disk.tells (sym same) ∙ before)) in
    sym (ap (λ (content : List ℕ). take (length c.args.bytes.now) (drop c.args.at content)) (c.in-Ok.ensures.done before).content ∙ written_there c.args.at c.args.bytes.now old within))
