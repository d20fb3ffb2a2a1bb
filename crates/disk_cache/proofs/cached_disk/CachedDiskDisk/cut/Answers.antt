use Rattle.std.proofs.Common.{◌≡◌, ◌∙◌, ◌≤◌, ap, length, subst, sym, take, List, ℕ}
use Rattle.std.specs.Prelude.{IsTrue}
use Rattle.disk_cache.proofs.Fronts.{cut_length, front_cut, kept_on, no_length, one_kept_on}
use Rattle.disk_cache.proofs.cached_disk.CachedDiskDisk.cut.Goals as goal

pub invariant_of-self : goal.invariant_of-self
invariant_of-self g c = record {
  kept = λ told. kept_on end old new c.keep_before.new.self.blocks.items (front told) (c.keep_before.new.self.kept (before told));
  last = λ told. one_kept_on end old new c.keep_before.new.self.written (front told) (c.keep_before.new.self.last (before told));
  long = λ told. cut_length c.args.len old new (within told) (c.in-Ok.ensures.done (before told)).content;
}
  where
    end : ℕ
    end = c.keep_before.new.self.end

    old : List ℕ
    old = (g.D.Disk.file c.keep_before.new.self.disk).content

    new : List ℕ
    new = (g.D.Disk.file c.cut.new.self).content

    before : IsTrue (g.D.Disk.tells c.cut.new.self) → IsTrue (g.D.Disk.tells c.keep_before.new.self.disk)
    before told = sym c.in-Ok.ensures.tells ∙ told

    within : IsTrue (g.D.Disk.tells c.cut.new.self) → c.args.len ≤ length old
    within told =
        let same = c.keep_before.ensures.same in
        subst (λ d. c.args.len ≤ length (g.D.Disk.file d).content) (sym same) (c.requires (ap g.D.Disk.tells (sym same) ∙ before told))

    front : IsTrue (g.D.Disk.tells c.cut.new.self) → take end new ≡ take end old
    front told = ap (take end) (c.in-Ok.ensures.done (before told)).content ∙ front_cut end c.args.len old c.keep_before.ensures.before

pub invariant_of-self-in-Err : goal.invariant_of-self-in-Err
invariant_of-self-in-Err g c = record {
  kept = λ told. (c.let_go.ensures (g.D.Disk.file c.cut.new.self).content c.keep_before.new.self.end).0;
  last = λ told. (c.let_go.ensures (g.D.Disk.file c.cut.new.self).content c.keep_before.new.self.end).1;
  long = λ told. no_length (g.D.Disk.file c.cut.new.self).content;
}
