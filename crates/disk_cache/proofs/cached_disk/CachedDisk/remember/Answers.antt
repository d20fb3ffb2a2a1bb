use Rattle.std.proofs.Common.{arith}
use Rattle.disk_cache.proofs.Fronts.{kept_longer, one_kept_longer}
use Rattle.disk_cache.proofs.cached_disk.CachedDisk.remember.Goals as goal

pub invariant_of-self : goal.invariant_of-self
invariant_of-self g c = record {
  kept = λ told.
      (let content = (g.D.Disk.file c.args.self.now.disk).content in
      let longer = kept_longer c.args.self.now.end c.max-self.result content c.args.self.now.blocks.items (omega (arith, c.max-self.ensures)) (c.args.self.now.kept told) in
      c.keep.ensures.kept content c.max-self.result longer (omega (arith, c.max-self.ensures, c.in-Some.ensures)) (c.requires told));
  last = λ told.
      one_kept_longer c.args.self.now.end c.max-self.result (g.D.Disk.file c.args.self.now.disk).content c.args.self.now.written (omega (arith, c.max-self.ensures)) (c.args.self.now.last told);
  long = c.args.self.now.long;
}
