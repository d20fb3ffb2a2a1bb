use Rattle.std.proofs.Common.{arith}
use Rattle.disk_cache.proofs.Fronts.{kept_longer}
use Rattle.disk_cache.proofs.cached_disk.CachedDisk.remember_writing.Goals as goal

pub invariant_of-self : goal.invariant_of-self
invariant_of-self g c = record {
  kept = λ told.
      kept_longer c.args.self.now.end c.max-self.result (g.D.Disk.file c.args.self.now.disk).content c.args.self.now.blocks.items (omega (arith, c.max-self.ensures)) (c.args.self.now.kept told);
  last = λ told.
      c.renew.ensures (g.D.Disk.file c.args.self.now.disk).content c.max-self.result (omega (arith, c.max-self.ensures, c.in-Some.ensures)) (c.requires told);
  long = c.args.self.now.long;
}
