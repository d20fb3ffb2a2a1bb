use Rattle.disk_cache.proofs.cached_disk.CachedDisk.forget.Goals as goal

pub invariant_of-self : goal.invariant_of-self
invariant_of-self g c = record {
  kept = λ told. (c.let_go.ensures (g.D.Disk.file c.args.self.now.disk).content 0).0;
  last = λ told. (c.let_go.ensures (g.D.Disk.file c.args.self.now.disk).content 0).1;
  long = c.args.self.now.long;
}
