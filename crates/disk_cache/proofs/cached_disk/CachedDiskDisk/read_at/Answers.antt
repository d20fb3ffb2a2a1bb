use Rattle.std.proofs.Common.{◌∙◌, subst, sym}
use Rattle.disk_cache.specs.Kept.{AreKept}
use Rattle.disk_cache.proofs.cached_disk.CachedDiskDisk.read_at.Goals as goal

pub returns-in-Some-clause-read : goal.returns-in-Some-clause-read
returns-in-Some-clause-read g c = λ told.
    (let content = (g.D.Disk.file c.args.self.now.disk).content in
    c.copy_from_slice.ensures.after ∙ c.in-Some.ensures.1 content c.args.self.now.end (c.args.self.now.last told))

pub returns-in-Some-find-clause-read : goal.returns-in-Some-find-clause-read
returns-in-Some-find-clause-read g c = λ told.
    (let content = (g.D.Disk.file c.args.self.now.disk).content in
    let kept = subst (AreKept content c.args.self.now.end) (sym c.deref.ensures.value) (c.args.self.now.kept told) in
    c.copy_from_slice-in-Some-find.ensures.after ∙ c.in-Some-find.ensures.1 content c.args.self.now.end kept)
