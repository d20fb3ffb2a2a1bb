use Rattle.wal.proofs.Beginning.{old_synced}
use Rattle.engine.proofs.converting.settle.Goals as goal

pub returns-clause-crash : goal.returns-clause-crash
returns-clause-crash g c told = old_synced c.sync.result (g.D.Disk.file c.args.file.now) (g.D.Disk.file c.sync.new.self) (c.sync.ensures.done told) (c.sync.ensures.failed told)
