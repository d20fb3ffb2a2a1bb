use Rattle.wal.proofs.Beginning.{old_synced, sync_left, sync_same, counts_up}
use Rattle.wal.proofs.opening.sync_file.Goals as goal

pub returns-clause-crash : goal.returns-clause-crash
returns-clause-crash g c told = old_synced c.sync.result (g.D.Disk.file c.args.file.now) (g.D.Disk.file c.sync.new.self) (c.sync.ensures.done told) (c.sync.ensures.failed told)

pub returns-clause-kept : goal.returns-clause-kept
returns-clause-kept g c =
    let old = g.D.Disk.file c.args.file.now in
    let new = g.D.Disk.file c.sync.new.self in
    record {
      tells_same = c.sync.ensures.tells;
      same = λ told. sync_same c.sync.result old new (c.sync.ensures.done told) (c.sync.ensures.failed told);
      left = λ told. sync_left c.sync.result old new (c.sync.ensures.done told) (c.sync.ensures.failed told);
      counts = counts_up c.sync.result _ _ c.sync.ensures.count;
    }
