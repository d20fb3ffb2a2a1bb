use Rattle.wal.proofs.Beginning.{both_synced}
use Rattle.wal.proofs.opening.sync_both.Goals as goal

pub returns-in-Ok-clause-crash : goal.returns-in-Ok-clause-crash
returns-in-Ok-clause-crash g c told_db told =
    both_synced (g.D.Disk.file c.args.db) (g.D.Disk.file c.args.log) (g.D.Disk.file c.sync_files.new.db) (g.D.Disk.file c.sync_files.new.log) (c.sync_files.ensures.db_crash told_db) (c.sync_files.ensures.log_crash told)

pub returns-in-Err-clause-crash : goal.returns-in-Err-clause-crash
returns-in-Err-clause-crash g c told_db told =
    both_synced (g.D.Disk.file c.args.db) (g.D.Disk.file c.args.log) (g.D.Disk.file c.sync_files.new.db) (g.D.Disk.file c.sync_files.new.log) (c.sync_files.ensures.db_crash told_db) (c.sync_files.ensures.log_crash told)
