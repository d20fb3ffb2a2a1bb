use Rattle.std.proofs.Common.{◌≡◌, ◌+◌, length}
use Rattle.std.specs.Prelude.{IsTrue}
use Rattle.disk.specs.File.{IsCurrent}
use Rattle.wal_frame.specs.Accepted.{KeepsFile}
use Rattle.wal.specs.Copying.{CopiesTo, Overwrites, frames_to}
use Rattle.wal.proofs.Filling.{KeepsOn}
use Rattle.wal.proofs.state.State.copy_pages.Given as goal

abbrev pub invariant-pages : goal.invariant-pages
invariant-pages g l = record {
  tells : g.D.Disk.tells l.db ≡ g.D.Disk.tells l.fn.db;
  log : KeepsFile g.D.Disk.tells g.D.Disk.file l.fn.log l.log;
  db_counts : g.D.Disk.failures l.db ≡ g.D.Disk.failures l.fn.db;
  log_counts : g.D.Disk.failures l.log ≡ g.D.Disk.failures l.fn.log;
  room : length l.page ≡ l.self.page_size;
  copies : IsTrue (g.D.Disk.tells l.fn.db) → CopiesTo (IsTrue (g.D.Disk.tells l.fn.log)) l.self.page_size (frames_to l.self l.mark (g.D.Disk.file l.fn.log).content) l.size (l.i + 1) (g.D.Disk.file l.fn.db).content (g.D.Disk.file l.db).content;
  keeps : IsTrue (g.D.Disk.tells l.fn.db) → KeepsOn (IsTrue (g.D.Disk.tells l.fn.log)) l.self.page_size (frames_to l.self l.mark (g.D.Disk.file l.fn.log).content) (g.D.Disk.file l.fn.db).content (g.D.Disk.file l.db).content;
  over : IsTrue (g.D.Disk.tells l.fn.db) → Overwrites (IsTrue (g.D.Disk.tells l.fn.log)) l.self.page_size (frames_to l.self l.mark (g.D.Disk.file l.fn.log).content) (g.D.Disk.file l.fn.db) (g.D.Disk.file l.db);
  current : IsTrue (g.D.Disk.tells l.fn.db) → IsCurrent (g.D.Disk.file l.fn.db) → IsCurrent (g.D.Disk.file l.db);
}
