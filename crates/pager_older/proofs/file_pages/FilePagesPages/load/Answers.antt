use Rattle.std.proofs.Common.{arith}
use Rattle.pager.proofs.Mapping.{count_to}
use Rattle.pager_older.specs.Older.{under_file, view_under_file}
use Rattle.pager_older.proofs.Telling.{file_has, page_is, told_disk, told_size}
use Rattle.pager_older.proofs.file_pages.FilePagesPages.load.Goals as goal
use Rattle.pager_older.proofs.file_pages.FilePagesPages.load.Goals.{then-number-eq0-via-then-number-eq0, then-number-eq0-via-else-number-eq0+then-number-self}

pub returns-then-number-eq0-clause-refusal : goal.returns-then-number-eq0-clause-refusal
returns-then-number-eq0-clause-refusal g c = λ told there.
    let s = c.args.self.now in
    let under = under_file g.D.Disk.tells g.D.Disk.file s.db.now s.len s.page_size s.count s.db.ghost_name s.buffer.ghost_name in
    absurd (elim c.then-number-eq0.branch [
      | then-number-eq0-via-then-number-eq0 w ↦ omega (arith, there.has.first, w.if-number-eq0.true)
      | then-number-eq0-via-else-number-eq0+then-number-self w ↦ omega (arith, there.has.last, count_to (view_under_file under) s.count, w.if-number-self.true)
    ])

pub returns-clause-bytes : goal.returns-clause-bytes
returns-clause-bytes g c = λ told.
    let s = c.args.self.now in
    let db = told_disk g.D.Disk.tells g.D.Disk.file s.db.now s.len s.page_size s.count s.db.ghost_name s.buffer.ghost_name told in
    page_is g.D.Disk.tells g.D.Disk.file c.fill.result s.db.now s.len s.page_size s.count s.db.ghost_name s.buffer.ghost_name c.args.number c.fill.new.buffer.items
    db (omega (arith, c.if-number-eq0.false)) (omega (arith, c.if-number-self.false))
    (c.fill.ensures.read db (told_size g.D.Disk.tells g.D.Disk.file s.db.now s.len s.page_size s.count s.db.ghost_name s.buffer.ghost_name told))

pub returns-clause-refusal : goal.returns-clause-refusal
returns-clause-refusal g c = λ told there.
    let s = c.args.self.now in
    c.fill.ensures.there
    (file_has g.D.Disk.tells g.D.Disk.file s.db.now s.len s.page_size s.count s.db.ghost_name s.buffer.ghost_name c.args.number told
    (s.measured (told_disk g.D.Disk.tells g.D.Disk.file s.db.now s.len s.page_size s.count s.db.ghost_name s.buffer.ghost_name told)) there)
