use Rattle.std.proofs.Common.{◌∙◌, ℕ, [], subst, sym}
use Rattle.disk.specs.File.{File}
use Rattle.std.specs.Prelude.{Err}
use Rattle.db_header.specs.Header.{counted_of}
use Rattle.wal.specs.Sizes.{IsViewSize}
use Rattle.db_load.specs.Loading.{FindsDatabase}
use Rattle.db_pages.specs.Stored.{IsCounted, Stores}
use Rattle.pager.specs.Maps.{pages_in}
use Rattle.pager.proofs.Headers.{header_fault}
use Rattle.pager_older.specs.Older.{as_wal, file_view}
use Rattle.engine.proofs.AloneFiles.{calm_calls, count_is, counted_here, counts_here, header_front, header_there, held_header, held_long, loaded_alone, not_counted, not_read, outside_on, page_large, pages_here, read_is, served_here, wal_long}
use Rattle.engine.proofs.converting.check_file.Goals as goal

pub returns-in_err-header-clause-held : goal.returns-in_err-header-clause-held
returns-in_err-header-clause-held g c database told hold =
    let bytes = (g.D.Disk.file c.args.db.now).content in
    let held = c.stored_files_hold.ensures.stored (as_wal bytes) [] database hold in
    let there = held_header bytes (held_long bytes database held) database held in
    absurd (not_read c.in_err-header.field-0.0 held.found.head (c.in_err-header.ensures.only held.found.head (header_front bytes c.args.front.now (c.requires told) held.found.head there)))

pub returns-in_err-header-clause-counted : goal.returns-in_err-header-clause-counted
returns-in_err-header-clause-counted g c =
    calm_calls c.from_residual.result c.in_err-header.field-0.0 _ c.from_residual.ensures.1 (header_fault c.args.front.now (Err c.in_err-header.field-0.0) c.in_err-header.ensures.exact).0

pub returns-in_err-count-clause-held : goal.returns-in_err-count-clause-held
returns-in_err-count-clause-held g c database told hold =
    let bytes = (g.D.Disk.file c.args.db.now).content in
    let held = c.stored_files_hold.ensures.stored (as_wal bytes) [] database hold in
    let there = held_header bytes (held_long bytes database held) database held in
    let same = read_is c.in_ok-header.header held.found.head (c.in_ok-header.ensures.only held.found.head (header_front bytes c.args.front.now (c.requires told) held.found.head there)) in
    absurd (not_counted c.in_err-count.field-0.0 held.view.size
    (c.in_err-count.ensures.only held.view.size (counted_here bytes database held c.in_ok-header.header same c.in_ok-len.len (c.in_ok-len.ensures.length told)) (served_here bytes database held c.in_ok-header.header same)))

pub returns-in_err-load_alone-clause-held : goal.returns-in_err-load_alone-clause-held
returns-in_err-load_alone-clause-held g c database told hold =
    let bytes = (g.D.Disk.file c.args.db.now).content in
    let held = c.stored_files_hold.ensures.stored (as_wal bytes) [] database hold in
    let header = c.in_ok-header.header in
    let there = held_header bytes (held_long bytes database held) database held in
    let same = read_is header held.found.head (c.in_ok-header.ensures.only held.found.head (header_front bytes c.args.front.now (c.requires told) held.found.head there)) in
    let count = c.in_ok-count.count in
    let is = count_is count held.view.size
    (c.in_ok-count.ensures.only held.view.size (counted_here bytes database held header same c.in_ok-len.len (c.in_ok-len.ensures.length told)) (served_here bytes database held header same)) in
    let then = sym (c.in_ok-len.ensures.same told) in
    outside_on c.from_residual-in_err-load_alone.result c.in_err-load_alone.field-0.0 c.from_residual-in_err-load_alone.ensures.1
    (c.in_err-load_alone.ensures.listed held.tables database (c.in_ok-len.ensures.tells ∙ told) (page_large header.page_size c.in_ok-header.ensures.found.served)
    (subst (λ (f : File). Stores (pages_in (file_view f.content header.page_size count)) header.page_size held.tables database) then (pages_here bytes database held header same count is))
    (subst (λ (f : File). IsCounted (pages_in (file_view f.content header.page_size count))) then (counts_here bytes database held header same count is)))

pub returns-clause-found : goal.returns-clause-found
returns-clause-found g c told =
    let bytes = (g.D.Disk.file c.args.db.now).content in
    let header = c.in_ok-header.header in
    let there = header_there bytes c.args.front.now (c.requires told) header c.in_ok-header.ensures.found in
    let count = c.in_ok-count.count in
    let catalog = c.in_ok-load_alone.field-0 in
    let now = c.in_ok-len.ensures.same told in
    let finds = c.in_ok-load_alone.ensures.found (c.in_ok-len.ensures.tells ∙ told) (page_large header.page_size c.in_ok-header.ensures.found.served) in
    let found = subst (λ (f : File). FindsDatabase (pages_in (file_view f.content header.page_size count)) header.page_size catalog) now finds in
    let sized = subst (λ (n : ℕ). IsViewSize [] (counted_of header) n header.page_size count) (c.in_ok-len.ensures.length told) c.in_ok-count.ensures.found.0 in
    let stored = loaded_alone bytes (wal_long bytes there.long) header there count sized c.in_ok-count.ensures.found.1 catalog found in
    (found.database, c.stored_files_hold.ensures.held (as_wal bytes) [] found.database stored)
