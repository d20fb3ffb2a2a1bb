use Rattle.std.proofs.Common.{rules}
use Rattle.session.specs.Writers.{IsNewest}
use Rattle.engine.proofs.LoadedFiles.{counted_under, counts_pages, finds_newest, keeps_files, newest_told, stored_under}
use Rattle.engine.proofs.opening.load_files.Goals as goal

pub returns-clause-kept : goal.returns-clause-kept
returns-clause-kept g c =
    let kept = keeps_files c.args.log.now c.load.new.pages.log.now _ _ _ _ _ _ c.load.ensures.stays.kept in
    search rules

pub returns-clause-listed : goal.returns-clause-listed
returns-clause-listed g c tables database told shown found =
    let files = c.args.log.now in
    let s = c.begin-snapshot.result in
    let newest : IsNewest {g = g.D.Disk} files s = record { seen = c.begin-snapshot.ensures.seen; sized = c.begin-snapshot.ensures.size } in
    c.load.ensures.listed tables database (newest_told files s 0 0 told newest) (counts_pages files s 0 0 told newest c.size-size.result c.size-size.ensures)
    (stored_under files s 0 0 told newest tables database shown) (counted_under files s 0 0 told newest found)

pub returns-clause-found : goal.returns-clause-found
returns-clause-found g c told =
    let files = c.args.log.now in
    let s = c.begin-snapshot.result in
    let newest : IsNewest {g = g.D.Disk} files s = record { seen = c.begin-snapshot.ensures.seen; sized = c.begin-snapshot.ensures.size } in
    finds_newest files s 0 0 told newest c.load.result (c.load.ensures.found (newest_told files s 0 0 told newest) (counts_pages files s 0 0 told newest c.size-size.result c.size-size.ensures))
