-- Calls of pages leave the files as they were.
use Rattle.std.proofs.Common.{◌≡◌, ◌≤◌, refl, sym, ap, subst, arith, ℕ}
use Rattle.std.specs.Prelude.{Some, None, Bool, true, false, IsTrue, if◌then◌else◌}
use Rattle.disk.specs.File.{File}
use Rattle.disk.specs.declared.device.Disk.{Ghosts}
use Rattle.wal_frame.specs.Accepted.{KeepsFile}
use Rattle.wal.specs.LogState.{db_of, log_of, seen_by, state_of}
use Rattle.wal.specs.declared.log.Log.{Log}
use Rattle.wal.specs.declared.log.Snapshot.{Snapshot}
use Rattle.catalog.specs.Database.{Database}
use Rattle.pages.specs.Map.{PageMap}
use Rattle.pager.specs.Limits.{page_size_of}
use Rattle.pager.specs.Maps.{pages_in}
use Rattle.pager.specs.Sights.{UnderReader, map_over, tells_reader, tells_writer, told_file, under_reader, under_writer, view_under}
use Rattle.pager.specs.Views.{Tells, View, view_at, view_of}
use Rattle.pager.specs.Writers.{snapshot_of}
use Rattle.pager.specs.declared.writer.Writer.{Writer}
use Rattle.pager.proofs.Sighting.{tells_read, view_told}
use Rattle.pager.proofs.WriterSights.{map_told, tells_write}
use Rattle.db_pages.specs.Stored.{Stores}
use Rattle.session.specs.Representation.{ShowTheSame}
use Rattle.session.specs.Writers.{IsWriter}
use Rattle.session.specs.Stored.{ShowsDatabase}
use Rattle.session.proofs.Showing.{read_files}
use Rattle.catalog.specs.Listed.{Listed}

some_not_none : (a : File) → Some a ≡ None → ⊥
some_not_none a e = cc

some_is : (a b : File) → Some a ≡ Some b → a ≡ b
some_is a b e = cc

-- a disk that tells the file that it told is as it was
pub keeps_told : {D : Type 0} (tells : D → Bool) (file : D → File) (old new : D) → told_file tells file new ≡ told_file tells file old → KeepsFile tells file old new
keeps_told tells file old new same = record { tells_same = by_tests (tells new) (tells old) same; same = λ is. told (tells new) (tells old) is same }
  where
    by_tests : (m n : Bool) → (if m then Some (file new) else None) ≡ (if n then Some (file old) else None) → m ≡ n
    by_tests true true e = refl
    by_tests false false e = refl
    by_tests true false e = absurd (some_not_none (file new) e)
    by_tests false true e = absurd (some_not_none (file old) (sym e))

    told : (m n : Bool) → IsTrue n → (if m then Some (file new) else None) ≡ (if n then Some (file old) else None) → file new ≡ file old
    told true true is e = some_is (file new) (file old) e
    told false true is e = absurd (some_not_none (file old) (sym e))
    told m false is e = (let bad : false ≡ true = is in absurd cc)

module _ {D : Type 0} {g : Ghosts D} (old new : Log D g) (s t : Snapshot) (a b c d : ℕ) (kept : under_reader new t c d ≡ under_reader old s a b) where
  pub known_kept : state_of new ≡ state_of old
  known_kept = ap (λ (under : UnderReader). under.known) kept

  pub snapshot_kept : t ≡ s
  snapshot_kept = ap (λ (under : UnderReader). under.snapshot) kept

  -- so the files show what they showed
  pub files_kept : Tells old → ShowTheSame old new
  files_kept told = read_files old new told known_kept
      (keeps_told g.tells g.file (db_of old) (db_of new) (ap (λ (under : UnderReader). under.db) kept))
      (keeps_told g.tells g.file (log_of old) (log_of new) (ap (λ (under : UnderReader). under.log) kept))

-- ---- pages that are read

module _ {D : Type 0} {g : Ghosts D} (files : Log D g) where
  -- the pages of a snapshot tell their bytes
  pub snapshot_told : (s : Snapshot) (a b : ℕ) → Tells files → seen_by s ≤ (state_of files).frames → IsTrue (tells_reader (under_reader files s a b))
  snapshot_told s a b told within = tells_read files s a b told within

  pub snapshot_stored : (s : Snapshot) (tables : Listed) (db : Database) (a b : ℕ) → Tells files → ShowsDatabase (view_at files s) tables db
      → Stores (pages_in (view_under (under_reader files s a b))) (state_of files).page_size tables db
  snapshot_stored s tables db a b told shown = subst (λ (v : View). Stores (pages_in v) (state_of files).page_size tables db) (sym (view_told files s a b told)) shown.stored

  -- so do those that a writer sees
  pub changes_told : (w : Writer) (a n b : ℕ) → Tells files → IsWriter files w → IsTrue (tells_writer (under_writer files w a n b))
  changes_told w a n b told is = tells_write files w a n b is.sound is.page_size (tells_read files (snapshot_of w) a b told (omega (arith, is.newest.seen)))

  pub changes_stored : (w : Writer) (tables : Listed) (db : Database) (a b : ℕ) → Tells files → IsWriter files w → ShowsDatabase (view_of files w) tables db
      → Stores (map_over (under_reader files (snapshot_of w) a b) w) (page_size_of w) tables db
  changes_stored w tables db a b told is shown =
      subst (λ (map : PageMap). Stores map (page_size_of w) tables db) (sym (map_told files w a b told))
      (subst (λ (n : ℕ). Stores (pages_in (view_of files w)) n tables db) (sym is.page_size) shown.stored)
