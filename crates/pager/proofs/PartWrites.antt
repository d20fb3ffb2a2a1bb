-- What bytes over a part of a page make of it, and of a writer's pages.
use Rattle.std.proofs.Common.{◌≡◌, ◌≤◌, ◌+◌, ℕ, List, ◌++◌, length, take, drop, ap, ◌∙◌, arith}
use Rattle.std.proofs.lemmas.List.{length-append, length-drop, length-take-le}
use Rattle.disk.specs.declared.device.Disk.{Ghosts}
use Rattle.std.specs.Prelude.{Option}
use Rattle.wal.specs.declared.log.Log.{Log}
use Rattle.wal.specs.declared.pages.PageImage.{PageImage}
use Rattle.pages.specs.Map.{with_page, written_over}
use Rattle.pager.specs.declared.writer.Writer.{Writer}
use Rattle.pager.specs.Limits.{pages_of}
use Rattle.pager.specs.Sights.{UnderReader, map_over, page_held, under_reader}
use Rattle.pager.specs.Sound.{GetsPage}
use Rattle.pager.specs.Writers.{snapshot_of}
use Rattle.pager.proofs.WriterSights.{put_map}

-- the page is as long as it was
pub over_long : (offset : ℕ) (bytes page : List ℕ) → offset + length bytes ≤ length page → length (written_over offset bytes page) ≡ length page
over_long offset bytes page within = omega (
  arith,
  length-append (take offset page) (bytes ++ drop (offset + length bytes) page),
  length-append bytes (drop (offset + length bytes) page),
  length-take-le offset page (omega (arith, within)),
  length-drop (offset + length bytes) page,
  within,
)

-- the bytes of a page that was found
pub found_is : (items lent given buffer page : List ℕ) (place : Option ℕ) (pages : List PageImage) → items ≡ lent → lent ≡ page_held place pages given → given ≡ buffer → page_held place pages buffer ≡ page → items ≡ page
found_is items lent given buffer page place pages copied lends same is = copied ∙ lends ∙ ap (page_held place pages) same ∙ is

-- a page was put, after a call that left what stands below
pub over_map : {D : Type 0} {g : Ghosts D} (files left : Log D g) (a b : ℕ) (old new : Writer) (number : ℕ) (bytes page : List ℕ)
    → under_reader left (snapshot_of old) a b ≡ under_reader files (snapshot_of old) a b → snapshot_of new ≡ snapshot_of old → bytes ≡ page → GetsPage number bytes old new → 1 ≤ number → number ≤ pages_of old
    → map_over (under_reader left (snapshot_of new) a b) new ≡ with_page (map_over (under_reader files (snapshot_of old) a b) old) number page
over_map files left a b old new number bytes page same snapshot is gets first last =
    put_map left a b old new snapshot number bytes gets first last
    ∙ ap (λ (under : UnderReader). with_page (map_over under old) number bytes) same
    ∙ ap (with_page (map_over (under_reader files (snapshot_of old) a b) old) number) is
