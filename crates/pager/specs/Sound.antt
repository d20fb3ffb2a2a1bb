-- Which writers can be written to page by page.
use Rattle.std.specs.Prelude.{◌≡◌, ◌↔◌, ◌<◌, ◌≤◌, ◌+◌, ◌/◌, ◌==◌, ◌&&◌, ℕ, Bool, true, false, IsTrue, List, [], ◌∷◌, length, nat_le, nat_lt, min, max, if◌then◌else◌}
use Rattle.pages.specs.Calls.{Limits}
use Rattle.wal.specs.declared.pages.PageImage.{PageImage}
use Rattle.wal.specs.Laws.{IsNotAmong}
use Rattle.wal.specs.LogState.{size_of}
use Rattle.wal.specs.Sizes.{IsSizeWithinLimits}
use Rattle.pager.specs.declared.writer.Writer.{Writer}
use Rattle.pager.specs.Limits.{pages_of, page_size_of}
use Rattle.pager.specs.Marks.{marks_of, now_of, IsOverTheSame}
use Rattle.pager.specs.Views.{View, changes_of}
use Rattle.pager.specs.Writers.{IsBegun, IsConsistent, ReplacesPages, makes_objects, seen, snapshot_of}

-- how many pages of a size a database may have: at most 65,536, and 1,073,741,824 bytes in all
abbrev pub most_of : ℕ → ℕ
most_of page_size = min 65536 (1073741824 / max 1 page_size)

-- how many bytes a page has, and how many pages there may be
abbrev pub limits_of : ℕ → Limits
limits_of page_size = record { page = page_size; most = most_of page_size }

-- A writer's changes can be committed, each page past its snapshot is among them, and it has no more pages than there may be.
pub record IsSound (writer : Writer) : Type 0 where
  pub consistent : IsConsistent writer
  pub reaches : (number : ℕ) → size_of (snapshot_of writer) < number → number ≤ pages_of writer → IsNotAmong (changes_of writer) number → ⊥
  pub within : pages_of writer ≤ most_of (page_size_of writer)

-- ---- the same as a test

-- whether these are pages by rising number, above one number and up to another, each of so many bytes
abbrev pub are_pages : ℕ → ℕ → ℕ → List PageImage → Bool
are_pages last size bytes [] = true
are_pages last size bytes (p ∷ ps) = nat_lt last p.number && (nat_le p.number size && (length p.bytes.items == bytes && are_pages p.number size bytes ps))

-- whether page 1 is the first of these
abbrev pub begin_at_page_one : List PageImage → Bool
begin_at_page_one [] = false
begin_at_page_one (p ∷ ps) = p.number == 1

-- whether each number above one, up to another, is among these pages of rising numbers
abbrev pub reach_from : ℕ → ℕ → List PageImage → Bool
reach_from last size [] = nat_le size last
reach_from last size (p ∷ ps) = if nat_le p.number last then reach_from last size ps else (p.number == last + 1 && reach_from (last + 1) size ps)

-- whether a writer is sound
abbrev pub is_sound : Writer → Bool
is_sound writer =
    begin_at_page_one (changes_of writer)
    && (are_pages 0 (pages_of writer) (page_size_of writer) (changes_of writer)
    && (reach_from (size_of (snapshot_of writer)) (pages_of writer) (changes_of writer) && nat_le (pages_of writer) (most_of (page_size_of writer))))

-- the test tells it
abbrev pub TellsSound : Type 0
TellsSound = (writer : Writer) → IsTrue (is_sound writer) ↔ IsSound writer

-- a writer that has changed nothing yet is sound, on a snapshot within the limits
abbrev pub BegunIsSound : Type 0
BegunIsSound = (view : View) (writer : Writer) → IsBegun view writer → view.size ≡ size_of (snapshot_of writer) → IsSizeWithinLimits view.page_size view.size → IsSound writer

-- ---- what is written

-- what a page that is written leaves as it is of a writer: whether it is sound, what it would have committed at its marks, and all that isn't its pages
pub record KeepsRest (old new : Writer) : Type 0 where
  pub sound : is_sound new ≡ is_sound old
  pub page_size : page_size_of new ≡ page_size_of old
  pub snapshot : snapshot_of new ≡ snapshot_of old
  pub objects : makes_objects new ≡ makes_objects old
  pub marks : marks_of new ≡ marks_of old

-- the page of this number got these bytes
pub record GetsPage (number : ℕ) (bytes : List ℕ) (old new : Writer) : Type 0 where
  pub page : PageImage
  pub number_is : page.number ≡ number
  pub bytes_are : page.bytes.items ≡ bytes
  pub puts : ReplacesPages (page ∷ []) old new

-- ---- a writer that went back to a mark

-- it can be committed, and is sound, if that was so when the mark was set
abbrev pub BackIsSound : Type 0
BackIsSound = (was back : Writer) → now_of back ≡ now_of was → IsOverTheSame was back → (IsConsistent was → IsConsistent back) × (IsSound was → IsSound back)

-- and it sees what it saw then
abbrev pub BackSeesTheSame : Type 0
BackSeesTheSame = (was back : Writer) → now_of back ≡ now_of was → (view : View) → seen view back ≡ seen view was
