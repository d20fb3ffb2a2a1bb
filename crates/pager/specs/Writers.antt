-- What a transaction makes of the pages that it sees, and what its commit leaves (Database File Format, "Reader Algorithm").
use Rattle.std.specs.Prelude.{◌≡◌, ⊤, ◌⊎◌, ◌↔◌, ◌<◌, ◌≤◌, ◌+◌, ◌%◌, ◌^◌, ℕ, max, Bool, IsFalse, List, [], ◌∷◌, length, set, slice_index_or, take, drop, Some, if◌then◌else◌}
use Rattle.std.specs.List.{AllByRecursion, HoldsAt}
use Rattle.db_header.specs.declared.fields.Header.{Header}
use Rattle.db_header.specs.Header.{IsHeader, counted_of}
use Rattle.db_header.specs.Writing.{IsBytes}
use Rattle.wal.specs.declared.log.Snapshot.{Snapshot}
use Rattle.wal.specs.declared.pages.PageImage.{PageImage}
use Rattle.wal.specs.Laws.{IsAmong, IsNotAmong}
use Rattle.wal.specs.Pages.{ArePages}
use Rattle.pager.specs.declared.writer.Writer.{Writer}
use Rattle.pager.specs.Limits.{pages_of, page_size_of}
use Rattle.pager.specs.Marks.{marks_of}
use Rattle.pager.specs.Views.{View, ViewHas, after, changes_of}

-- the snapshot that a writer stands on
abbrev pub snapshot_of : Writer → Snapshot
snapshot_of writer = writer.snapshot

-- whether a new object is among what it changes
abbrev pub makes_objects : Writer → Bool
makes_objects writer = writer.has_new_objects

-- page 1 is the first of these
abbrev pub BeginAtPageOne : List PageImage → Type 0
BeginAtPageOne [] = ⊥
BeginAtPageOne (p ∷ ps) = p.number ≡ 1

-- a writer's changes can be committed: they are pages by rising number within its size, each as long as a page is, and page 1 is the first
pub record IsConsistent (writer : Writer) : Type 0 where
  pub pages : ArePages 0 (pages_of writer) (page_size_of writer) (changes_of writer)
  pub first : BeginAtPageOne (changes_of writer)

-- what a writer sees over a view: the view with its changes committed after it
abbrev pub seen : View → Writer → View
seen view writer = after view (changes_of writer) (pages_of writer)

-- A writer that has changed nothing yet: it sees what the view shows, and has no mark.
pub record IsBegun (view : View) (writer : Writer) : Type 0 where
  pub whole : IsConsistent writer
  pub size : pages_of writer ≡ view.size
  pub page_size : page_size_of writer ≡ view.page_size
  pub objects : IsFalse (makes_objects writer)
  pub marks : marks_of writer ≡ []
  pub sees : (number : ℕ) (bytes : List ℕ) → ViewHas (seen view writer) number bytes ↔ ViewHas view number bytes

-- the page of this number is at this place
pub record IsAt (pages : List PageImage) (number index : ℕ) : Type 0 where
  pub within : index < length pages
  pub number_is : HoldsAt (λ (p : PageImage). p.number ≡ number) pages index

-- a page of this number would go to this place: smaller numbers stand before it, and greater ones from it on
pub record IsGapFor (pages : List PageImage) (number index : ℕ) : Type 0 where
  pub within : index ≤ length pages
  pub smaller : AllByRecursion (λ (p : PageImage). p.number < number) (take index pages)
  pub greater : AllByRecursion (λ (p : PageImage). number < p.number) (drop index pages)

-- the greatest of a size and the numbers of these pages
abbrev pub size_with : List PageImage → ℕ → ℕ
size_with [] size = size
size_with (p ∷ ps) size = size_with ps (max size p.number)

-- nothing differs but the pages that a writer has changed: what it had changed at its marks is as it was too
pub record DiffersInPages (old new : Writer) : Type 0 where
  pub size : pages_of new ≡ pages_of old
  pub page_size : page_size_of new ≡ page_size_of old
  pub snapshot : snapshot_of new ≡ snapshot_of old
  pub objects : makes_objects new ≡ makes_objects old
  pub marks : marks_of new ≡ marks_of old

-- These pages were put: over whatever view the writer sees them, and at each other number what it saw before. What it saw at its marks stays.
pub record ReplacesPages (pages : List PageImage) (old new : Writer) : Type 0 where
  pub sees : (view : View) (number : ℕ) (bytes : List ℕ) → ViewHas (seen view new) number bytes ↔ (IsAmong pages number bytes ⊎ (IsNotAmong pages number × ViewHas (seen view old) number bytes))
  pub size : pages_of new ≡ size_with pages (pages_of old)
  pub page_size : page_size_of new ≡ page_size_of old
  pub snapshot : snapshot_of new ≡ snapshot_of old
  pub marks : marks_of new ≡ marks_of old
  -- what isn't among the changes now wasn't before, and is none of these pages
  pub rest : (number : ℕ) → IsNotAmong (changes_of new) number → IsNotAmong pages number × IsNotAmong (changes_of old) number

-- the page at this place got these bytes
pub record Refills (index : ℕ) (bytes : List ℕ) (old new : List PageImage) : Type 0 where
  pub page : PageImage
  pub number_is : (d : PageImage) → page.number ≡ (slice_index_or old index d).number
  pub bytes_are : page.bytes.items ≡ bytes
  pub set_is : new ≡ set old index page

-- the bytes of the one page stand in memory where those of the other did
pub record IsInPlace (old new : PageImage) : Type 0 where
  pub start : new.bytes.ptr ≡ old.bytes.ptr
  pub capacity : new.bytes.cap ≡ old.bytes.cap
  pub allocator : new.bytes.alloc ≡ old.bytes.alloc

-- the first of these pages has another image, in the same place
abbrev pub SetsFirst : List PageImage → List PageImage → Type 0
SetsFirst [] new = new ≡ []
SetsFirst (p ∷ ps) [] = ⊥
SetsFirst (p ∷ ps) (q ∷ qs) = (q.number ≡ p.number) × IsInPlace p q × (qs ≡ ps)

-- the first of these pages, if there is one, is of bytes
abbrev pub FirstIsBytes : List PageImage → Type 0
FirstIsBytes [] = ⊤
FirstIsBytes (p ∷ ps) = IsBytes p.bytes.items

-- there are pages, and the number of the last one is at most this
abbrev pub EndsWithin : ℕ → List PageImage → Type 0
EndsWithin size [] = ⊥
EndsWithin size (p ∷ []) = p.number ≤ size
EndsWithin size (p ∷ q ∷ ps) = EndsWithin size (q ∷ ps)

-- there are pages, and the number of the last one is at least this
abbrev pub EndsFrom : ℕ → List PageImage → Type 0
EndsFrom number [] = ⊥
EndsFrom number (p ∷ []) = number ≤ p.number
EndsFrom number (p ∷ q ∷ ps) = EndsFrom number (q ∷ ps)

-- each of these pages has a smaller number
abbrev pub AreBelow : ℕ → List PageImage → Type 0
AreBelow number = AllByRecursion (λ (p : PageImage). p.number < number)

-- the first of these pages has this header
abbrev pub HasHeader : List PageImage → Header → Type 0
HasHeader [] header = ⊥
HasHeader (p ∷ ps) header = IsHeader p.bytes.items header

-- a page has this header, and is as it was after it
pub record IsHeaded (old new : List ℕ) (header : Header) : Type 0 where
  pub header_is : IsHeader new header
  -- there is no other such page
  pub only : (other : List ℕ) → IsBytes other → IsHeader other header → drop 100 other ≡ drop 100 old → other ≡ new
  pub behind : drop 100 new ≡ drop 100 old
  pub long : length new ≡ length old

-- the first of these pages got this header, and all others are as they were
abbrev pub Reheads : List PageImage → List PageImage → Header → Type 0
Reheads [] new header = new ≡ []
Reheads (p ∷ ps) [] header = ⊥
Reheads (p ∷ ps) (q ∷ qs) header = (q.number ≡ p.number) × IsHeaded p.bytes.items q.bytes.items header × (qs ≡ ps)

-- The header that a commit leaves: one change more is counted, the number of pages holds and is this one, the schema cookie counts one more where an
-- object was made, and the rest is as it was.
pub record IsNextHeader (old new : Header) (makes_objects : Bool) (pages : ℕ) : Type 0 where
  pub page_size : new.page_size ≡ old.page_size
  pub change_counter : new.change_counter ≡ (old.change_counter + 1) % 2 ^ 32
  pub counts : counted_of new ≡ Some pages
  pub schema_cookie : new.schema_cookie ≡ (if makes_objects then (old.schema_cookie + 1) % 2 ^ 32 else old.schema_cookie)
  pub freelist_trunk : new.freelist_trunk ≡ old.freelist_trunk
  pub freelist_count : new.freelist_count ≡ old.freelist_count
  pub default_cache_size : new.default_cache_size ≡ old.default_cache_size
  pub user_version : new.user_version ≡ old.user_version
  pub application_id : new.application_id ≡ old.application_id
  pub writer_version : new.writer_version ≡ old.writer_version
