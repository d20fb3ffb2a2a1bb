-- What the index of a log's frames has.
use Rattle.std.specs.Prelude.{◌≡◌, ◌⊎◌, ◌<◌, ◌≤◌, ◌-◌, ◌+◌, ℕ, List, length, map, slice_index, slice_index_or}
use Rattle.wal_frame.specs.declared.frame.FrameHeader.{FrameHeader}
use Rattle.wal_index.specs.declared.index.Index.{Index}
use Rattle.wal_index.specs.Index.{frames_of, HasFrame, IsPageNumber, room_for}
use Rattle.wal.specs.declared.pages.PageImage.{PageImage}

-- this holds of each frame of each page
abbrev pub EachFrame : (ℕ → ℕ → Type 0) → Index → Type 0
EachFrame P index = (p k : ℕ) → 1 ≤ p → k < length (frames_of index p) → P p (slice_index (frames_of index p) k)

-- the page has no such frame
abbrev pub Misses : Index → ℕ → ℕ → Type 0
Misses index page frame = HasFrame index page frame → ⊥

-- each page still has the frames that it had
abbrev pub KeepsFrames : Index → Index → Type 0
KeepsFrames old new = (p f : ℕ) → 1 ≤ p → HasFrame old p f → HasFrame new p f

-- Of these pages, in order, the first n have a frame each, numbered from the one after `before` on.
abbrev pub HasEach : ℕ → List ℕ → ℕ → Index → Type 0
HasEach before numbers n index = (i : ℕ) → i < n → IsPageNumber (slice_index numbers i) → HasFrame index (slice_index numbers i) (before + 1 + i)

-- of these pages, in order, each from one place up to another has room for a frame
abbrev pub HasRooms : ℕ → ℕ → List ℕ → Index → Type 0
HasRooms from to numbers index = (i : ℕ) → from ≤ i → i < to → IsPageNumber (slice_index numbers i) → 0 < room_for index (slice_index numbers i)

-- each number is greater than those before it
abbrev pub IsStrict : List ℕ → Type 0
IsStrict numbers = (i j : ℕ) → i < j → j < length numbers → slice_index numbers i < slice_index numbers j

-- frames from 1 up to a mark
abbrev pub IsFrameTo : ℕ → ℕ → ℕ → Type 0
IsFrameTo mark p f = (1 ≤ f) × (f ≤ mark)

-- an index of frames up to a mark
abbrev pub IsIndexTo : ℕ → Index → Type 0
IsIndexTo mark = EachFrame (IsFrameTo mark)

-- a frame that the index had, or the frame after `mark` others of one of the first `count` pages
abbrev pub IsOldOrNew : ℕ → List PageImage → ℕ → Index → ℕ → ℕ → Type 0
IsOldOrNew mark pages count old p f =
    ((j : ℕ) × (j < length (frames_of old p)) × (f ≡ slice_index (frames_of old p) j))
    ⊎ ((i : ℕ) × (i < count) × (f ≡ mark + 1 + i) × ((d : PageImage) → (slice_index_or pages i d).number ≡ p))

-- the frame of this number, from 1, is one of that page
abbrev pub IsOfHead : List FrameHeader → ℕ → ℕ → Type 0
IsOfHead frames p f = (d : FrameHeader) → (slice_index_or frames (f - 1) d).page ≡ p

-- the pages that these frames are of
abbrev pub pages_said : List FrameHeader → List ℕ
pages_said = map (λ (f : FrameHeader). f.page)
