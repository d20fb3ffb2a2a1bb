-- What an index of frames has: those of each page (Database File Format, "WAL-Index Format": "for a page, the last valid frame of it").
use Rattle.std.specs.Prelude.{◌≡◌, ◌⊎◌, ◌<◌, ◌≤◌, ◌-◌, ℕ, List, [], ◌∷◌, ◌++◌, length, map, Vec, vec_len, vec_capacity, slice_index}
use Rattle.std.specs.declared.alloc.Global.{Global}
use Rattle.wal_index.specs.Rows.{list_at}
use Rattle.wal_index.specs.declared.index.Index.{Index}

-- the frames of a page, from 1
abbrev pub frames_of : Index → ℕ → List ℕ
frames_of index page = list_at index.lists.items (page - 1)

-- the page has this frame
pub record HasFrame (index : Index) (page frame : ℕ) : Type 0 where
  pub place : ℕ
  pub within : place < length (frames_of index page)
  pub is : slice_index (frames_of index page) place ≡ frame

-- each page has the frames that it had
abbrev pub SameFrames : Index → Index → Type 0
SameFrames old new = (p : ℕ) → frames_of new p ≡ frames_of old p

-- one page may have a frame more
abbrev pub AddsFrame : ℕ → ℕ → Index → Index → Type 0
AddsFrame page frame old new = (p : ℕ) → 1 ≤ p → (frames_of new p ≡ frames_of old p) ⊎ ((p ≡ page) × (frames_of new p ≡ frames_of old p ++ frame ∷ []))

-- the greatest frame of the page that is at most the mark
pub record FindsFrame (page mark : ℕ) (index : Index) (frame : ℕ) : Type 0 where
  pub known : 1 ≤ page
  pub has : HasFrame index page frame
  pub seen : frame ≤ mark
  pub newest : (other : ℕ) → HasFrame index page other → other ≤ mark → other ≤ frame

-- no frame of the page is at most the mark
abbrev pub FindsNone : ℕ → ℕ → Index → Type 0
FindsNone page mark index = 1 ≤ page → (frame : ℕ) → HasFrame index page frame → mark < frame

-- a number that a page of a database may have
abbrev pub IsPageNumber : ℕ → Type 0
IsPageNumber page = (1 ≤ page) × (page ≤ 65536)

-- how many frames more a list has room for
abbrev pub room_in : Vec ℕ Global → ℕ
room_in row = vec_capacity row - vec_len row

-- how many frames more of a page there is room for
abbrev pub room_for : Index → ℕ → ℕ
room_for index page = slice_index (map room_in index.lists.items) (page - 1)

-- no page has less room
abbrev pub KeepsRoom : Index → Index → Type 0
KeepsRoom old new = (p : ℕ) → room_for old p ≤ room_for new p

-- no page but this has less room
abbrev pub KeepsRoomBut : ℕ → Index → Index → Type 0
KeepsRoomBut page old new = (p : ℕ) → 1 ≤ p → (p ≡ page → ⊥) → room_for old p ≤ room_for new p
