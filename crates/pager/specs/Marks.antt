-- What a writer would commit, and what it would have committed at its marks.
use Rattle.std.specs.Prelude.{◌≡◌, ◌≤◌, ℕ, Bool, List, drop, length, map, slice_index}
use Rattle.wal.specs.declared.pages.PageImage.{PageImage}
use Rattle.pager.specs.declared.saved.Saved.{Saved}
use Rattle.pager.specs.declared.saved.Mark.{Mark}
use Rattle.pager.specs.declared.writer.Writer.{Writer}
use Rattle.pager.specs.Undo.{newest_stamp, unwound}

-- what a transaction has changed: its pages by rising number, how many the database has then, and whether a new object is among them
pub record Changes : Type 0 where
  pub pages : List PageImage
  pub size : ℕ
  pub makes_objects : Bool

-- what a writer would commit
abbrev pub now_of : Writer → Changes
now_of writer = record { pages = writer.pages.items; size = writer.size; makes_objects = writer.has_new_objects }

-- what the changes were at a mark, by a log of what was saved since
abbrev pub changes_at : List Saved → List PageImage → Mark → Changes
changes_at saved pages mark = record { pages = unwound (drop mark.saved saved) pages; size = mark.size; makes_objects = mark.has_new_objects }

-- the same of each mark
abbrev pub changes_at_each : List Saved → List PageImage → List Mark → List Changes
changes_at_each saved pages = map (changes_at saved pages)

-- what a writer would have committed at each of its marks, the newest last
abbrev pub marks_of : Writer → List Changes
marks_of writer = changes_at_each writer.saved.items writer.pages.items writer.marks.items

-- how many images of pages, and parts of pages, are kept for the way back to its marks
abbrev pub kept_count : Writer → ℕ
kept_count writer = length writer.saved.items

-- what the page at this place was at the newest mark is saved, or there is no mark
abbrev pub IsSaved : Writer → ℕ → Type 0
IsSaved writer index = newest_stamp writer.marks.items ≤ slice_index writer.stamps.items index

-- it stands on the same snapshot, with pages of the same size
pub record IsOverTheSame (old new : Writer) : Type 0 where
  pub page_size : new.page_size ≡ old.page_size
  pub snapshot : new.snapshot ≡ old.snapshot
