-- The pages of a view, as a map (Database File Format, "Reader Algorithm").
use Rattle.std.specs.Prelude.{◌≡◌, ◌↔◌, ◌≤◌, ◌+◌, ◌-◌, ◌*◌, ◌==◌, ℕ, zero, suc, List, [], ◌∷◌, ◌++◌, length, take, drop, nat_le, Option, Some, None, if◌then◌else◌}
use Rattle.wal_frame.specs.Written.{Framed}
use Rattle.wal.specs.declared.pages.PageImage.{PageImage}
use Rattle.pages.specs.Map.{PageMap, page_at, with_page, IsThere}
use Rattle.pager.specs.declared.writer.Writer.{Writer}
use Rattle.pager.specs.Limits.{pages_of}
use Rattle.pager.specs.Views.{View, ViewHas, IsViewPage}
use Rattle.pager.specs.Writers.{ReplacesPages, seen}

-- what a later frame has, or else an earlier one
abbrev pub later_or : {A : Type 0} → Option A → Option A → Option A
later_or (Some x) earlier = Some x
later_or None earlier = earlier

-- the last of these frames that is of the page
abbrev pub newest_frame : ℕ → List Framed → Option (List ℕ)
newest_frame number [] = None
newest_frame number (f ∷ fs) = later_or (newest_frame number fs) (if f.head.page == number then Some f.page else None)

-- the page of the database file, and no bytes where the file hasn't got it as a whole
abbrev pub page_of_file : List ℕ → ℕ → ℕ → List ℕ
page_of_file db page_size number = if nat_le (number * page_size) (length db) then take page_size (drop ((number - 1) * page_size) db) else []

-- a frame, or else the page of the database file
abbrev pub frame_or_file : Option (List ℕ) → List ℕ → ℕ → ℕ → List ℕ
frame_or_file (Some page) db page_size number = page
frame_or_file None db page_size number = page_of_file db page_size number

-- the page that a view shows, and no bytes where it shows none
abbrev pub found_in : View → ℕ → List ℕ
found_in view number = frame_or_file (newest_frame number view.frames) view.db view.page_size number

-- the first pages that a view shows, so many
abbrev pub pages_to : View → ℕ → PageMap
pages_to view zero = []
pages_to view (suc n) = pages_to view n ++ found_in view (suc n) ∷ []

-- all that it shows
abbrev pub pages_in : View → PageMap
pages_in view = pages_to view view.size

-- ---- laws

-- a page that a view's readers can get is the map's
abbrev pub MapsShown : Type 0
MapsShown = (view : View) (number : ℕ) (bytes : List ℕ) → IsViewPage view number bytes → page_at (pages_in view) number ≡ bytes

-- and a page that is in the map as a whole is one that they can get
abbrev pub ShowsMapped : Type 0
ShowsMapped = (view : View) (number : ℕ) → 1 ≤ view.page_size → IsThere (pages_in view) view.page_size number → IsViewPage view number (page_at (pages_in view) number)

-- the map has as many pages as the view
abbrev pub MapsAll : Type 0
MapsAll = (view : View) → length (pages_in view) ≡ view.size

-- two views of one size that show the same have one map
abbrev pub MapsAlike : Type 0
MapsAlike = (a b : View) → a.size ≡ b.size → ((number : ℕ) (bytes : List ℕ) → ViewHas a number bytes ↔ ViewHas b number bytes) → pages_in a ≡ pages_in b

-- a page that a writer puts takes its place in the map
abbrev pub PutsInPlace : Type 0
PutsInPlace = (view : View) (page : PageImage) (old new : Writer) → ReplacesPages (page ∷ []) old new → 1 ≤ page.number → page.number ≤ pages_of old
    → pages_in (seen view new) ≡ with_page (pages_in (seen view old)) page.number page.bytes.items

-- and one that it puts past the end is added
abbrev pub PutsAtEnd : Type 0
PutsAtEnd = (view : View) (page : PageImage) (old new : Writer) → ReplacesPages (page ∷ []) old new → page.number ≡ pages_of old + 1
    → pages_in (seen view new) ≡ pages_in (seen view old) ++ (page.bytes.items ∷ [])
