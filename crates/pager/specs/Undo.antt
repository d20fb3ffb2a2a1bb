-- What a log of saved images says of the pages before it.
use Rattle.std.specs.Prelude.{◌<◌, ◌≤◌, ◌+◌, ◌==◌, nat_le, nat_lt, ℕ, Bool, true, false, List, [], ◌∷◌, length, drop, IsTrue, ⊤, if◌then◌else◌}
use Rattle.std.specs.List.{AllByRecursion}
use Rattle.std.specs.Coded.{×_prop, Unit-prop, le_prop, →_prop}
use mathlib.Core.HLevel.{⊥_prop}
use mathlib.Core.Bool.{Bool-set}
use Rattle.std.specs.Vec.{with_items}
use Rattle.wal.specs.declared.pages.PageImage.{PageImage}
use Rattle.pages.specs.Map.{written_over}
use Rattle.pager.specs.declared.saved.Saved.{Saved}
use Rattle.pager.specs.declared.saved.Saved.TheVariants.{Added, Changed, Part}
use Rattle.pager.specs.declared.saved.Mark.{Mark}

-- each page of this image's number is this image
abbrev pub swapped : PageImage → List PageImage → List PageImage
swapped page [] = []
swapped page (q ∷ qs) = (if q.number == page.number then page else q) ∷ swapped page qs

-- those of another number
abbrev pub without : ℕ → List PageImage → List PageImage
without number [] = []
without number (q ∷ qs) = if q.number == number then without number qs else q ∷ without number qs

-- the page with these bytes over its own from an offset on, in the same place in memory; where it ends before, it stays
abbrev pub part_over : ℕ → List ℕ → PageImage → PageImage
part_over offset bytes page =
    if nat_le (offset + length bytes) (length page.bytes.items) then record { number = page.number; bytes = with_items page.bytes (written_over offset bytes page.bytes.items) } else page

-- each page of this number has these bytes over its own from an offset on
abbrev pub parts_over : ℕ → ℕ → List ℕ → List PageImage → List PageImage
parts_over number offset bytes [] = []
parts_over number offset bytes (q ∷ qs) = (if q.number == number then part_over offset bytes q else q) ∷ parts_over number offset bytes qs

-- the stamps beside them, where this stamp takes the place of that of one number
abbrev pub swapped_stamps : ℕ → ℕ → List PageImage → List ℕ → List ℕ
swapped_stamps number stamp [] ts = []
swapped_stamps number stamp (q ∷ qs) [] = []
swapped_stamps number stamp (q ∷ qs) (t ∷ ts) = (if q.number == number then stamp else t) ∷ swapped_stamps number stamp qs ts

-- the stamps of those of another number
abbrev pub without_stamps : ℕ → List PageImage → List ℕ → List ℕ
without_stamps number [] ts = []
without_stamps number (q ∷ qs) [] = []
without_stamps number (q ∷ qs) (t ∷ ts) = if q.number == number then without_stamps number qs ts else t ∷ without_stamps number qs ts

-- the number of the page that it is of
abbrev pub number_of : Saved → ℕ
number_of (Added number) = number
number_of (Changed page stamp) = page.number
number_of (Part number offset bytes) = number

-- it tells the whole page of this number, or that there was none
abbrev pub tells_page : ℕ → Saved → Bool
tells_page number (Added other) = other == number
tells_page number (Changed page stamp) = page.number == number
tells_page number (Part other offset bytes) = false

-- the pages before the change that saved this
abbrev pub undone : Saved → List PageImage → List PageImage
undone (Added number) ps = without number ps
undone (Changed page stamp) ps = swapped page ps
undone (Part number offset bytes) ps = parts_over number offset bytes.items ps

-- the pages before the changes that saved these, the newest last
abbrev pub unwound : List Saved → List PageImage → List PageImage
unwound [] ps = ps
unwound (e ∷ es) ps = undone e (unwound es ps)

-- ---- what makes a log whole

-- one of these tells the whole page
abbrev pub mentions : ℕ → List Saved → Bool
mentions number [] = false
mentions number (e ∷ es) = if tells_page number e then true else mentions number es

-- numbers rise
abbrev pub NumbersRise : ℕ → List PageImage → Type 0
NumbersRise last [] = ⊤
NumbersRise last (p ∷ ps) = (last ≤ p.number) × NumbersRise (p.number + 1) ps

-- this holds of each page with its stamp, and each has one
abbrev pub Beside : (PageImage → ℕ → Type 0) → List PageImage → List ℕ → Type 0
Beside Q [] [] = ⊤
Beside Q [] (t ∷ ts) = ⊥
Beside Q (p ∷ ps) [] = ⊥
Beside Q (p ∷ ps) (t ∷ ts) = Q p t × Beside Q ps ts

-- an image as young as the mark was saved before, since the mark
abbrev pub Link : ℕ → List Saved → Saved → Type 0
Link stamp seen (Added number) = ⊤
Link stamp seen (Changed page t) = stamp ≤ t → IsTrue (mentions page.number seen)
Link stamp seen (Part number offset bytes) = ⊤

-- each of these, where those before it are seen
abbrev pub Linked : ℕ → List Saved → List Saved → Type 0
Linked stamp seen [] = ⊤
Linked stamp seen (e ∷ es) = Link stamp seen e × Linked stamp (e ∷ seen) es

-- it has no greater stamp
abbrev pub IsUpTo : ℕ → Saved → Type 0
IsUpTo most (Added number) = ⊤
IsUpTo most (Changed page t) = t ≤ most
IsUpTo most (Part number offset bytes) = ⊤

-- none of these has a greater stamp
abbrev pub AreUpTo : ℕ → List Saved → Type 0
AreUpTo most [] = ⊤
AreUpTo most (e ∷ es) = IsUpTo most e × AreUpTo most es

-- a page as young as the mark was saved since
abbrev pub IsSince : ℕ → List Saved → PageImage → ℕ → Type 0
IsSince stamp since page t = stamp ≤ t → IsTrue (mentions page.number since)

-- the log can go back to the mark, and knows what was saved since
abbrev pub IsMark : List Saved → List PageImage → List ℕ → Mark → Type 0
IsMark saved pages stamps m = (m.saved ≤ length saved) × (Beside (IsSince m.stamp (drop m.saved saved)) pages stamps × Linked m.stamp [] (drop m.saved saved))

-- a mark isn't after another
abbrev pub IsBefore : Mark → Mark → Type 0
IsBefore m n = (m.saved ≤ n.saved) × (m.stamp ≤ n.stamp)

-- it is before each of these
abbrev pub AllBehind : Mark → List Mark → Type 0
AllBehind m [] = ⊤
AllBehind m (n ∷ ns) = IsBefore m n × AllBehind m ns

-- the log can go back to each of these marks, and none is younger than the greatest stamp or before another that stands ahead of it
abbrev pub AreMarks : ℕ → List Saved → List PageImage → List ℕ → List Mark → Type 0
AreMarks most saved pages stamps [] = ⊤
AreMarks most saved pages stamps (m ∷ ms) = (m.stamp ≤ most) × (IsMark saved pages stamps m × (AllBehind m ms × AreMarks most saved pages stamps ms))

-- each of these marks has less saved before it
abbrev pub AllSaved : ℕ → List Mark → Type 0
AllSaved saved = AllByRecursion (λ (m : Mark). m.saved < saved)

-- a page's stamp is no greater
abbrev pub IsStamped : ℕ → PageImage → ℕ → Type 0
IsStamped most page t = t ≤ most

-- Pages rise, each has a stamp, no stamp is greater than the greatest, and the log can go back to each mark.
abbrev pub IsKept : ℕ → List Saved → List PageImage → List ℕ → List Mark → Type 0
IsKept most saved pages stamps marks = NumbersRise 0 pages × (Beside (IsStamped most) pages stamps × (AreUpTo most saved × AreMarks most saved pages stamps marks))

-- the stamp of the newest mark, or 0
abbrev pub newest_stamp : List Mark → ℕ
newest_stamp [] = 0
newest_stamp (m ∷ []) = m.stamp
newest_stamp (m ∷ n ∷ ms) = newest_stamp (n ∷ ms)

-- it has to stay for marks up to this stamp
abbrev pub stays : ℕ → Saved → Bool
stays stamp (Added number) = true
stays stamp (Changed page t) = nat_lt t stamp
stays stamp (Part number offset bytes) = true

-- those of a log that have to stay for them
abbrev pub needed : ℕ → List Saved → List Saved
needed stamp [] = []
needed stamp (e ∷ es) = if stays stamp e then e ∷ needed stamp es else needed stamp es

-- how many of these stamps are less than another
abbrev pub older_than : ℕ → List ℕ → ℕ
older_than limit [] = 0
older_than limit (t ∷ ts) = older_than limit ts + (if nat_lt t limit then 1 else 0)

-- ---- each of these has one proof at most

is_one_le : (n m : ℕ) → IsProp (n ≤ m)
is_one_le n m = le_prop

pub NumbersRise-prop : (last : ℕ) (ps : List PageImage) → IsProp (NumbersRise last ps)
NumbersRise-prop last [] = Unit-prop
NumbersRise-prop last (p ∷ ps) = ×_prop le_prop (NumbersRise-prop (p.number + 1) ps)

Beside-prop : (Q : PageImage → ℕ → Type 0) → ((p : PageImage) (t : ℕ) → IsProp (Q p t)) → (ps : List PageImage) (ts : List ℕ) → IsProp (Beside Q ps ts)
Beside-prop Q is [] [] = Unit-prop
Beside-prop Q is [] (t ∷ ts) = ⊥_prop
Beside-prop Q is (p ∷ ps) [] = ⊥_prop
Beside-prop Q is (p ∷ ps) (t ∷ ts) = ×_prop (is p t) (Beside-prop Q is ps ts)

Link-prop : (stamp : ℕ) (seen : List Saved) (e : Saved) → IsProp (Link stamp seen e)
Link-prop stamp seen (Added number) = Unit-prop
Link-prop stamp seen (Changed page t) = →_prop (Bool-set (mentions page.number seen) true)
Link-prop stamp seen (Part number offset bytes) = Unit-prop

Linked-prop : (stamp : ℕ) (seen es : List Saved) → IsProp (Linked stamp seen es)
Linked-prop stamp seen [] = Unit-prop
Linked-prop stamp seen (e ∷ es) = ×_prop (Link-prop stamp seen e) (Linked-prop stamp (e ∷ seen) es)

IsUpTo-prop : (most : ℕ) (e : Saved) → IsProp (IsUpTo most e)
IsUpTo-prop most (Added number) = Unit-prop
IsUpTo-prop most (Changed page t) = le_prop
IsUpTo-prop most (Part number offset bytes) = Unit-prop

AreUpTo-prop : (most : ℕ) (es : List Saved) → IsProp (AreUpTo most es)
AreUpTo-prop most [] = Unit-prop
AreUpTo-prop most (e ∷ es) = ×_prop (IsUpTo-prop most e) (AreUpTo-prop most es)

IsMark-prop : (saved : List Saved) (ps : List PageImage) (ts : List ℕ) (m : Mark) → IsProp (IsMark saved ps ts m)
IsMark-prop saved ps ts m = ×_prop (is_one_le m.saved (length saved)) (×_prop (Beside-prop (IsSince m.stamp (drop m.saved saved)) (λ p t. →_prop (Bool-set (mentions p.number (drop m.saved saved)) true)) ps ts) (Linked-prop m.stamp [] (drop m.saved saved)))

AllBehind-prop : (m : Mark) (ms : List Mark) → IsProp (AllBehind m ms)
AllBehind-prop m [] = Unit-prop
AllBehind-prop m (n ∷ ns) = ×_prop (×_prop le_prop le_prop) (AllBehind-prop m ns)

AreMarks-prop : (most : ℕ) (saved : List Saved) (ps : List PageImage) (ts : List ℕ) (ms : List Mark) → IsProp (AreMarks most saved ps ts ms)
AreMarks-prop most saved ps ts [] = Unit-prop
AreMarks-prop most saved ps ts (m ∷ ms) = ×_prop (is_one_le m.stamp most) (×_prop (IsMark-prop saved ps ts m) (×_prop (AllBehind-prop m ms) (AreMarks-prop most saved ps ts ms)))

pub IsKept-prop : (most : ℕ) (saved : List Saved) (ps : List PageImage) (ts : List ℕ) (ms : List Mark) → IsProp (IsKept most saved ps ts ms)
IsKept-prop most saved ps ts ms = ×_prop (NumbersRise-prop 0 ps) (×_prop (Beside-prop (IsStamped most) (λ p t. is_one_le t most) ps ts) (×_prop (AreUpTo-prop most saved) (AreMarks-prop most saved ps ts ms)))
