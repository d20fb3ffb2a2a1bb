-- Where the last of some pages is within a size, there is a gap behind it.
use Rattle.std.proofs.Common.{◌≡◌, ◌<◌, ◌≤◌, ◌+◌, ℕ, zero, suc, List, [], ◌∷◌, length, take, drop, get_or, arith}
use Rattle.std.specs.List.{AllByRecursion}
use Rattle.wal.specs.declared.pages.PageImage.{PageImage}
use Rattle.wal.specs.Pages.{ArePages}
use Rattle.pager.specs.Undo.{NumbersRise}
use Rattle.pager.specs.Writers.{BeginAtPageOne, EndsWithin, IsGapFor}

pub ends_from : (size : ℕ) (ps : List PageImage) (k : ℕ) (d : PageImage) → k + 1 ≡ length ps → (get_or ps k d).number ≤ size → EndsWithin size ps
ends_from size [] k d is le = absurd (omega (arith, is))
ends_from size (p ∷ []) zero d is le = le
ends_from size (p ∷ []) (suc k) d is le = absurd (omega (arith, is))
ends_from size (p ∷ q ∷ ps) zero d is le = absurd (omega (arith, is))
ends_from size (p ∷ q ∷ ps) (suc k) d is le = ends_from size (q ∷ ps) k d (omega (arith, is)) le

pub ends_to : (size : ℕ) (ps : List PageImage) (k : ℕ) (d : PageImage) → k + 1 ≡ length ps → EndsWithin size ps → (get_or ps k d).number ≤ size
ends_to size [] k d is ends = absurd ends
ends_to size (p ∷ []) zero d is ends = ends
ends_to size (p ∷ []) (suc k) d is ends = absurd (omega (arith, is))
ends_to size (p ∷ q ∷ ps) zero d is ends = absurd (omega (arith, is))
ends_to size (p ∷ q ∷ ps) (suc k) d is ends = ends_to size (q ∷ ps) k d (omega (arith, is)) ends

-- the pages of a commit end so
more_end : (last size bytes : ℕ) (p : PageImage) (ps : List PageImage) → ArePages last size bytes (p ∷ ps) → EndsWithin size (p ∷ ps)
more_end last size bytes p [] are = are.1
more_end last size bytes p (q ∷ ps) are = more_end p.number size bytes q ps are.3

pub pages_end : (last size bytes : ℕ) (ps : List PageImage) → ArePages last size bytes ps → BeginAtPageOne ps → EndsWithin size ps
pages_end last size bytes [] are first = absurd first
pages_end last size bytes (p ∷ ps) are first = more_end last size bytes p ps are

pub ends_some : (size : ℕ) (ps : List PageImage) → EndsWithin size ps → 1 ≤ length ps
ends_some size [] ends = absurd ends
ends_some size (p ∷ ps) ends = omega arith

-- ---- the gap

first_within : (last size : ℕ) (p : PageImage) (ps : List PageImage) → NumbersRise last (p ∷ ps) → EndsWithin size (p ∷ ps) → p.number ≤ size
first_within last size p [] rise ends = ends
first_within last size p (q ∷ ps) rise ends =
    let more = first_within (p.number + 1) size q ps rise.1 ends in
    let next = rise.1.0 in
    omega (arith, more, next)

all_within : (last size : ℕ) (ps : List PageImage) → NumbersRise last ps → EndsWithin size ps → AllByRecursion (λ (p : PageImage). p.number < size + 1) (take (length ps) ps)
all_within last size [] rise ends = tt
all_within last size (p ∷ []) rise ends = (omega (arith, ends), tt)
all_within last size (p ∷ q ∷ ps) rise ends = (let le = first_within last size p (q ∷ ps) rise ends in omega (arith, le), all_within (p.number + 1) size (q ∷ ps) rise.1 ends)

none_behind : (size : ℕ) (ps : List PageImage) → AllByRecursion (λ (p : PageImage). size + 1 < p.number) (drop (length ps) ps)
none_behind size [] = tt
none_behind size (p ∷ ps) = none_behind size ps

pub gap_behind : (size : ℕ) (ps : List PageImage) → NumbersRise 0 ps → EndsWithin size ps → IsGapFor ps (size + 1) (length ps)
gap_behind size ps rise ends = record { within = omega arith; smaller = all_within 0 size ps rise ends; greater = none_behind size ps }
