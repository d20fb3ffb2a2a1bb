-- The room that a log of saved images has for the pages that are older than the newest mark.
use Rattle.std.proofs.Common.{◌≡◌, ◌<◌, ◌≤◌, ◌+◌, ℕ, zero, suc, List, [], ◌∷◌, ◌++◌, length, take, drop, get_or, set, refl, ◌∙◌, ap, arith, length-append}
use Rattle.std.specs.Prelude.{true, false, nat_lt, Bool, if◌then◌else◌, ◌==◌}
use Rattle.std.specs.List.{AllByRecursion, insert}
use Rattle.std.proofs.lemmas.Bool.Decides.{nat_tests}
use Rattle.wal.specs.declared.pages.PageImage.{PageImage}
use Rattle.pager.specs.declared.saved.Saved.{Saved}
use Rattle.pager.specs.declared.saved.Saved.TheVariants.{Added, Changed, Part}
use Rattle.pager.specs.declared.saved.Mark.{Mark}
use Rattle.pager.specs.Undo.{AreMarks, IsKept, NumbersRise, needed, newest_stamp, older_than, stays, swapped_stamps, without_stamps}
use Rattle.pager.proofs.Placing.{if_false, if_true, same_numbers, stamps_above}
use Rattle.pager.proofs.Undoing.{all_up_to, stamps_undone}

-- one where the stamp is less
abbrev pub one_if : ℕ → ℕ → ℕ
one_if limit t = if nat_lt t limit then 1 else 0

one_most : (limit t : ℕ) → one_if limit t ≤ 1
one_most limit t = grind (arith, nat_tests)

one_less : (a b t : ℕ) → a ≤ b → one_if a t ≤ one_if b t
one_less a b t le = grind (arith, nat_tests)

one_is : (limit t : ℕ) → t < limit → one_if limit t ≡ 1
one_is limit t lt = grind (arith, nat_tests)

one_not : (limit t : ℕ) → limit ≤ t → one_if limit t ≡ 0
one_not limit t le = grind (arith, nat_tests)

pub older_most : (limit : ℕ) (ts : List ℕ) → older_than limit ts ≤ length ts
older_most limit [] = omega arith
older_most limit (t ∷ ts) = (let rest = older_most limit ts in let one = one_most limit t in omega (arith, rest, one))

pub older_less : (a b : ℕ) (ts : List ℕ) → a ≤ b → older_than a ts ≤ older_than b ts
older_less a b [] le = omega arith
older_less a b (t ∷ ts) le = (let rest = older_less a b ts le in let one = one_less a b t le in omega (arith, rest, one))

older_set : (limit : ℕ) (ts : List ℕ) (i t new : ℕ) → i < length ts → t ≡ get_or ts i t → older_than limit (set ts i new) + one_if limit t ≡ older_than limit ts + one_if limit new
older_set limit [] i t new lt is = absurd (omega (arith, lt))
older_set limit (u ∷ ts) zero t new lt is = (let same = ap (one_if limit) is in omega (arith, same))
older_set limit (u ∷ ts) (suc i) t new lt is = (let rest = older_set limit ts i t new (omega (arith, lt)) is in omega (arith, rest))

older_insert : (limit : ℕ) (ts : List ℕ) (i t : ℕ) → limit ≤ t → older_than limit (insert ts i t) ≤ older_than limit ts
older_insert limit [] zero t le = (let none = one_not limit t le in omega (arith, none))
older_insert limit [] (suc i) t le = (let none = one_not limit t le in omega (arith, none))
older_insert limit (u ∷ ts) zero t le = (let none = one_not limit t le in omega (arith, none))
older_insert limit (u ∷ ts) (suc i) t le = (let rest = older_insert limit ts i t le in omega (arith, rest))

-- at most one more where the stamp of one page is another
older_swapped : (limit last number stamp : ℕ) (ps : List PageImage) (ts : List ℕ) → NumbersRise last ps → length ts ≡ length ps → older_than limit (swapped_stamps number stamp ps ts) ≤ older_than limit ts + 1
older_swapped limit last number stamp [] ts are even = omega arith
older_swapped limit last number stamp (p ∷ ps) [] are even = omega arith
older_swapped limit last number stamp (p ∷ ps) (t ∷ ts) are even = by_test (older_swapped limit (p.number + 1) number stamp ps ts are.1 (omega (arith, even))) (p.number == number) refl
  where
    here : (p.number == number) ≡ true → older_than limit (swapped_stamps number stamp (p ∷ ps) (t ∷ ts)) ≤ older_than limit (t ∷ ts) + 1
    here is =
        let n = same_numbers p.number number is in
        let rest : older_than limit (swapped_stamps number stamp ps ts) ≡ older_than limit ts = ap (older_than limit) (stamps_above (p.number + 1) number stamp ps ts (omega (arith, n)) are.1 (omega (arith, even))) in
        let head = ap (one_if limit) (if_true (p.number == number) stamp t is) in
        let one = one_most limit stamp in
        omega (arith, rest, head, one)

    there : (p.number == number) ≡ false → older_than limit (swapped_stamps number stamp ps ts) ≤ older_than limit ts + 1 → older_than limit (swapped_stamps number stamp (p ∷ ps) (t ∷ ts)) ≤ older_than limit (t ∷ ts) + 1
    there is rest = (let head = ap (one_if limit) (if_false (p.number == number) stamp t is) in omega (arith, rest, head))

    by_test : older_than limit (swapped_stamps number stamp ps ts) ≤ older_than limit ts + 1 → (test : Bool) → (p.number == number) ≡ test → older_than limit (swapped_stamps number stamp (p ∷ ps) (t ∷ ts)) ≤ older_than limit (t ∷ ts) + 1
    by_test rest true is = here is
    by_test rest false is = there is rest

older_out : (limit t : ℕ) (ts us : List ℕ) (test : Bool) → older_than limit us ≤ older_than limit ts → older_than limit (if test then us else t ∷ us) ≤ older_than limit (t ∷ ts)
older_out limit t ts us true le = omega (arith, le)
older_out limit t ts us false le = omega (arith, le)

older_without : (limit number : ℕ) (ps : List PageImage) (ts : List ℕ) → older_than limit (without_stamps number ps ts) ≤ older_than limit ts
older_without limit number [] ts = omega arith
older_without limit number (p ∷ ps) [] = omega arith
older_without limit number (p ∷ ps) (t ∷ ts) = older_out limit t ts (without_stamps number ps ts) (p.number == number) (older_without limit number ps ts)

older_undone : (limit : ℕ) (e : Saved) (ps : List PageImage) (ts : List ℕ) → NumbersRise 0 ps → length ts ≡ length ps → older_than limit (stamps_undone e ps ts) ≤ older_than limit ts + 1
older_undone limit (Added number) ps ts are even = (let le = older_without limit number ps ts in omega (arith, le))
older_undone limit (Changed page t) ps ts are even = older_swapped limit 0 page.number t ps ts are even
older_undone limit (Part number offset bytes) ps ts are even = omega arith

-- ---- room

-- there is room for the image of a page that is older than the mark
pub some_room : (limit : ℕ) (ts : List ℕ) (i t len cap : ℕ) → older_than limit ts + len ≤ cap → i < length ts → t ≡ get_or ts i t → t < limit → len < cap
some_room limit ts i t len cap room lt is old =
    let changed = older_set limit ts i t limit lt is in
    let one = one_is limit t old in
    let none = one_not limit limit (omega arith) in
    omega (arith, room, changed, one, none)

pub room_saved : (limit most : ℕ) (ts us : List ℕ) (es fs : List Saved) (e : Saved) (i t cap more : ℕ) → older_than limit ts + length es ≤ cap → i < length ts → t ≡ get_or ts i t → t < limit → limit ≤ most → us ≡ set ts i most → fs ≡ es ++ e ∷ [] → cap ≤ more
    → older_than limit us + length fs ≤ more
room_saved limit most ts us es fs e i t cap more room lt is old le us_is fs_is grows =
    let changed = older_set limit ts i t most lt is in
    let one = one_is limit t old in
    let none = one_not limit most le in
    let stamps = ap (older_than limit) us_is in
    let long : length fs ≡ length es + 1 = ap length fs_is ∙ length-append es (e ∷ []) in
    omega (arith, room, changed, one, none, stamps, long, grows)

pub room_added : (limit most : ℕ) (ts us : List ℕ) (es fs : List Saved) (e : Saved) (i cap : ℕ) → length es + (length ts + 1) ≤ cap → limit ≤ most → us ≡ insert ts i most → fs ≡ es ++ e ∷ [] → older_than limit us + length fs ≤ cap
room_added limit most ts us es fs e i cap room le us_is fs_is =
    let less = older_insert limit ts i most le in
    let most = older_most limit ts in
    let stamps = ap (older_than limit) us_is in
    let long : length fs ≡ length es + 1 = ap length fs_is ∙ length-append es (e ∷ []) in
    omega (arith, room, less, most, stamps, long)

-- a part more is saved, and no stamp changes
pub room_part : (limit : ℕ) (ts : List ℕ) (es fs : List Saved) (e : Saved) (cap : ℕ) → length es + (length ts + 1) ≤ cap → fs ≡ es ++ e ∷ [] → older_than limit ts + length fs ≤ cap
room_part limit ts es fs e cap room fs_is =
    let most = older_most limit ts in
    let long : length fs ≡ length es + 1 = ap length fs_is ∙ length-append es (e ∷ []) in
    omega (arith, room, most, long)

pub room_undone : (limit : ℕ) (ps : List PageImage) (ts us : List ℕ) (es fs : List Saved) (e : Saved) (cap : ℕ) → older_than limit ts + length fs ≤ cap → NumbersRise 0 ps → length ts ≡ length ps → us ≡ stamps_undone e ps ts → fs ≡ es ++ e ∷ [] → older_than limit us + length es ≤ cap
room_undone limit ps ts us es fs e cap room are even us_is fs_is =
    let more = older_undone limit e ps ts are even in
    let stamps = ap (older_than limit) us_is in
    let long : length fs ≡ length es + 1 = ap length fs_is ∙ length-append es (e ∷ []) in
    omega (arith, room, more, stamps, long)

-- ---- marks left out

newest_of : (t : ℕ) (ms : List Mark) → AllByRecursion (λ (m : Mark). m.stamp ≤ t) ms → newest_stamp ms ≤ t
newest_of t [] all = omega arith
newest_of t (m ∷ []) all = all.0
newest_of t (m ∷ n ∷ ms) all = newest_of t (n ∷ ms) all.1

all_taken : (P : Mark → Type 0) (k : ℕ) (ms : List Mark) → AllByRecursion P ms → AllByRecursion P (take k ms)
all_taken P zero ms all = tt
all_taken P (suc k) [] all = tt
all_taken P (suc k) (m ∷ ms) all = (all.0, all_taken P k ms all.1)

pub newest_taken : (most : ℕ) (es : List Saved) (ps : List PageImage) (ts : List ℕ) (ms : List Mark) (k : ℕ) → IsKept most es ps ts ms → newest_stamp (take k ms) ≤ newest_stamp ms
newest_taken most es ps ts ms k is = newest_of (newest_stamp ms) (take k ms) (all_taken (λ (m : Mark). m.stamp ≤ newest_stamp ms) k ms (all_up_to most (newest_stamp ms) es ps ts ms (omega arith) is.1.1.1))

-- the newest mark is no younger than the greatest stamp
pub newest_up_to : (most : ℕ) (es : List Saved) (ps : List PageImage) (ts : List ℕ) (ms : List Mark) → IsKept most es ps ts ms → newest_stamp ms ≤ most
newest_up_to most es ps ts ms is = newest_of most ms (each most ms is.1.1.1)
  where
    each : (n : ℕ) (os : List Mark) → AreMarks n es ps ts os → AllByRecursion (λ (m : Mark). m.stamp ≤ n) os
    each n [] are = tt
    each n (m ∷ os) are = (are.0, each n os are.1.1.1)

pub room_taken : (most : ℕ) (es fs : List Saved) (ps : List PageImage) (ts : List ℕ) (ms ns : List Mark) (k cap more : ℕ) → IsKept most es ps ts ms → older_than (newest_stamp ms) ts + length es ≤ cap → ns ≡ take k ms → length fs ≤ length es → more ≡ cap → older_than (newest_stamp ns) ts + length fs ≤ more
room_taken most es fs ps ts ms ns k cap more is room ns_is less same =
    let lower = newest_taken most es ps ts ms k is in
    let newest_is = ap newest_stamp ns_is in
    let fewer = older_less (newest_stamp ns) (newest_stamp ms) ts (omega (arith, lower, newest_is)) in
    omega (arith, room, fewer, less, same)

-- ---- what is left out

one_out : (e : Saved) (es fs : List Saved) (test : Bool) → length fs ≤ length es → length (if test then e ∷ fs else fs) ≤ length (e ∷ es)
one_out e es fs true le = omega (arith, le)
one_out e es fs false le = omega (arith, le)

needed_most : (limit : ℕ) (es : List Saved) → length (needed limit es) ≤ length es
needed_most limit [] = omega arith
needed_most limit (e ∷ es) = one_out e es (needed limit es) (stays limit e) (needed_most limit es)

pub left_most : (k limit : ℕ) (es : List Saved) → length (take k es ++ needed limit (drop k es)) ≤ length es
left_most zero limit es = needed_most limit es
left_most (suc k) limit [] = omega arith
left_most (suc k) limit (e ∷ es) = (let rest = left_most k limit es in omega (arith, rest))

-- ---- no mark

none_older : (ts : List ℕ) → older_than 0 ts ≡ 0
none_older [] = refl
none_older (t ∷ ts) = (let rest = none_older ts in let one = one_not 0 t (omega arith) in omega (arith, rest, one))

pub room_alone : (ts us : List ℕ) (ms : List Mark) (len cap : ℕ) → ms ≡ [] → older_than (newest_stamp ms) ts + len ≤ cap → older_than (newest_stamp ms) us + len ≤ cap
room_alone ts us ms len cap none room =
    let before = ap (λ os. older_than (newest_stamp os) ts) none in
    let after = ap (λ os. older_than (newest_stamp os) us) none in
    omega (arith, room, before, after, none_older ts, none_older us)

pub room_none : (ts : List ℕ) (cap : ℕ) → older_than 0 ts + 0 ≤ cap
room_none ts cap = (let none = none_older ts in omega (arith, none))
