-- Leaving out what doesn't have to stay, in place.
use Rattle.std.proofs.Common.{◌≡◌, ◌<◌, ◌≤◌, ℕ, zero, suc, List, [], ◌∷◌, ◌++◌, length, take, drop, get_or, refl, sym, ◌∙◌, ap, subst, arith}
use Rattle.std.specs.Prelude.{true, false, Bool, if◌then◌else◌}
use Rattle.std.specs.List.{AllByRecursion}
use Rattle.wal.specs.declared.pages.PageImage.{PageImage}
use Rattle.pager.specs.declared.saved.Saved.{Saved}
use Rattle.pager.specs.declared.saved.Mark.{Mark}
use Rattle.pager.specs.Marks.{changes_at_each}
use Rattle.pager.specs.Undo.{AreUpTo, IsKept, needed, newest_stamp, stays}
use Rattle.pager.proofs.LeftOut.{IsInFront, mark_kept, state_kept}
use Rattle.pager.proofs.Undoing.{all_up_to, kept_take, states_map, marks_map, states_taken, up_to_mark}

-- ---- a whole log without them

take_drop : (k : ℕ) (xs : List Saved) → xs ≡ take k xs ++ drop k xs
take_drop zero xs = refl
take_drop (suc k) [] = refl
take_drop (suc k) (x ∷ xs) = ap (λ zs. x ∷ zs) (take_drop k xs)

take_length : (k : ℕ) (xs : List Saved) → k ≤ length xs → length (take k xs) ≡ k
take_length zero xs le = refl
take_length (suc k) [] le = absurd (omega (arith, le))
take_length (suc k) (x ∷ xs) le = ap suc (take_length k xs (omega (arith, le)))

one_less : (P : Mark → Type 0) (k : ℕ) (ms : List Mark) → AllByRecursion P (take (suc k) ms) → AllByRecursion P (take k ms)
one_less P zero ms all = tt
one_less P (suc k) [] all = tt
one_less P (suc k) (m ∷ ms) all = (all.0, one_less P k ms all.1)

in_front : (front : List Saved) (limit from : ℕ) (ms : List Mark) → from ≤ length front → AllByRecursion (λ (m : Mark). m.saved ≤ from) ms → AllByRecursion (λ (m : Mark). m.stamp ≤ limit) ms → AllByRecursion (IsInFront front limit) ms
in_front front limit from [] le low young = tt
in_front front limit from (m ∷ ms) le low young = (let here = low.0 in (omega (arith, here, le), young.0), in_front front limit from ms le low.1 young.1)

kept_up_to : (most limit : ℕ) (b : Bool) (e : Saved) (es : List Saved) → AreUpTo most (e ∷ es) → AreUpTo most (if b then e ∷ es else es)
kept_up_to most limit true e es all = all
kept_up_to most limit false e es all = all.1

left_up_to : (most limit : ℕ) (es : List Saved) → AreUpTo most es → AreUpTo most (needed limit es)
left_up_to most limit [] all = tt
left_up_to most limit (e ∷ es) all = kept_up_to most limit (stays limit e) e (needed limit es) (all.0, left_up_to most limit es all.1)

front_up_to : (most limit : ℕ) (front es : List Saved) → AreUpTo most (front ++ es) → AreUpTo most (front ++ needed limit es)
front_up_to most limit [] es all = left_up_to most limit es all
front_up_to most limit (e ∷ front) es all = (all.0, front_up_to most limit front es all.1)

fits : (most : ℕ) (es : List Saved) (ps : List PageImage) (ts : List ℕ) (ms : List Mark) (k : ℕ) (m : Mark) → k < length ms → m ≡ get_or ms k m → m.saved ≤ length es → IsKept most es ps ts ms
    → AllByRecursion (IsInFront (take m.saved es) (newest_stamp (take k ms))) (take k ms)
fits most es ps ts ms k m lt is within kept =
    let taken = kept_take most es ps ts ms k kept in
    let long = take_length m.saved es within in
    in_front (take m.saved es) (newest_stamp (take k ms)) m.saved (take k ms) (omega (arith, long))
    (one_less (λ (o : Mark). o.saved ≤ m.saved) k ms (subst (λ (n : Mark). AllByRecursion (λ (o : Mark). o.saved ≤ n.saved) (take (suc k) ms)) (sym is) (up_to_mark most es ps ts ms k m lt kept.1.1.1)))
    (all_up_to most (newest_stamp (take k ms)) es ps ts (take k ms) (omega arith) taken.1.1.1)

pub kept_left : (most : ℕ) (es fs : List Saved) (ps : List PageImage) (ts : List ℕ) (ms ns : List Mark) (k : ℕ) (m : Mark) → k < length ms → m ≡ get_or ms k m → m.saved ≤ length es → IsKept most es ps ts ms → ns ≡ take k ms
    → fs ≡ take m.saved es ++ needed (newest_stamp ns) (drop m.saved es) → IsKept most fs ps ts ns
kept_left most es fs ps ts ms ns k m lt is within before ns_is fs_is =
    let front = take m.saved es in
    let limit = newest_stamp (take k ms) in
    let all = fits most es ps ts ms k m lt is within before in
    let taken = subst (λ gs. IsKept most gs ps ts (take k ms)) (take_drop m.saved es) (kept_take most es ps ts ms k before) in
    subst (λ os. IsKept most fs ps ts os) (sym ns_is) (subst (λ gs. IsKept most gs ps ts (take k ms)) (sym (fs_is ∙ ap (λ os. front ++ needed (newest_stamp os) (drop m.saved es)) ns_is)) (
      taken.0,
      (
        taken.1.0,
        (
          front_up_to most limit front (drop m.saved es) taken.1.1.0,
          marks_map (IsInFront front limit) most most (front ++ drop m.saved es) (front ++ needed limit (drop m.saved es)) ps ps ts ts (omega arith) (λ o low mark. mark_kept limit front (drop m.saved es) ps ts o low mark) (take k ms) all taken.1.1.1,
        ),
      ),
    ))

pub states_left : (most : ℕ) (es fs : List Saved) (ps : List PageImage) (ts : List ℕ) (ms ns : List Mark) (k : ℕ) (m : Mark) → k < length ms → m ≡ get_or ms k m → m.saved ≤ length es → IsKept most es ps ts ms → ns ≡ take k ms
    → fs ≡ take m.saved es ++ needed (newest_stamp ns) (drop m.saved es) → changes_at_each fs ps ns ≡ take k (changes_at_each es ps ms)
states_left most es fs ps ts ms ns k m lt is within before ns_is fs_is =
    let front = take m.saved es in
    let limit = newest_stamp (take k ms) in
    let all = fits most es ps ts ms k m lt is within before in
    let taken = subst (λ gs. IsKept most gs ps ts (take k ms)) (take_drop m.saved es) (kept_take most es ps ts ms k before) in
    ap (changes_at_each fs ps) ns_is ∙ ap (λ gs. changes_at_each gs ps (take k ms)) (fs_is ∙ ap (λ os. front ++ needed (newest_stamp os) (drop m.saved es)) ns_is)
    ∙ states_map (IsInFront front limit) most (front ++ drop m.saved es) (front ++ needed limit (drop m.saved es)) ps ps ts (λ o low mark. state_kept limit front (drop m.saved es) ps ts o low mark) (take k ms) all taken.1.1.1
    ∙ (ap (λ gs. changes_at_each gs ps (take k ms)) (sym (take_drop m.saved es)) ∙ states_taken es ps ms (take k ms) k refl)
