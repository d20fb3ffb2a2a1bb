-- Where a page stands, and what the changes of lists at a place are, page for page.
use Rattle.std.proofs.Common.{◌≡◌, ◌<◌, ◌≤◌, ◌==◌, ℕ, zero, suc, List, [], ◌∷◌, length, take, drop, get_or, set, refl, sym, ◌∙◌, ap, subst, arith}
use Rattle.std.specs.Prelude.{Result, Ok, Err, IfOk, IfErr, true, false, Bool, if◌then◌else◌, ◌+◌}
use Rattle.std.specs.List.{insert, remove, AllByRecursion}
use Rattle.std.specs.List.Sorted.{IsSearchInRange, IsBinarySearchResult, IsNonDecreasingBy}
use Rattle.std.specs.Ordering.{nat_cmp, ordering_index}
use Rattle.std.proofs.lemmas.Cmp.{ranked}
use Rattle.std.proofs.lemmas.Bool.Decides.{nat_tests}
use Rattle.wal.specs.declared.pages.PageImage.{PageImage}
use Rattle.pager.specs.Writers.{IsAt, IsGapFor}
use Rattle.pager.specs.Undo.{NumbersRise, swapped, swapped_stamps, without, without_stamps}

abbrev number_at : List PageImage → ℕ → PageImage → ℕ
number_at ps i d = (get_or ps i d).number

-- numbers rise
above : (last : ℕ) (ps : List PageImage) → NumbersRise last ps → (j : ℕ) (d : PageImage) → j < length ps → last ≤ number_at ps j d
above last [] are j d lt = absurd (omega (arith, lt))
above last (p ∷ ps) are zero d lt = are.0
above last (p ∷ ps) are (suc j) d lt = (let more = above (p.number + 1) ps are.1 j d (omega (arith, lt)) in omega (arith, more, are.0))

rising : (last : ℕ) (ps : List PageImage) → NumbersRise last ps → (i j : ℕ) (d : PageImage) → i ≤ j → j < length ps → number_at ps i d ≤ number_at ps j d
rising last [] are i j d le lt = absurd (omega (arith, lt))
rising last (p ∷ ps) are zero zero d le lt = omega arith
rising last (p ∷ ps) are zero (suc j) d le lt = (let more = above (p.number + 1) ps are.1 j d (omega (arith, lt)) in omega (arith, more))
rising last (p ∷ ps) are (suc i) zero d le lt = absurd (omega (arith, le))
rising last (p ∷ ps) are (suc i) (suc j) d le lt = rising (p.number + 1) ps are.1 i j d (omega (arith, le)) (omega (arith, lt))

all_take : (P : PageImage → Type 0) (ps : List PageImage) (i : ℕ) → ((j : ℕ) (d : PageImage) → j < i → P (get_or ps j d)) → i ≤ length ps → AllByRecursion P (take i ps)
all_take P ps zero each le = tt
all_take P [] (suc i) each le = tt
all_take P (p ∷ ps) (suc i) each le = (each 0 p (omega arith), all_take P ps i (λ j d lt. each (suc j) d (omega (arith, lt))) (omega (arith, le)))

all_drop : (P : PageImage → Type 0) (ps : List PageImage) (i : ℕ) → ((j : ℕ) (d : PageImage) → i ≤ j → j < length ps → P (get_or ps j d)) → AllByRecursion P (drop i ps)
all_drop P [] zero each = tt
all_drop P [] (suc i) each = tt
all_drop P (p ∷ ps) zero each = (each 0 p (omega arith) (omega arith), all_drop P ps zero (λ j d le lt. each (suc j) d (omega arith) (omega (arith, lt))))
all_drop P (p ∷ ps) (suc i) each = all_drop P ps i (λ j d le lt. each (suc j) d (omega (arith, le)) (omega (arith, lt)))

pub found : (ps : List PageImage) (number : ℕ) (r : Result ℕ ℕ) → IsSearchInRange r (length ps) → IsBinarySearchResult (λ (p : PageImage). nat_cmp p.number number) ps r → IfOk r (λ index. IsAt ps number index)
found ps number (Ok at) within is = record { within = within; number_is = λ d. ranked _ number _ (sym (is d)) }
found ps number (Err at) within is = tt

pub gap : (last : ℕ) (ps : List PageImage) → NumbersRise last ps → (number : ℕ) (r : Result ℕ ℕ) → IsSearchInRange r (length ps) → IsBinarySearchResult (λ (p : PageImage). nat_cmp p.number number) ps r → IfErr r (λ index. IsGapFor ps number index)
gap last ps are number (Ok at) within is = tt
gap last ps are number (Err at) within parted = record {
  within = within;
  smaller = all_take (λ (p : PageImage). p.number < number) ps at (λ j d lt. ranked _ number _ (sym ((parted rise).0 j d (omega arith) lt))) within;
  greater = all_drop (λ (p : PageImage). number < p.number) ps at (λ j d le lt. ranked _ number _ (sym ((parted rise).1 j d le lt)));
}
  where
    rise : IsNonDecreasingBy (λ (p : PageImage). ordering_index (nat_cmp p.number number)) ps
    rise i j d le lt = (let up = rising last ps are i j d le lt in grind (arith, nat_tests))

-- ---- tests of numbers

pub differs : (a b : ℕ) → (a ≡ b → ⊥) → (a == b) ≡ false
differs a b other = grind (arith, nat_tests)

pub agrees : (a b : ℕ) → a ≡ b → (a == b) ≡ true
agrees a b same = grind (arith, nat_tests)

pub if_true : {A : Type 0} (t : Bool) (x y : A) → t ≡ true → (if t then x else y) ≡ x
if_true true x y is = refl
if_true false x y is = absurd cc

pub if_false : {A : Type 0} (t : Bool) (x y : A) → t ≡ false → (if t then x else y) ≡ y
if_false true x y is = absurd cc
if_false false x y is = refl

-- ---- pages above a number are others

pub swapped_above : (last : ℕ) (page : PageImage) (ps : List PageImage) → page.number < last → NumbersRise last ps → swapped page ps ≡ ps
swapped_above last page [] lt are = refl
swapped_above last page (p ∷ ps) lt are =
    rw (if_false (p.number == page.number) page p (differs p.number page.number (λ is. omega (arith, is, lt, are.0)))) (ap (λ qs. p ∷ qs) (swapped_above (p.number + 1) page ps (omega (arith, lt, are.0)) are.1))

pub without_above : (last number : ℕ) (ps : List PageImage) → number < last → NumbersRise last ps → without number ps ≡ ps
without_above last number [] lt are = refl
without_above last number (p ∷ ps) lt are =
    if_false (p.number == number) (without number ps) (p ∷ without number ps) (differs p.number number (λ is. omega (arith, is, lt, are.0))) ∙ ap (λ qs. p ∷ qs) (without_above (p.number + 1) number ps (omega (arith, lt, are.0)) are.1)

pub at_tail : (p : PageImage) (ps : List PageImage) (number i : ℕ) → IsAt (p ∷ ps) number (suc i) → IsAt ps number i
at_tail p ps number i at = record { within = omega (arith, at.within); number_is = λ d. at.number_is d }

-- a page before the place has another number
pub before_is_other : (last : ℕ) (p : PageImage) (ps : List PageImage) (number i : ℕ) → NumbersRise last (p ∷ ps) → IsAt (p ∷ ps) number (suc i) → p.number < number
before_is_other last p ps number i are at = (let up = above (p.number + 1) ps are.1 i p (omega (arith, at.within)) in let is : number_at ps i p ≡ number = at.number_is p in omega (arith, up, is))

pub set_swaps : (last : ℕ) (ps : List PageImage) (i : ℕ) (page : PageImage) → NumbersRise last ps → IsAt ps page.number i → set ps i page ≡ swapped page ps
set_swaps last [] i page are at = absurd (omega (arith, at.within))
set_swaps last (p ∷ ps) zero page are at =
    let same : p.number ≡ page.number = at.number_is page in
    rw (if_true (p.number == page.number) page p (agrees p.number page.number same)) (ap (λ qs. page ∷ qs) (sym (swapped_above (p.number + 1) page ps (omega (arith, same)) are.1)))
set_swaps last (p ∷ ps) (suc i) page are at =
    let low = before_is_other last p ps page.number i are at in
    rw (if_false (p.number == page.number) page p (differs p.number page.number (λ is. omega (arith, is, low)))) (ap (λ qs. p ∷ qs) (set_swaps (p.number + 1) ps i page are.1 (at_tail p ps page.number i at)))

-- ---- a new page in the place of an old one, and back

pub set_back : (last : ℕ) (ps : List PageImage) (i : ℕ) (page old : PageImage) → NumbersRise last ps → IsAt ps page.number i → old ≡ get_or ps i old → swapped old (set ps i page) ≡ ps
set_back last [] i page old are at is = absurd (omega (arith, at.within))
set_back last (p ∷ ps) zero page old are at is =
    let same : p.number ≡ page.number = at.number_is page in
    let here : old ≡ p = is in
    rw (if_true (page.number == old.number) old page (agrees page.number old.number (sym same ∙ ap (λ (q : PageImage). q.number) (sym here))))
    (ap (λ q. q ∷ swapped old ps) here ∙ ap (λ qs. p ∷ qs) (swapped_above (p.number + 1) old ps (let n = ap (λ (q : PageImage). q.number) here in omega (arith, n)) are.1))
set_back last (p ∷ ps) (suc i) page old are at is =
    let low = before_is_other last p ps page.number i are at in
    let n : old.number ≡ page.number = ap (λ (q : PageImage). q.number) is ∙ at.number_is old in
    rw (if_false (p.number == old.number) old p (differs p.number old.number (λ e. omega (arith, e, n, low)))) (ap (λ qs. p ∷ qs) (set_back (p.number + 1) ps i page old are.1 (at_tail p ps page.number i at) is))

pub set_rises : (last : ℕ) (ps : List PageImage) (i : ℕ) (page : PageImage) → NumbersRise last ps → IsAt ps page.number i → NumbersRise last (set ps i page)
set_rises last [] i page are at = absurd (omega (arith, at.within))
set_rises last (p ∷ ps) zero page are at =
    let same : p.number ≡ page.number = at.number_is page in
    (omega (arith, same, are.0), subst (λ (n : ℕ). NumbersRise (n + 1) ps) same are.1)
set_rises last (p ∷ ps) (suc i) page are at = (are.0, set_rises (p.number + 1) ps i page are.1 (at_tail p ps page.number i at))

-- ---- a page in its gap, and out again

pub gap_tail : (p : PageImage) (ps : List PageImage) (number i : ℕ) → IsGapFor (p ∷ ps) number (suc i) → IsGapFor ps number i
gap_tail p ps number i gap = record { within = omega (arith, gap.within); smaller = gap.smaller.1; greater = gap.greater }

pub greater_rises : (last number : ℕ) (ps : List PageImage) → NumbersRise last ps → AllByRecursion (λ (p : PageImage). number < p.number) ps → NumbersRise (number + 1) ps
greater_rises last number [] are all = tt
greater_rises last number (p ∷ ps) are all = (omega (arith, all.0), are.1)

pub insert_rises : (last : ℕ) (ps : List PageImage) (i : ℕ) (page : PageImage) → NumbersRise last ps → IsGapFor ps page.number i → last ≤ page.number → NumbersRise last (insert ps i page)
insert_rises last [] zero page are gap le = (le, tt)
insert_rises last [] (suc i) page are gap le = (le, tt)
insert_rises last (p ∷ ps) zero page are gap le = (le, greater_rises last page.number (p ∷ ps) are gap.greater)
insert_rises last (p ∷ ps) (suc i) page are gap le = (are.0, insert_rises (p.number + 1) ps i page are.1 (gap_tail p ps page.number i gap) (let low = gap.smaller.0 in omega (arith, low)))

pub insert_back : (last : ℕ) (ps : List PageImage) (i : ℕ) (page : PageImage) → NumbersRise last ps → IsGapFor ps page.number i → without page.number (insert ps i page) ≡ ps
insert_back last [] zero page are gap = if_true (page.number == page.number) [] (page ∷ []) (agrees page.number page.number refl)
insert_back last [] (suc i) page are gap = if_true (page.number == page.number) [] (page ∷ []) (agrees page.number page.number refl)
insert_back last (p ∷ ps) zero page are gap =
    if_true (page.number == page.number) (without page.number (p ∷ ps)) (page ∷ without page.number (p ∷ ps)) (agrees page.number page.number refl)
    ∙ without_above (page.number + 1) page.number (p ∷ ps) (omega arith) (greater_rises last page.number (p ∷ ps) are gap.greater)
insert_back last (p ∷ ps) (suc i) page are gap =
    let low : p.number < page.number = gap.smaller.0 in
    if_false (p.number == page.number) _ _ (differs p.number page.number (λ e. omega (arith, e, low))) ∙ ap (λ qs. p ∷ qs) (insert_back (p.number + 1) ps i page are.1 (gap_tail p ps page.number i gap))

-- ---- a page out, where it is

pub remove_without : (last : ℕ) (ps : List PageImage) (number i : ℕ) → NumbersRise last ps → IsAt ps number i → remove ps i ≡ without number ps
remove_without last [] number i are at = absurd (omega (arith, at.within))
remove_without last (p ∷ ps) number zero are at =
    let same : p.number ≡ number = at.number_is p in
    sym (if_true (p.number == number) _ _ (agrees p.number number same) ∙ without_above (p.number + 1) number ps (omega (arith, same)) are.1)
remove_without last (p ∷ ps) number (suc i) are at =
    let low = before_is_other last p ps number i are at in
    ap (λ qs. p ∷ qs) (remove_without (p.number + 1) ps number i are.1 (at_tail p ps number i at))
    ∙ sym (if_false (p.number == number) _ _ (differs p.number number (λ e. omega (arith, e, low))))

-- ---- nothing, where it isn't

pub swapped_gap : (last : ℕ) (ps : List PageImage) (page : PageImage) (i : ℕ) → NumbersRise last ps → IsGapFor ps page.number i → swapped page ps ≡ ps
swapped_gap last [] page i are gap = refl
swapped_gap last (p ∷ ps) page zero are gap = swapped_above (page.number + 1) page (p ∷ ps) (omega arith) (greater_rises last page.number (p ∷ ps) are gap.greater)
swapped_gap last (p ∷ ps) page (suc i) are gap =
    let low : p.number < page.number = gap.smaller.0 in
    rw (if_false (p.number == page.number) page p (differs p.number page.number (λ e. omega (arith, e, low)))) (ap (λ qs. p ∷ qs) (swapped_gap (p.number + 1) ps page i are.1 (gap_tail p ps page.number i gap)))

pub without_gap : (last : ℕ) (ps : List PageImage) (number i : ℕ) → NumbersRise last ps → IsGapFor ps number i → without number ps ≡ ps
without_gap last [] number i are gap = refl
without_gap last (p ∷ ps) number zero are gap = without_above (number + 1) number (p ∷ ps) (omega arith) (greater_rises last number (p ∷ ps) are gap.greater)
without_gap last (p ∷ ps) number (suc i) are gap =
    let low : p.number < number = gap.smaller.0 in
    if_false (p.number == number) _ _ (differs p.number number (λ e. omega (arith, e, low))) ∙ ap (λ qs. p ∷ qs) (without_gap (p.number + 1) ps number i are.1 (gap_tail p ps number i gap))

-- ---- the stamps beside them

pub stamps_above : (last number stamp : ℕ) (ps : List PageImage) (ts : List ℕ) → number < last → NumbersRise last ps → length ts ≡ length ps → swapped_stamps number stamp ps ts ≡ ts
stamps_above last number stamp [] [] lt are even = refl
stamps_above last number stamp [] (t ∷ ts) lt are even = absurd (omega (arith, even))
stamps_above last number stamp (p ∷ ps) [] lt are even = absurd (omega (arith, even))
stamps_above last number stamp (p ∷ ps) (t ∷ ts) lt are even =
    rw (if_false (p.number == number) stamp t (differs p.number number (λ is. omega (arith, is, lt, are.0)))) (ap (λ us. t ∷ us) (stamps_above (p.number + 1) number stamp ps ts (omega (arith, lt, are.0)) are.1 (omega (arith, even))))

stamps_out_above : (last number : ℕ) (ps : List PageImage) (ts : List ℕ) → number < last → NumbersRise last ps → length ts ≡ length ps → without_stamps number ps ts ≡ ts
stamps_out_above last number [] [] lt are even = refl
stamps_out_above last number [] (t ∷ ts) lt are even = absurd (omega (arith, even))
stamps_out_above last number (p ∷ ps) [] lt are even = absurd (omega (arith, even))
stamps_out_above last number (p ∷ ps) (t ∷ ts) lt are even =
    if_false (p.number == number) _ _ (differs p.number number (λ is. omega (arith, is, lt, are.0))) ∙ ap (λ us. t ∷ us) (stamps_out_above (p.number + 1) number ps ts (omega (arith, lt, are.0)) are.1 (omega (arith, even)))

pub stamps_set : (last : ℕ) (ps : List PageImage) (ts : List ℕ) (number stamp i : ℕ) → NumbersRise last ps → length ts ≡ length ps → IsAt ps number i → set ts i stamp ≡ swapped_stamps number stamp ps ts
stamps_set last [] ts number stamp i are even at = absurd (omega (arith, at.within))
stamps_set last (p ∷ ps) [] number stamp i are even at = absurd (omega (arith, even))
stamps_set last (p ∷ ps) (t ∷ ts) number stamp zero are even at =
    let same : p.number ≡ number = at.number_is p in
    rw (if_true (p.number == number) stamp t (agrees p.number number same)) (ap (λ us. stamp ∷ us) (sym (stamps_above (p.number + 1) number stamp ps ts (omega (arith, same)) are.1 (omega (arith, even)))))
stamps_set last (p ∷ ps) (t ∷ ts) number stamp (suc i) are even at =
    let low = before_is_other last p ps number i are at in
    rw (if_false (p.number == number) stamp t (differs p.number number (λ e. omega (arith, e, low)))) (ap (λ us. t ∷ us) (stamps_set (p.number + 1) ps ts number stamp i are.1 (omega (arith, even)) (at_tail p ps number i at)))

pub stamps_remove : (last : ℕ) (ps : List PageImage) (ts : List ℕ) (number i : ℕ) → NumbersRise last ps → length ts ≡ length ps → IsAt ps number i → remove ts i ≡ without_stamps number ps ts
stamps_remove last [] ts number i are even at = absurd (omega (arith, at.within))
stamps_remove last (p ∷ ps) [] number i are even at = absurd (omega (arith, even))
stamps_remove last (p ∷ ps) (t ∷ ts) number zero are even at =
    let same : p.number ≡ number = at.number_is p in
    sym (if_true (p.number == number) _ _ (agrees p.number number same) ∙ stamps_out_above (p.number + 1) number ps ts (omega (arith, same)) are.1 (omega (arith, even)))
stamps_remove last (p ∷ ps) (t ∷ ts) number (suc i) are even at =
    let low = before_is_other last p ps number i are at in
    ap (λ us. t ∷ us) (stamps_remove (p.number + 1) ps ts number i are.1 (omega (arith, even)) (at_tail p ps number i at))
    ∙ sym (if_false (p.number == number) _ _ (differs p.number number (λ e. omega (arith, e, low))))

pub stamps_gap : (last : ℕ) (ps : List PageImage) (ts : List ℕ) (number stamp i : ℕ) → NumbersRise last ps → length ts ≡ length ps → IsGapFor ps number i → swapped_stamps number stamp ps ts ≡ ts
stamps_gap last [] [] number stamp i are even gap = refl
stamps_gap last [] (t ∷ ts) number stamp i are even gap = absurd (omega (arith, even))
stamps_gap last (p ∷ ps) [] number stamp i are even gap = absurd (omega (arith, even))
stamps_gap last (p ∷ ps) (t ∷ ts) number stamp zero are even gap = stamps_above (number + 1) number stamp (p ∷ ps) (t ∷ ts) (omega arith) (greater_rises last number (p ∷ ps) are gap.greater) even
stamps_gap last (p ∷ ps) (t ∷ ts) number stamp (suc i) are even gap =
    let low : p.number < number = gap.smaller.0 in
    rw (if_false (p.number == number) stamp t (differs p.number number (λ e. omega (arith, e, low)))) (ap (λ us. t ∷ us) (stamps_gap (p.number + 1) ps ts number stamp i are.1 (omega (arith, even)) (gap_tail p ps number i gap)))

pub stamps_out_gap : (last : ℕ) (ps : List PageImage) (ts : List ℕ) (number i : ℕ) → NumbersRise last ps → length ts ≡ length ps → IsGapFor ps number i → without_stamps number ps ts ≡ ts
stamps_out_gap last [] [] number i are even gap = refl
stamps_out_gap last [] (t ∷ ts) number i are even gap = absurd (omega (arith, even))
stamps_out_gap last (p ∷ ps) [] number i are even gap = absurd (omega (arith, even))
stamps_out_gap last (p ∷ ps) (t ∷ ts) number zero are even gap = stamps_out_above (number + 1) number (p ∷ ps) (t ∷ ts) (omega arith) (greater_rises last number (p ∷ ps) are gap.greater) even
stamps_out_gap last (p ∷ ps) (t ∷ ts) number (suc i) are even gap =
    let low : p.number < number = gap.smaller.0 in
    if_false (p.number == number) _ _ (differs p.number number (λ e. omega (arith, e, low))) ∙ ap (λ us. t ∷ us) (stamps_out_gap (p.number + 1) ps ts number i are.1 (omega (arith, even)) (gap_tail p ps number i gap))

pub gap_in : (ps : List PageImage) (number : ℕ) (r : Result ℕ ℕ) → IfErr r (λ index. IsGapFor ps number index) → ((index : ℕ) → r ≡ Ok index → ⊥) → (index : ℕ) × IsGapFor ps number index
gap_in ps number (Ok index) gap other = absurd (other index refl)
gap_in ps number (Err index) gap other = (index, gap)

pub swapped_missing : (ps : List PageImage) (page : PageImage) (r : Result ℕ ℕ) → NumbersRise 0 ps → IfErr r (λ index. IsGapFor ps page.number index) → ((index : ℕ) → r ≡ Ok index → ⊥) → swapped page ps ≡ ps
swapped_missing ps page r are gap other = (let g = gap_in ps page.number r gap other in swapped_gap 0 ps page g.0 are g.1)

pub without_missing : (ps : List PageImage) (number : ℕ) (r : Result ℕ ℕ) → NumbersRise 0 ps → IfErr r (λ index. IsGapFor ps number index) → ((index : ℕ) → r ≡ Ok index → ⊥) → without number ps ≡ ps
without_missing ps number r are gap other = (let g = gap_in ps number r gap other in without_gap 0 ps number g.0 are g.1)

pub stamps_missing : (ps : List PageImage) (ts : List ℕ) (number stamp : ℕ) (r : Result ℕ ℕ) → NumbersRise 0 ps → length ts ≡ length ps → IfErr r (λ index. IsGapFor ps number index) → ((index : ℕ) → r ≡ Ok index → ⊥) → swapped_stamps number stamp ps ts ≡ ts
stamps_missing ps ts number stamp r are even gap other = (let g = gap_in ps number r gap other in stamps_gap 0 ps ts number stamp g.0 are even g.1)

pub stamps_out_missing : (ps : List PageImage) (ts : List ℕ) (number : ℕ) (r : Result ℕ ℕ) → NumbersRise 0 ps → length ts ≡ length ps → IfErr r (λ index. IsGapFor ps number index) → ((index : ℕ) → r ≡ Ok index → ⊥) → without_stamps number ps ts ≡ ts
stamps_out_missing ps ts number r are even gap other = (let g = gap_in ps number r gap other in stamps_out_gap 0 ps ts number g.0 are even g.1)

pub same_numbers : (a b : ℕ) → (a == b) ≡ true → a ≡ b
same_numbers a b is = grind (arith, nat_tests, is)
