-- Where a page stands, or would go, among the pages of all pieces.
use Rattle.std.proofs.Common.{◌≡◌, ◌<◌, ◌≤◌, ◌+◌, ◌++◌, ◌∷◌, [], ℕ, zero, suc, List, length, take, drop, get_or, sym, ◌∙◌, ap, subst, arith, length-append}
use Rattle.std.specs.List.{AllByRecursion}
use Rattle.std.specs.Global.{Vec}
use Rattle.std.proofs.lemmas.List.{drop-append-le, take-append-le}
use Rattle.std.proofs.lemmas.List.Concat.{get_or-flat_map}
use Rattle.wal.specs.declared.pages.PageImage.{PageImage}
use Rattle.pager.specs.Pieces.{all_items}
use Rattle.pager.specs.Undo.{NumbersRise}
use Rattle.pager.specs.Writers.{AreBelow, EndsFrom, IsAt, IsGapFor}
use Rattle.pager.proofs.Joining.{items_more, parted}

-- ---- the last of some pages

pub ends_far : (number : ℕ) (ps : List PageImage) (k : ℕ) (d : PageImage) → k + 1 ≡ length ps → number ≤ (get_or ps k d).number → EndsFrom number ps
ends_far number [] k d is le = absurd (omega (arith, is))
ends_far number (p ∷ []) zero d is le = le
ends_far number (p ∷ []) (suc k) d is le = absurd (omega (arith, is))
ends_far number (p ∷ q ∷ ps) zero d is le = absurd (omega (arith, is))
ends_far number (p ∷ q ∷ ps) (suc k) d is le = ends_far number (q ∷ ps) k d (omega (arith, is)) le

pub all_below : (number last : ℕ) (ps : List PageImage) (k : ℕ) (d : PageImage) → k + 1 ≡ length ps → NumbersRise last ps → (get_or ps k d).number < number → AreBelow number ps
all_below number last [] k d is rise lt = tt
all_below number last (p ∷ []) zero d is rise lt = (lt, tt)
all_below number last (p ∷ []) (suc k) d is rise lt = absurd (omega (arith, is))
all_below number last (p ∷ q ∷ ps) zero d is rise lt = absurd (omega (arith, is))
all_below number last (p ∷ q ∷ ps) (suc k) d is rise lt =
    let rest = all_below number (p.number + 1) (q ∷ ps) k d (omega (arith, is)) rise.1 lt in
    let next = rise.1.0 in
    let here = rest.0 in
    (omega (arith, next, here), rest)

-- ---- numbers that rise

all_above : (last number : ℕ) (ps : List PageImage) → NumbersRise last ps → number < last → AllByRecursion (λ (p : PageImage). number < p.number) ps
all_above last number [] rise lt = tt
all_above last number (p ∷ ps) rise lt = (let first = rise.0 in (omega (arith, first, lt), all_above (p.number + 1) number ps rise.1 (omega (arith, first, lt))))

above_end : (last number : ℕ) (ps rest : List PageImage) → NumbersRise last (ps ++ rest) → EndsFrom number ps → AllByRecursion (λ (p : PageImage). number < p.number) rest
above_end last number [] rest rise ends = absurd ends
above_end last number (p ∷ []) rest rise ends = all_above (p.number + 1) number rest rise.1 (omega (arith, ends))
above_end last number (p ∷ q ∷ ps) rest rise ends = above_end (p.number + 1) number (q ∷ ps) rest rise.1 ends

rise_weaker : (last : ℕ) (ps : List PageImage) → NumbersRise last ps → NumbersRise 0 ps
rise_weaker last [] rise = tt
rise_weaker last (p ∷ ps) rise = (omega arith, rise.1)

rise_behind : (last : ℕ) (ps rest : List PageImage) → NumbersRise last (ps ++ rest) → NumbersRise 0 rest
rise_behind last [] rest rise = rise_weaker last rest rise
rise_behind last (p ∷ ps) rest rise = rise_behind (p.number + 1) ps rest rise.1

rise_front : (last : ℕ) (ps rest : List PageImage) → NumbersRise last (ps ++ rest) → NumbersRise last ps
rise_front last [] rest rise = tt
rise_front last (p ∷ ps) rest rise = (rise.0, rise_front (p.number + 1) ps rest rise.1)

both : (P : PageImage → Type 0) (ps qs : List PageImage) → AllByRecursion P ps → AllByRecursion P qs → AllByRecursion P (ps ++ qs)
both P [] qs one two = two
both P (p ∷ ps) qs one two = (one.0, both P ps qs one.1 two)

-- ---- a gap

gap_after : (front rest : List PageImage) (number i n : ℕ) → n ≡ length front + i → AreBelow number front → IsGapFor rest number i → IsGapFor (front ++ rest) number n
gap_after [] rest number i n is below gap = (let same : i ≡ n = omega (arith, is) in subst (IsGapFor rest number) same gap)
gap_after (p ∷ front) rest number i zero is below gap = absurd (omega (arith, is))
gap_after (p ∷ front) rest number i (suc n) is below gap =
    let more = gap_after front rest number i n (omega (arith, is)) below.1 gap in
    let within = more.within in
    record { within = omega (arith, within); smaller = (below.0, more.smaller); greater = more.greater }

gap_before : (here rest : List PageImage) (number i : ℕ) → NumbersRise 0 (here ++ rest) → EndsFrom number here → IsGapFor here number i → IsGapFor (here ++ rest) number i
gap_before here rest number i rise ends gap =
    let within = gap.within in
    let long = length-append here rest in
    record {
      within = omega (arith, within, long);
      smaller = subst (AreBelow number) (sym (take-append-le i here rest gap.within)) gap.smaller;
      greater = subst (AllByRecursion (λ (p : PageImage). number < p.number)) (sym (drop-append-le i here rest gap.within))
          (both (λ (p : PageImage). number < p.number) (drop i here) rest gap.greater (above_end 0 number here rest rise ends));
    }

-- ---- pieces

module _ (ps : List (Vec PageImage)) (k : ℕ) (p : Vec PageImage) (lt : k < length ps) (is : p ≡ get_or ps k p) where
  apart : all_items ps ≡ all_items (take k ps) ++ (p.items ++ all_items (drop (suc k) ps))
  apart = parted ps k p lt ∙ ap (λ (v : Vec PageImage). all_items (take k ps) ++ (v.items ++ all_items (drop (suc k) ps))) (sym is)

  -- a piece is no longer than all of them
  pub piece_fits : length (all_items (take k ps)) + length p.items ≤ length (all_items ps)
  piece_fits =
      let all = ap length apart in
      let one = length-append (all_items (take k ps)) (p.items ++ all_items (drop (suc k) ps)) in
      let two = length-append p.items (all_items (drop (suc k) ps)) in
      omega (arith, all, one, two)

  pub here_rises : NumbersRise 0 (all_items ps) → NumbersRise 0 p.items
  here_rises rise = rise_front 0 p.items (all_items (drop (suc k) ps)) (rise_behind 0 (all_items (take k ps)) (p.items ++ all_items (drop (suc k) ps)) (subst (NumbersRise 0) apart rise))

  pub found_here : (number at n : ℕ) → n ≡ length (all_items (take k ps)) + at → IsAt p.items number at → IsAt (all_items ps) number n
  found_here number at n n_is found =
      let within = found.within in
      let fits = piece_fits in
      record {
        within = omega (arith, within, fits, n_is);
        number_is = λ d. ap (λ i. (get_or (all_items ps) i d).number) n_is ∙ ap (λ (q : PageImage). q.number) (get_or-flat_map (λ (v : Vec PageImage). v.items) ps k at p d lt (subst (λ (v : Vec PageImage). at < length v.items) is found.within))
            ∙ ap (λ (v : Vec PageImage). (get_or v.items at d).number) (sym is) ∙ found.number_is d;
      }

  pub gap_here : (number at n : ℕ) → n ≡ length (all_items (take k ps)) + at → NumbersRise 0 (all_items ps) → AreBelow number (all_items (take k ps)) → EndsFrom number p.items → IsGapFor p.items number at → IsGapFor (all_items ps) number n
  gap_here number at n n_is rise below ends gap =
      subst (λ xs. IsGapFor xs number n) (sym apart)
      (gap_after (all_items (take k ps)) (p.items ++ all_items (drop (suc k) ps)) number at n n_is below (gap_before p.items (all_items (drop (suc k) ps)) number at (rise_behind 0 (all_items (take k ps)) (p.items ++ all_items (drop (suc k) ps)) (subst (NumbersRise 0) apart rise)) ends gap))

  -- one piece more whose pages are all below
  pub below_more : (number : ℕ) → AreBelow number (all_items (take k ps)) → AreBelow number p.items → AreBelow number (all_items (take (k + 1) ps))
  below_more number below here =
      let next : suc k ≡ k + 1 = omega arith in
      subst (λ (n : ℕ). AreBelow number (all_items (take n ps))) next
      (subst (AreBelow number) (sym (items_more ps k p lt ∙ ap (λ (v : Vec PageImage). all_items (take k ps) ++ v.items) (sym is))) (both (λ (q : PageImage). q.number < number) (all_items (take k ps)) p.items below here))

  pub length_more : length (all_items (take (k + 1) ps)) ≡ length (all_items (take k ps)) + length p.items
  length_more =
      let next : suc k ≡ k + 1 = omega arith in
      subst (λ (n : ℕ). length (all_items (take n ps)) ≡ length (all_items (take k ps)) + length p.items) next
      (ap length (items_more ps k p lt) ∙ length-append (all_items (take k ps)) (get_or ps k p).items ∙ ap (λ (v : Vec PageImage). length (all_items (take k ps)) + length v.items) (sym is))
