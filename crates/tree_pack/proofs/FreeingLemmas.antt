-- Bytes that no cell of a page has.
use Rattle.std.proofs.Common.{◌≡◌, ◌⊎◌, inl, inr, ◌≤◌, ◌<◌, ◌+◌, ◌-◌, ◌*◌, ◌%◌, ◌/◌, ℕ, zero, suc, max, List, [], ◌∷◌, length, take, drop, slice_index_or, sym, ap, subst, ◌∙◌, arith}
use Rattle.std.specs.Prelude.{Option, Some, None, IfSome}
use Rattle.std.specs.List.{AllByRecursion, flat_map}
use Rattle.std.proofs.lemmas.List.{take_all}
use Rattle.std.proofs.lemmas.Nat.{from_be_bytes-to_be_bytes_2}
use Rattle.std.proofs.lemmas.Grind.{common_steps}
use Rattle.tree_page.specs.Bytes.{two_bytes}
use Rattle.tree_page.specs.Cells.{Span, pointer, Pairwise, IsAt, front}
use Rattle.tree_page.specs.Node.{Node, IsNode, right_of}
use Rattle.tree_page.proofs.HeaderLemmas.{same_length}
use Rattle.tree_pack.specs.Freeing.{AreClear, ArePointers, EndsBefore, IsBeforeClear, IsFreedBehind, counted, greatest_in}
use Rattle.tree_pack.specs.declared.freeing.Freed.{Freed}
use Rattle.tree_pack.specs.declared.freeing.FreeblockHead.{FreeblockHead}
use Rattle.tree_pack.specs.declared.freeing.Pointers.{Pointers}
use Rattle.tree_pack.specs.Replacing.{no_span, IsCellAt}
use Rattle.tree_pack.specs.declared.replacing.CellPlace.{CellPlace}
use Rattle.tree_pack.proofs.PlacingLemmas.{pointers_between}
use Rattle.tree_pack.proofs.RemovingLemmas.{pair_there}
use Rattle.tree_pack.proofs.ReplacingLemmas.{Beside, Others, clear_at, later_apart}

-- ---- the greatest pointer below a limit

-- it is as great as each of them
abbrev pub IsUpTo : ℕ → ℕ → Span → Type 0
IsUpTo limit most span = span.from < limit → span.from ≤ most

greatest_from : (limit most : ℕ) (bytes : List ℕ) → most ≤ greatest_in limit most bytes
greatest_from limit most [] = omega arith
greatest_from limit most (high ∷ []) = omega arith
greatest_from limit most (high ∷ low ∷ bytes) =
    let next = greatest_from limit (max (counted limit (two_bytes high low)) most) bytes in
    omega (arith, next)

counted_is : (limit number : ℕ) → number < limit → counted limit number ≡ number
counted_is limit number lt = grind (arith, common_steps, lt)

pub all_up_to : (page : List ℕ) (limit most greatest : ℕ) (spans : List Span) (cells : List (List ℕ)) → greatest ≡ greatest_in limit most (flat_map pointer spans) → Pairwise (IsAt page) spans cells → AllByRecursion (IsUpTo limit greatest) spans
all_up_to page limit most greatest [] cells e are = tt
all_up_to page limit most greatest (span ∷ spans) [] e are = absurd are
all_up_to page limit most greatest (span ∷ spans) (cell ∷ cells) e are =
    let number : two_bytes (span.from / 256 % 256) (span.from % 256) ≡ span.from = from_be_bytes-to_be_bytes_2 span.from are.0.near in
    let next : greatest ≡ greatest_in limit (max (counted limit span.from) most) (flat_map pointer spans) = e ∙ ap (λ (n : ℕ). greatest_in limit (max (counted limit n) most) (flat_map pointer spans)) number in (
      λ lt. (let from = greatest_from limit (max (counted limit span.from) most) (flat_map pointer spans) in let is = counted_is limit span.from lt in omega (arith, next, from, is)),
      all_up_to page limit (max (counted limit span.from) most) greatest spans cells next are.1,
    )

-- one pointer more is looked at
pub greatest_next : (limit most next whole : ℕ) (left : List ℕ) → 2 ≤ length left → next ≡ max (counted limit (slice_index_or left 0 0 * 256 + slice_index_or left 1 0)) most → greatest_in limit most left ≡ whole
    → greatest_in limit next (take (length left - 2) (drop 2 left)) ≡ whole
greatest_next limit most next whole [] two next_is so_far = absurd (omega (arith, two))
greatest_next limit most next whole (high ∷ []) two next_is so_far = absurd (omega (arith, two))
greatest_next limit most next whole (high ∷ low ∷ left) two next_is so_far =
    let rest : length (high ∷ low ∷ left) - 2 ≡ length left = omega arith in
    let number : high * 256 + low ≡ two_bytes high low = omega arith in
    ap (λ (n : ℕ). greatest_in limit next (take n left)) rest ∙ ap (greatest_in limit next) (take_all (length left) left (omega arith))
    ∙ ap (λ (n : ℕ). greatest_in limit n left) (next_is ∙ ap (λ (n : ℕ). max (counted limit n) most) number) ∙ so_far

-- ---- one number beside another

nat_split : (a b : ℕ) → (a < b) ⊎ (b ≤ a)
nat_split a zero = inr (omega arith)
nat_split zero (suc b) = inl (omega arith)
nat_split (suc a) (suc b) = by (nat_split a b)
  where
    by : (a < b) ⊎ (b ≤ a) → (suc a < suc b) ⊎ (suc b ≤ suc a)
    by (inl lt) = inl (omega (arith, lt))
    by (inr le) = inr (omega (arith, le))

-- ---- a span with bytes that begins last of those before a limit

-- each other one ends before it begins, or begins at the limit or after it
one_clear : (limit at : ℕ) (one span : Span) → one.from < one.to → one.to ≤ at → (span.from < limit) ⊎ (limit ≤ span.from) → Beside one span → IsUpTo limit one.from span → (span.to ≤ at) ⊎ (limit ≤ span.from)
one_clear limit at one span some ends (inr past) beside upto = inr past
one_clear limit at one span some ends (inl lt) (inl (inl before)) upto = inl (omega (arith, before, some, ends))
one_clear limit at one span some ends (inl lt) (inl (inr after)) upto = absurd (let le = upto lt in omega (arith, after, le, some))
one_clear limit at one span some ends (inl lt) (inr (inl after)) upto = absurd (let le = upto lt in omega (arith, after, le, some))
one_clear limit at one span some ends (inl lt) (inr (inr before)) upto = inl (omega (arith, before, some, ends))

all_clear : (limit at : ℕ) (one : Span) → one.from < one.to → one.to ≤ at → (spans : List Span) → AllByRecursion (Beside one) spans → AllByRecursion (IsUpTo limit one.from) spans → AreClear at limit spans
all_clear limit at one some ends [] beside upto = tt
all_clear limit at one some ends (span ∷ spans) beside upto = (one_clear limit at one span some ends (nat_split span.from limit) beside.0 upto.0, all_clear limit at one some ends spans beside.1 upto.1)

pub others_and_one : (limit at : ℕ) (n : ℕ) (spans : List Span) → (slice_index_or spans n no_span).from < (slice_index_or spans n no_span).to → (slice_index_or spans n no_span).to ≤ at → n < length spans
    → Others n (Beside (slice_index_or spans n no_span)) spans → AllByRecursion (IsUpTo limit (slice_index_or spans n no_span).from) spans → AreClear at limit spans
others_and_one limit at n [] some ends lt others upto = absurd (omega (arith, lt))
others_and_one limit at zero (span ∷ spans) some ends lt others upto = (inl ends, all_clear limit at span some ends spans others upto.1)
others_and_one limit at (suc n) (span ∷ spans) some ends lt others upto = (one_clear limit at (slice_index_or spans n no_span) span some ends (nat_split span.from limit) others.0 upto.0, others_and_one limit at n spans some ends (omega (arith, lt)) others.1 upto.1)

-- ---- the cells of a page

module _ (page : List ℕ) (start : ℕ) (node : Node) (is : IsNode page start node) (limit at : ℕ) (greatest : ℕ) where
  abbrev spans : List Span
  spans = is.page_is.spans

  pub up_to : (pointers : Pointers) → ArePointers is pointers → greatest ≡ greatest_in limit 0 (take (pointers.last - pointers.first) (drop pointers.first page)) → AllByRecursion (IsUpTo limit greatest) spans
  up_to pointers are e =
      let there = pointers_between page start node is pointers.first pointers.last are.first_is are.last_is in
      all_up_to page limit 0 greatest spans is.cells (e ∙ ap (greatest_in limit 0) there) is.page_is.cells_are

  -- the cell that begins last before the limit ends before
  pub clear_below : EndsBefore is greatest at → AllByRecursion (IsUpTo limit greatest) spans → AreClear at limit spans
  clear_below ends upto =
      let n = ends.place in
      let from_is = ends.from_is in
      let some = ends.some in
      let there = ends.there in
      let size : length spans ≡ length is.cells = same_length (IsAt page) spans is.cells is.page_is.cells_are in
      let clear = clear_at (front start (length (right_of node)) (length is.cells) ∷ []) spans n (omega (arith, there, size)) is.page_is.apart in
      others_and_one limit at n spans (omega (arith, from_is, some)) ends.ends (omega (arith, there, size)) clear.others (subst (λ (m : ℕ). AllByRecursion (IsUpTo limit m) spans) (sym from_is) upto)

  -- no cell begins before the limit
  pub none_below : greatest ≡ 0 → AllByRecursion (IsUpTo limit greatest) spans → AreClear at limit spans
  none_below none upto = by spans (later_apart [] [] spans (front start (length (right_of node)) (length is.cells)) is.page_is.apart) upto
    where
      one : (span : Span) → (span.from < limit) ⊎ (limit ≤ span.from) → Beside (front start (length (right_of node)) (length is.cells)) span → IsUpTo limit greatest span → (span.to ≤ at) ⊎ (limit ≤ span.from)
      one span (inr past) beside upto = inr past
      one span (inl lt) (inl (inl before)) upto = inl (omega (arith, before))
      one span (inl lt) (inl (inr after)) upto = absurd (let le = upto lt in omega (arith, after, le, none))
      one span (inl lt) (inr (inl after)) upto = absurd (let le = upto lt in omega (arith, after, le, none))
      one span (inl lt) (inr (inr before)) upto = inl (omega (arith, before))

      by : (spans : List Span) → AllByRecursion (Beside (front start (length (right_of node)) (length is.cells))) spans → AllByRecursion (IsUpTo limit greatest) spans → AreClear at limit spans
      by [] beside upto = tt
      by (span ∷ spans) beside upto = (one span (nat_split span.from limit) beside.0 upto.0, by spans beside.1 upto.1)

-- the pointers of a cell that is found are those of all cells
pub of_cell : (page : List ℕ) (start : ℕ) (node : Node) (is : IsNode page start node) (place : ℕ) (found : CellPlace) (pointers : Pointers) → IsCellAt page start node is place found → pointers.first ≡ found.first → pointers.last ≡ found.last → ArePointers is pointers
of_cell page start node is place found pointers cell first last =
    let first_is = cell.first_is in
    let last_is = cell.last_is in
    record { first_is = first ∙ first_is; last_is = omega (arith, first, last, first_is, last_is) }

-- a cell that is found with bytes ends before
pub found_ends : (page : List ℕ) (start : ℕ) (node : Node) (is : IsNode page start node) (place : ℕ) (found : CellPlace) (from at : ℕ) → IsCellAt page start node is place found → found.at ≡ from → found.at < found.end → found.end ≤ at → EndsBefore is from at
found_ends page start node is place found from at cell from_is some ends =
    let p = is.page_is in
    let lies : IsAt page (slice_index_or p.spans place no_span) (slice_index_or is.cells place []) = pair_there (IsAt page) p.spans is.cells place cell.there p.cells_are in
    let to_is : (slice_index_or p.spans place no_span).to ≡ found.end = omega (arith, lies.to_is, lies.from_is, cell.offset, cell.long) in
    record { place = place; there = cell.there; from_is = cell.offset ∙ from_is; some = omega (arith, to_is, some, from_is); ends = omega (arith, to_is, ends) }

-- a freeblock that begins where no cell has bytes
pub behind_clear : (page : List ℕ) (start : ℕ) (node : Node) (is : IsNode page start node) (cell : CellPlace) (at : ℕ) (result : Option Freed) → IfSome result (IsFreedBehind cell at) → AreClear at (at + 4) is.page_is.spans → IfSome result (IsBeforeClear is)
behind_clear page start node is cell at None none clear = none
behind_clear page start node is cell at (Some freed) so clear = by freed.before so.before
  where
    by : (head : Option FreeblockHead) → IfSome head (λ head. (length head.bytes ≡ 4) × (head.at ≡ at)) → IfSome head (λ head. AreClear head.at (head.at + 4) is.page_is.spans)
    by None none = none
    by (Some head) told = subst (λ (n : ℕ). AreClear n (n + 4) is.page_is.spans) (sym told.1) clear
