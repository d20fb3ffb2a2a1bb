-- The steps of writing several pages.
use Rattle.std.proofs.Common.{◌≡◌, inl, inr, ◌≤◌, ◌<◌, ◌+◌, ◌-◌, ◌*◌, ◌^◌, ℕ, zero, suc, Bool, List, [], ◌∷◌, ◌++◌, append_assoc, length, take, drop, map, slice_index_or, Bor, sym, ap, subst, ◌∙◌, arith}
use Rattle.std.specs.List.{AllByRecursion}
use Rattle.std.proofs.lemmas.Bool.{cases_lt}
use Rattle.std.proofs.lemmas.List.{append-nil, take_all, take_rest, take-map, drop-map, drop-drop, length-drop, length-take, length-map, map_push}
use Rattle.tree_page.specs.declared.items.Kind.{Kind}
use Rattle.tree_page.specs.declared.items.Kind.TheVariants.{TableLeaf, TableInterior, IndexLeaf, IndexInterior}
use Rattle.tree_pack.specs.declared.spreading.Piece.{Piece}
use Rattle.tree_pack.specs.Parts.{total, IsCut}
use Rattle.tree_pack.specs.Rows.{LieWithin}
use Rattle.tree_pack.specs.Building.{Fits, cell_room, right_room, page_of}
use Rattle.tree_pack.specs.Packing.{up_of, IsSmall, CanPack}
use Rattle.tree_pack.specs.Spreading.{first_cell, pages_of, divider_of, dividing, PartsFit}
use Rattle.tree_pack.proofs.BuildingLemmas.{some_take, some_drop}
use Rattle.tree_pack.proofs.FillingLemmas.{AreSmall, of_cells, cut_fits, cut_one}
use Rattle.tree_pack.proofs.RowLemmas.{cut_within}

abbrev bytes_of : List (Bor (List ℕ)) → List (List ℕ)
bytes_of cells = map (λ (cell : Bor (List ℕ)). cell.now) cells

abbrev page_items : Piece → List ℕ
page_items piece = piece.page.items

abbrev divider_items : Piece → List ℕ
divider_items piece = piece.divider.items

-- the cells of a part, as a slice
pub slice_is : (start count : ℕ) (cells : List (Bor (List ℕ))) → bytes_of (take (start + count - start) (drop start cells)) ≡ take count (drop start (bytes_of cells))
slice_is start count cells =
    let e : start + count - start ≡ count = omega arith in
    ap (λ (n : ℕ). bytes_of (take n (drop start cells))) e ∙ sym (take-map (λ (cell : Bor (List ℕ)). cell.now) count (drop start cells))
    ∙ ap (λ (xs : List (List ℕ)). take count xs) (sym (drop-map (λ (cell : Bor (List ℕ)). cell.now) start cells))

-- the cells that are left, as a slice
pub rest_is : (start : ℕ) (cells : List (Bor (List ℕ))) → bytes_of (take (length cells - start) (drop start cells)) ≡ drop start (bytes_of cells)
rest_is start cells = ap bytes_of (take_rest cells start) ∙ sym (drop-map (λ (cell : Bor (List ℕ)). cell.now) start cells)

-- what is taken of a text is no longer
pub taken_len : (n : ℕ) (text result : List ℕ) → result ≡ take n text → length result ≤ n
taken_len n text result e = omega (arith, ap length e, length-take n text)

pub first_fits_page : (kind : Kind) (n : ℕ) (left : List ℕ) (rest : List (List ℕ)) (right : ℕ) → n ≤ 2 ^ 16 → 8 + right_room kind ≤ n → right ≤ right_room kind → 1 ≤ length left → PartsFit kind n left rest
    → Fits n 0 right (take (slice_index_or left 0 0) rest)
first_fits_page kind n [] rest right near header le some parts = absurd (omega arith)
first_fits_page kind n (count ∷ left) rest right near header le some parts = let fit = parts.fit.0 in record { addressed = near; some = some_take count rest parts.some; room = omega (arith, fit) }

pub last_fits_page : (kind : Kind) (n : ℕ) (left : List ℕ) (rest : List (List ℕ)) (right : ℕ) → n ≤ 2 ^ 16 → 8 + right_room kind ≤ n → right ≤ right_room kind → length left < 1 → PartsFit kind n left rest → Fits n 0 right rest
last_fits_page kind n [] rest right near header le none_left parts = let fit = parts.fit.0 in record { addressed = near; some = parts.some; room = omega (arith, fit) }
last_fits_page kind n (count ∷ left) rest right near header le none_left parts = absurd (omega arith)

pub start_on : (kind : Kind) (n start up : ℕ) (left : List ℕ) (cells : List (List ℕ)) → up ≡ up_of kind → start ≤ length cells → 1 ≤ length left → PartsFit kind n left (drop start cells) → start + slice_index_or left 0 0 + up ≤ length cells
start_on kind n start up [] cells e within some parts = absurd (omega arith)
start_on kind n start up (count ∷ left) cells e within some parts = let le = parts.within.1 in omega (arith, le, e, length-drop start cells)

drop_on : {A : Type 0} (start count up : ℕ) (cells : List A) → drop (count + up) (drop start cells) ≡ drop (start + count + up) cells
drop_on {A} start count up cells = let e : start + (count + up) ≡ start + count + up = omega arith in drop-drop (count + up) start cells ∙ ap (λ (n : ℕ). drop n cells) e

pub parts_on : (kind : Kind) (n start up : ℕ) (left : List ℕ) (cells : List (List ℕ)) → up ≡ up_of kind → 1 ≤ length left → PartsFit kind n left (drop start cells)
    → PartsFit kind n (take (length left - 1) (drop 1 left)) (drop (start + slice_index_or left 0 0 + up) cells)
parts_on kind n start up [] cells e some parts = absurd (omega arith)
parts_on kind n start up (count ∷ left) cells e some parts =
    rw (take_all (suc (length left) - 1) left (omega arith), e)
    (subst (λ (xs : List (List ℕ)). PartsFit kind n left xs) (drop_on start count (up_of kind) cells) (record {
      within = subst (λ (m : ℕ). LieWithin (up_of kind) left m) (sym (length-drop (count + up_of kind) (drop start cells))) parts.within.2;
      some = some_drop (count + up_of kind) (drop start cells) parts.some;
      fit = parts.fit.1;
    }))

pub pages_on : (kind : Kind) (n start up : ℕ) (left : List ℕ) (cells whole : List (List ℕ)) (right : List ℕ) (pieces pushed : List Piece) (piece : Piece) → up ≡ up_of kind → 1 ≤ length left → pushed ≡ pieces ++ piece ∷ []
    → piece.page.items ≡ page_of [] n kind (take (right_room kind) (first_cell (drop (start + slice_index_or left 0 0) cells))) (take (slice_index_or left 0 0) (drop start cells))
    → map page_items pieces ++ pages_of kind n right left (drop start cells) ≡ whole
    → map page_items pushed ++ pages_of kind n right (take (length left - 1) (drop 1 left)) (drop (start + slice_index_or left 0 0 + up) cells) ≡ whole
pages_on kind n start up [] cells whole right pieces pushed piece e some p page so_far = absurd (omega arith)
pages_on kind n start up (count ∷ left) cells whole right pieces pushed piece e some p page so_far =
    let rest = pages_of kind n right left (drop (start + count + up_of kind) cells) in
    let here : page_of [] n kind (take (right_room kind) (first_cell (drop count (drop start cells)))) (take count (drop start cells)) ≡ piece.page.items =
    ap (λ (xs : List (List ℕ)). page_of [] n kind (take (right_room kind) (first_cell xs)) (take count (drop start cells))) (drop-drop count start cells) ∙ sym page in
    let again : map page_items pieces ++ piece.page.items ∷ rest ≡ whole =
    subst (λ (xs : List (List ℕ)). map page_items pieces ++ piece.page.items ∷ pages_of kind n right left xs ≡ whole) (drop_on start count (up_of kind) cells)
    (subst (λ (x : List ℕ). map page_items pieces ++ x ∷ pages_of kind n right left (drop (count + up_of kind) (drop start cells)) ≡ whole) here so_far) in
    rw (take_all (suc (length left) - 1) left (omega arith), e)
    (ap (λ (xs : List (List ℕ)). xs ++ rest) (ap (map page_items) p ∙ map_push page_items pieces piece) ∙ append_assoc (map page_items pieces) (piece.page.items ∷ []) rest ∙ again)

pub dividers_on : (kind : Kind) (start up : ℕ) (left : List ℕ) (cells whole : List (List ℕ)) (pieces pushed : List Piece) (piece : Piece) → up ≡ up_of kind → 1 ≤ length left → pushed ≡ pieces ++ piece ∷ []
    → piece.divider.items ≡ divider_of kind (take (slice_index_or left 0 0) (drop start cells)) (drop (start + slice_index_or left 0 0) cells)
    → map divider_items pieces ++ dividing kind left (drop start cells) ≡ whole
    → map divider_items pushed ++ dividing kind (take (length left - 1) (drop 1 left)) (drop (start + slice_index_or left 0 0 + up) cells) ≡ whole
dividers_on kind start up [] cells whole pieces pushed piece e some p is so_far = absurd (omega arith)
dividers_on kind start up (count ∷ left) cells whole pieces pushed piece e some p is so_far =
    let rest = dividing kind left (drop (start + count + up_of kind) cells) in
    let here : divider_of kind (take count (drop start cells)) (drop count (drop start cells)) ≡ piece.divider.items =
    ap (λ (xs : List (List ℕ)). divider_of kind (take count (drop start cells)) xs) (drop-drop count start cells) ∙ sym is in
    let again : map divider_items pieces ++ piece.divider.items ∷ rest ≡ whole =
    subst (λ (xs : List (List ℕ)). map divider_items pieces ++ piece.divider.items ∷ dividing kind left xs ≡ whole) (drop_on start count (up_of kind) cells)
    (subst (λ (x : List ℕ). map divider_items pieces ++ x ∷ dividing kind left (drop (count + up_of kind) (drop start cells)) ≡ whole) here so_far) in
    rw (take_all (suc (length left) - 1) left (omega arith), e)
    (ap (λ (xs : List (List ℕ)). xs ++ rest) (ap (map divider_items) p ∙ map_push divider_items pieces piece) ∙ append_assoc (map divider_items pieces) (piece.divider.items ∷ []) rest ∙ again)

pub dividers_last : (kind : Kind) (left : List ℕ) (rest whole front : List (List ℕ)) → length left < 1 → front ++ dividing kind left rest ≡ whole → front ≡ whole
dividers_last kind [] rest whole front none_left so_far = sym (append-nil front) ∙ so_far
dividers_last kind (count ∷ left) rest whole front none_left so_far = absurd (omega arith)

pub pages_last : (kind : Kind) (n : ℕ) (left : List ℕ) (rest whole front : List (List ℕ)) (right last : List ℕ) → length left < 1 → last ≡ page_of [] n kind right rest → front ++ pages_of kind n right left rest ≡ whole → front ++ last ∷ [] ≡ whole
pages_last kind n [] rest whole front right last none_left e so_far = ap (λ (x : List ℕ). front ++ x ∷ []) e ∙ so_far
pages_last kind n (count ∷ left) rest whole front right last none_left e so_far = absurd (omega arith)

-- ---- what a cut says of the cells

pub up_small : (kind : Kind) → up_of kind ≤ 1
up_small TableLeaf = omega arith
up_small TableInterior = omega arith
up_small IndexLeaf = omega arith
up_small IndexInterior = omega arith

rooms_small : (kind : Kind) (n : ℕ) (cells : List (List ℕ)) → AllByRecursion (IsSmall kind n) cells → AreSmall (up_of kind) (n - 8 - right_room kind) (map cell_room cells)
rooms_small kind n [] small = tt
rooms_small kind n (cell ∷ cells) small = (small.0, rooms_small kind n cells small.1)

-- the cells of a cut's parts fit a page
pub cut_parts_fit : (kind : Kind) (n start : ℕ) (rises : Bool) (cells : List (List ℕ)) (counts : List ℕ) → CanPack n start kind cells → IsCut (up_of kind) (n - start - 8 - right_room kind) rises (map cell_room cells) counts
    → PartsFit kind n counts cells
cut_parts_fit kind n start rises cells counts can cut = record {
  within = subst (λ (m : ℕ). LieWithin (up_of kind) counts m) (length-map cells cell_room) (cut_within (up_of kind) (n - start - 8 - right_room kind) rises (map cell_room cells) counts cut);
  some = can.some;
  fit =
      of_cells cell_room (λ part. total part ≤ n - 8 - right_room kind) (λ part. total (map cell_room part) ≤ n - 8 - right_room kind) (λ part h. h) (up_of kind) counts cells
      (cut_fits (up_of kind) (n - start - 8 - right_room kind) (n - 8 - right_room kind) rises (map cell_room cells) counts (up_small kind) (omega arith) (rooms_small kind n cells can.small) cut);
}

few_are_small : (up most room : ℕ) (sizes : List ℕ) → up ≤ 1 → most ≤ 2 * room → AreSmall up most sizes → length sizes ≤ up → total sizes ≤ room
few_are_small up most room [] one half small few = omega arith
few_are_small zero most room (a ∷ sizes) one half small few = absurd (omega arith)
few_are_small (suc zero) most room (a ∷ []) one half small few = let h = small.0 in omega (arith, h)
few_are_small (suc zero) most room (a ∷ b ∷ sizes) one half small few = absurd (omega arith)
few_are_small (suc (suc up)) most room (a ∷ sizes) one half small few = absurd (omega arith)

-- if nothing is cut, all cells fit the one page
pub uncut_fits : (kind : Kind) (n start : ℕ) (rises : Bool) (cells : List (List ℕ)) (right : ℕ) → right ≡ right_room kind → CanPack n start kind cells → IsCut (up_of kind) (n - start - 8 - right_room kind) rises (map cell_room cells) []
    → Fits n start right cells
uncut_fits kind n start rises cells right e can cut =
    let header = can.header in
    let room = n - start - 8 - right_room kind in
    let fit : total (map cell_room cells) ≤ room = elim (cases_lt (up_of kind) (length (map cell_room cells))) [
      | inl long ↦ cut_one (up_of kind) room rises (map cell_room cells) (omega (arith, long)) cut
      | inr few ↦ few_are_small (up_of kind) (n - 8 - right_room kind) room (map cell_room cells) (up_small kind) (omega (arith, header)) (rooms_small kind n cells can.small) few
    ] in
    record { addressed = can.addressed; some = can.some; room = omega (arith, header, fit, e) }
