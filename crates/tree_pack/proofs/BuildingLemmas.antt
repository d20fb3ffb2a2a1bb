-- What is written is a page of the cells.
use Rattle.std.proofs.Common.{◌≡◌, ◌⊎◌, inl, inr, ℕ, zero, suc, ◌+◌, ◌-◌, ◌*◌, ◌^◌, ◌<◌, ◌≤◌, List, [], ◌∷◌, ◌++◌, length, map, take, drop, reverse, replicate, Bor, slice_index_or, refl, sym, ap, ◌∙◌, append_assoc, arith}
use Rattle.std.specs.List.{AllByRecursion, flat_map}
use Rattle.std.proofs.lemmas.List.{append-nil, reverse-append, length-append, length-replicate, length-take-le, length-drop, drop_at, drop_all, drop-drop, take_all, take-replicate}
use borrow.Rule.Slice.PartMut.{put_mid, post_of}
use Rattle.std.proofs.Math.Seq.{take-append-add}
use Rattle.std.proofs.lemmas.Grind.{flat_map-append}
use Rattle.tree_page.specs.Cells.{Span, pointer, Pairwise, IsAt, IsApart, AreApart, page_header, front, IsTreePage}
use Rattle.tree_page.specs.Reading.{type_of}
use Rattle.tree_page.specs.declared.items.Kind.{Kind}
use Rattle.tree_pack.specs.Parts.{total}
use Rattle.tree_pack.specs.Building.{Fits, cell_room, spans_below, content_of, content_bytes, page_of}

-- the room of cells is that of their bytes and two bytes for each
pub room_is : (cells : List (List ℕ)) → total (map cell_room cells) ≡ total (map length cells) + 2 * length cells
room_is [] = refl
room_is (cell ∷ cells) = omega (arith, room_is cells)

-- each has a byte
abbrev pub AreSome : List (List ℕ) → Type 0
AreSome cells = AllByRecursion (λ (cell : List ℕ). 0 < length cell) cells

pub some_take : (n : ℕ) (cells : List (List ℕ)) → AreSome cells → AreSome (take n cells)
some_take zero cells some = tt
some_take (suc n) [] some = tt
some_take (suc n) (cell ∷ cells) some = (some.0, some_take n cells some.1)

pub some_drop : (n : ℕ) (cells : List (List ℕ)) → AreSome cells → AreSome (drop n cells)
some_drop zero cells some = some
some_drop (suc n) [] some = tt
some_drop (suc n) (cell ∷ cells) some = some_drop n cells some.1

abbrev bytes_of : List (Bor (List ℕ)) → List (List ℕ)
bytes_of cells = map (λ (cell : Bor (List ℕ)). cell.now) cells

-- the cells from the last to the first
abbrev texts : List (List ℕ) → List ℕ
texts cells = flat_map (λ (cell : List ℕ). cell) (reverse cells)

texts_first : (cell : List ℕ) (cells : List (List ℕ)) → texts (cell ∷ cells) ≡ texts cells ++ cell
texts_first cell cells =
    ap (flat_map (λ (cell : List ℕ). cell)) (reverse-append (cell ∷ []) cells) ∙ flat_map-append (λ (cell : List ℕ). cell) (reverse cells) (cell ∷ [])
    ∙ ap (λ (x : List ℕ). texts cells ++ x) (append-nil cell)

pub length-texts : (cells : List (List ℕ)) → length (texts cells) ≡ total (map length cells)
length-texts [] = refl
length-texts (cell ∷ cells) = omega (arith, ap length (texts_first cell cells), length-append (texts cells) cell, length-texts cells)

-- two bytes for each pointer
pub length-pointers : (end : ℕ) (cells : List (List ℕ)) → length (flat_map pointer (spans_below end cells)) ≡ 2 * length cells
length-pointers end [] = refl
length-pointers end (cell ∷ cells) = omega (arith, length-pointers (end - length cell) cells)

header_len : (kind count content : ℕ) → length (page_header kind (0 ∷ 0 ∷ []) count (content_bytes content) 0) ≡ 8
header_len kind count content = refl

-- each cell stands where its span says
cells_built : (page base after : List ℕ) (end : ℕ) (cells : List (List ℕ)) → page ≡ base ++ (texts cells ++ after) → length base + total (map length cells) ≡ end → end ≤ 2 ^ 16 → AreSome cells
    → Pairwise (IsAt page) (spans_below end cells) cells
cells_built page base after end [] parts sum near some = tt
cells_built page base after end (cell ∷ cells) parts sum near some =
    let here : page ≡ base ++ (texts cells ++ (cell ++ after)) =
    parts ∙ ap (λ (x : List ℕ). base ++ (x ++ after)) (texts_first cell cells) ∙ ap (λ (x : List ℕ). base ++ x) (append_assoc (texts cells) cell after) in
    let len = length-append base (texts cells) in
    let text = length-texts cells in (
      record {
        before = base ++ texts cells;
        after = after;
        parts = here ∙ sym (append_assoc base (texts cells) (cell ++ after));
        from_is = omega arith;
        to_is = omega arith;
        near = omega (arith, near, some.0);
      },
      cells_built page base (cell ++ after) (end - length cell) cells here (omega arith) (omega (arith, near)) some.1,
    )

-- each is below `floor` or from `end` on
abbrev Clear : ℕ → ℕ → Span → Type 0
Clear floor end span = (span.to ≤ floor) ⊎ (end ≤ span.from)

apart_one : (floor end size : ℕ) (before : List Span) → size + floor ≤ end → AllByRecursion (Clear floor end) before → AllByRecursion (IsApart (record { from = end - size; to = end })) before
apart_one floor end size [] room clear = tt
apart_one floor end size (span ∷ before) room clear = (by_side clear.0, apart_one floor end size before room clear.1)
  where
    by_side : Clear floor end span → IsApart (record { from = end - size; to = end }) span
    by_side (inl low) = inr (omega arith)
    by_side (inr high) = inl high

clear_lower : (floor end next : ℕ) (before : List Span) → next ≤ end → AllByRecursion (Clear floor end) before → AllByRecursion (Clear floor next) before
clear_lower floor end next [] le clear = tt
clear_lower floor end next (span ∷ before) le clear = (by_side clear.0, clear_lower floor end next before le clear.1)
  where
    by_side : Clear floor end span → Clear floor next span
    by_side (inl low) = inl low
    by_side (inr high) = inr (omega arith)

-- no span shares a byte with those before it
apart_built : (floor end : ℕ) (before : List Span) (cells : List (List ℕ)) → floor + total (map length cells) ≤ end → AllByRecursion (Clear floor end) before → AreApart before (spans_below end cells)
apart_built floor end before [] room clear = tt
apart_built floor end before (cell ∷ cells) room clear =
    let at_next : end - length cell ≤ end - length cell = omega arith in (
      apart_one floor end (length cell) before (omega arith) clear,
      apart_built floor (end - length cell) (record { from = end - length cell; to = end } ∷ before) cells (omega arith) (inr at_next, clear_lower floor end (end - length cell) before (omega arith) clear),
    )

-- a page that is written is one of its cells, and of its size
pub page_built : (before : List ℕ) (page_size : ℕ) (kind : Kind) (right : List ℕ) (cells : List (List ℕ)) → Fits page_size (length before) (length right) cells
    → IsTreePage (type_of kind) (page_of before page_size kind right cells) (length before) right cells × (length (page_of before page_size kind right cells) ≡ page_size)
unfolding page_of
page_built before page_size kind right cells fits =
    let content = content_of page_size cells in
    let gap = content - (length before + 8 + length right + 2 * length cells) in
    let header = page_header (type_of kind) (0 ∷ 0 ∷ []) (length cells) (content_bytes content) 0 in
    let pointers = flat_map pointer (spans_below page_size cells) in
    let zeros : List ℕ = replicate gap 0 in
    let page = before ++ (header ++ (right ++ (pointers ++ (zeros ++ texts cells)))) in
    let base = before ++ (header ++ (right ++ (pointers ++ zeros))) in
    let room = fits.room in
    let rooms = room_is cells in
    let near = fits.addressed in
    let base_len : length base ≡ content =
    omega (
      arith,
      length-append before (header ++ (right ++ (pointers ++ zeros))),
      length-append header (right ++ (pointers ++ zeros)),
      length-append right (pointers ++ zeros),
      length-append pointers zeros,
      header_len (type_of kind) (length cells) content,
      length-pointers page_size cells,
      length-replicate {A = ℕ} gap 0,
    ) in
    let split : page ≡ base ++ (texts cells ++ []) = simp (append_assoc, append-nil) in
    let len : length page ≡ page_size = omega (arith, ap length split, length-append base (texts cells ++ []), ap length (append-nil (texts cells)), length-texts cells) in
    let floor = length before + 8 + length right + 2 * length cells in
    let at_floor : floor ≤ floor = omega arith in (
      record {
        before = before;
        freeblock = 0 ∷ 0 ∷ [];
        content = content_bytes content;
        fragments = 0;
        spans = spans_below page_size cells;
        rest = zeros ++ texts cells;
        parts = refl;
        start_is = refl;
        freeblock_is = refl;
        content_is = refl;
        few = omega arith;
        cells_are = cells_built page base [] page_size cells split (omega arith) near fits.some;
        apart = apart_built floor page_size (front (length before) (length right) (length cells) ∷ []) cells (omega arith) (inl at_floor, tt);
      },
      len,
    )

-- zeros up to a place
pub zeros_up_to : (out : List ℕ) (content written size : ℕ) → written ≡ length out → written ≤ content → content ≤ size → take content (out ++ replicate (size - written) 0) ≡ out ++ replicate (content - written) 0
zeros_up_to out content written size w low high =
    let place : content ≡ length out + (content - written) = omega (arith, w, low) in
    ap (λ (n : ℕ). take n (out ++ replicate (size - written) 0)) place ∙ take-append-add out (replicate (size - written) 0) (content - written)
    ∙ ap (λ (x : List ℕ). out ++ x) (take-replicate (content - written) (size - written) 0 (omega (arith, high)))

-- one cell more before those that were written from the end downwards
pub cells_filled : (left : List (Bor (List ℕ))) (none : Bor (List ℕ)) (old new : List ℕ) (end : ℕ) → 1 ≤ length left → total (map length (bytes_of left)) ≡ end → end ≤ length old → new ≡ (slice_index_or left 0 none).now
    → (total (map length (bytes_of (take (length left - 1) (drop 1 left)))) ≡ end - length (slice_index_or left 0 none).now)
    × (end - length (slice_index_or left 0 none).now ≤ length (put_mid (end - length (slice_index_or left 0 none).now) (end - (end - length (slice_index_or left 0 none).now)) old new))
    × (texts (bytes_of (take (length left - 1) (drop 1 left))) ++ drop (end - length (slice_index_or left 0 none).now) (put_mid (end - length (slice_index_or left 0 none).now) (end - (end - length (slice_index_or left 0 none).now)) old new) ≡ texts (bytes_of left) ++ drop end old)
cells_filled [] none old new end some sum within is = absurd (omega (arith, some))
cells_filled (cell ∷ cells) none old new end some sum within is =
    let start = end - length cell.now in
    let last : start + (end - start) ≡ end = omega arith in
    let after : post_of start (end - start) old ≡ drop end old = drop-drop (end - start) start old ∙ ap (λ (n : ℕ). drop n old) last in
    let whole : put_mid start (end - start) old new ≡ take start old ++ (cell.now ++ drop end old) =
    ap (λ (x : List ℕ). take start old ++ (x ++ post_of start (end - start) old)) is ∙ ap (λ (x : List ℕ). take start old ++ (cell.now ++ x)) after in
    let low : length (take start old) ≡ start = length-take-le start old (omega (arith, within)) in
    let from : drop start (put_mid start (end - start) old new) ≡ cell.now ++ drop end old = ap (drop start) whole ∙ drop_at (take start old) (cell.now ++ drop end old) start low in
    rw (take_all (suc (length cells) - 1) cells (omega arith)) (
      omega (arith, sum),
      omega (arith, low, ap length whole, length-append (take start old) (cell.now ++ drop end old)),
      ap (λ (x : List ℕ). texts (bytes_of cells) ++ x) from ∙ sym (append_assoc (texts (bytes_of cells)) cell.now (drop end old)) ∙ ap (λ (x : List ℕ). x ++ drop end old) (sym (texts_first cell.now (bytes_of cells))),
    )

-- what was written over the end of a list
pub over_end : (kept old new end : List ℕ) (at len : ℕ) → old ≡ kept → at ≤ length old → len ≡ length kept → new ≡ end → length end ≡ length old - at
    → take len (put_mid at (length old - at) old new ++ drop (length (put_mid at (length old - at) old new)) kept) ≡ take at old ++ end
over_end kept old new end at len one within long is size =
    let past : post_of at (length old - at) old ≡ [] = drop_all (length old - at) (drop at old) (omega (arith, length-drop at old)) in
    let whole : put_mid at (length old - at) old new ≡ take at old ++ end = ap (λ (x : List ℕ). take at old ++ (new ++ x)) past ∙ ap (λ (x : List ℕ). take at old ++ x) (append-nil new ∙ is) in
    let fits : length (take at old ++ end) ≡ length kept = omega (arith, length-append (take at old) end, length-take-le at old within, size, within, ap length one) in
    ap (λ (x : List ℕ). take len (x ++ drop (length x) kept)) whole
    ∙ (ap (λ (x : List ℕ). take len ((take at old ++ end) ++ x)) (drop_all (length (take at old ++ end)) kept (omega (arith, fits)))
    ∙ (ap (take len) (append-nil (take at old ++ end)) ∙ take_all len (take at old ++ end) (omega (arith, fits, long))))

-- how long the page is up to its pointers
pub fronts_len : (before right header out0 out1 out2 out3 : List ℕ) → length header ≡ 8 → out0 ≡ [] → out1 ≡ out0 ++ before → out2 ≡ out1 ++ header → out3 ≡ out2 ++ right → length out3 ≡ length before + 8 + length right
fronts_len before right header out0 out1 out2 out3 eight e0 e1 e2 e3 =
    omega (arith, eight, ap length e0, ap length e1, ap length e2, ap length e3, length-append out0 before, length-append out1 header, length-append out2 right)

-- the parts of a page as they are written one after the other
pub page_parts : (before right out0 out1 out2 out3 out4 out5 out6 : List ℕ) (page_size content written : ℕ) (kind : Kind) (cells : List (List ℕ)) → Fits page_size (length before) (length right) cells → content ≡ content_of page_size cells → out0 ≡ []
    → out1 ≡ out0 ++ before → out2 ≡ out1 ++ page_header (type_of kind) (0 ∷ 0 ∷ []) (length cells) (content_bytes content) 0 → out3 ≡ out2 ++ right → out4 ≡ out3 ++ flat_map pointer (spans_below page_size cells)
    → written ≡ length out4 → out5 ≡ out4 ++ replicate (content - written) 0 → out6 ≡ out5 ++ texts cells → out6 ≡ page_of before page_size kind right cells
unfolding page_of
page_parts before right out0 out1 out2 out3 out4 out5 out6 page_size content written kind cells fits c e0 e1 e2 e3 e4 w e5 e6 =
    let header = page_header (type_of kind) (0 ∷ 0 ∷ []) (length cells) (content_bytes content) 0 in
    let pointers = flat_map pointer (spans_below page_size cells) in
    let floor = length before + 8 + length right + 2 * length cells in
    let zeros : List ℕ = replicate (content - floor) 0 in
    let room = fits.room in
    let rooms = room_is cells in
    let one : out1 ≡ before = e1 ∙ ap (λ (x : List ℕ). x ++ before) e0 in
    let three : out3 ≡ before ++ (header ++ right) = e3 ∙ ap (λ (x : List ℕ). x ++ right) (e2 ∙ ap (λ (x : List ℕ). x ++ header) one) ∙ append_assoc before header right in
    let four : out4 ≡ (before ++ (header ++ right)) ++ pointers = e4 ∙ ap (λ (x : List ℕ). x ++ pointers) three in
    let len : length out4 ≡ floor =
    omega (arith, ap length four, length-append (before ++ (header ++ right)) pointers, length-append before (header ++ right), length-append header right, header_len (type_of kind) (length cells) content, length-pointers page_size cells) in
    let five : out5 ≡ ((before ++ (header ++ right)) ++ pointers) ++ zeros =
    e5 ∙ ap (λ (x : List ℕ). x ++ replicate (content - written) 0) four ∙ ap (λ (n : ℕ). ((before ++ (header ++ right)) ++ pointers) ++ replicate (content - n) 0) (w ∙ len) in
    let six : out6 ≡ before ++ (header ++ (right ++ (pointers ++ (zeros ++ texts cells)))) = e6 ∙ ap (λ (x : List ℕ). x ++ texts cells) five ∙ simp append_assoc in
    six ∙ ap (λ (n : ℕ). before ++ (page_header (type_of kind) (0 ∷ 0 ∷ []) (length cells) (content_bytes n) 0 ++ (right ++ (pointers ++ (replicate (n - floor) 0 ++ texts cells))))) c
