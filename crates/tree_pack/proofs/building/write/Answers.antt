use Rattle.std.proofs.Common.{rules, ◌≡◌, ◌≤◌, ◌+◌, ℕ, List, [], ◌∷◌, ◌++◌, ◌-◌, ◌*◌, length, map, take, replicate, reverse, refl, sym, ap, ◌∙◌, arith}
use Rattle.std.proofs.lemmas.List.{length-append, length-drop, length-map, length-replicate, take_rest}
use Rattle.std.specs.List.{flat_map}
use Rattle.tree_page.specs.Cells.{pointer, page_header}
use Rattle.tree_page.specs.Reading.{type_of}
use Rattle.tree_pack.specs.Parts.{total}
use Rattle.tree_pack.specs.Building.{spans_below, content_of, content_bytes}
use Rattle.tree_pack.proofs.BuildingLemmas.{room_is, length-texts, length-pointers, zeros_up_to, over_end, fronts_len, page_parts}
use Rattle.tree_pack.proofs.building.write.Goals as goal

pub overflow_sub-content : goal.overflow_sub-content
overflow_sub-content c =
    let room = c.requires.room in
    let cells = map (λ cell. cell.now) c.args.cells.now in
    omega (arith, room, room_is cells, length-map c.args.cells.now (λ cell. cell.now), c.room_of.ensures)

pub put_header-requires : goal.put_header-requires
put_header-requires c =
    let room = c.requires.room in
    let near = c.requires.addressed in
    let cells = map (λ cell. cell.now) c.args.cells.now in
    (omega (arith, room, near, room_is cells, length-map c.args.cells.now (λ cell. cell.now)), omega (arith, near))

pub put_pointers-requires-clause-room : goal.put_pointers-requires-clause-room
put_pointers-requires-clause-room c =
    let room = c.requires.room in
    let cells = map (λ cell. cell.now) c.args.cells.now in
    omega (arith, room, room_is cells)

pub put_pointers-requires-clause-reserved : goal.put_pointers-requires-clause-reserved
put_pointers-requires-clause-reserved c =
    let room = c.requires.room in
    let cells = map (λ cell. cell.now) c.args.cells.now in
    let front = fronts_len c.args.front.now c.args.right.now _ c.in_ok-out.out.items c.extend_from_slice.new.self.items c.put_header.new.out.items c.extend_from_slice-2.new.self.items refl c.in_ok-out.ensures.items
    c.in_ok-extend_from_slice.ensures.items c.in_ok-put_header.ensures.header c.in_ok-extend_from_slice-2.ensures.items in
    omega (
      arith,
      room,
      room_is cells,
      length-map c.args.cells.now (λ cell. cell.now),
      front,
      c.in_ok-out.ensures.capacity,
      c.in_ok-extend_from_slice.ensures.capacity,
      c.in_ok-put_header.ensures.capacity,
      c.in_ok-extend_from_slice-2.ensures.capacity,
    )

pub overflow_sub-left : goal.overflow_sub-left
overflow_sub-left c =
    let room = c.requires.room in
    let cells = map (λ cell. cell.now) c.args.cells.now in
    let front = fronts_len c.args.front.now c.args.right.now _ c.in_ok-out.out.items c.extend_from_slice.new.self.items c.put_header.new.out.items c.extend_from_slice-2.new.self.items refl c.in_ok-out.ensures.items
    c.in_ok-extend_from_slice.ensures.items c.in_ok-put_header.ensures.header c.in_ok-extend_from_slice-2.ensures.items in
    let written : c.len.result ≡ length c.put_pointers.new.out.items = search rules in
    omega (
      arith,
      room,
      room_is cells,
      written,
      front,
      ap length c.put_pointers.ensures,
      length-append c.extend_from_slice-2.new.self.items (flat_map pointer (spans_below c.args.page_size cells)),
      length-pointers c.args.page_size cells,
    )

pub fill_cells-requires : goal.fill_cells-requires
fill_cells-requires c =
    let room = c.requires.room in
    let cells = map (λ cell. cell.now) c.args.cells.now in
    let content = c.args.page_size - (c.room_of.result - 2 * length c.args.cells.now) in
    let old = c.deref_mut.result.now in
    let out = c.put_pointers.new.out.items in
    let front = fronts_len c.args.front.now c.args.right.now _ c.in_ok-out.out.items c.extend_from_slice.new.self.items c.put_header.new.out.items c.extend_from_slice-2.new.self.items refl c.in_ok-out.ensures.items
    c.in_ok-extend_from_slice.ensures.items c.in_ok-put_header.ensures.header c.in_ok-extend_from_slice-2.ensures.items in
    let out_len = ap length c.put_pointers.ensures ∙ length-append c.extend_from_slice-2.new.self.items (flat_map pointer (spans_below c.args.page_size cells)) in
    let written : c.len.result ≡ length out = search rules in
    let zeros : List ℕ = replicate (c.args.page_size - c.len.result) 0 in
    let all : length old ≡ length out + (c.args.page_size - c.len.result) = ap length (c.deref_mut.ensures.value ∙ c.in_ok-put_zeros.ensures) ∙ length-append out zeros ∙ ap (λ (n : ℕ). length out + n) (length-replicate {A = ℕ} (c.args.page_size - c.len.result) 0) in
    let size : length old ≡ c.args.page_size = omega (arith, all, written, room, room_is cells, front, out_len, length-pointers c.args.page_size cells) in
    let sum : content + total (map length cells) ≡ c.args.page_size = omega (arith, room, room_is cells, length-map c.args.cells.now (λ cell. cell.now), c.room_of.ensures) in
    ap length (take_rest old content) ∙ omega (arith, length-drop content old, size, sum)

pub returns : goal.returns
returns c =
    let room = c.requires.room in
    let cells = map (λ cell. cell.now) c.args.cells.now in
    let len = length-map c.args.cells.now (λ cell. cell.now) in
    let content = c.args.page_size - (c.room_of.result - 2 * length c.args.cells.now) in
    let content_is : content ≡ content_of c.args.page_size cells = omega (arith, room, room_is cells, len, c.room_of.ensures) in
    let old = c.deref_mut.result.now in
    let out = c.put_pointers.new.out.items in
    let front = fronts_len c.args.front.now c.args.right.now _ c.in_ok-out.out.items c.extend_from_slice.new.self.items c.put_header.new.out.items c.extend_from_slice-2.new.self.items refl c.in_ok-out.ensures.items
    c.in_ok-extend_from_slice.ensures.items c.in_ok-put_header.ensures.header c.in_ok-extend_from_slice-2.ensures.items in
    let out_len = ap length c.put_pointers.ensures ∙ length-append c.extend_from_slice-2.new.self.items (flat_map pointer (spans_below c.args.page_size cells)) in
    let pointers = length-pointers c.args.page_size cells in
    let written : c.len.result ≡ length out = search rules in
    let zeros : List ℕ = replicate (c.args.page_size - c.len.result) 0 in
    let whole : c.put_zeros.new.out.items ≡ out ++ zeros = c.in_ok-put_zeros.ensures in
    let all : length old ≡ length out + (c.args.page_size - c.len.result) = ap length (c.deref_mut.ensures.value ∙ whole) ∙ length-append out zeros ∙ ap (λ (n : ℕ). length out + n) (length-replicate {A = ℕ} (c.args.page_size - c.len.result) 0) in
    let size : length old ≡ c.args.page_size = omega (arith, all, written, room, room_is cells, front, out_len, pointers) in
    let sum : content + total (map length cells) ≡ c.args.page_size = omega (arith, room, room_is cells, len, c.room_of.ensures) in
    let low : length out ≤ content = omega (arith, room, room_is cells, front, out_len, pointers, sum) in
    let long : c.put_zeros.new.out.len ≡ length c.put_zeros.new.out.items = search rules in
    let five : take content old ≡ out ++ replicate (content - length out) 0 =
    ap (take content) (c.deref_mut.ensures.value ∙ whole) ∙ ap (λ (n : ℕ). take content (out ++ replicate (c.args.page_size - n) 0)) written ∙ zeros_up_to out content (length out) c.args.page_size refl low (omega (arith, sum)) in
    let texts = flat_map (λ (cell : List ℕ). cell) (reverse cells) in
    over_end c.put_zeros.new.out.items old c.fill_cells.new.room texts content c.put_zeros.new.out.len c.deref_mut.ensures.value (omega (arith, size, sum)) long c.fill_cells.ensures (omega (arith, length-texts cells, size, sum))
    ∙ page_parts c.args.front.now c.args.right.now c.in_ok-out.out.items c.extend_from_slice.new.self.items c.put_header.new.out.items c.extend_from_slice-2.new.self.items out (take content old) (take content old ++ texts)
    c.args.page_size content (length out) c.args.kind cells c.requires content_is c.in_ok-out.ensures.items c.in_ok-extend_from_slice.ensures.items
    (c.in_ok-put_header.ensures.header ∙ ap (λ (n : ℕ). c.extend_from_slice.new.self.items ++ page_header (type_of c.args.kind) (0 ∷ 0 ∷ []) n (content_bytes content) 0) (sym len))
    c.in_ok-extend_from_slice-2.ensures.items c.put_pointers.ensures refl five refl
