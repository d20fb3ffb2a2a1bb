-- The steps of writing a page.
use Rattle.std.proofs.Common.{◌≡◌, ℕ, suc, ◌+◌, ◌-◌, ◌*◌, ◌≤◌, List, [], ◌∷◌, ◌++◌, length, map, reverse, take, drop, replicate, sum_by, slice_index_or, refl, ap, ◌∙◌, append_assoc, arith}
use Rattle.std.specs.List.{flat_map}
use Rattle.std.specs.Int.{w64, cast_unsigned}
use Rattle.record.specs.Varint.{varint}
use Rattle.std.proofs.lemmas.List.{take_all, length-append}
use Rattle.std.proofs.lemmas.List.Sums.{sum_by-cons}
use Rattle.tree_leaf.specs.declared.cell.Cell.{Cell}
use Rattle.tree_leaf.specs.Leaf.{Entry, entry_of, leaf_header}
use Rattle.tree_page.specs.Cells.{Span, pointer}
use Rattle.tree_leaf.specs.Writing.{cell_text, cell_size, content_bytes, spans_below, node_of, leaf_of}

-- the cells from the last to the first
abbrev pub texts : List Entry → List ℕ
texts entries = flat_map cell_text (reverse entries)

pub first_size : (left : List Cell) (d : Cell) (n : ℕ) → 1 ≤ length left → sum_by cell_size (map entry_of left) ≤ n
    → cell_size (entry_of (slice_index_or left 0 d)) + sum_by cell_size (map entry_of (take (length left - 1) (drop 1 left))) ≤ n
first_size [] d n some le = absurd (omega arith)
first_size (cell ∷ left) d n some le =
    rw (take_all (suc (length left) - 1) left (omega arith)) (omega (arith, sum_by-cons cell_size (entry_of cell) (map entry_of left)))

pub payload_within : (entry : Entry) (n : ℕ) → cell_size entry ≤ n → length entry.payload ≤ n
unfolding cell_size
payload_within entry n le = omega arith

pub first_within : (left : List Cell) (d : Cell) (n : ℕ) → 1 ≤ length left → sum_by cell_size (map entry_of left) ≤ n → n ≤ 65536 → length (slice_index_or left 0 d).payload.now ≤ 65536
first_within left d n some le cap = payload_within (entry_of (slice_index_or left 0 d)) 65536 (omega (arith, first_size left d n some le))

pub cell_parts : (out0 out1 out2 out3 : List ℕ) (entry : Entry) (n : ℕ) → n ≡ cast_unsigned w64 entry.rowid → out1 ≡ out0 ++ varint (length entry.payload) → out2 ≡ out1 ++ varint n → out3 ≡ out2 ++ entry.payload → out3 ≡ out0 ++ cell_text entry
unfolding cell_text
cell_parts out0 out1 out2 out3 entry n n_is e1 e2 e3 =
    let a = varint (length entry.payload) in
    let b = varint (cast_unsigned w64 entry.rowid) in
    e3 ∙ ap (λ (x : List ℕ). x ++ entry.payload) (e2 ∙ ap (λ (m : ℕ). out1 ++ varint m) n_is ∙ ap (λ (x : List ℕ). x ++ b) e1)
    ∙ append_assoc (out0 ++ a) b entry.payload ∙ append_assoc out0 a (b ++ entry.payload)

same_length : (end : ℕ) (entries : List Entry) → length (spans_below end entries) ≡ length entries
same_length end [] = refl
same_length end (entry ∷ entries) = ap (λ (n : ℕ). suc n) (same_length (end - cell_size entry) entries)

pub header_len : (count content : ℕ) → length (leaf_header (0 ∷ 0 ∷ []) count (content_bytes content) 0) ≡ 8
header_len count content = refl

length-pointers : (spans : List Span) → length (flat_map pointer spans) ≡ 2 * length spans
length-pointers [] = refl
length-pointers (span ∷ spans) = omega (arith, length-pointers spans)

pub length-pointed : (end : ℕ) (entries : List Entry) → length (flat_map pointer (spans_below end entries)) ≡ 2 * length entries
length-pointed end entries = omega (arith, length-pointers (spans_below end entries), same_length end entries)

-- the parts as they are written one after the other
pub page_parts : (front out0 out1 out2 out3 out4 out5 : List ℕ) (page_size content written : ℕ) (entries : List Entry) → content ≡ page_size - sum_by cell_size entries → length front + 8 + 2 * length entries ≤ content → out0 ≡ []
    → out1 ≡ out0 ++ front → out2 ≡ out1 ++ leaf_header (0 ∷ 0 ∷ []) (length entries) (content_bytes content) 0 → out3 ≡ out2 ++ flat_map pointer (spans_below page_size entries)
    → written ≡ length out3 → out4 ≡ take content out3 ++ replicate (content - written) 0 → out5 ≡ out4 ++ texts entries → out5 ≡ leaf_of front page_size entries
unfolding leaf_of
page_parts front out0 out1 out2 out3 out4 out5 page_size content written entries c room e0 e1 e2 e3 w e4 e5 =
    let header = leaf_header (0 ∷ 0 ∷ []) (length entries) (content_bytes content) 0 in
    let pointers = flat_map pointer (spans_below page_size entries) in
    let zeros : List ℕ = replicate (content - (length front + 8 + 2 * length entries)) 0 in
    let one : out1 ≡ front = e1 ∙ ap (λ (x : List ℕ). x ++ front) e0 in
    let three : out3 ≡ front ++ (header ++ pointers) = e3 ∙ ap (λ (x : List ℕ). x ++ pointers) (e2 ∙ ap (λ (x : List ℕ). x ++ header) one) ∙ append_assoc front header pointers in
    let len : length out3 ≡ length front + 8 + 2 * length entries =
    omega (arith, ap length three, length-append front (header ++ pointers), length-append header pointers, header_len (length entries) content, length-pointed page_size entries) in
    let four : out4 ≡ (front ++ (header ++ pointers)) ++ zeros =
    e4 ∙ ap (λ (x : List ℕ). x ++ replicate (content - written) 0) (take_all content out3 (omega arith) ∙ three) ∙ ap (λ (n : ℕ). (front ++ (header ++ pointers)) ++ replicate (content - n) 0) (w ∙ len) in
    let five : out5 ≡ front ++ (header ++ (pointers ++ (zeros ++ texts entries))) = e5 ∙ ap (λ (x : List ℕ). x ++ texts entries) four ∙ simp append_assoc in
    five ∙ ap (λ (n : ℕ). front ++ node_of (length front) page_size n entries) c
