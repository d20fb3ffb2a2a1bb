-- What is written is a table leaf of the rows.
use Rattle.std.proofs.Common.{◌≡◌, ◌⊎◌, inl, inr, ℕ, ◌+◌, ◌-◌, ◌*◌, ◌^◌, ◌<◌, ◌≤◌, List, [], ◌∷◌, ◌++◌, length, reverse, replicate, sum_by, refl, sym, ap, subst, ◌∙◌, append_assoc, arith}
use Rattle.std.specs.List.{AllByRecursion, flat_map}
use Rattle.std.specs.Int.{w64, cast_unsigned}
use Rattle.std.proofs.Math.Facts.{Fits-of_z}
use Rattle.std.proofs.lemmas.Int.{to_z-of_z}
use Rattle.std.proofs.lemmas.List.{append-nil, reverse-append, length-append, length-replicate}
use Rattle.std.proofs.lemmas.List.Sums.{sum_by-cons}
use Rattle.std.proofs.lemmas.Grind.{flat_map-append}
use Rattle.record.specs.Varint.{varint}
use Rattle.record.proofs.VarintLemmas.{varint_shortest, length-varint}
use Rattle.tree_leaf.specs.Leaf.{Entry, IsCell, AreCells, leaf_header, front_span, IsTableLeaf}
use Rattle.tree_page.specs.Cells.{Span, pointer, IsApart, AreApart}
use Rattle.tree_leaf.specs.Writing.{Fits, IsNumbered, cell_text, cell_size, content_bytes, spans_below, leaf_of}
use Rattle.tree_leaf.proofs.PutLemmas.{texts, header_len, length-pointed}

size_is : (entry : Entry) → length (cell_text entry) ≡ cell_size entry
unfolding cell_text cell_size
size_is entry =
    let a = varint (length entry.payload) in
    let b = varint (cast_unsigned w64 entry.rowid) in
    omega (arith, length-append a (b ++ entry.payload), length-append b entry.payload)

texts_first : (entry : Entry) (entries : List Entry) → texts (entry ∷ entries) ≡ texts entries ++ cell_text entry
texts_first entry entries =
    ap (flat_map cell_text) (reverse-append (entry ∷ []) entries) ∙ flat_map-append cell_text (reverse entries) (entry ∷ []) ∙ ap (λ (x : List ℕ). texts entries ++ x) (append-nil (cell_text entry))

length-texts : (entries : List Entry) → length (texts entries) ≡ sum_by cell_size entries
length-texts [] = refl
length-texts (entry ∷ entries) =
    omega (arith, ap length (texts_first entry entries), length-append (texts entries) (cell_text entry), size_is entry, length-texts entries, sum_by-cons cell_size entry entries)

cell_built : (page before after : List ℕ) (entry : Entry) (from to : ℕ) → page ≡ before ++ (cell_text entry ++ after) → from ≡ length before → to + length after ≡ length page → length entry.payload + 35 ≤ length page → IsNumbered entry → from < 2 ^ 16 → length page ≤ 2 ^ 16
    → IsCell page (record { from = from; to = to }) entry
unfolding cell_text
cell_built page before after entry from to parts f t whole numbered near small =
    let a = varint (length entry.payload) in
    let b = varint (cast_unsigned w64 entry.rowid) in
    record {
      before = before;
      size = a;
      rowid = b;
      after = after;
      number = cast_unsigned w64 entry.rowid;
      parts = parts ∙ ap (λ (x : List ℕ). before ++ x) (append_assoc a (b ++ entry.payload) after ∙ ap (λ (x : List ℕ). a ++ x) (append_assoc b entry.payload after));
      from_is = f;
      to_is = t;
      size_is = (varint_shortest (length entry.payload) (omega arith)).is;
      rowid_is = (varint_shortest (cast_unsigned w64 entry.rowid) (Fits-of_z numbered).fits).is;
      signed = sym (to_z-of_z w64 entry.rowid numbered);
      whole = whole;
      near = near;
    }

some_size : (entry : Entry) → 1 ≤ cell_size entry
unfolding cell_size
some_size entry = omega (arith, length-varint (length entry.payload))

cells_built : (page base after : List ℕ) (end : ℕ) (entries : List Entry) → page ≡ base ++ (texts entries ++ after) → length base + sum_by cell_size entries ≡ end → end + length after ≡ length page → length page ≤ 2 ^ 16
    → AllByRecursion (λ entry. length entry.payload + 35 ≤ length page) entries → AllByRecursion IsNumbered entries → AreCells page (spans_below end entries) entries
cells_built page base after end [] parts sum len small whole numbered = tt
cells_built page base after end (entry ∷ entries) parts sum len small whole numbered =
    let more = sum_by-cons cell_size entry entries in
    let size = some_size entry in
    let text_len = size_is entry in
    let here : page ≡ base ++ (texts entries ++ (cell_text entry ++ after)) =
    parts ∙ ap (λ (x : List ℕ). base ++ (x ++ after)) (texts_first entry entries) ∙ ap (λ (x : List ℕ). base ++ x) (append_assoc (texts entries) (cell_text entry) after) in
    let apart : page ≡ (base ++ texts entries) ++ (cell_text entry ++ after) = here ∙ sym (append_assoc base (texts entries) (cell_text entry ++ after)) in (
      cell_built page (base ++ texts entries) after entry (end - cell_size entry) end apart (omega (arith, length-append base (texts entries), length-texts entries)) len whole.0 numbered.0 (omega arith) small,
      cells_built page base (cell_text entry ++ after) (end - cell_size entry) entries here (omega arith) (omega (arith, length-append (cell_text entry) after)) small whole.1 numbered.1,
    )

-- each is below `floor` or from `end` on
abbrev Clear : ℕ → ℕ → Span → Type 0
Clear floor end span = (span.to ≤ floor) ⊎ (end ≤ span.from)

apart_one : (floor end size : ℕ) (before : List Span) → size + floor ≤ end → AllByRecursion (Clear floor end) before → AllByRecursion (IsApart (record { from = end - size; to = end })) before
apart_one floor end size [] room clear = tt
apart_one floor end size (span ∷ before) room clear = (by_side clear.0, apart_one floor end size before room clear.1)
  where
    by_side : Clear floor end span → IsApart (record { from = end - size; to = end }) span
    by_side (inl low) = inr (omega arith)
    by_side (inr high) = inl high

clear_lower : (floor end next : ℕ) (before : List Span) → next ≤ end → AllByRecursion (Clear floor end) before → AllByRecursion (Clear floor next) before
clear_lower floor end next [] le clear = tt
clear_lower floor end next (span ∷ before) le clear = (by_side clear.0, clear_lower floor end next before le clear.1)
  where
    by_side : Clear floor end span → Clear floor next span
    by_side (inl low) = inl low
    by_side (inr high) = inr (omega arith)

apart_built : (floor end : ℕ) (before : List Span) (entries : List Entry) → floor + sum_by cell_size entries ≤ end → AllByRecursion (Clear floor end) before → AreApart before (spans_below end entries)
apart_built floor end before [] room clear = tt
apart_built floor end before (entry ∷ entries) room clear =
    let more = sum_by-cons cell_size entry entries in
    let at_next : end - cell_size entry ≤ end - cell_size entry = omega arith in (
      apart_one floor end (cell_size entry) before (omega arith) clear,
      apart_built floor (end - cell_size entry) (record { from = end - cell_size entry; to = end } ∷ before) entries (omega arith) (inr at_next, clear_lower floor end (end - cell_size entry) before (omega arith) clear),
    )

pub leaf_built : (front : List ℕ) (page_size : ℕ) (entries : List Entry) → Fits page_size (length front) entries → AllByRecursion IsNumbered entries
    → IsTableLeaf (leaf_of front page_size entries) (length front) entries × (length (leaf_of front page_size entries) ≡ page_size)
unfolding leaf_of
leaf_built front page_size entries fits numbered =
    let content = page_size - sum_by cell_size entries in
    let gap = content - (length front + 8 + 2 * length entries) in
    let header = leaf_header (0 ∷ 0 ∷ []) (length entries) (content_bytes content) 0 in
    let pointers = flat_map pointer (spans_below page_size entries) in
    let zeros : List ℕ = replicate gap 0 in
    let page = front ++ (header ++ (pointers ++ (zeros ++ texts entries))) in
    let base = front ++ (header ++ (pointers ++ zeros)) in
    let room = fits.room in
    let base_len : length base ≡ content =
    omega (arith, length-append front (header ++ (pointers ++ zeros)), length-append header (pointers ++ zeros), length-append pointers zeros, header_len (length entries) content, length-pointed page_size entries, length-replicate {A = ℕ} gap 0) in
    let split : page ≡ base ++ (texts entries ++ []) = simp (append_assoc, append-nil) in
    let len : length page ≡ page_size = omega (arith, ap length split, length-append base (texts entries ++ []), ap length (append-nil (texts entries)), length-texts entries) in
    let whole : AllByRecursion (λ entry. length entry.payload + 35 ≤ length page) entries = subst (λ (n : ℕ). AllByRecursion (λ entry. length entry.payload + 35 ≤ n) entries) (sym len) fits.whole in
    let floor = length front + 8 + 2 * length entries in
    let at_floor : floor ≤ floor = omega arith in (
      record {
        before = front;
        freeblock = 0 ∷ 0 ∷ [];
        content = content_bytes content;
        fragments = 0;
        spans = spans_below page_size entries;
        rest = zeros ++ texts entries;
        parts = refl;
        start_is = refl;
        freeblock_is = refl;
        content_is = refl;
        few = omega (arith, fits.addressed);
        cells = cells_built page base [] page_size entries split (omega arith) (omega arith) (omega (arith, fits.addressed)) whole numbered;
        apart = apart_built floor page_size (front_span (length front) entries ∷ []) entries (omega arith) (inl at_floor, tt);
      },
      len,
    )
