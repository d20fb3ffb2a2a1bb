-- Pages whose cells give way to others that are as long.
use Rattle.std.proofs.Common.{◌≡◌, ◌⊎◌, inl, inr, ◌≤◌, ◌<◌, ◌+◌, ◌-◌, ◌*◌, ◌/◌, ◌%◌, ℕ, zero, suc, List, [], ◌∷◌, ◌++◌, length, take, drop, slice_index_or, refl, sym, ap, subst, ◌∙◌, append_assoc, arith}
use Rattle.std.specs.Bool.{⊤}
use Rattle.std.specs.List.{AllByRecursion, flat_map}
use Rattle.std.proofs.Math.Seq.{take-append-add}
use Rattle.std.proofs.lemmas.List.{take_at, take_all, take_more, drop_at, drop_more, take-append-drop, drop-append-le, length-append, length-drop, length-take-le}
use Rattle.std.proofs.lemmas.Nat.{from_be_bytes-to_be_bytes_2}
use Rattle.tree_page.specs.Cells.{Span, pointer, Pairwise, IsAt, IsApart, AreApart, page_header, front, IsTreePage}
use Rattle.tree_page.specs.Node.{Node, code_of, right_of, Say, IsNode}
use Rattle.tree_page.specs.Reading.{Place, count_of}
use Rattle.tree_page.proofs.HeaderLemmas.{length-pointers, same_length, length-header}
use Rattle.tree_page.proofs.NodeLemmas.{node_count}
use Rattle.tree_pack.specs.Placing.{IsPlaced}
use Rattle.tree_pack.specs.Replacing.{written_over, no_span, IsCellAt}
use Rattle.tree_pack.specs.Splicing.{spliced}
use Rattle.tree_pack.specs.declared.replacing.CellPlace.{CellPlace}
use Rattle.tree_pack.proofs.PlacingLemmas.{halves}

-- ---- the bytes that are written

-- no byte of the span is written over
abbrev pub IsClear : ℕ → ℕ → Span → Type 0
IsClear at size span = (span.to ≤ at) ⊎ (at + size ≤ span.from)

-- a cell that isn't written over stays
before_stays : (page bytes : List ℕ) (at : ℕ) (span : Span) (cell : List ℕ) → span.to ≤ at → IsAt page span cell → IsAt (written_over at bytes page) span cell
before_stays page bytes at span cell le is =
    let first = is.before ++ cell in
    let size : length first + (at - length first) ≡ at = omega (arith, le, is.to_is, length-append is.before cell) in
    let grouped : page ≡ first ++ is.after = is.parts ∙ sym (append_assoc is.before cell is.after) in
    let kept : take at page ≡ first ++ take (at - length first) is.after = ap (take at) grouped ∙ ap (λ (n : ℕ). take n (first ++ is.after)) (sym size) ∙ take-append-add first is.after (at - length first) in
    record {
      before = is.before;
      after = take (at - length first) is.after ++ (bytes ++ drop (at + length bytes) page);
      parts = ap (λ (x : List ℕ). x ++ (bytes ++ drop (at + length bytes) page)) kept ∙ append_assoc first (take (at - length first) is.after) (bytes ++ drop (at + length bytes) page)
          ∙ append_assoc is.before cell (take (at - length first) is.after ++ (bytes ++ drop (at + length bytes) page));
      from_is = is.from_is;
      to_is = is.to_is;
      near = is.near;
    }

after_stays : (page bytes : List ℕ) (at : ℕ) (span : Span) (cell : List ℕ) → at + length bytes ≤ length page → at + length bytes ≤ span.from → IsAt page span cell → IsAt (written_over at bytes page) span cell
after_stays page bytes at span cell within le is =
    let n = at + length bytes in
    let far : n ≤ length is.before = omega (arith, le, is.from_is) in
    let tail : drop n page ≡ drop n is.before ++ (cell ++ is.after) = ap (drop n) is.parts ∙ drop-append-le n is.before (cell ++ is.after) far in
    let front = take at page ++ (bytes ++ drop n is.before) in
    let long : length front ≡ length is.before =
    omega (arith, length-append (take at page) (bytes ++ drop n is.before), length-append bytes (drop n is.before), length-take-le at page (omega (arith, within)), length-drop n is.before, far) in
    record {
      before = front;
      after = is.after;
      parts = ap (λ (x : List ℕ). take at page ++ (bytes ++ x)) tail ∙ ap (λ (x : List ℕ). take at page ++ x) (sym (append_assoc bytes (drop n is.before) (cell ++ is.after)))
          ∙ sym (append_assoc (take at page) (bytes ++ drop n is.before) (cell ++ is.after));
      from_is = is.from_is ∙ sym long;
      to_is = is.to_is ∙ ap (λ (m : ℕ). m + length cell) (sym long);
      near = is.near;
    }

pub clear_stays : (page bytes : List ℕ) (at : ℕ) → at + length bytes ≤ length page → (span : Span) (cell : List ℕ) → IsClear at (length bytes) span → IsAt page span cell → IsAt (written_over at bytes page) span cell
clear_stays page bytes at within span cell (inl le) is = before_stays page bytes at span cell le is
clear_stays page bytes at within span cell (inr le) is = after_stays page bytes at span cell within le is

-- what is written stands there
written_stands : (page bytes old : List ℕ) (at : ℕ) (span : Span) → at + length bytes ≤ length page → span.from ≡ at → length old ≡ length bytes → IsAt page span old → IsAt (written_over at bytes page) span bytes
written_stands page bytes old at span within from_is same is =
    let long : length (take at page) ≡ at = length-take-le at page (omega (arith, within)) in
    record {
      before = take at page;
      after = drop (at + length bytes) page;
      parts = refl;
      from_is = from_is ∙ sym long;
      to_is = omega (arith, is.to_is, is.from_is, from_is, same, long);
      near = is.near;
    }

-- ---- the spans of the other cells

-- this holds of all but the one at a place
abbrev pub Others : ℕ → (Span → Type 0) → List Span → Type 0
Others n C [] = ⊤
Others zero C (span ∷ spans) = AllByRecursion C spans
Others (suc n) C (span ∷ spans) = C span × Others n C spans

-- it is apart from this one, in either order
abbrev pub Beside : Span → Span → Type 0
Beside one span = IsApart span one ⊎ IsApart one span

all_at : (P : Span → Type 0) (more before : List Span) (one : Span) → AllByRecursion P (more ++ (one ∷ before)) → P one
all_at P [] before one all = all.0
all_at P (span ∷ more) before one all = all_at P more before one all.1

pub later_apart : (more before spans : List Span) (one : Span) → AreApart (more ++ (one ∷ before)) spans → AllByRecursion (Beside one) spans
later_apart more before [] one apart = tt
later_apart more before (span ∷ spans) one apart = (inl (all_at (IsApart span) more before one apart.0), later_apart (span ∷ more) before spans one apart.1)

-- each other span is apart from that at a place, and so are those before them all
pub record Clear (before spans : List Span) (n : ℕ) : Type 0 where
  pub first : AllByRecursion (IsApart (slice_index_or spans n no_span)) before
  pub others : Others n (Beside (slice_index_or spans n no_span)) spans

pub clear_at : (before spans : List Span) (n : ℕ) → n < length spans → AreApart before spans → Clear before spans n
clear_at before [] n lt apart = absurd (omega (arith, lt))
clear_at before (span ∷ spans) zero lt apart = record { first = apart.0; others = later_apart [] before spans span apart.1 }
clear_at before (span ∷ spans) (suc n) lt apart =
    let next = clear_at (span ∷ before) spans n (omega (arith, lt)) apart.1 in
    record { first = next.first.1; others = (inr next.first.0, next.others) }

others_map : (C D : Span → Type 0) (n : ℕ) (spans : List Span) → ((span : Span) → C span → D span) → Others n C spans → Others n D spans
others_map C D n [] f others = tt
others_map C D zero (span ∷ spans) f others = all_map spans others
  where
    all_map : (spans : List Span) → AllByRecursion C spans → AllByRecursion D spans
    all_map [] all = tt
    all_map (span ∷ spans) all = (f span all.0, all_map spans all.1)
others_map C D (suc n) (span ∷ spans) f others = (f span others.0, others_map C D n spans f others.1)

-- ---- the cells

pair_at : (P : Span → List ℕ → Type 0) (spans : List Span) (xs : List (List ℕ)) (old : List ℕ) (ys : List (List ℕ)) → Pairwise P spans (xs ++ (old ∷ ys)) → P (slice_index_or spans (length xs) no_span) old
pair_at P [] [] old ys all = absurd all
pair_at P [] (x ∷ xs) old ys all = absurd all
pair_at P (span ∷ spans) [] old ys all = all.0
pair_at P (span ∷ spans) (x ∷ xs) old ys all = pair_at P spans xs old ys all.1

pub pairs_stay : (P Q : Span → List ℕ → Type 0) (C : Span → Type 0) (spans : List Span) (ys : List (List ℕ)) → ((span : Span) (cell : List ℕ) → C span → P span cell → Q span cell) → AllByRecursion C spans → Pairwise P spans ys → Pairwise Q spans ys
pairs_stay P Q C [] [] f clear all = tt
pairs_stay P Q C [] (y ∷ ys) f clear all = absurd all
pairs_stay P Q C (span ∷ spans) [] f clear all = absurd all
pairs_stay P Q C (span ∷ spans) (y ∷ ys) f clear all = (f span y clear.0 all.0, pairs_stay P Q C spans ys f clear.1 all.1)

pairs_with : (P Q : Span → List ℕ → Type 0) (C : Span → Type 0) (spans : List Span) (xs : List (List ℕ)) (old new : List ℕ) (ys : List (List ℕ)) → ((span : Span) (cell : List ℕ) → C span → P span cell → Q span cell) → Others (length xs) C spans
    → Q (slice_index_or spans (length xs) no_span) new → Pairwise P spans (xs ++ (old ∷ ys)) → Pairwise Q spans (xs ++ (new ∷ ys))
pairs_with P Q C [] [] old new ys f others is all = absurd all
pairs_with P Q C [] (x ∷ xs) old new ys f others is all = absurd all
pairs_with P Q C (span ∷ spans) [] old new ys f others is all = (is, pairs_stay P Q C spans ys f others all.1)
pairs_with P Q C (span ∷ spans) (x ∷ xs) old new ys f others is all = (f span x others.0 all.0, pairs_with P Q C spans xs old new ys f others.1 is all.1)

-- ---- the front of the page

-- the page is what stands up to the end of its pointers, and the rest
pub record Behind (page fronts new : List ℕ) (front_size : ℕ) : Type 0 where
  pub rest : List ℕ
  pub parts : new ≡ fronts ++ rest
  pub long : length new ≡ length page

over_long : (page bytes : List ℕ) (at : ℕ) → at + length bytes ≤ length page → length (written_over at bytes page) ≡ length page
over_long page bytes at within = omega (
  arith,
  length-append (take at page) (bytes ++ drop (at + length bytes) page),
  length-append bytes (drop (at + length bytes) page),
  length-take-le at page (omega (arith, within)),
  length-drop (at + length bytes) page,
  within,
)

-- what is written after the front leaves it; and so do no bytes at the page's beginning
pub front_stays : (page fronts rest bytes : List ℕ) (at : ℕ) → page ≡ fronts ++ rest → at + length bytes ≤ length page → (at + length bytes ≤ 0) ⊎ (length fronts ≤ at) → Behind page fronts (written_over at bytes page) (length fronts)
front_stays page fronts rest bytes at e within (inl none) =
    let nothing : at ≡ 0 = omega (arith, none) in
    let no_bytes : length bytes ≡ 0 = omega (arith, none) in
    record { rest = rest; parts = nothing_over bytes at nothing no_bytes ∙ e; long = over_long page bytes at within }
  where
    nothing_over : (bytes : List ℕ) (at : ℕ) → at ≡ 0 → length bytes ≡ 0 → written_over at bytes page ≡ page
    nothing_over [] at zero_is none = ap (λ (n : ℕ). take n page ++ drop (n + 0) page) zero_is
    nothing_over (byte ∷ bytes) at zero_is none = absurd (omega (arith, none))
front_stays page fronts rest bytes at e within (inr after) =
    let k = at - length fronts in
    let size : length fronts + k ≡ at = omega (arith, after) in
    let kept : take at page ≡ fronts ++ take k rest = ap (take at) e ∙ ap (λ (n : ℕ). take n (fronts ++ rest)) (sym size) ∙ take-append-add fronts rest k in
    let tail = bytes ++ drop (at + length bytes) page in
    record { rest = take k rest ++ tail; parts = ap (λ (x : List ℕ). x ++ tail) kept ∙ append_assoc fronts (take k rest) tail; long = over_long page bytes at within }

-- ---- the page

-- a page with one cell in the place of one that is as long
pub record Replaced (kind : ℕ) (page : List ℕ) (start : ℕ) (right : List ℕ) (cells : List (List ℕ)) (is : IsTreePage kind page start right cells) (cells_now : List (List ℕ)) (new : List ℕ) : Type 0 where
  pub now : IsTreePage kind new start right cells_now
  pub spans_stay : now.spans ≡ is.spans
  pub long : length new ≡ length page
  pub front_same : take start new ≡ take start page

pub beside_clear : (at size : ℕ) (one span : Span) → one.from ≡ at → one.to ≡ at + size → Beside one span → IsClear at size span
beside_clear at size one span from_is to_is (inl (inl le)) = inl (omega (arith, le, from_is))
beside_clear at size one span from_is to_is (inl (inr le)) = inr (omega (arith, le, to_is))
beside_clear at size one span from_is to_is (inr (inl le)) = inr (omega (arith, le, to_is))
beside_clear at size one span from_is to_is (inr (inr le)) = inl (omega (arith, le, from_is))

of_front : (one before : Span) (at size : ℕ) (limit : ℕ) → one.from ≡ at → one.to ≡ at + size → before.from ≡ 0 → before.to ≡ limit → IsApart one before → (at + size ≤ 0) ⊎ (limit ≤ at)
of_front one before at size limit from_is to_is zero_is end_is (inl le) = inl (omega (arith, le, to_is, zero_is))
of_front one before at size limit from_is to_is zero_is end_is (inr le) = inr (omega (arith, le, from_is, end_is))

pub regroup : (before header right pointers rest : List ℕ) → (before ++ (header ++ (right ++ pointers))) ++ rest ≡ before ++ (header ++ (right ++ (pointers ++ rest)))
regroup before header right pointers rest = simp append_assoc

pub page_with : (kind : ℕ) (page : List ℕ) (start : ℕ) (right : List ℕ) (cells : List (List ℕ)) (is : IsTreePage kind page start right cells) (xs : List (List ℕ)) (old new : List ℕ) (ys : List (List ℕ)) (at : ℕ) → cells ≡ xs ++ (old ∷ ys)
    → length old ≡ length new → (slice_index_or is.spans (length xs) no_span).from ≡ at → at + length new ≤ length page → Replaced kind page start right cells is (xs ++ (new ∷ ys)) (written_over at new page)
page_with kind page start right cells is xs old new ys at cells_are same from_is within =
    let written = written_over at new page in
    let spans = is.spans in
    let one = slice_index_or spans (length xs) no_span in
    let pairs : Pairwise (IsAt page) spans (xs ++ (old ∷ ys)) = subst (λ (cs : List (List ℕ)). Pairwise (IsAt page) spans cs) cells_are is.cells_are in
    let here : IsAt page one old = pair_at (IsAt page) spans xs old ys pairs in
    let to_is : one.to ≡ at + length new = omega (arith, here.to_is, here.from_is, from_is, same) in
    let count : length spans ≡ length cells = same_length (IsAt page) spans cells is.cells_are in
    let sizes : length cells ≡ length xs + suc (length ys) = ap length cells_are ∙ length-append xs (old ∷ ys) in
    let sizes_now : length (xs ++ (new ∷ ys)) ≡ length cells = length-append xs (new ∷ ys) ∙ sym sizes in
    let clear = clear_at (front start (length right) (length cells) ∷ []) spans (length xs) (omega (arith, count, sizes)) is.apart in
    let header = page_header kind is.freeblock (length cells) is.content is.fragments in
    let pointers = flat_map pointer spans in
    let fronts = is.before ++ (header ++ (right ++ pointers)) in
    let eight = length-header kind (length cells) is.fragments is.freeblock is.content is.freeblock_is is.content_is in
    let front_size : length fronts ≡ start + 8 + length right + 2 * length cells =
    omega (arith, length-append is.before (header ++ (right ++ pointers)), length-append header (right ++ pointers), length-append right pointers, eight, is.start_is, length-pointers spans, count) in
    let whole : page ≡ fronts ++ is.rest = is.parts ∙ sym (regroup is.before header right pointers is.rest) in
    let apart_front = of_front one (front start (length right) (length cells)) at (length new) (length fronts) from_is to_is refl (sym front_size) clear.first.0 in
    let behind = front_stays page fronts is.rest new at whole within apart_front in
    let written_parts : written ≡ is.before ++ (header ++ (right ++ (pointers ++ behind.rest))) = behind.parts ∙ regroup is.before header right pointers behind.rest in
    record {
      now = record {
        before = is.before;
        freeblock = is.freeblock;
        content = is.content;
        fragments = is.fragments;
        spans = spans;
        rest = behind.rest;
        parts = written_parts ∙ ap (λ (n : ℕ). is.before ++ (page_header kind is.freeblock n is.content is.fragments ++ (right ++ (pointers ++ behind.rest)))) (sym sizes_now);
        start_is = is.start_is;
        freeblock_is = is.freeblock_is;
        content_is = is.content_is;
        few = omega (arith, sizes_now, is.few);
        cells_are = pairs_with (IsAt page) (IsAt written) (IsClear at (length new)) spans xs old new ys (clear_stays page new at within)
            (others_map (Beside one) (IsClear at (length new)) (length xs) spans (λ span beside. beside_clear at (length new) one span from_is to_is beside) clear.others)
            (written_stands page new old at one within from_is same here) pairs;
        apart = subst (λ (n : ℕ). AreApart (front start (length right) n ∷ []) spans) (sym sizes_now) is.apart;
      };
      spans_stay = refl;
      long = behind.long;
      front_same = ap (take start) written_parts ∙ take_at is.before _ start is.start_is ∙ sym (ap (take start) is.parts ∙ take_at is.before _ start is.start_is);
    }

-- ---- where a cell begins

-- the two bytes at a place among the pointers are the offset where the cell there begins
pub offset_is : (kind : ℕ) (page : List ℕ) (start : ℕ) (right : List ℕ) (cells : List (List ℕ)) (is : IsTreePage kind page start right cells) (place at : ℕ) (left : List ℕ) → place < length cells
    → left ≡ drop (start + 8 + length right + 2 * place) page → at ≡ slice_index_or left 0 0 * 256 + slice_index_or left 1 0 → (slice_index_or is.spans place no_span).from ≡ at
offset_is kind page start right cells is place at left lt left_is at_is =
    let h = halves kind page start right cells is place (omega (arith, lt)) in
    let header = page_header kind is.freeblock (length cells) is.content is.fragments in
    let fronts = is.before ++ (header ++ (right ++ h.firsts)) in
    let eight = length-header kind (length cells) is.fragments is.freeblock is.content is.freeblock_is is.content_is in
    let size : length fronts ≡ start + 8 + length right + 2 * place =
    omega (arith, length-append is.before (header ++ (right ++ h.firsts)), length-append header (right ++ h.firsts), length-append right h.firsts, eight, is.start_is, h.first_size) in
    let whole : page ≡ fronts ++ (h.lasts ++ is.rest) = h.parts ∙ sym (regroup is.before header right h.firsts (h.lasts ++ is.rest)) in
    let left_at : left ≡ h.lasts ++ is.rest = left_is ∙ ap (drop (start + 8 + length right + 2 * place)) whole ∙ drop_at fronts (h.lasts ++ is.rest) (start + 8 + length right + 2 * place) size in
    let spans = is.spans in
    let count : length spans ≡ length cells = same_length (IsAt page) spans cells is.cells_are in
    first_of spans cells place is.cells_are lt (left_at ∙ ap (λ (x : List ℕ). x ++ is.rest) h.lasts_are)
  where
    first_of : (spans : List Span) (cells : List (List ℕ)) (place : ℕ) → Pairwise (IsAt page) spans cells → place < length cells → left ≡ flat_map pointer (drop place spans) ++ is.rest → (slice_index_or spans place no_span).from ≡ at
    first_of [] [] place all lt e = absurd (omega (arith, lt))
    first_of [] (cell ∷ cells) place all lt e = absurd all
    first_of (span ∷ spans) [] place all lt e = absurd all
    first_of (span ∷ spans) (cell ∷ cells) zero all lt e =
        let high : slice_index_or left 0 0 ≡ span.from / 256 % 256 = ap (λ (x : List ℕ). slice_index_or x 0 0) e in
        let low : slice_index_or left 1 0 ≡ span.from % 256 = ap (λ (x : List ℕ). slice_index_or x 1 0) e in
        omega (arith, from_be_bytes-to_be_bytes_2 span.from all.0.near, at_is, high, low)
    first_of (span ∷ spans) (cell ∷ cells) (suc place) all lt e = first_of spans cells place all.1 (omega (arith, lt)) e

-- the cell at a place has as many bytes as the one that is read there
pub cell_size : (at : Place) (page : List ℕ) (start place size : ℕ) (node : Node) (is : IsNode page start node) → at ≡ record { bytes = page; start = start } → place < length is.cells → (cell : List ℕ)
    → ((node : Node) (is : IsNode at.bytes at.start node) → place < count_of node → cell ≡ slice_index_or is.cells place []) → length cell ≡ size → length (slice_index_or is.cells place []) ≡ size
cell_size at page start place size node is over there cell only long =
    let e = (rw over at only) node is (omega (arith, there, node_count page start node is)) in
    ap length (sym e) ∙ long

-- ---- several cells

-- the page has these cells where the one before has its own
pub record HasCells (page : List ℕ) (start : ℕ) (node : Node) (is : IsNode page start node) (cells : List (List ℕ)) (new : List ℕ) : Type 0 where
  pub now : IsTreePage (code_of node) new start (right_of node) cells
  pub spans_stay : now.spans ≡ is.page_is.spans
  pub long : length new ≡ length page
  pub front_same : take start new ≡ take start page

has_own : (page : List ℕ) (start : ℕ) (node : Node) (is : IsNode page start node) → HasCells page start node is is.cells page
has_own page start node is = record { now = is.page_is; spans_stay = refl; long = refl; front_same = refl }

-- so many of the new cells stand in their places
abbrev pub some_of : (from count : ℕ) (news cells : List (List ℕ)) → List (List ℕ)
some_of from count news cells = spliced from count (take count news) cells

pub none_yet : (page out : List ℕ) (start : ℕ) (node : Node) (is : IsNode page start node) (from : ℕ) (news : List (List ℕ)) → out ≡ page → HasCells page start node is (some_of from 0 news is.cells) out
none_yet page out start node is from news same =
    let plain : from + 0 ≡ from = omega arith in
    let own : some_of from 0 news is.cells ≡ is.cells = ap (λ (n : ℕ). take from is.cells ++ drop n is.cells) plain ∙ take-append-drop from is.cells in
    subst (λ (bytes : List ℕ). HasCells page start node is (some_of from 0 news is.cells) bytes) (sym same)
    (subst (λ (cells : List (List ℕ)). HasCells page start node is cells page) (sym own) (has_own page start node is))

pub one_more : (page out written : List ℕ) (start : ℕ) (node : Node) (is : IsNode page start node) (from i place : ℕ) (found : CellPlace) (news : List (List ℕ)) (new : List ℕ) → HasCells page start node is (some_of from i news is.cells) out
    → from + length news ≤ length is.cells → i < length news → place ≡ from + i → new ≡ slice_index_or news i [] → IsCellAt page start node is place found → found.end - found.at ≡ length new → found.at + length new ≤ length out → written ≡ written_over found.at new out
    → HasCells page start node is (some_of from (i + 1) news is.cells) written
one_more page out written start node is from i place found news new has within lt place_is new_is cell same fits written_is =
    let at = found.at in
    let long : length (slice_index_or is.cells place []) ≡ length new = omega (arith, same, cell.long) in
    let cells = is.cells in
    let old = slice_index_or cells place [] in
    let ys = drop (place + 1) cells in
    let xs = take from cells ++ take i news in
    let there = cell.there in
    let left : drop (from + i) cells ≡ old ∷ ys = ap (λ (n : ℕ). drop n cells) (sym place_is) ∙ drop_more cells place [] there in
    let cells_are : some_of from i news cells ≡ xs ++ (old ∷ ys) = ap (λ (l : List (List ℕ)). take from cells ++ (take i news ++ l)) left ∙ sym (append_assoc (take from cells) (take i news) (old ∷ ys)) in
    let xs_size : length xs ≡ place = omega (arith, length-append (take from cells) (take i news), length-take-le from cells (omega (arith, within)), length-take-le i news (omega (arith, lt)), place_is) in
    let offset : (slice_index_or has.now.spans (length xs) no_span).from ≡ at =
    ap (λ (n : ℕ). (slice_index_or has.now.spans n no_span).from) xs_size ∙ ap (λ (spans : List Span). (slice_index_or spans place no_span).from) has.spans_stay ∙ cell.offset in
    let next = page_with (code_of node) out start (right_of node) (some_of from i news cells) has.now xs old new ys at cells_are long offset fits in
    let one_less : from + (i + 1) ≡ place + 1 = omega (arith, place_is) in
    let more : take (i + 1) news ≡ take i news ++ (new ∷ []) = take_more news i [] lt ∙ ap (λ (x : List ℕ). take i news ++ (x ∷ [])) (sym new_is) in
    let cells_now : some_of from (i + 1) news cells ≡ xs ++ (new ∷ ys) =
    ap (λ (n : ℕ). take from cells ++ (take (i + 1) news ++ drop n cells)) one_less ∙ ap (λ (l : List (List ℕ)). take from cells ++ (l ++ ys)) more
    ∙ ap (λ (l : List (List ℕ)). take from cells ++ l) (append_assoc (take i news) (new ∷ []) ys) ∙ sym (append_assoc (take from cells) (take i news) (new ∷ ys)) in
    let done : HasCells page start node is (xs ++ (new ∷ ys)) (written_over at new out) = record {
      now = next.now;
      spans_stay = next.spans_stay ∙ has.spans_stay;
      long = next.long ∙ has.long;
      front_same = next.front_same ∙ has.front_same;
    } in
    subst (λ (bytes : List ℕ). HasCells page start node is (some_of from (i + 1) news cells) bytes) (sym written_is)
    (subst (λ (cs : List (List ℕ)). HasCells page start node is cs (written_over at new out)) (sym cells_now) done)

-- the page says what its cells say, when all stand in their places
pub all_placed : (page out : List ℕ) (start : ℕ) (old new : Node) (is : IsNode page start old) (from i count : ℕ) (news : List (List ℕ)) → HasCells page start old is (some_of from i news is.cells) out → i ≡ length news → count ≡ length news
    → code_of new ≡ code_of old → right_of new ≡ right_of old → Say (length page) (spliced from count news is.cells) new → IsPlaced page start (spliced from count news is.cells) new out
all_placed page out start old new is from i count news has all count_is same last say =
    let cells = spliced from count news is.cells in
    let whole : some_of from i news is.cells ≡ cells =
    ap (λ (l : List (List ℕ)). take from is.cells ++ (l ++ drop (from + i) is.cells)) (take_all i news (omega (arith, all))) ∙ ap (λ (n : ℕ). take from is.cells ++ (news ++ drop (from + n) is.cells)) (all ∙ sym count_is) in
    let of_old : IsTreePage (code_of old) out start (right_of old) cells = subst (λ (cs : List (List ℕ)). IsTreePage (code_of old) out start (right_of old) cs) whole has.now in
    let of_new : IsTreePage (code_of new) out start (right_of new) cells =
    subst (λ (right : List ℕ). IsTreePage (code_of new) out start right cells) (sym last) (subst (λ (kind : ℕ). IsTreePage kind out start (right_of old) cells) (sym same) of_old) in
    record {
      is = record { cells = cells; page_is = of_new; say = subst (λ (usable : ℕ). Say usable cells new) (sym has.long) say };
      cells_are = refl;
      long = has.long;
      front = has.front_same;
    }
