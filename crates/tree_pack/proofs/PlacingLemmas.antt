-- A page with one cell more.
use Rattle.std.proofs.Common.{◌≡◌, inl, inr, ◌≤◌, ◌<◌, ◌+◌, ◌-◌, ◌*◌, ◌/◌, ◌%◌, ◌^◌, ℕ, zero, suc, List, [], ◌∷◌, ◌++◌, length, take, drop, min, slice_index_or, refl, sym, ap, subst, ◌∙◌, append_assoc, arith}
use Rattle.std.specs.Int.{w16, to_be_bytes}
use Rattle.std.specs.List.{AllByRecursion, flat_map, insert}
use Rattle.std.proofs.Math.Seq.{take-append-add}
use Rattle.std.proofs.lemmas.Grind.{flat_map-append}
use Rattle.std.proofs.lemmas.List.{take_at, take_all, drop_at, take-append-drop, drop-append-le, length-append, length-drop, length-take-le}
use Rattle.std.proofs.lemmas.List.Edits.{length-insert}
use Rattle.std.proofs.lemmas.Nat.{from_be_bytes-to_be_bytes_2}
use Rattle.tree_page.specs.Bytes.{two_bytes}
use Rattle.tree_page.specs.Cells.{Span, pointer, Pairwise, IsAt, IsApart, AreApart, page_header, front, IsTreePage}
use Rattle.tree_page.specs.Node.{Node, Rows, Keys, Entries, Between, code_of, right_of, Say, IsNode}
use Rattle.tree_page.specs.Reading.{Place, type_of, count_of}
use Rattle.tree_page.specs.declared.items.Kind.{Kind}
use Rattle.tree_page.specs.declared.items.Kind.TheVariants.{TableLeaf, TableInterior, IndexLeaf, IndexInterior}
use Rattle.tree_page.proofs.HeaderLemmas.{length-pointers, same_length, length-header}
use Rattle.tree_page.proofs.NodeLemmas.{node_count}
use Rattle.tree_pack.specs.Placing.{IsPlaced, least_in, right_width, placed_of}
use Rattle.tree_pack.specs.Replacing.{written_over}

-- ---- the first of the cells

-- the least isn't above the number to begin with
least_below : (most : ℕ) (bytes : List ℕ) → least_in most bytes ≤ most
least_below most [] = omega arith
least_below most (high ∷ []) = omega arith
least_below most (high ∷ low ∷ bytes) = omega (arith, least_below (min most (two_bytes high low)) bytes)

-- one pointer more was read
pub least_next : (most least whole : ℕ) (left : List ℕ) → 2 ≤ length left → least ≡ min most (slice_index_or left 0 0 * 256 + slice_index_or left 1 0) → least_in most left ≡ whole
    → (least_in least (take (length left - 2) (drop 2 left)) ≡ whole) × (least ≤ most)
least_next most least whole [] two e so_far = absurd (omega arith)
least_next most least whole (high ∷ []) two e so_far = absurd (omega arith)
least_next most least whole (high ∷ low ∷ left) two e so_far =
    let rest : length (high ∷ low ∷ left) - 2 ≡ length left = omega arith in
    let number : high * 256 + low ≡ two_bytes high low = omega arith in
    let least_is : least ≡ min most (two_bytes high low) = e ∙ ap (min most) number in (
      ap (λ (n : ℕ). least_in least (take n left)) rest ∙ ap (least_in least) (take_all (length left) left (omega arith)) ∙ ap (λ (n : ℕ). least_in n left) least_is ∙ so_far,
      omega (arith, e),
    )

-- of one pointer at least, the least is told by the first and the others
least_or : (most first : ℕ) (bytes : List ℕ) → least_in (min most first) bytes ≡ min most (least_in first bytes)
least_or most first [] = refl
least_or most first (high ∷ []) = refl
least_or most first (high ∷ low ∷ bytes) =
    let number = two_bytes high low in
    let other : min (min most first) number ≡ min most (min first number) = omega arith in
    ap (λ (n : ℕ). least_in n bytes) other ∙ least_or most (min first number) bytes

pub least_some : (most first least : ℕ) (bytes : List ℕ) → 2 ≤ length bytes → first ≡ slice_index_or bytes 0 0 * 256 + slice_index_or bytes 1 0 → least ≡ least_in first (take (length bytes - 2) (drop 2 bytes)) → min most least ≡ least_in most bytes
least_some most first least [] two e least_is = absurd (omega arith)
least_some most first least (high ∷ []) two e least_is = absurd (omega arith)
least_some most first least (high ∷ low ∷ bytes) two e least_is =
    let rest : length (high ∷ low ∷ bytes) - 2 ≡ length bytes = omega arith in
    let number : first ≡ two_bytes high low = e ∙ number_is high low in
    let others : take (length (high ∷ low ∷ bytes) - 2) bytes ≡ bytes = ap (λ (n : ℕ). take n bytes) rest ∙ take_all (length bytes) bytes (omega arith) in
    ap (min most) (least_is ∙ ap (least_in first) others ∙ ap (λ (n : ℕ). least_in n bytes) number) ∙ sym (least_or most (two_bytes high low) bytes)
  where
    number_is : (high low : ℕ) → high * 256 + low ≡ two_bytes high low
    number_is high low = omega arith

-- each cell begins at or after the least of the pointers
pub all_behind : (page : List ℕ) (least most : ℕ) (spans : List Span) (cells : List (List ℕ)) → least ≡ least_in most (flat_map pointer spans) → Pairwise (IsAt page) spans cells
    → AllByRecursion (λ span. least ≤ span.from) spans
all_behind page least most [] cells e are = tt
all_behind page least most (span ∷ spans) [] e are = absurd are
all_behind page least most (span ∷ spans) (cell ∷ cells) e are =
    let number : two_bytes (span.from / 256 % 256) (span.from % 256) ≡ span.from = from_be_bytes-to_be_bytes_2 span.from are.0.near in
    let next : least ≡ least_in (min most span.from) (flat_map pointer spans) = e ∙ ap (λ (n : ℕ). least_in (min most n) (flat_map pointer spans)) number in
    (omega (arith, next, least_below (min most span.from) (flat_map pointer spans)), all_behind page least (min most span.from) spans cells next are.1)

-- ---- where the cells stand

-- the new page has the bytes of the old one from this offset on, and its length
pub record EndsSo (low : ℕ) (old new : List ℕ) : Type 0 where
  pub same : drop low new ≡ drop low old
  pub long : length new ≡ length old
  pub within : low ≤ length old

-- a cell from there on stands in both
pub cell_stays : (low : ℕ) (old new : List ℕ) (span : Span) (cell : List ℕ) → EndsSo low old new → low ≤ span.from → IsAt old span cell → IsAt new span cell
cell_stays low old new span cell is le at =
    let far : low ≤ length at.before = omega (arith, le, at.from_is) in
    let tail : drop low old ≡ drop low at.before ++ (cell ++ at.after) = ap (drop low) at.parts ∙ drop-append-le low at.before (cell ++ at.after) far in
    let long : length (take low new ++ drop low at.before) ≡ length at.before =
    omega (arith, length-append (take low new) (drop low at.before), length-take-le low new (omega (arith, is.within, is.long)), length-drop low at.before, far) in
    record {
      before = take low new ++ drop low at.before;
      after = at.after;
      parts = sym (take-append-drop low new) ∙ ap (λ (l : List ℕ). take low new ++ l) (is.same ∙ tail) ∙ sym (append_assoc (take low new) (drop low at.before) (cell ++ at.after));
      from_is = at.from_is ∙ sym long;
      to_is = at.to_is ∙ ap (λ (n : ℕ). n + length cell) (sym long);
      near = at.near;
    }

pub cells_stay : (low : ℕ) (old new : List ℕ) (spans : List Span) (cells : List (List ℕ)) → EndsSo low old new → AllByRecursion (λ span. low ≤ span.from) spans → Pairwise (IsAt old) spans cells → Pairwise (IsAt new) spans cells
cells_stay low old new [] [] is behind are = tt
cells_stay low old new [] (cell ∷ cells) is behind are = absurd are
cells_stay low old new (span ∷ spans) [] is behind are = absurd are
cells_stay low old new (span ∷ spans) (cell ∷ cells) is behind are = (cell_stays low old new span cell is behind.0 are.0, cells_stay low old new spans cells is behind.1 are.1)

-- one pair more
pub pairs_insert : {A B : Type 0} (P : A → B → Type 0) (xs : List A) (ys : List B) (place : ℕ) (x : A) (y : B) → P x y → Pairwise P xs ys → Pairwise P (insert xs place x) (insert ys place y)
pairs_insert P [] [] zero x y is are = (is, tt)
pairs_insert P [] [] (suc place) x y is are = (is, tt)
pairs_insert P [] (b ∷ ys) place x y is are = absurd are
pairs_insert P (a ∷ xs) [] place x y is are = absurd are
pairs_insert P (a ∷ xs) (b ∷ ys) zero x y is are = (is, are)
pairs_insert P (a ∷ xs) (b ∷ ys) (suc place) x y is are = (are.0, pairs_insert P xs ys place x y is are.1)

-- ---- the cells share no byte

-- they are apart from others too, if each is apart from one that makes up for them
pub apart_more : (before others spans : List Span) (one : Span) → ((P : Span → Type 0) → AllByRecursion P before → P one → AllByRecursion P others) → AllByRecursion (λ span. IsApart span one) spans
    → AreApart before spans → AreApart others spans
apart_more before others [] one more clear apart = tt
apart_more before others (span ∷ spans) one more clear apart = (
  more (IsApart span) apart.0 clear.0,
  apart_more (span ∷ before) (span ∷ others) spans one (λ P all is. (all.0, more P all.1 is)) clear.1 apart.1,
)

-- one span more among them
pub apart_insert : (before spans : List Span) (place : ℕ) (one : Span) → AllByRecursion (IsApart one) before → AllByRecursion (IsApart one) spans → AllByRecursion (λ span. IsApart span one) spans → AreApart before spans
    → AreApart before (insert spans place one)
apart_insert before [] zero one first mine theirs apart = (first, tt)
apart_insert before [] (suc place) one first mine theirs apart = (first, tt)
apart_insert before (span ∷ spans) zero one first mine theirs apart = (first, apart_more before (one ∷ before) (span ∷ spans) one (λ P all is. (is, all)) theirs apart)
apart_insert before (span ∷ spans) (suc place) one first mine theirs apart = (apart.0, apart_insert (span ∷ before) spans place one (mine.0, first) mine.1 theirs.1 apart.1)

-- what ends before all of them is apart from each
ends_before : (one : Span) (low : ℕ) (spans : List Span) → one.to ≤ low → AllByRecursion (λ span. low ≤ span.from) spans → AllByRecursion (IsApart one) spans
ends_before one low [] le behind = tt
ends_before one low (span ∷ spans) le behind = (inl (omega (arith, le, behind.0)), ends_before one low spans le behind.1)

pub begin_after : (one : Span) (low : ℕ) (spans : List Span) → one.to ≤ low → AllByRecursion (λ span. low ≤ span.from) spans → AllByRecursion (λ span. IsApart span one) spans
begin_after one low [] le behind = tt
begin_after one low (span ∷ spans) le behind = (inr (omega (arith, le, behind.0)), begin_after one low spans le behind.1)

all_apart : (was now spans : List Span) (old new one : Span) (low place : ℕ) → was ≡ old ∷ [] → now ≡ new ∷ [] → new.to ≤ one.from → one.from ≤ one.to → one.to ≤ low → AllByRecursion (λ span. low ≤ span.from) spans → AreApart was spans
    → AreApart now (insert spans place one)
all_apart was now spans old new one low place w n below proper le behind apart =
    let kept : AreApart (new ∷ []) spans =
    apart_more (old ∷ []) (new ∷ []) spans new (λ P all is. (is, tt)) (begin_after new low spans (omega (arith, below, proper, le)) behind) (subst (λ (b : List Span). AreApart b spans) w apart) in
    subst (λ (b : List Span). AreApart b (insert spans place one)) (sym n) (apart_insert (new ∷ []) spans place one (inr below, tt) (ends_before one low spans le behind) (begin_after one low spans le behind) kept)

-- ---- the bytes of the page

-- lists in other groups: up to a page's pointers, up to the place among them, and the new page
pub up_to_pointers : (before header right pointers rest : List ℕ) → before ++ (header ++ (right ++ (pointers ++ rest))) ≡ (before ++ (header ++ right)) ++ (pointers ++ rest)
up_to_pointers before header right pointers rest = simp append_assoc

up_to_place : (before kind freeblock count content fragments right firsts lasts : List ℕ) → before ++ ((kind ++ (freeblock ++ (count ++ (content ++ fragments)))) ++ (right ++ (firsts ++ lasts)))
    ≡ (before ++ (kind ++ freeblock)) ++ ((count ++ content) ++ ((fragments ++ (right ++ firsts)) ++ lasts))
up_to_place before kind freeblock count content fragments right firsts lasts = simp append_assoc

as_written : (before kind freeblock count mine fragments right firsts lasts gap ends : List ℕ) → (before ++ (kind ++ freeblock)) ++ (count ++ (mine ++ ((fragments ++ (right ++ firsts)) ++ (mine ++ ((lasts ++ gap) ++ ends)))))
    ≡ before ++ ((kind ++ (freeblock ++ (count ++ (mine ++ fragments)))) ++ (right ++ ((firsts ++ (mine ++ lasts)) ++ (gap ++ ends))))
as_written before kind freeblock count mine fragments right firsts lasts gap ends = simp append_assoc

up_to_cell : (a count mine inner gap ends : List ℕ) → a ++ (count ++ (mine ++ (inner ++ (mine ++ (gap ++ ends))))) ≡ (a ++ (count ++ (mine ++ (inner ++ (mine ++ gap))))) ++ ends
up_to_cell a count mine inner gap ends = simp append_assoc

-- the page's parts, before and after the place
pub record Halves (kind : ℕ) (page : List ℕ) (start : ℕ) (right : List ℕ) (cells : List (List ℕ)) (is : IsTreePage kind page start right cells) (place : ℕ) : Type 0 where
  pub firsts : List ℕ
  pub lasts : List ℕ
  pub firsts_are : firsts ≡ flat_map pointer (take place is.spans)
  pub lasts_are : lasts ≡ flat_map pointer (drop place is.spans)
  pub first_size : length firsts ≡ 2 * place
  pub last_size : length lasts + 2 * place ≡ 2 * length cells
  pub parts : page ≡ is.before ++ (page_header kind is.freeblock (length cells) is.content is.fragments ++ (right ++ (firsts ++ (lasts ++ is.rest))))

pub halves : (kind : ℕ) (page : List ℕ) (start : ℕ) (right : List ℕ) (cells : List (List ℕ)) (is : IsTreePage kind page start right cells) (place : ℕ) → place ≤ length cells → Halves kind page start right cells is place
halves kind page start right cells is place le =
    let header = page_header kind is.freeblock (length cells) is.content is.fragments in
    let firsts = flat_map pointer (take place is.spans) in
    let lasts = flat_map pointer (drop place is.spans) in
    let count = same_length (IsAt page) is.spans cells is.cells_are in
    let both : flat_map pointer is.spans ≡ firsts ++ lasts = ap (flat_map pointer) (sym (take-append-drop place is.spans)) ∙ flat_map-append pointer (take place is.spans) (drop place is.spans) in
    record {
      firsts = firsts;
      lasts = lasts;
      firsts_are = refl;
      lasts_are = refl;
      first_size = omega (arith, length-pointers (take place is.spans), length-take-le place is.spans (omega (arith, le, count)));
      last_size = omega (arith, length-pointers (drop place is.spans), length-drop place is.spans, le, count);
      parts = is.parts ∙ ap (λ (x : List ℕ). is.before ++ (header ++ (right ++ (x ++ is.rest)))) both ∙ ap (λ (x : List ℕ). is.before ++ (header ++ (right ++ x))) (append_assoc firsts lasts is.rest);
    }

-- the new page's parts
record NewParts (kind : ℕ) (page : List ℕ) (start : ℕ) (right : List ℕ) (cells : List (List ℕ)) (is : IsTreePage kind page start right cells) (place at : ℕ) (cell tail new : List ℕ) : Type 0 where
  pub gap : List ℕ
  pub base : List ℕ
  pub base_size : length base ≡ at
  pub ends : new ≡ base ++ (cell ++ tail)
  pub parts : new ≡ is.before
      ++ (page_header kind is.freeblock (length (insert cells place cell)) (to_be_bytes w16 at) is.fragments ++ (right ++ (flat_map pointer (insert is.spans place (record { from = at; to = at + length cell })) ++ (gap ++ (cell ++ tail)))))

-- the old page's parts: up to the count, from the fragments up to the place, and from there on
record Pieces (kind : ℕ) (page : List ℕ) (start : ℕ) (right : List ℕ) (cells : List (List ℕ)) (is : IsTreePage kind page start right cells) (place middle : ℕ) (h : Halves kind page start right cells is place) : Type 0 where
  pub size_a : length (is.before ++ (kind ∷ is.freeblock)) ≡ start + 3
  pub size_b : length ((is.before ++ (kind ∷ is.freeblock)) ++ (to_be_bytes w16 (length cells) ++ is.content)) ≡ start + 7
  pub size_inner : length (is.fragments ∷ (right ++ h.firsts)) ≡ middle - (start + 7)
  pub size_c : length (((is.before ++ (kind ∷ is.freeblock)) ++ (to_be_bytes w16 (length cells) ++ is.content)) ++ (is.fragments ∷ (right ++ h.firsts))) ≡ middle
  pub page_a : page ≡ (is.before ++ (kind ∷ is.freeblock)) ++ ((to_be_bytes w16 (length cells) ++ is.content) ++ ((is.fragments ∷ (right ++ h.firsts)) ++ (h.lasts ++ is.rest)))
  pub page_b : page ≡ ((is.before ++ (kind ∷ is.freeblock)) ++ (to_be_bytes w16 (length cells) ++ is.content)) ++ ((is.fragments ∷ (right ++ h.firsts)) ++ (h.lasts ++ is.rest))
  pub page_c : page ≡ (((is.before ++ (kind ∷ is.freeblock)) ++ (to_be_bytes w16 (length cells) ++ is.content)) ++ (is.fragments ∷ (right ++ h.firsts))) ++ (h.lasts ++ is.rest)
  pub long : length page ≡ middle + (length h.lasts + length is.rest)

pieces : (kind : ℕ) (page : List ℕ) (start : ℕ) (right : List ℕ) (cells : List (List ℕ)) (is : IsTreePage kind page start right cells) (place middle : ℕ) (h : Halves kind page start right cells is place) → middle ≡ start + 8 + length right + 2 * place → Pieces kind page start right cells is place middle h
pieces kind page start right cells is place middle h middle_is =
    let first_size = h.first_size in
    let old_count = to_be_bytes w16 (length cells) in
    let a = is.before ++ (kind ∷ is.freeblock) in
    let b = a ++ (old_count ++ is.content) in
    let inner = is.fragments ∷ (right ++ h.firsts) in
    let outer = h.lasts ++ is.rest in
    let c = b ++ inner in
    let size_a : length a ≡ start + 3 = omega (arith, length-append is.before (kind ∷ is.freeblock), is.freeblock_is, is.start_is) in
    let size_b : length b ≡ start + 7 = omega (arith, size_a, length-append a (old_count ++ is.content), length-append old_count is.content, is.content_is) in
    let size_inner : length inner ≡ middle - (start + 7) = omega (arith, length-append right h.firsts, first_size, middle_is) in
    let size_c : length c ≡ middle = omega (arith, size_b, length-append b inner, size_inner, middle_is) in
    let page_a : page ≡ a ++ ((old_count ++ is.content) ++ (inner ++ outer)) = h.parts ∙ up_to_place is.before (kind ∷ []) is.freeblock old_count is.content (is.fragments ∷ []) right h.firsts outer in
    let page_b : page ≡ b ++ (inner ++ outer) = page_a ∙ sym (append_assoc a (old_count ++ is.content) (inner ++ outer)) in
    let page_c : page ≡ c ++ outer = page_b ∙ sym (append_assoc b inner outer) in
    record {
      size_a = size_a;
      size_b = size_b;
      size_inner = size_inner;
      size_c = size_c;
      page_a = page_a;
      page_b = page_b;
      page_c = page_c;
      long = omega (arith, ap length page_c, length-append c outer, length-append h.lasts is.rest, size_c);
    }

-- a page with these parts has those of the new page
parts_with : (kind : ℕ) (page : List ℕ) (start : ℕ) (right : List ℕ) (cells : List (List ℕ)) (is : IsTreePage kind page start right cells) (middle at place : ℕ) (cell tail gap new : List ℕ) (h : Halves kind page start right cells is place) → Pieces kind page start right cells is place middle h → place ≤ length cells → middle ≡ start + 8 + length right + 2 * place
    → length gap + (start + 8 + length right + 2 * length cells + 2) ≡ at
    → new ≡ (is.before ++ (kind ∷ is.freeblock)) ++ (to_be_bytes w16 (length cells + 1) ++ (to_be_bytes w16 at ++ ((is.fragments ∷ (right ++ h.firsts)) ++ (to_be_bytes w16 at ++ ((h.lasts ++ gap) ++ (cell ++ tail))))))
    → NewParts kind page start right cells is place at cell tail new
parts_with kind page start right cells is middle at place cell tail gap new h old le middle_is size_gap whole =
    let span : Span = record { from = at; to = at + length cell } in
    let last_size = h.last_size in
    let size_a = old.size_a in
    let size_inner = old.size_inner in
    let new_count = to_be_bytes w16 (length cells + 1) in
    let mine = to_be_bytes w16 at in
    let a = is.before ++ (kind ∷ is.freeblock) in
    let inner = is.fragments ∷ (right ++ h.firsts) in
    let base = a ++ (new_count ++ (mine ++ (inner ++ (mine ++ (h.lasts ++ gap))))) in
    let base_size : length base ≡ at =
    omega (
      arith,
      size_a,
      size_inner,
      size_gap,
      length-append a (new_count ++ (mine ++ (inner ++ (mine ++ (h.lasts ++ gap))))),
      length-append inner (mine ++ (h.lasts ++ gap)),
      length-append h.lasts gap,
      last_size,
      middle_is,
    ) in
    let pointers : flat_map pointer (insert is.spans place span) ≡ h.firsts ++ (mine ++ h.lasts) =
    flat_map-append pointer (take place is.spans) (span ∷ drop place is.spans) ∙ ap (λ (x : List ℕ). x ++ (mine ++ flat_map pointer (drop place is.spans))) (sym h.firsts_are) ∙ ap (λ (x : List ℕ). h.firsts ++ (mine ++ x)) (sym h.lasts_are) in
    let count : length (insert cells place cell) ≡ length cells + 1 = length-insert cells place cell le in
    let header : ℕ → List ℕ = λ n. page_header kind is.freeblock n mine is.fragments in
    let flat : a ++ (new_count ++ (mine ++ (inner ++ (mine ++ ((h.lasts ++ gap) ++ (cell ++ tail)))))) ≡ is.before ++ (header (length cells + 1) ++ (right ++ ((h.firsts ++ (mine ++ h.lasts)) ++ (gap ++ (cell ++ tail))))) =
    as_written is.before (kind ∷ []) is.freeblock new_count mine (is.fragments ∷ []) right h.firsts h.lasts gap (cell ++ tail) in
    record {
      gap = gap;
      base = base;
      base_size = base_size;
      ends = whole ∙ up_to_cell a new_count mine inner (h.lasts ++ gap) (cell ++ tail);
      parts = whole ∙ flat ∙ ap (λ (n : ℕ). is.before ++ (header n ++ (right ++ ((h.firsts ++ (mine ++ h.lasts)) ++ (gap ++ (cell ++ tail)))))) (sym count)
          ∙ ap (λ (x : List ℕ). is.before ++ (header (length (insert cells place cell)) ++ (right ++ (x ++ (gap ++ (cell ++ tail)))))) (sym pointers);
    }

new_parts : (kind : ℕ) (page : List ℕ) (start : ℕ) (right : List ℕ) (cells : List (List ℕ)) (is : IsTreePage kind page start right cells) (middle low place : ℕ) (cell : List ℕ) → place ≤ length cells → middle ≡ start + 8 + length right + 2 * place
    → start + 8 + length right + 2 * length cells + 2 + length cell ≤ low → low ≤ length page
    → NewParts kind page start right cells is place (low - length cell) cell (drop low page) (placed_of page start middle (length cells + 1) low cell)
new_parts kind page start right cells is middle low place cell le middle_is room within =
    let at = low - length cell in
    let tail = drop low page in
    let h = halves kind page start right cells is place le in
    let old = pieces kind page start right cells is place middle h middle_is in
    let last_size = h.last_size in
    let long = old.long in
    let new_count = to_be_bytes w16 (length cells + 1) in
    let mine = to_be_bytes w16 at in
    let a = is.before ++ (kind ∷ is.freeblock) in
    let b = a ++ (to_be_bytes w16 (length cells) ++ is.content) in
    let inner = is.fragments ∷ (right ++ h.firsts) in
    let outer = h.lasts ++ is.rest in
    let c = b ++ inner in
    let gap = take (at - (start + 8 + length right + 2 * length cells + 2)) is.rest in
    let one : take (start + 3) page ≡ a = ap (take (start + 3)) old.page_a ∙ take_at a _ (start + 3) old.size_a in
    let two : take (middle - (start + 7)) (drop (start + 7) page) ≡ inner =
    ap (take (middle - (start + 7))) (ap (drop (start + 7)) old.page_b ∙ drop_at b (inner ++ outer) (start + 7) old.size_b) ∙ take_at inner outer (middle - (start + 7)) old.size_inner in
    let reach : at - 2 - middle ≡ length h.lasts + (at - (start + 8 + length right + 2 * length cells + 2)) = omega (arith, middle_is, last_size, room) in
    let three : take (at - 2 - middle) (drop middle page) ≡ h.lasts ++ gap =
    ap (take (at - 2 - middle)) (ap (drop middle) old.page_c ∙ drop_at c outer middle old.size_c) ∙ ap (λ (n : ℕ). take n outer) reach ∙ take-append-add h.lasts is.rest (at - (start + 8 + length right + 2 * length cells + 2)) in
    let size_gap : length gap ≡ at - (start + 8 + length right + 2 * length cells + 2) =
    length-take-le (at - (start + 8 + length right + 2 * length cells + 2)) is.rest (omega (arith, long, within, room, middle_is, last_size)) in
    let whole : placed_of page start middle (length cells + 1) low cell ≡ a ++ (new_count ++ (mine ++ (inner ++ (mine ++ ((h.lasts ++ gap) ++ (cell ++ tail)))))) =
    ap (λ (x : List ℕ). x ++ (new_count ++ (mine ++ (take (middle - (start + 7)) (drop (start + 7) page) ++ (mine ++ (take (at - 2 - middle) (drop middle page) ++ (cell ++ tail))))))) one
    ∙ ap (λ (x : List ℕ). a ++ (new_count ++ (mine ++ (x ++ (mine ++ (take (at - 2 - middle) (drop middle page) ++ (cell ++ tail))))))) two
    ∙ ap (λ (x : List ℕ). a ++ (new_count ++ (mine ++ (inner ++ (mine ++ (x ++ (cell ++ tail))))))) three in
    parts_with kind page start right cells is middle at place cell tail gap (placed_of page start middle (length cells + 1) low cell) h old le middle_is (omega (arith, size_gap, room)) whole

-- ---- the bytes that are written over

-- bytes over as many others
pub over : (page before bytes old after : List ℕ) (at : ℕ) → page ≡ before ++ (old ++ after) → length before ≡ at → length old ≡ length bytes → written_over at bytes page ≡ before ++ (bytes ++ after)
over page before bytes old after at e size same =
    let grouped : page ≡ (before ++ old) ++ after = e ∙ sym (append_assoc before old after) in
    let end : length (before ++ old) ≡ at + length bytes = omega (arith, length-append before old, size, same) in
    let first : take at page ≡ before = ap (take at) e ∙ take_at before (old ++ after) at size in
    let last : drop (at + length bytes) page ≡ after = ap (drop (at + length bytes)) grouped ∙ drop_at (before ++ old) after (at + length bytes) end in
    ap (λ (x : List ℕ). x ++ (bytes ++ drop (at + length bytes) page)) first ∙ ap (λ (x : List ℕ). before ++ (bytes ++ x)) last

-- the new page has the cells of the old one, and this one
page_placed : (kind : ℕ) (page : List ℕ) (start : ℕ) (right : List ℕ) (cells : List (List ℕ)) (is : IsTreePage kind page start right cells) (place low : ℕ) (cell new : List ℕ)
    → NewParts kind page start right cells is place (low - length cell) cell (drop low page) new → place ≤ length cells → start + 8 + length right + 2 * length cells + 2 + length cell ≤ low → low ≤ length page → low ≤ 2 ^ 16 → 0 < length cell
    → length cells + 1 < 2 ^ 16 → AllByRecursion (λ span. low ≤ span.from) is.spans → IsTreePage kind new start right (insert cells place cell) × (length new ≡ length page) × (take start new ≡ take start page)
page_placed kind page start right cells is place low cell new n le room within near some few behind =
    let at = low - length cell in
    let span : Span = record { from = at; to = at + length cell } in
    let tail = drop low page in
    let count : length (insert cells place cell) ≡ length cells + 1 = length-insert cells place cell le in
    let grouped : new ≡ (n.base ++ cell) ++ tail = n.ends ∙ sym (append_assoc n.base cell tail) in
    let up : length (n.base ++ cell) ≡ low = omega (arith, length-append n.base cell, n.base_size, room) in
    let long : length new ≡ length page = omega (arith, ap length grouped, length-append (n.base ++ cell) tail, up, length-drop low page, within) in
    let ends : EndsSo low page new = record { same = ap (drop low) grouped ∙ drop_at (n.base ++ cell) tail low up; long = long; within = within } in
    let there : IsAt new span cell = record {
      before = n.base;
      after = tail;
      parts = n.ends;
      from_is = sym n.base_size;
      to_is = ap (λ (m : ℕ). m + length cell) (sym n.base_size);
      near = omega (arith, near, some);
    } in (
      record {
        before = is.before;
        freeblock = is.freeblock;
        content = to_be_bytes w16 at;
        fragments = is.fragments;
        spans = insert is.spans place span;
        rest = n.gap ++ (cell ++ tail);
        parts = n.parts;
        start_is = is.start_is;
        freeblock_is = is.freeblock_is;
        content_is = refl;
        few = omega (arith, count, few);
        cells_are = pairs_insert (IsAt new) is.spans cells place span cell there (cells_stay low page new is.spans cells ends behind is.cells_are);
        apart = all_apart (front start (length right) (length cells) ∷ []) (front start (length right) (length (insert cells place cell)) ∷ []) is.spans (front start (length right) (length cells))
            (front start (length right) (length (insert cells place cell))) span low place refl refl (omega (arith, count, room)) (omega arith) (omega (arith, room)) behind is.apart;
      },
      long,
      ap (take start) n.parts ∙ take_at is.before _ start is.start_is ∙ sym (ap (take start) is.parts ∙ take_at is.before _ start is.start_is),
    )

-- ---- the page

-- a page with the new one's parts says what the cells say
says : (page : List ℕ) (start : ℕ) (old new : Node) (is : IsNode page start old) (low place : ℕ) (cell written : List ℕ) → NewParts (code_of old) page start (right_of old) is.cells is.page_is place (low - length cell) cell (drop low page) written → place ≤ length is.cells
    → start + 8 + length (right_of old) + 2 * length is.cells + 2 + length cell ≤ low → low ≤ length page → low ≤ 2 ^ 16 → 0 < length cell → length is.cells + 1 < 2 ^ 16
    → AllByRecursion (λ span. low ≤ span.from) is.page_is.spans → code_of new ≡ code_of old → right_of new ≡ right_of old → Say (length page) (insert is.cells place cell) new
    → IsPlaced page start (insert is.cells place cell) new written
says page start old new is low place cell written n le room within near some few behind same last say =
    let cells = insert is.cells place cell in
    let placed = page_placed (code_of old) page start (right_of old) is.cells is.page_is place low cell written n le room within near some few behind in
    let of_new : IsTreePage (code_of new) written start (right_of new) cells =
    subst (λ (right : List ℕ). IsTreePage (code_of new) written start right cells) (sym last) (subst (λ (kind : ℕ). IsTreePage kind written start (right_of old) cells) (sym same) placed.0) in
    record {
      is = record { cells = cells; page_is = of_new; say = subst (λ (usable : ℕ). Say usable cells new) (sym placed.1) say };
      cells_are = refl;
      long = placed.1;
      front = placed.2;
    }

-- the new page says what the cells say
pub is_placed : (page : List ℕ) (start : ℕ) (old new : Node) (is : IsNode page start old) (middle low place count : ℕ) (cell written : List ℕ) → place ≤ length is.cells → middle ≡ start + 8 + length (right_of old) + 2 * place
    → count ≡ length is.cells + 1 → start + 8 + length (right_of old) + 2 * length is.cells + 2 + length cell ≤ low → low ≤ length page → low ≤ 2 ^ 16 → 0 < length cell → length is.cells + 1 < 2 ^ 16
    → AllByRecursion (λ span. low ≤ span.from) is.page_is.spans → code_of new ≡ code_of old → right_of new ≡ right_of old → Say (length page) (insert is.cells place cell) new → written ≡ placed_of page start middle count low cell
    → IsPlaced page start (insert is.cells place cell) new written
is_placed page start old new is middle low place count cell written le middle_is count_is room within near some few behind same last say e =
    let n = new_parts (code_of old) page start (right_of old) is.cells is.page_is middle low place cell le middle_is room within in
    let whole : written ≡ placed_of page start middle (length is.cells + 1) low cell = e ∙ ap (λ (m : ℕ). placed_of page start middle m low cell) count_is in
    subst (IsPlaced page start (insert is.cells place cell) new) (sym whole)
    (says page start old new is low place cell (placed_of page start middle (length is.cells + 1) low cell) n le room within near some few behind same last say)

-- ---- the room

-- the bytes between where the pointers begin and where they end are the pointers
pub pointers_between : (page : List ℕ) (start : ℕ) (old : Node) (is : IsNode page start old) (first end : ℕ) → first ≡ start + 8 + length (right_of old) → end ≡ first + 2 * length is.cells → take (end - first) (drop first page) ≡ flat_map pointer is.page_is.spans
pointers_between page start old is first end first_is end_is =
    let p = is.page_is in
    let header = page_header (code_of old) p.freeblock (length is.cells) p.content p.fragments in
    let front = p.before ++ (header ++ right_of old) in
    let pointers = flat_map pointer p.spans in
    let eight = length-header (code_of old) (length is.cells) p.fragments p.freeblock p.content p.freeblock_is p.content_is in
    let size : length front ≡ first = omega (arith, length-append p.before (header ++ right_of old), length-append header (right_of old), eight, p.start_is, first_is) in
    let count : length pointers ≡ end - first = omega (arith, length-pointers p.spans, same_length (IsAt page) p.spans is.cells p.cells_are, end_is) in
    let grouped : page ≡ front ++ (pointers ++ p.rest) = p.parts ∙ up_to_pointers p.before header (right_of old) pointers p.rest in
    ap (take (end - first)) (ap (drop first) grouped ∙ drop_at front (pointers ++ p.rest) first size) ∙ take_at pointers p.rest (end - first) count

-- the least of the pointers that are read isn't after any cell
pub lies_behind : (page : List ℕ) (start : ℕ) (old : Node) (is : IsNode page start old) (first end least : ℕ) → first ≡ start + 8 + length (right_of old) → end ≡ first + 2 * length is.cells
    → least ≡ least_in (length page) (take (end - first) (drop first page)) → AllByRecursion (λ span. least ≤ span.from) is.page_is.spans
lies_behind page start old is first end least first_is end_is e =
    let p = is.page_is in
    all_behind page least (length page) p.spans is.cells (e ∙ ap (least_in (length page)) (pointers_between page start old is first end first_is end_is)) p.cells_are

-- a page has as many cells as are counted
pub count_on : (at : Place) (page : List ℕ) (start count : ℕ) (old : Node) (is : IsNode page start old) → at ≡ record { bytes = page; start = start } → ((node : Node) → IsNode at.bytes at.start node → count ≡ count_of node)
    → count ≡ length is.cells
count_on at page start count old is place counts = (rw place at counts) old is ∙ sym (node_count page start old is)

-- the last child's number is as wide as the kind says
width_is : (kind : Kind) (node : Node) → type_of kind ≡ code_of node → right_width kind ≡ length (right_of node)
width_is TableLeaf (Rows rows) e = refl
width_is TableInterior (Keys kids last) e = refl
width_is IndexLeaf (Entries entries) e = refl
width_is IndexInterior (Between kids last) e = refl
width_is kind node e = absurd (omega (arith, e))

pub width_on : (at : Place) (page : List ℕ) (start : ℕ) (kind : Kind) (old : Node) → IsNode page start old → at ≡ record { bytes = page; start = start } → ((node : Node) → IsNode at.bytes at.start node → type_of kind ≡ code_of node)
    → right_width kind ≡ length (right_of old)
width_on at page start kind old is place types = width_is kind old ((rw place at types) old is)
