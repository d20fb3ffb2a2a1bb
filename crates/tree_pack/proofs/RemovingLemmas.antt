-- Pages with one cell less.
use Rattle.std.proofs.Common.{◌≡◌, ◌⊎◌, inl, inr, ◌≤◌, ◌<◌, ◌+◌, ◌-◌, ◌*◌, ◌^◌, ℕ, zero, suc, List, [], ◌∷◌, ◌++◌, length, take, drop, slice_index_or, refl, sym, ap, subst, ◌∙◌, append_assoc, arith}
use Rattle.std.specs.Int.{w16, to_be_bytes}
use Rattle.std.specs.List.{AllByRecursion, flat_map, insert}
use Rattle.std.proofs.lemmas.Grind.{flat_map-append}
use Rattle.std.proofs.lemmas.List.{take_at, take-take, take-append-le, drop_at, drop_all, drop_more, drop-take, drop-append-le, length-append, length-drop, length-take-le}
use Rattle.tree_page.specs.Cells.{Span, pointer, Pairwise, IsAt, IsApart, AreApart, page_header, front, IsTreePage}
use Rattle.tree_page.specs.Node.{Node, Rows, Keys, Entries, Between, IsRowCell, IsKeyCell, IsEntryCell, IsBetweenCell, code_of, right_of, Say, IsNode}
use Rattle.tree_page.proofs.HeaderLemmas.{length-pointers, same_length, length-header}
use Rattle.std.specs.Global.{Vec}
use Rattle.std.specs.Prelude.{Option, Some, None, Result, Ok, Err, IfOk, IfSome}
use Rattle.sqlval.specs.declared.fault.Fault.{Fault}
use Rattle.tree_pack.specs.Placing.{IsPlaced, Places}
use Rattle.tree_pack.specs.Replacing.{written_over, no_span, IsCellAt, IsPlaceOn}
use Rattle.tree_pack.specs.Freeing.{AreClear, IsFreed, IsHeadOn, IsOwn, with_head}
use Rattle.tree_pack.specs.Removing.{without_pointer}
use Rattle.tree_pack.specs.Splicing.{spliced, IsUsual}
use Rattle.tree_pack.specs.declared.freeing.Free.{Free}
use Rattle.tree_pack.specs.declared.freeing.Freed.{Freed}
use Rattle.tree_pack.specs.declared.freeing.FreeblockHead.{FreeblockHead}
use Rattle.tree_pack.specs.declared.replacing.CellPlace.{CellPlace}
use Rattle.tree_pack.proofs.PlacingLemmas.{halves, EndsSo, cell_stays}
use Rattle.tree_pack.proofs.ReplacingLemmas.{IsClear, clear_stays, Others, Beside, Replaced, later_apart, clear_at, pairs_stay, front_stays, regroup}
use Rattle.tree_pack.proofs.Splices.{pairwise_spliced}

-- ---- lists with one item less

-- the items without that at a place
abbrev pub without : {A : Type 0} → ℕ → List A → List A
without place items = spliced place 1 [] items

nothing : {A : Type 0} (n : ℕ) → without {A = A} n [] ≡ []
nothing zero = refl
nothing (suc n) = drop_all (suc n + 1) [] (omega arith)

next : {A : Type 0} (n : ℕ) (x : A) (xs : List A) → without (suc n) (x ∷ xs) ≡ x ∷ without n xs
next n x xs =
    let plain : suc n + 1 ≡ suc (n + 1) = omega arith in
    ap (λ (m : ℕ). take (suc n) (x ∷ xs) ++ drop m (x ∷ xs)) plain

others_all : (n : ℕ) (C : Span → Type 0) (spans : List Span) → Others n C spans → AllByRecursion C (without n spans)
others_all n C [] others = subst (λ (xs : List Span). AllByRecursion C xs) (sym (nothing n)) tt
others_all zero C (span ∷ spans) others = others
others_all (suc n) C (span ∷ spans) others = subst (λ (xs : List Span). AllByRecursion C xs) (sym (next n span spans)) (others.0, others_all n C spans others.1)

all_without : (n : ℕ) (C : Span → Type 0) (spans : List Span) → AllByRecursion C spans → AllByRecursion C (without n spans)
all_without n C [] all = subst (λ (xs : List Span). AllByRecursion C xs) (sym (nothing n)) tt
all_without zero C (span ∷ spans) all = all.1
all_without (suc n) C (span ∷ spans) all = subst (λ (xs : List Span). AllByRecursion C xs) (sym (next n span spans)) (all.0, all_without n C spans all.1)

-- they are apart from fewer others too
fewer : (before others spans : List Span) → ((P : Span → Type 0) → AllByRecursion P before → AllByRecursion P others) → AreApart before spans → AreApart others spans
fewer before others [] less apart = tt
fewer before others (span ∷ spans) less apart = (less (IsApart span) apart.0, fewer (span ∷ before) (span ∷ others) spans (λ P all. (all.0, less P all.1)) apart.1)

apart_without : (before spans : List Span) (n : ℕ) → AreApart before spans → AreApart before (without n spans)
apart_without before [] n apart = subst (λ (xs : List Span). AreApart before xs) (sym (nothing n)) tt
apart_without before (span ∷ spans) zero apart = fewer (span ∷ before) before spans (λ P all. all.1) apart.1
apart_without before (span ∷ spans) (suc n) apart = subst (λ (xs : List Span). AreApart before xs) (sym (next n span spans)) (apart.0, apart_without (span ∷ before) spans n apart.1)

-- apart from a longer front they are apart from a shorter one
shorter_front : (old new : Span) (spans : List Span) → old.from ≡ 0 → new.from ≡ 0 → new.to ≤ old.to → (more : List Span) → AreApart (more ++ (old ∷ [])) spans → AreApart (more ++ (new ∷ [])) spans
shorter_front old new [] old_from new_from le more apart = tt
shorter_front old new (span ∷ spans) old_from new_from le more apart = (by more apart.0, shorter_front old new spans old_from new_from le (span ∷ more) apart.1)
  where
    one : IsApart span old → IsApart span new
    one (inl before) = inl (omega (arith, before, old_from, new_from))
    one (inr behind) = inr (omega (arith, behind, le))

    by : (more : List Span) → AllByRecursion (IsApart span) (more ++ (old ∷ [])) → AllByRecursion (IsApart span) (more ++ (new ∷ []))
    by [] all = (one all.0, tt)
    by (x ∷ more) all = (all.0, by more all.1)

length_without : {A : Type 0} (n : ℕ) (items : List A) → n < length items → length (without n items) + 1 ≡ length items
length_without n items lt = omega (arith, length-append (take n items) (drop (n + 1) items), length-take-le n items (omega (arith, lt)), length-drop (n + 1) items, lt)

-- ---- the bytes of the page

-- a span stands behind the front, or has no bytes and stands at the page's beginning
abbrev IsBehind : ℕ → Span → Type 0
IsBehind last span = (span.to ≤ 0) ⊎ (last ≤ span.from)

behind_front : (last : ℕ) (f span : Span) → f.from ≡ 0 → f.to ≡ last → Beside f span → IsBehind last span
behind_front last f span from_is to_is (inl (inl le)) = inl (omega (arith, le, from_is))
behind_front last f span from_is to_is (inl (inr le)) = inr (omega (arith, le, to_is))
behind_front last f span from_is to_is (inr (inl le)) = inr (omega (arith, le, to_is))
behind_front last f span from_is to_is (inr (inr le)) = inl (omega (arith, le, from_is))

no_cell_stays : (old new : List ℕ) (span : Span) (cell : List ℕ) → span.to ≤ 0 → IsAt old span cell → IsAt new span cell
no_cell_stays old new span [] le is = record {
  before = [];
  after = new;
  parts = refl;
  from_is = omega (arith, le, is.to_is, is.from_is);
  to_is = omega (arith, le);
  near = is.near;
}
no_cell_stays old new span (byte ∷ cell) le is = absurd (omega (arith, le, is.to_is))

behind_stays : (last : ℕ) (old new : List ℕ) → EndsSo last old new → (span : Span) (cell : List ℕ) → IsBehind last span → IsAt old span cell → IsAt new span cell
behind_stays last old new ends span cell (inl none) is = no_cell_stays old new span cell none is
behind_stays last old new ends span cell (inr le) is = cell_stays last old new span cell ends le is

pub up_to_kind : (before kind freeblock count content fragments rest : List ℕ) → before ++ ((kind ++ (freeblock ++ (count ++ (content ++ fragments)))) ++ rest) ≡ (before ++ kind) ++ ((freeblock ++ (count ++ (content ++ fragments))) ++ rest)
up_to_kind before kind freeblock count content fragments rest = simp append_assoc

up_to_right : (before header right firsts lasts : List ℕ) → before ++ (header ++ (right ++ (firsts ++ lasts))) ≡ (before ++ header) ++ ((right ++ firsts) ++ lasts)
up_to_right before header right firsts lasts = simp append_assoc

up_to_last : (before header right firsts mine lasts rest : List ℕ) → before ++ (header ++ (right ++ (firsts ++ ((mine ++ lasts) ++ rest)))) ≡ (before ++ (header ++ (right ++ (firsts ++ mine)))) ++ (lasts ++ rest)
up_to_last before header right firsts mine lasts rest = simp append_assoc

up_to_rest : (before header right firsts mine lasts rest : List ℕ) → before ++ (header ++ (right ++ (firsts ++ ((mine ++ lasts) ++ rest)))) ≡ (before ++ (header ++ (right ++ (firsts ++ (mine ++ lasts))))) ++ rest
up_to_rest before header right firsts mine lasts rest = simp append_assoc

as_left : (before kind first count content fragments right firsts lasts ends : List ℕ) → (before ++ kind) ++ (first ++ (count ++ (content ++ (fragments ++ ((right ++ firsts) ++ (lasts ++ ends))))))
    ≡ before ++ ((kind ++ (first ++ (count ++ (content ++ fragments)))) ++ (right ++ ((firsts ++ lasts) ++ ends)))
as_left before kind first count content fragments right firsts lasts ends = simp append_assoc

-- the page without a pointer, by its parts
record LessParts (kind : ℕ) (page : List ℕ) (start : ℕ) (right : List ℕ) (cells : List (List ℕ)) (is : IsTreePage kind page start right cells) (place : ℕ) (free : Free) (new : List ℕ) : Type 0 where
  pub parts : new ≡ is.before
      ++ (page_header kind (to_be_bytes w16 free.first) (length (without place cells)) (to_be_bytes w16 free.content) free.fragments ++ (right ++ (flat_map pointer (without place is.spans) ++ (0 ∷ 0 ∷ is.rest))))
  pub ends : EndsSo (start + 8 + length right + 2 * length cells) page new

less_parts : (kind : ℕ) (page : List ℕ) (start : ℕ) (right : List ℕ) (cells : List (List ℕ)) (is : IsTreePage kind page start right cells) (pointer_at last place count : ℕ) (free : Free) → place < length cells → pointer_at ≡ start + 8 + length right + 2 * place
    → last ≡ start + 8 + length right + 2 * length cells → count + 1 ≡ length cells → LessParts kind page start right cells is place free (without_pointer page start pointer_at last count free)
less_parts kind page start right cells is pointer_at last place count free lt pointer_is last_is count_is =
    let h = halves kind page start right cells is place (omega (arith, lt)) in
    let spans = is.spans in
    let spans_size : length spans ≡ length cells = same_length (IsAt page) spans cells is.cells_are in
    let header = page_header kind is.freeblock (length cells) is.content is.fragments in
    let eight = length-header kind (length cells) is.fragments is.freeblock is.content is.freeblock_is is.content_is in
    let mine = pointer (slice_index_or spans place no_span) in
    let lasts = flat_map pointer (drop (place + 1) spans) in
    let both : h.lasts ≡ mine ++ lasts = h.lasts_are ∙ ap (flat_map pointer) (drop_more spans place no_span (omega (arith, lt, spans_size))) in
    let last_size = h.last_size in
    let first_size = h.first_size in
    let mine_size : length mine ≡ 2 = refl in
    let both_size : length h.lasts ≡ 2 + length lasts = ap length both ∙ length-append mine lasts in
    let whole : page ≡ is.before ++ (header ++ (right ++ (h.firsts ++ ((mine ++ lasts) ++ is.rest)))) = h.parts ∙ ap (λ (x : List ℕ). is.before ++ (header ++ (right ++ (h.firsts ++ (x ++ is.rest))))) both in
    let a = is.before ++ (kind ∷ []) in
    let size_a : length a ≡ start + 1 = omega (arith, length-append is.before (kind ∷ []), is.start_is) in
    let tail_a = (is.freeblock ++ (to_be_bytes w16 (length cells) ++ (is.content ++ (is.fragments ∷ [])))) ++ (right ++ (h.firsts ++ ((mine ++ lasts) ++ is.rest))) in
    let page_a : page ≡ a ++ tail_a = whole ∙ up_to_kind is.before (kind ∷ []) is.freeblock (to_be_bytes w16 (length cells)) is.content (is.fragments ∷ []) (right ++ (h.firsts ++ ((mine ++ lasts) ++ is.rest))) in
    let one : take (start + 1) page ≡ a = ap (take (start + 1)) page_a ∙ take_at a tail_a (start + 1) size_a in
    let b = is.before ++ header in
    let size_b : length b ≡ start + 8 = omega (arith, length-append is.before header, eight, is.start_is) in
    let inner = right ++ h.firsts in
    let page_b : page ≡ b ++ (inner ++ ((mine ++ lasts) ++ is.rest)) = whole ∙ up_to_right is.before header right h.firsts ((mine ++ lasts) ++ is.rest) in
    let inner_size : length inner ≡ pointer_at - (start + 8) = omega (arith, length-append right h.firsts, first_size, pointer_is) in
    let two : take (pointer_at - (start + 8)) (drop (start + 8) page) ≡ inner =
    ap (take (pointer_at - (start + 8))) (ap (drop (start + 8)) page_b ∙ drop_at b (inner ++ ((mine ++ lasts) ++ is.rest)) (start + 8) size_b) ∙ take_at inner ((mine ++ lasts) ++ is.rest) (pointer_at - (start + 8)) inner_size in
    let c = is.before ++ (header ++ (right ++ (h.firsts ++ mine))) in
    let size_c : length c ≡ pointer_at + 2 =
    omega (arith, length-append is.before (header ++ (right ++ (h.firsts ++ mine))), length-append header (right ++ (h.firsts ++ mine)), length-append right (h.firsts ++ mine), length-append h.firsts mine, eight, is.start_is, first_size, pointer_is, mine_size) in
    let page_c : page ≡ c ++ (lasts ++ is.rest) = whole ∙ up_to_last is.before header right h.firsts mine lasts is.rest in
    let lasts_size : length lasts ≡ last - (pointer_at + 2) = omega (arith, both_size, last_size, last_is, pointer_is, lt) in
    let three : take (last - (pointer_at + 2)) (drop (pointer_at + 2) page) ≡ lasts =
    ap (take (last - (pointer_at + 2))) (ap (drop (pointer_at + 2)) page_c ∙ drop_at c (lasts ++ is.rest) (pointer_at + 2) size_c) ∙ take_at lasts is.rest (last - (pointer_at + 2)) lasts_size in
    let d = is.before ++ (header ++ (right ++ (h.firsts ++ (mine ++ lasts)))) in
    let size_d : length d ≡ last =
    omega (
      arith,
      length-append is.before (header ++ (right ++ (h.firsts ++ (mine ++ lasts)))),
      length-append header (right ++ (h.firsts ++ (mine ++ lasts))),
      length-append right (h.firsts ++ (mine ++ lasts)),
      length-append h.firsts (mine ++ lasts),
      length-append mine lasts,
      eight,
      is.start_is,
      first_size,
      both_size,
      last_size,
      last_is,
      mine_size,
    ) in
    let page_d : page ≡ d ++ is.rest = whole ∙ up_to_rest is.before header right h.firsts mine lasts is.rest in
    let four : drop last page ≡ is.rest = ap (drop last) page_d ∙ drop_at d is.rest last size_d in
    let first = to_be_bytes w16 free.first in
    let counted = to_be_bytes w16 count in
    let content = to_be_bytes w16 free.content in
    let ends = 0 ∷ 0 ∷ is.rest in
    let new = without_pointer page start pointer_at last count free in
    let written : new ≡ a ++ (first ++ (counted ++ (content ++ (free.fragments ∷ (inner ++ (lasts ++ ends)))))) =
    ap (λ (x : List ℕ). x ++ (first ++ (counted ++ (content ++ (free.fragments ∷ (take (pointer_at - (start + 8)) (drop (start + 8) page) ++ (take (last - (pointer_at + 2)) (drop (pointer_at + 2) page) ++ (0 ∷ 0 ∷ drop last page)))))))) one
    ∙ ap (λ (x : List ℕ). a ++ (first ++ (counted ++ (content ++ (free.fragments ∷ (x ++ (take (last - (pointer_at + 2)) (drop (pointer_at + 2) page) ++ (0 ∷ 0 ∷ drop last page)))))))) two
    ∙ ap (λ (x : List ℕ). a ++ (first ++ (counted ++ (content ++ (free.fragments ∷ (inner ++ (x ++ (0 ∷ 0 ∷ drop last page)))))))) three
    ∙ ap (λ (x : List ℕ). a ++ (first ++ (counted ++ (content ++ (free.fragments ∷ (inner ++ (lasts ++ (0 ∷ 0 ∷ x)))))))) four in
    let less : count ≡ length (without place cells) = omega (arith, count_is, length_without place cells lt) in
    let pointers : flat_map pointer (without place spans) ≡ h.firsts ++ lasts = flat_map-append pointer (take place spans) (drop (place + 1) spans) ∙ ap (λ (x : List ℕ). x ++ lasts) (sym h.firsts_are) in
    let head : ℕ → List ℕ = λ n. page_header kind first n content free.fragments in
    let flat : new ≡ is.before ++ (head count ++ (right ++ ((h.firsts ++ lasts) ++ ends))) = written ∙ as_left is.before (kind ∷ []) first counted content (free.fragments ∷ []) right h.firsts lasts ends in
    let base = a ++ (first ++ (counted ++ (content ++ (free.fragments ∷ (inner ++ (lasts ++ (0 ∷ 0 ∷ []))))))) in
    let base_size : length base ≡ last =
    omega (
      arith,
      length-append a (first ++ (counted ++ (content ++ (free.fragments ∷ (inner ++ (lasts ++ (0 ∷ 0 ∷ []))))))),
      size_a,
      length-append inner (lasts ++ (0 ∷ 0 ∷ [])),
      length-append lasts (0 ∷ 0 ∷ []),
      inner_size,
      lasts_size,
      last_is,
      pointer_is,
      lt,
    ) in
    let based : new ≡ base ++ is.rest = written ∙ grouped a first counted content (free.fragments ∷ []) inner lasts (0 ∷ 0 ∷ []) is.rest in
    record {
      parts = flat ∙ ap (λ (n : ℕ). is.before ++ (head n ++ (right ++ ((h.firsts ++ lasts) ++ ends)))) less
          ∙ ap (λ (x : List ℕ). is.before ++ (head (length (without place cells)) ++ (right ++ (x ++ ends)))) (sym pointers);
      ends = subst (λ (n : ℕ). EndsSo n page new) last_is (record {
        same = ap (drop last) based ∙ drop_at base is.rest last base_size ∙ sym four;
        long = omega (arith, ap length based, length-append base is.rest, base_size, ap length page_d, length-append d is.rest, size_d);
        within = omega (arith, ap length page_d, length-append d is.rest, size_d);
      });
    }
  where
    grouped : (a first counted content fragments inner lasts none rest : List ℕ) → a ++ (first ++ (counted ++ (content ++ (fragments ++ (inner ++ (lasts ++ (none ++ rest)))))))
        ≡ (a ++ (first ++ (counted ++ (content ++ (fragments ++ (inner ++ (lasts ++ none))))))) ++ rest
    grouped a first counted content fragments inner lasts none rest = simp append_assoc

-- ---- the page

-- a page with the cells of another but one, which lie where they lay
pub record Less (kind : ℕ) (page : List ℕ) (start : ℕ) (right : List ℕ) (cells : List (List ℕ)) (is : IsTreePage kind page start right cells) (place : ℕ) (new : List ℕ) : Type 0 where
  pub now : IsTreePage kind new start right (without place cells)
  pub spans_are : now.spans ≡ without place is.spans
  pub long : length new ≡ length page
  pub front_same : take start new ≡ take start page

pub page_without : (kind : ℕ) (page : List ℕ) (start : ℕ) (right : List ℕ) (cells : List (List ℕ)) (is : IsTreePage kind page start right cells) (pointer_at last place count : ℕ) (free : Free) → place < length cells → pointer_at ≡ start + 8 + length right + 2 * place
    → last ≡ start + 8 + length right + 2 * length cells → count + 1 ≡ length cells → Less kind page start right cells is place (without_pointer page start pointer_at last count free)
page_without kind page start right cells is pointer_at last place count free lt pointer_is last_is count_is =
    let new = without_pointer page start pointer_at last count free in
    let p = less_parts kind page start right cells is pointer_at last place count free lt pointer_is last_is count_is in
    let old_front = front start (length right) (length cells) in
    let new_front = front start (length right) (length (without place cells)) in
    let fewer_cells : length (without place cells) + 1 ≡ length cells = length_without place cells lt in
    let besides : AllByRecursion (Beside old_front) is.spans = later_apart [] [] is.spans old_front is.apart in
    let behinds : AllByRecursion (IsBehind old_front.to) is.spans = all_map is.spans besides in
    record {
      now = record {
        before = is.before;
        freeblock = to_be_bytes w16 free.first;
        content = to_be_bytes w16 free.content;
        fragments = free.fragments;
        spans = without place is.spans;
        rest = 0 ∷ 0 ∷ is.rest;
        parts = p.parts;
        start_is = is.start_is;
        freeblock_is = refl;
        content_is = refl;
        few = omega (arith, is.few, fewer_cells);
        cells_are = pairs_stay (IsAt page) (IsAt new) (IsBehind old_front.to) (without place is.spans) (without place cells) (behind_stays old_front.to page new p.ends) (all_without place (IsBehind old_front.to) is.spans behinds)
            (pairwise_spliced (IsAt page) place 1 is.spans [] cells [] is.cells_are tt);
        apart = shorter_front old_front new_front (without place is.spans) refl refl (omega (arith, fewer_cells)) [] (apart_without (old_front ∷ []) is.spans place is.apart);
      };
      spans_are = refl;
      long = (p.ends).long;
      front_same = ap (take start) p.parts ∙ take_at is.before _ start is.start_is ∙ sym (ap (take start) is.parts ∙ take_at is.before _ start is.start_is);
    }
  where
    all_map : (spans : List Span) → AllByRecursion (Beside (front start (length right) (length cells))) spans → AllByRecursion (IsBehind (start + 8 + length right + 2 * length cells)) spans
    all_map [] all = tt
    all_map (span ∷ spans) all = (behind_front (start + 8 + length right + 2 * length cells) (front start (length right) (length cells)) span refl refl all.0, all_map spans all.1)

-- what is written behind the front, over bytes of no cell, leaves the page's cells
pub page_cleared : (kind : ℕ) (page : List ℕ) (start : ℕ) (right : List ℕ) (cells : List (List ℕ)) (is : IsTreePage kind page start right cells) (at : ℕ) (bytes : List ℕ) → at + length bytes ≤ length page → start + 8 + length right + 2 * length cells ≤ at
    → AllByRecursion (IsClear at (length bytes)) is.spans → Replaced kind page start right cells is cells (written_over at bytes page)
page_cleared kind page start right cells is at bytes within after clear =
    let spans = is.spans in
    let count : length spans ≡ length cells = same_length (IsAt page) spans cells is.cells_are in
    let header = page_header kind is.freeblock (length cells) is.content is.fragments in
    let pointers = flat_map pointer spans in
    let fronts = is.before ++ (header ++ (right ++ pointers)) in
    let eight = length-header kind (length cells) is.fragments is.freeblock is.content is.freeblock_is is.content_is in
    let front_size : length fronts ≡ start + 8 + length right + 2 * length cells =
    omega (arith, length-append is.before (header ++ (right ++ pointers)), length-append header (right ++ pointers), length-append right pointers, eight, is.start_is, length-pointers spans, count) in
    let whole : page ≡ fronts ++ is.rest = is.parts ∙ sym (regroup is.before header right pointers is.rest) in
    let behind = front_stays page fronts is.rest bytes at whole within (inr (omega (arith, front_size, after))) in
    let parts = behind.parts ∙ regroup is.before header right pointers behind.rest in
    record {
      now = record {
        before = is.before;
        freeblock = is.freeblock;
        content = is.content;
        fragments = is.fragments;
        spans = spans;
        rest = behind.rest;
        parts = parts;
        start_is = is.start_is;
        freeblock_is = is.freeblock_is;
        content_is = is.content_is;
        few = is.few;
        cells_are = pairs_stay (IsAt page) (IsAt (written_over at bytes page)) (IsClear at (length bytes)) spans cells (clear_stays page bytes at within) clear is.cells_are;
        apart = is.apart;
      };
      spans_stay = refl;
      long = behind.long;
      front_same = ap (take start) parts ∙ take_at is.before _ start is.start_is ∙ sym (ap (take start) is.parts ∙ take_at is.before _ start is.start_is);
    }

-- so does a page with one cell less
less_cleared : (kind : ℕ) (page : List ℕ) (start : ℕ) (right : List ℕ) (cells : List (List ℕ)) (is : IsTreePage kind page start right cells) (place : ℕ) (mid : List ℕ) → Less kind page start right cells is place mid → (at : ℕ) (bytes : List ℕ)
    → at + length bytes ≤ length page → start + 8 + length right + 2 * length cells ≤ at → place < length cells → AllByRecursion (IsClear at (length bytes)) (without place is.spans) → Less kind page start right cells is place (written_over at bytes mid)
less_cleared kind page start right cells is place mid less at bytes within after lt clear =
    let long = less.long in
    let fewer_cells = length_without place cells lt in
    let kept = page_cleared kind mid start right (without place cells) less.now at bytes (omega (arith, long, within)) (omega (arith, after, fewer_cells)) (subst (λ (spans : List Span). AllByRecursion (IsClear at (length bytes)) spans) (sym less.spans_are) clear) in
    record { now = kept.now; spans_are = kept.spans_stay ∙ less.spans_are; long = kept.long ∙ less.long; front_same = kept.front_same ∙ less.front_same }

-- the first bytes of a freeblock can be written there, over bytes of no cell
record IsHeadClear (page : List ℕ) (end place : ℕ) (spans : List Span) (head : FreeblockHead) : Type 0 where
  pub within : head.at + length head.bytes ≤ length page
  pub after : end ≤ head.at
  pub clear : AllByRecursion (IsClear head.at (length head.bytes)) (without place spans)

less_head : (kind : ℕ) (page : List ℕ) (start : ℕ) (right : List ℕ) (cells : List (List ℕ)) (is : IsTreePage kind page start right cells) (place : ℕ) (mid : List ℕ) → Less kind page start right cells is place mid → place < length cells → (head : Option FreeblockHead)
    → IfSome head (IsHeadClear page (start + 8 + length right + 2 * length cells) place is.spans) → Less kind page start right cells is place (with_head head mid)
less_head kind page start right cells is place mid less lt None none = less
less_head kind page start right cells is place mid less lt (Some head) can = less_cleared kind page start right cells is place mid less head.at head.bytes can.within can.after lt can.clear

-- ---- the node

-- the page says what its cells say
pub says_so : (page written : List ℕ) (start : ℕ) (old new : Node) (cells : List (List ℕ)) → IsTreePage (code_of old) written start (right_of old) cells → length written ≡ length page → take start written ≡ take start page → code_of new ≡ code_of old
    → right_of new ≡ right_of old → Say (length page) cells new → IsPlaced page start cells new written
says_so page written start old new cells of_old long front_same same last say =
    let of_new : IsTreePage (code_of new) written start (right_of new) cells =
    subst (λ (right : List ℕ). IsTreePage (code_of new) written start right cells) (sym last) (subst (λ (kind : ℕ). IsTreePage kind written start (right_of old) cells) (sym same) of_old) in
    record {
      is = record { cells = cells; page_is = of_new; say = subst (λ (usable : ℕ). Say usable cells new) (sym long) say };
      cells_are = refl;
      long = long;
      front = front_same;
    }

less_of : (page : List ℕ) (start : ℕ) (old : Node) (is : IsNode page start old) (place : ℕ) (found : CellPlace) (count : ℕ) (free : Free) → IsCellAt page start old is place found → count + 1 ≡ found.count
    → Less (code_of old) page start (right_of old) is.cells is.page_is place (without_pointer page start found.pointer found.last count free)
less_of page start old is place found count free cell count_is =
    page_without (code_of old) page start (right_of old) is.cells is.page_is found.pointer found.last place count free cell.there cell.pointer_is cell.last_is (count_is ∙ cell.count_is)

-- the page without a pointer says what the other cells say
pub is_removed : (page : List ℕ) (start : ℕ) (old new : Node) (is : IsNode page start old) (place : ℕ) (found : CellPlace) (count : ℕ) (free : Free) (written : List ℕ) → IsCellAt page start old is place found → count + 1 ≡ found.count
    → written ≡ without_pointer page start found.pointer found.last count free → code_of new ≡ code_of old → right_of new ≡ right_of old → Say (length page) (without place is.cells) new → IsPlaced page start (without place is.cells) new written
is_removed page start old new is place found count free written cell count_is written_is same last say =
    let less = less_of page start old is place found count free cell count_is in
    subst (λ (bytes : List ℕ). IsPlaced page start (without place is.cells) new bytes) (sym written_is)
    (says_so page (without_pointer page start found.pointer found.last count free) start old new (without place is.cells) less.now less.long less.front_same same last say)

pub pair_there : (P : Span → List ℕ → Type 0) (spans : List Span) (cells : List (List ℕ)) (n : ℕ) → n < length cells → Pairwise P spans cells → P (slice_index_or spans n no_span) (slice_index_or cells n [])
pair_there P [] [] n lt all = absurd (omega (arith, lt))
pair_there P [] (cell ∷ cells) n lt all = absurd all
pair_there P (span ∷ spans) [] n lt all = absurd all
pair_there P (span ∷ spans) (cell ∷ cells) zero lt all = all.0
pair_there P (span ∷ spans) (cell ∷ cells) (suc n) lt all = pair_there P spans cells n (omega (arith, lt)) all.1

within_clear : (at size : ℕ) (one span : Span) → one.from ≡ at → at + size ≤ one.to → Beside one span → IsClear at size span
within_clear at size one span from_is le (inl (inl before)) = inl (omega (arith, before, from_is))
within_clear at size one span from_is le (inl (inr after)) = inr (omega (arith, after, le))
within_clear at size one span from_is le (inr (inl after)) = inr (omega (arith, after, le))
within_clear at size one span from_is le (inr (inr before)) = inl (omega (arith, before, from_is))

others_clear : (at size : ℕ) (one : Span) → one.from ≡ at → at + size ≤ one.to → (n : ℕ) (spans : List Span) → Others n (Beside one) spans → Others n (IsClear at size) spans
others_clear at size one from_is le n [] others = others
others_clear at size one from_is le zero (span ∷ spans) others = by (span ∷ spans) spans others
  where
    by : (all spans : List Span) → AllByRecursion (Beside one) spans → AllByRecursion (IsClear at size) spans
    by all [] beside = tt
    by all (span ∷ spans) beside = (within_clear at size one span from_is le beside.0, by all spans beside.1)
others_clear at size one from_is le (suc n) (span ∷ spans) others = (within_clear at size one span from_is le others.0, others_clear at size one from_is le n spans others.1)

-- the cell's own bytes are no other cell's
own_clear : (page : List ℕ) (start : ℕ) (old : Node) (is : IsNode page start old) (place : ℕ) (found : CellPlace) → IsCellAt page start old is place found → found.end ≤ length page → (head : FreeblockHead) → IsOwn found head
    → IsHeadClear page (start + 8 + length (right_of old) + 2 * length is.cells) place (is.page_is).spans head
own_clear page start old is place found cell within head own =
    let p = is.page_is in
    let one = slice_index_or p.spans place no_span in
    let there = cell.there in
    let at : IsAt page one (slice_index_or is.cells place []) = pair_there (IsAt page) p.spans is.cells place there p.cells_are in
    let at_is = own.at_is in
    let four = own.four in
    let room = own.room in
    let from_is : one.from ≡ head.at = cell.offset ∙ sym at_is in
    let to_is : one.to ≡ found.end = omega (arith, at.to_is, at.from_is, cell.offset, cell.long) in
    let spans_size : length p.spans ≡ length is.cells = same_length (IsAt page) p.spans is.cells p.cells_are in
    let old_front = front start (length (right_of old)) (length is.cells) in
    let clear = clear_at (old_front ∷ []) p.spans place (omega (arith, there, spans_size)) p.apart in
    let le : head.at + length head.bytes ≤ one.to = omega (arith, four, room, to_is, at_is) in
    record {
      within = omega (arith, le, to_is, within);
      after = behind_of one old_front from_is le four clear.first.0 refl refl;
      clear = others_all place (IsClear head.at (length head.bytes)) p.spans (others_clear head.at (length head.bytes) one from_is le place p.spans clear.others);
    }
  where
    behind_of : (one f : Span) → one.from ≡ head.at → head.at + length head.bytes ≤ one.to → length head.bytes ≡ 4 → IsApart one f → f.from ≡ 0 → f.to ≡ start + 8 + length (right_of old) + 2 * length is.cells → start + 8 + length (right_of old) + 2 * length is.cells ≤ head.at
    behind_of one f from_is le four (inl before) zero_is end_is = absurd (omega (arith, before, zero_is, le, four))
    behind_of one f from_is le four (inr behind) zero_is end_is = omega (arith, behind, from_is, end_is)

-- and so it does where bytes of the cell that went are written over
pub is_cleared : (page : List ℕ) (start : ℕ) (old new : Node) (is : IsNode page start old) (place : ℕ) (found : CellPlace) (count : ℕ) (free : Free) (mid : List ℕ) (head : FreeblockHead) (written : List ℕ) → IsCellAt page start old is place found → count + 1 ≡ found.count
    → mid ≡ without_pointer page start found.pointer found.last count free → IsOwn found head → found.end ≤ length page → written ≡ written_over head.at head.bytes mid → code_of new ≡ code_of old → right_of new ≡ right_of old
    → Say (length page) (without place is.cells) new → IsPlaced page start (without place is.cells) new written
is_cleared page start old new is place found count free mid head written cell count_is mid_is own within written_is same last say =
    let less = subst (λ (m : List ℕ). Less (code_of old) page start (right_of old) is.cells is.page_is place m) (sym mid_is) (less_of page start old is place found count free cell count_is) in
    let now = less_head (code_of old) page start (right_of old) is.cells is.page_is place mid less cell.there (Some head) (own_clear page start old is place found cell within head own) in
    subst (λ (b : List ℕ). IsPlaced page start (without place is.cells) new b) (sym written_is)
    (says_so page (written_over head.at head.bytes mid) start old new (without place is.cells) now.now now.long now.front_same same last say)

-- ---- the bytes that are written over

-- the header's bytes but the first
abbrev pub header_with : ℕ → Free → List ℕ
header_with count free = to_be_bytes w16 free.first ++ (to_be_bytes w16 count ++ (to_be_bytes w16 free.content ++ (free.fragments ∷ [])))

-- the page with the pointers after one of them one place before, and with a header
abbrev pub over_twice : List ℕ → ℕ → ℕ → ℕ → List ℕ → List ℕ
over_twice page start pointer_at last header = written_over (start + 1) header (written_over pointer_at (take (last - (pointer_at + 2)) (drop (pointer_at + 2) page) ++ (0 ∷ 0 ∷ [])) page)

-- that is the page without the pointer
over_is : (page : List ℕ) (start pointer_at last count : ℕ) (free : Free) → start + 8 ≤ pointer_at → pointer_at + 2 ≤ last → last ≤ length page
    → over_twice page start pointer_at last (header_with count free) ≡ without_pointer page start pointer_at last count free
over_is page start pointer_at last count free behind before within =
    let lasts = take (last - (pointer_at + 2)) (drop (pointer_at + 2) page) in
    let none : List ℕ = 0 ∷ 0 ∷ [] in
    let ends = drop last page in
    let header = header_with count free in
    let fronts = take pointer_at page in
    let inner = take (pointer_at - (start + 8)) (drop (start + 8) page) in
    let left : length (drop (pointer_at + 2) page) ≡ length page - (pointer_at + 2) = length-drop (pointer_at + 2) page in
    let fronts_size : length fronts ≡ pointer_at = length-take-le pointer_at page (omega (arith, before, within)) in
    let lasts_size : length lasts ≡ last - (pointer_at + 2) = length-take-le (last - (pointer_at + 2)) (drop (pointer_at + 2) page) (omega (arith, left, within)) in
    let end : pointer_at + length (lasts ++ none) ≡ last = omega (arith, length-append lasts none, lasts_size, before) in
    let mid = written_over pointer_at (lasts ++ none) page in
    let later = (lasts ++ none) ++ ends in
    let mid_is : mid ≡ fronts ++ later = ap (λ (n : ℕ). fronts ++ ((lasts ++ none) ++ drop n page)) end in
    let one : take (start + 1) mid ≡ take (start + 1) page =
    ap (take (start + 1)) mid_is ∙ take-append-le (start + 1) fronts later (omega (arith, fronts_size, behind)) ∙ take-take (start + 1) pointer_at page (omega (arith, behind)) in
    let seven : start + 1 + length header ≡ start + 8 = omega arith in
    let span : start + 8 + (pointer_at - (start + 8)) ≡ pointer_at = omega (arith, behind) in
    let fronts_are : drop (start + 8) fronts ≡ inner = ap (λ (n : ℕ). drop (start + 8) (take n page)) (sym span) ∙ drop-take (start + 8) (pointer_at - (start + 8)) page in
    let two : drop (start + 1 + length header) mid ≡ inner ++ later =
    ap (λ (n : ℕ). drop n mid) seven ∙ ap (drop (start + 8)) mid_is ∙ drop-append-le (start + 8) fronts later (omega (arith, fronts_size, behind)) ∙ ap (λ (x : List ℕ). x ++ later) fronts_are in
    ap (λ (x : List ℕ). x ++ (header ++ drop (start + 1 + length header) mid)) one ∙ ap (λ (x : List ℕ). take (start + 1) page ++ (header ++ x)) two
    ∙ flat (take (start + 1) page) (to_be_bytes w16 free.first) (to_be_bytes w16 count) (to_be_bytes w16 free.content) (free.fragments ∷ []) inner lasts none ends
  where
    flat : (a first counted content fragments inner lasts none ends : List ℕ) → a ++ ((first ++ (counted ++ (content ++ fragments))) ++ (inner ++ ((lasts ++ none) ++ ends)))
        ≡ a ++ (first ++ (counted ++ (content ++ (fragments ++ (inner ++ (lasts ++ (none ++ ends)))))))
    flat a first counted content fragments inner lasts none ends = simp append_assoc

-- the first bytes of the freeblock before are no other cell's
before_clear : (page : List ℕ) (start : ℕ) (old : Node) (is : IsNode page start old) (place : ℕ) (found : CellPlace) → IsCellAt page start old is place found → found.at ≤ found.end → found.end ≤ length page → (head : FreeblockHead)
    → (length head.bytes ≡ 4) × (found.last ≤ head.at) × (head.at + 4 ≤ found.at) → AreClear head.at (head.at + 4) (is.page_is).spans → IsHeadClear page (start + 8 + length (right_of old) + 2 * length is.cells) place (is.page_is).spans head
before_clear page start old is place found cell proper within head so clear =
    let four = so.0 in
    let after = so.1 in
    let last_is = cell.last_is in
    let before = so.2 in
    record {
      within = omega (arith, four, before, proper, within);
      after = omega (arith, after, last_is);
      clear = all_without place (IsClear head.at (length head.bytes)) (is.page_is).spans (subst (λ (n : ℕ). AllByRecursion (IsClear head.at n) (is.page_is).spans) (sym four) clear);
    }

-- with the freeblocks that are written it says what the other cells say
pub is_cut : (page : List ℕ) (start : ℕ) (old new : Node) (is : IsNode page start old) (place : ℕ) (found : CellPlace) (count : ℕ) (freed : Freed) (header : List ℕ) → IsCellAt page start old is place found → IsPlaceOn start (length page) found → count + 1 ≡ found.count
    → header ≡ header_with count freed.free → IsFreed found freed → IfSome freed.before (λ head. AreClear head.at (head.at + 4) (is.page_is).spans) → found.end ≤ length page → code_of new ≡ code_of old → right_of new ≡ right_of old → Say (length page) (without place is.cells) new
    → IsPlaced page start (without place is.cells) new (with_head freed.before (with_head freed.block (over_twice page start found.pointer found.last header)))
is_cut page start old new is place found count freed header cell on count_is header_is told clear within same last say =
    let kind = code_of old in
    let right = right_of old in
    let p = is.page_is in
    let behind = on.behind in
    let upto = on.upto in
    let mid = over_twice page start found.pointer found.last header in
    let mid_is : mid ≡ without_pointer page start found.pointer found.last count freed.free = ap (over_twice page start found.pointer found.last) header_is ∙ over_is page start found.pointer found.last count freed.free (omega (arith, behind, upto)) on.before on.within in
    let less = subst (λ (m : List ℕ). Less kind page start right is.cells p place m) (sym mid_is) (less_of page start old is place found count freed.free cell count_is) in
    let one = less_head kind page start right is.cells p place mid less cell.there freed.block (block_can freed.block told.block) in
    let two = less_head kind page start right is.cells p place (with_head freed.block mid) one cell.there freed.before (before_can freed.before told.before clear) in
    says_so page (with_head freed.before (with_head freed.block mid)) start old new (without place is.cells) two.now two.long two.front_same same last say
  where
    block_can : (head : Option FreeblockHead) → IfSome head (IsOwn found) → IfSome head (IsHeadClear page (start + 8 + length (right_of old) + 2 * length is.cells) place (is.page_is).spans)
    block_can None none = none
    block_can (Some head) own = own_clear page start old is place found cell within head own

    before_can : (head : Option FreeblockHead) → IfSome head (λ head. (length head.bytes ≡ 4) × (found.last ≤ head.at) × (head.at + 4 ≤ found.at)) → IfSome head (λ head. AreClear head.at (head.at + 4) (is.page_is).spans)
        → IfSome head (IsHeadClear page (start + 8 + length (right_of old) + 2 * length is.cells) place (is.page_is).spans)
    before_can None none free = none
    before_can (Some head) so free = before_clear page start old is place found cell on.proper within head so free

-- what is written is on the page
pub heads_on : (page : List ℕ) (start : ℕ) (found : CellPlace) (freed : Freed) → IsPlaceOn start (length page) found → found.last ≤ found.at → found.end ≤ length page → IsFreed found freed
    → IfSome freed.block (IsHeadOn found.last page) × IfSome freed.before (IsHeadOn found.last page)
heads_on page start found freed on after within told = (block_on freed.block told.block, before_on freed.before told.before)
  where
    block_on : (head : Option FreeblockHead) → IfSome head (IsOwn found) → IfSome head (IsHeadOn found.last page)
    block_on None none = none
    block_on (Some head) own = (let at = own.at_is in let room = own.room in record { four = own.four; after = omega (arith, at, after); within = omega (arith, at, room, within) })

    before_on : (head : Option FreeblockHead) → IfSome head (λ head. (length head.bytes ≡ 4) × (found.last ≤ head.at) × (head.at + 4 ≤ found.at)) → IfSome head (IsHeadOn found.last page)
    before_on None none = none
    before_on (Some head) so = (let before = so.2 in let proper = on.proper in record { four = so.0; after = so.1; within = omega (arith, before, proper, within) })

-- ---- another cell in its place

-- what the page says without the item at a place
abbrev pub node_without : ℕ → Node → Node
node_without place (Rows rows) = Rows (without place rows)
node_without place (Keys kids last) = Keys (without place kids) last
node_without place (Entries entries) = Entries (without place entries)
node_without place (Between kids last) = Between (without place kids) last

pub code_without : (place : ℕ) (node : Node) → code_of (node_without place node) ≡ code_of node
code_without place (Rows rows) = refl
code_without place (Keys kids last) = refl
code_without place (Entries entries) = refl
code_without place (Between kids last) = refl

pub right_without : (place : ℕ) (node : Node) → right_of (node_without place node) ≡ right_of node
right_without place (Rows rows) = refl
right_without place (Keys kids last) = refl
right_without place (Entries entries) = refl
right_without place (Between kids last) = refl

pub say_without : (usable place : ℕ) (cells : List (List ℕ)) (node : Node) → Say usable cells node → Say usable (without place cells) (node_without place node)
say_without usable place cells (Rows rows) say = pairwise_spliced (IsRowCell usable) place 1 cells [] rows [] say tt
say_without usable place cells (Keys kids last) say = (pairwise_spliced IsKeyCell place 1 cells [] kids [] say.0 tt, say.1)
say_without usable place cells (Entries entries) say = pairwise_spliced (IsEntryCell usable) place 1 cells [] entries [] say tt
say_without usable place cells (Between kids last) say = (pairwise_spliced (IsBetweenCell usable) place 1 cells [] kids [] say.0 tt, say.1)

pub put_back : {A : Type 0} (place : ℕ) (cells : List A) (cell : A) → place < length cells → insert (without place cells) place cell ≡ spliced place 1 (cell ∷ []) cells
put_back place cells cell lt =
    let rest = drop (place + 1) cells in
    let size : length (take place cells) ≡ place = length-take-le place cells (omega (arith, lt)) in
    ap (λ (xs : List _). xs ++ (cell ∷ drop place (without place cells))) (take_at (take place cells) rest place size) ∙ ap (λ (xs : List _). take place cells ++ (cell ∷ xs)) (drop_at (take place cells) rest place size)

-- a cell that is put on the page without another, in its place
pub put_again : (page mid_page : List ℕ) (start place : ℕ) (cell : List ℕ) (old mid new : Node) (is : IsNode page start old) → IsPlaced page start (without place is.cells) mid mid_page → IsUsual page start → place + 1 ≤ length is.cells → code_of mid ≡ code_of old
    → right_of mid ≡ right_of old → code_of new ≡ code_of old → right_of new ≡ right_of old → Say (length page) (spliced place 1 (cell ∷ []) is.cells) new → (result : Result (Option (Vec ℕ)) Fault) → Places mid_page start place cell result
    → IfOk result (λ answer. IfSome answer (λ written. IsPlaced page start (spliced place 1 (cell ∷ []) is.cells) new written.items))
put_again page mid_page start place cell old mid new is placed usual within mid_code mid_right same last say result places = by result
    (places mid new placed.is (omega (arith, addressed, placed.long)) usual.near (omega (arith, ap length placed.cells_are, fewer_cells, within)) (same ∙ sym mid_code) (last ∙ sym mid_right)
    (subst (λ (n : ℕ). Say n (insert (placed.is).cells place cell) new) (sym placed.long) (subst (λ (cells : List (List ℕ)). Say (length page) cells new) (sym cells_are) say)))
  where
    addressed : length page ≤ 2 ^ 16
    addressed = usual.addressed

    fewer_cells : length (without place is.cells) + 1 ≡ length is.cells
    fewer_cells = length_without place is.cells (omega (arith, within))

    cells_are : insert (placed.is).cells place cell ≡ spliced place 1 (cell ∷ []) is.cells
    cells_are = ap (λ (cells : List (List ℕ)). insert cells place cell) placed.cells_are ∙ put_back place is.cells cell (omega (arith, within))

    by : (result : Result (Option (Vec ℕ)) Fault) → IfOk result (λ answer. IfSome answer (λ written. IsPlaced mid_page start (insert (placed.is).cells place cell) new written.items))
        → IfOk result (λ answer. IfSome answer (λ written. IsPlaced page start (spliced place 1 (cell ∷ []) is.cells) new written.items))
    by (Ok None) so = so
    by (Ok (Some written)) so = record { is = so.is; cells_are = so.cells_are ∙ cells_are; long = so.long ∙ placed.long; front = so.front ∙ placed.front }
    by (Err fault) so = so
