-- Pages with a cell in bytes that no other has.
use Rattle.std.proofs.Common.{◌≡◌, ◌⊎◌, inl, inr, ◌≤◌, ◌<◌, ◌+◌, ◌-◌, ◌*◌, ◌^◌, ℕ, zero, suc, List, [], ◌∷◌, ◌++◌, length, take, drop, refl, sym, ap, subst, ◌∙◌, append_assoc, arith}
use Rattle.std.specs.Int.{w16, to_be_bytes}
use Rattle.std.specs.List.{AllByRecursion, flat_map, insert}
use Rattle.std.specs.Prelude.{Option, Some, None, IfSome}
use Rattle.std.proofs.lemmas.Grind.{flat_map-append}
use Rattle.std.proofs.lemmas.List.{take_at, drop_at, take-append-drop, length-append, length-take-le}
use Rattle.std.proofs.lemmas.List.Edits.{length-insert}
use Rattle.tree_page.specs.Cells.{Span, pointer, IsAt, IsApart, AreApart, page_header, front, IsTreePage}
use Rattle.tree_page.specs.Node.{Node, code_of, right_of, Say, IsNode}
use Rattle.tree_page.proofs.HeaderLemmas.{length-header}
use Rattle.tree_pack.specs.Placing.{IsPlaced}
use Rattle.tree_pack.specs.Freeing.{AreClear, with_head}
use Rattle.tree_pack.specs.Replacing.{written_over}
use Rattle.tree_pack.specs.Slots.{IsHeadClear, IsHeadWithin}
use Rattle.tree_pack.specs.declared.freeing.Free.{Free}
use Rattle.tree_pack.specs.declared.freeing.FreeblockHead.{FreeblockHead}
use Rattle.tree_pack.proofs.PlacingLemmas.{halves, over, EndsSo, cell_stays, cells_stay, pairs_insert, apart_more, apart_insert, begin_after}
use Rattle.tree_pack.proofs.ReplacingLemmas.{IsClear, regroup}
use Rattle.tree_pack.proofs.RemovingLemmas.{header_with, page_cleared, says_so, up_to_kind}

-- ---- the pointers and the header

-- the pointers from a place on, as they are read
lasts_on : (kind : ℕ) (page : List ℕ) (start : ℕ) (right : List ℕ) (cells : List (List ℕ)) (is : IsTreePage kind page start right cells) (place middle end : ℕ) → place ≤ length cells → middle ≡ start + 8 + length right + 2 * place
    → end ≡ start + 8 + length right + 2 * length cells → take (end - middle) (drop middle page) ≡ flat_map pointer (drop place is.spans)
lasts_on kind page start right cells is place middle end le middle_is end_is =
    let h = halves kind page start right cells is place le in
    let first_size = h.first_size in
    let last_size = h.last_size in
    let header = page_header kind is.freeblock (length cells) is.content is.fragments in
    let eight = length-header kind (length cells) is.fragments is.freeblock is.content is.freeblock_is is.content_is in
    let c = is.before ++ (header ++ (right ++ h.firsts)) in
    let size_c : length c ≡ middle = omega (arith, length-append is.before (header ++ (right ++ h.firsts)), length-append header (right ++ h.firsts), length-append right h.firsts, eight, is.start_is, first_size, middle_is) in
    let page_c : page ≡ c ++ (h.lasts ++ is.rest) = h.parts ∙ sym (regroup is.before header right h.firsts (h.lasts ++ is.rest)) in
    let long : length h.lasts ≡ end - middle = omega (arith, last_size, middle_is, end_is) in
    ap (take (end - middle)) (ap (drop middle) page_c ∙ drop_at c (h.lasts ++ is.rest) middle size_c) ∙ take_at h.lasts is.rest (end - middle) long ∙ h.lasts_are

-- the new page's parts, where the header and the pointers are written
record NewFront (kind : ℕ) (page : List ℕ) (start : ℕ) (right : List ℕ) (cells : List (List ℕ)) (is : IsTreePage kind page start right cells) (place at count : ℕ) (free : Free) (new : List ℕ) : Type 0 where
  pub after : List ℕ
  pub parts : new ≡ is.before
      ++ (page_header kind (to_be_bytes w16 free.first) count (to_be_bytes w16 free.content) free.fragments ++ (right ++ ((flat_map pointer (take place is.spans) ++ (to_be_bytes w16 at ++ flat_map pointer (drop place is.spans))) ++ after)))
  pub ends : EndsSo (start + 8 + length right + 2 * length cells + 2) page new

as_now : (before kind header right firsts both after : List ℕ) → (before ++ kind) ++ (header ++ (right ++ (firsts ++ (both ++ after)))) ≡ before ++ ((kind ++ header) ++ (right ++ ((firsts ++ both) ++ after)))
as_now before kind header right firsts both after = simp append_assoc

up_to_after : (before kind header right firsts both after : List ℕ) → (before ++ kind) ++ (header ++ (right ++ (firsts ++ (both ++ after)))) ≡ ((before ++ kind) ++ (header ++ (right ++ (firsts ++ both)))) ++ after
up_to_after before kind header right firsts both after = simp append_assoc

new_front : (kind : ℕ) (page : List ℕ) (start : ℕ) (right : List ℕ) (cells : List (List ℕ)) (is : IsTreePage kind page start right cells) (place middle at count : ℕ) (free : Free) → place ≤ length cells → middle ≡ start + 8 + length right + 2 * place
    → start + 8 + length right + 2 * length cells + 2 ≤ length page
    → NewFront kind page start right cells is place at count free (written_over (start + 1) (header_with count free) (written_over middle (to_be_bytes w16 at ++ flat_map pointer (drop place is.spans)) page))
new_front kind page start right cells is place middle at count free le middle_is within =
    let h = halves kind page start right cells is place le in
    let first_size = h.first_size in
    let last_size = h.last_size in
    let old_count = to_be_bytes w16 (length cells) in
    let header = page_header kind is.freeblock (length cells) is.content is.fragments in
    let eight = length-header kind (length cells) is.fragments is.freeblock is.content is.freeblock_is is.content_is in
    let mine = to_be_bytes w16 at in
    let lasts = flat_map pointer (drop place is.spans) in
    let two = take 2 is.rest in
    let after = drop 2 is.rest in
    let c = is.before ++ (header ++ (right ++ h.firsts)) in
    let size_c : length c ≡ middle = omega (arith, length-append is.before (header ++ (right ++ h.firsts)), length-append header (right ++ h.firsts), length-append right h.firsts, eight, is.start_is, first_size, middle_is) in
    let parts : page ≡ is.before ++ (header ++ (right ++ (h.firsts ++ (lasts ++ is.rest)))) = h.parts ∙ ap (λ (x : List ℕ). is.before ++ (header ++ (right ++ (h.firsts ++ (x ++ is.rest))))) h.lasts_are in
    let page_c : page ≡ c ++ (lasts ++ is.rest) = parts ∙ sym (regroup is.before header right h.firsts (lasts ++ is.rest)) in
    let lasts_size : length lasts ≡ length h.lasts = ap length (sym h.lasts_are) in
    let long : length page ≡ middle + (length lasts + length is.rest) = omega (arith, ap length page_c, length-append c (lasts ++ is.rest), length-append lasts is.rest, size_c) in
    let size_two : length two ≡ 2 = length-take-le 2 is.rest (omega (arith, long, within, lasts_size, last_size, middle_is)) in
    let page_two : page ≡ c ++ ((lasts ++ two) ++ after) =
    page_c ∙ ap (λ (x : List ℕ). c ++ (lasts ++ x)) (sym (take-append-drop 2 is.rest)) ∙ ap (λ (x : List ℕ). c ++ x) (sym (append_assoc lasts two after)) in
    let both = mine ++ lasts in
    let mid = written_over middle both page in
    let mine_size : length mine ≡ 2 = refl in
    let same_size : length (lasts ++ two) ≡ length both = omega (arith, length-append lasts two, length-append mine lasts, size_two, mine_size) in
    let second : mid ≡ c ++ (both ++ after) = over page c both (lasts ++ two) after middle page_two size_c same_size in
    let a = is.before ++ (kind ∷ []) in
    let size_a : length a ≡ start + 1 = omega (arith, length-append is.before (kind ∷ []), is.start_is) in
    let old_head = is.freeblock ++ (old_count ++ (is.content ++ (is.fragments ∷ []))) in
    let tail = right ++ (h.firsts ++ (both ++ after)) in
    let second_a : mid ≡ a ++ (old_head ++ tail) = second ∙ regroup is.before header right h.firsts (both ++ after) ∙ up_to_kind is.before (kind ∷ []) is.freeblock old_count is.content (is.fragments ∷ []) tail in
    let head = header_with count free in
    let seven : length head ≡ 7 = refl in
    let old_seven : length old_head ≡ length head = omega (arith, eight, seven) in
    let new = written_over (start + 1) head mid in
    let third : new ≡ a ++ (head ++ tail) = over mid a head old_head tail (start + 1) second_a size_a old_seven in
    let grouped : new ≡ (a ++ (head ++ (right ++ (h.firsts ++ both)))) ++ after = third ∙ up_to_after is.before (kind ∷ []) head right h.firsts both after in
    let base = a ++ (head ++ (right ++ (h.firsts ++ both))) in
    let end = start + 8 + length right + 2 * length cells + 2 in
    let both_size : length both ≡ 2 + length lasts = omega (arith, length-append mine lasts, mine_size) in
    let base_size : length base ≡ end =
    omega (arith, length-append a (head ++ (right ++ (h.firsts ++ both))), length-append head (right ++ (h.firsts ++ both)), length-append right (h.firsts ++ both), length-append h.firsts both, both_size, lasts_size, last_size, first_size, size_a, seven) in
    let old_base = c ++ (lasts ++ two) in
    let old_grouped : page ≡ old_base ++ after = page_two ∙ sym (append_assoc c (lasts ++ two) after) in
    let old_size : length old_base ≡ end = omega (arith, length-append c (lasts ++ two), length-append lasts two, size_two, size_c, lasts_size, last_size, middle_is) in
    record {
      after = after;
      parts = third ∙ as_now is.before (kind ∷ []) head right h.firsts both after
          ∙ ap (λ (x : List ℕ). is.before ++ ((kind ∷ head) ++ (right ++ ((x ++ both) ++ after)))) h.firsts_are;
      ends = record {
        same = ap (drop end) grouped ∙ drop_at base after end base_size ∙ sym (ap (drop end) old_grouped ∙ drop_at old_base after end old_size);
        long = omega (arith, ap length grouped, ap length old_grouped, length-append base after, length-append old_base after, base_size, old_size);
        within = within;
      };
    }

-- ---- the page

-- a page with the cells of another and one more, which lie where they lay
record More (kind : ℕ) (page : List ℕ) (start : ℕ) (right : List ℕ) (cells : List (List ℕ)) (spans : List Span) (new : List ℕ) : Type 0 where
  pub now : IsTreePage kind new start right cells
  pub spans_are : now.spans ≡ spans
  pub long : length new ≡ length page
  pub front_same : take start new ≡ take start page

-- the span of a cell
abbrev span_of : ℕ → ℕ → Span
span_of at size = record { from = at; to = at + size }

turned : (at size : ℕ) (spans : List Span) → AllByRecursion (IsClear at size) spans → AllByRecursion (IsApart (span_of at size)) spans
turned at size [] clear = tt
turned at size (span ∷ spans) clear = (one clear.0, turned at size spans clear.1)
  where
    one : IsClear at size span → IsApart (span_of at size) span
    one (inl before) = inr before
    one (inr after) = inl after

all_insert : (C : Span → Type 0) (spans : List Span) (place : ℕ) (one : Span) → C one → AllByRecursion C spans → AllByRecursion C (insert spans place one)
all_insert C [] zero one mine all = (mine, tt)
all_insert C [] (suc place) one mine all = (mine, tt)
all_insert C (span ∷ spans) zero one mine all = (mine, all)
all_insert C (span ∷ spans) (suc place) one mine all = (all.0, all_insert C spans place one mine all.1)

-- a cell stands there already, and the header and the pointers are written
page_with_pointer : (kind : ℕ) (page : List ℕ) (start : ℕ) (right : List ℕ) (cells : List (List ℕ)) (is : IsTreePage kind page start right cells) (place middle at count : ℕ) (cell : List ℕ) (free : Free) → place ≤ length cells → middle ≡ start + 8 + length right + 2 * place
    → count ≡ length cells + 1 → start + 8 + length right + 2 * length cells + 2 ≤ at → start + 8 + length right + 2 * length cells + 2 ≤ length page → length cells + 1 < 2 ^ 16 → IsAt page (span_of at (length cell)) cell
    → AllByRecursion (λ span. start + 8 + length right + 2 * length cells + 2 ≤ span.from) is.spans → AllByRecursion (IsClear at (length cell)) is.spans
    → More kind page start right (insert cells place cell) (insert is.spans place (span_of at (length cell))) (written_over (start + 1) (header_with count free) (written_over middle (to_be_bytes w16 at ++ flat_map pointer (drop place is.spans)) page))
page_with_pointer kind page start right cells is place middle at count cell free le middle_is count_is behind within few there after clear =
    let n = new_front kind page start right cells is place middle at count free le middle_is within in
    let low = start + 8 + length right + 2 * length cells + 2 in
    let one = span_of at (length cell) in
    let new = written_over (start + 1) (header_with count free) (written_over middle (to_be_bytes w16 at ++ flat_map pointer (drop place is.spans)) page) in
    let counted : length (insert cells place cell) ≡ length cells + 1 = length-insert cells place cell le in
    let old_front = front start (length right) (length cells) in
    let now_front = front start (length right) (length (insert cells place cell)) in
    let front_low : now_front.to ≤ low = omega (arith, counted) in
    let kept : AreApart (now_front ∷ []) is.spans = apart_more (old_front ∷ []) (now_front ∷ []) is.spans now_front (λ P all is. (is, tt)) (begin_after now_front low is.spans front_low after) is.apart in
    let pointers : flat_map pointer (insert is.spans place one) ≡ flat_map pointer (take place is.spans) ++ (to_be_bytes w16 at ++ flat_map pointer (drop place is.spans)) = flat_map-append pointer (take place is.spans) (one ∷ drop place is.spans) in
    let header : ℕ → List ℕ = λ m. page_header kind (to_be_bytes w16 free.first) m (to_be_bytes w16 free.content) free.fragments in
    record {
      now = record {
        before = is.before;
        freeblock = to_be_bytes w16 free.first;
        content = to_be_bytes w16 free.content;
        fragments = free.fragments;
        spans = insert is.spans place one;
        rest = n.after;
        parts = n.parts ∙ ap (λ (m : ℕ). is.before ++ (header m ++ (right ++ ((flat_map pointer (take place is.spans) ++ (to_be_bytes w16 at ++ flat_map pointer (drop place is.spans))) ++ n.after)))) (count_is ∙ sym counted)
            ∙ ap (λ (x : List ℕ). is.before ++ (header (length (insert cells place cell)) ++ (right ++ (x ++ n.after)))) (sym pointers);
        start_is = is.start_is;
        freeblock_is = refl;
        content_is = refl;
        few = omega (arith, counted, few);
        cells_are = pairs_insert (IsAt new) is.spans cells place one cell (cell_stays low page new one cell n.ends behind there) (cells_stay low page new is.spans cells n.ends after is.cells_are);
        apart = apart_insert (now_front ∷ []) is.spans place one (inr (omega (arith, front_low, behind)), tt) (turned at (length cell) is.spans clear) clear kept;
      };
      spans_are = refl;
      long = n.ends.long;
      front_same = ap (take start) n.parts ∙ take_at is.before _ start is.start_is ∙ sym (ap (take start) is.parts ∙ take_at is.before _ start is.start_is);
    }

-- the first bytes of a freeblock, over bytes of no cell
page_with_head : (kind : ℕ) (page : List ℕ) (start : ℕ) (right : List ℕ) (cells : List (List ℕ)) (spans : List Span) (new : List ℕ) → More kind page start right cells spans new → (from to : ℕ) → start + 8 + length right + 2 * length cells ≤ from → to ≤ length page
    → (head : Option FreeblockHead) → IfSome head (IsHeadWithin from to) → IfSome head (λ head. AreClear head.at (head.at + 4) spans) → More kind page start right cells spans (with_head head new)
page_with_head kind page start right cells spans new more from to after within None told clear = more
page_with_head kind page start right cells spans new more from to after within (Some head) told clear =
    let four = told.four in
    let first = told.after in
    let last = told.before in
    let long = more.long in
    let free : AllByRecursion (IsClear head.at (length head.bytes)) more.now.spans =
    subst (λ (n : ℕ). AllByRecursion (IsClear head.at n) more.now.spans) (sym four) (subst (λ (l : List Span). AreClear head.at (head.at + 4) l) (sym more.spans_are) clear) in
    let kept = page_cleared kind new start right cells more.now head.at head.bytes (omega (arith, four, last, within, long)) (omega (arith, after, first)) free in
    record { now = kept.now; spans_are = kept.spans_stay ∙ more.spans_are; long = kept.long ∙ more.long; front_same = kept.front_same ∙ more.front_same }

-- ---- the node

-- `placed_at`, of numbers and lists
abbrev pub over_four : List ℕ → ℕ → ℕ → ℕ → ℕ → List ℕ → List ℕ → Option FreeblockHead → List ℕ
over_four page start middle end at cell header head =
    with_head head (written_over (start + 1) header (written_over middle (to_be_bytes w16 at ++ take (end - middle) (drop middle page)) (written_over at cell page)))

-- what is written stands there
stands : (page cell : List ℕ) (at : ℕ) → at + length cell ≤ length page → at < 2 ^ 16 → IsAt (written_over at cell page) (span_of at (length cell)) cell
stands page cell at within near =
    let long : length (take at page) ≡ at = length-take-le at page (omega (arith, within)) in
    record { before = take at page; after = drop (at + length cell) page; parts = refl; from_is = sym long; to_is = ap (λ (m : ℕ). m + length cell) (sym long); near = near }

all_later : (low limit : ℕ) → limit ≤ low → (spans : List Span) → AllByRecursion (λ span. low ≤ span.from) spans → AllByRecursion (λ span. limit ≤ span.from) spans
all_later low limit le [] after = tt
all_later low limit le (span ∷ spans) after = (omega (arith, le, after.0), all_later low limit le spans after.1)

-- the page with a cell in bytes of no other says what the cells say
pub is_placed_in : (page : List ℕ) (start : ℕ) (old new : Node) (is : IsNode page start old) (place middle end count at low : ℕ) (cell header : List ℕ) (free : Free) (head : Option FreeblockHead) → place ≤ length is.cells → middle ≡ start + 8 + length (right_of old) + 2 * place
    → end ≡ start + 8 + length (right_of old) + 2 * length is.cells → count ≡ length is.cells + 1 → header ≡ header_with count free → end + 2 ≤ at → at + length cell ≤ length page → at < 2 ^ 16 → length is.cells + 1 < 2 ^ 16
    → end + 2 ≤ low → AllByRecursion (λ span. low ≤ span.from) is.page_is.spans → AreClear at (at + length cell) is.page_is.spans → IfSome head (IsHeadWithin (end + 2) at) → IfSome head (IsHeadClear is)
    → code_of new ≡ code_of old → right_of new ≡ right_of old → Say (length page) (insert is.cells place cell) new → IsPlaced page start (insert is.cells place cell) new (over_four page start middle end at cell header head)
is_placed_in page start old new is place middle end count at low cell header free head le middle_is end_is count_is header_is behind within near few low_le lies clear told head_clear same last say =
    let kind = code_of old in
    let right = right_of old in
    let cells = is.cells in
    let p = is.page_is in
    let one = span_of at (length cell) in
    let limit = start + 8 + length right + 2 * length cells + 2 in
    let first = written_over at cell page in
    let r = page_cleared kind page start right cells p at cell within (omega (arith, end_is, behind)) clear in
    let after_now : AllByRecursion (λ span. limit ≤ span.from) r.now.spans = subst (λ (l : List Span). AllByRecursion (λ span. limit ≤ span.from) l) (sym r.spans_stay) (all_later low limit (omega (arith, low_le, end_is)) p.spans lies) in
    let clear_now : AllByRecursion (IsClear at (length cell)) r.now.spans = subst (λ (l : List Span). AllByRecursion (IsClear at (length cell)) l) (sym r.spans_stay) clear in
    let first_long = r.long in
    let m = page_with_pointer kind first start right cells r.now place middle at count cell free le middle_is count_is (omega (arith, end_is, behind)) (omega (arith, end_is, behind, within, first_long)) few (stands page cell at within near) after_now clear_now in
    let mine = to_be_bytes w16 at in
    let read = take (end - middle) (drop middle page) in
    let lasts_are : flat_map pointer (drop place r.now.spans) ≡ read = ap (λ (l : List Span). flat_map pointer (drop place l)) r.spans_stay ∙ sym (lasts_on kind page start right cells p place middle end le middle_is end_is) in
    let mid = written_over (start + 1) header (written_over middle (mine ++ read) first) in
    let mid_is : written_over (start + 1) (header_with count free) (written_over middle (mine ++ flat_map pointer (drop place r.now.spans)) first) ≡ mid =
    ap (λ (l : List ℕ). written_over (start + 1) (header_with count free) (written_over middle (mine ++ l) first)) lasts_are ∙ ap (λ (l : List ℕ). written_over (start + 1) l (written_over middle (mine ++ read) first)) (sym header_is) in
    let counted : length (insert cells place cell) ≡ length cells + 1 = length-insert cells place cell le in
    let more : More kind page start right (insert cells place cell) (insert p.spans place one) (written_over (start + 1) (header_with count free) (written_over middle (mine ++ flat_map pointer (drop place r.now.spans)) first)) = record {
      now = m.now;
      spans_are = m.spans_are ∙ ap (λ (l : List Span). insert l place one) r.spans_stay;
      long = m.long ∙ r.long;
      front_same = m.front_same ∙ r.front_same;
    } in
    let more_mid = subst (λ (l : List ℕ). More kind page start right (insert cells place cell) (insert p.spans place one) l) mid_is more in
    let h = page_with_head kind page start right (insert cells place cell) (insert p.spans place one) mid more_mid (end + 2) at (omega (arith, counted, end_is)) (omega (arith, within)) head told (head_free head told head_clear) in
    says_so page (with_head head mid) start old new (insert cells place cell) h.now h.long h.front_same same last say
  where
    head_free : (head : Option FreeblockHead) → IfSome head (IsHeadWithin (end + 2) at) → IfSome head (IsHeadClear is) → IfSome head (λ head. AreClear head.at (head.at + 4) (insert is.page_is.spans place (span_of at (length cell))))
    head_free None told clear = told
    head_free (Some head) told clear = all_insert (λ span. (span.to ≤ head.at) ⊎ (head.at + 4 ≤ span.from)) is.page_is.spans place (span_of at (length cell)) (inr told.before) clear
