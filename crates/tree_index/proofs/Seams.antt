-- Two interior pages side by side, where other subtrees stand in place of the last child of the first and the first child of the second.
use Rattle.std.proofs.Common.{◌≡◌, ◌≤◌, ◌<◌, ◌+◌, ℕ, zero, suc, false, List, [], ◌∷◌, ◌++◌, append_assoc, length, refl, sym, ap, subst, ◌∙◌, arith}
use Rattle.std.proofs.lemmas.List.{append-nil}
use Rattle.std.specs.List.{AllByRecursion}
use Rattle.std.specs.Prelude.{Result, Ok, Err, MatchResult}
use Rattle.sqlval.specs.Faults.{IsOutside}
use Rattle.sqlval.specs.declared.fault.Fault.{Fault}
use Rattle.pages.specs.Calls.{IsOutsideOrFull}
use Rattle.pages.specs.Counting.{occurs, Moves}
use Rattle.pages.specs.Laws.{IsJoined}
use Rattle.pages.specs.Map.{PageMap, AreWhole, Has}
use Rattle.pages.proofs.Moving.{occurs_append}
use Rattle.tree_page.specs.Cells.{Pairwise}
use Rattle.tree_page.specs.Node.{Local, Between}
use Rattle.tree_pack.specs.declared.spreading.Packed.{Packed}
use Rattle.tree_store.specs.Saying.{Says}
use Rattle.tree_store.specs.Sides.{Side, Each, children, each_of}
use Rattle.tree_store.specs.Staying.{AreKept}
use Rattle.tree_store.specs.Storing.{IsStored, Stores}
use Rattle.tree_store.specs.declared.storing.Fan.{Fan}
use Rattle.tree_store.proofs.Staying.{kept_of, says_kept, occurs_here}
use Rattle.tree_index.specs.Entries.{Entry}
use Rattle.tree_index.specs.Freeing.{chains_of, below_of}
use Rattle.tree_index.specs.Growing.{replaced, IsPlanned, entries_in}
use Rattle.tree_index.specs.Joining.{tree_at, left_at, right_at, AreBeside, IsSeamed, Seams}
use Rattle.tree_index.specs.Tree.{Held, IsKidAs, Tree, top, entries_of, pages_of, Lies}
use Rattle.tree_index.proofs.Beside.{far_left, far_right, left_says, right_says, said_left, said_right}
use Rattle.tree_index.proofs.Branches.{kids_kept}
use Rattle.tree_index.proofs.Grown.{can_store_all, grown_after, grown_all}
use Rattle.tree_index.proofs.Growth.{IsGrown, chain, pages_in}
use Rattle.tree_index.proofs.Pairs.{one}
use Rattle.tree_index.proofs.Rows.{row_gives, row_split, seen, seen_row, pair_row, holds_at, row_kept, pages_among}
use Rattle.tree_index.proofs.Shares.{AreUpTo, beside_used, others_kept, after_first, up_append}
use Rattle.tree_index.proofs.Staying.{lies_kept}
use Rattle.tree_index.proofs.Subtrees.{entries_between, row_pages, pages_split, top_there, below_up}
use Rattle.tree_index.proofs.Tops.{branch_tops, planned_by}
use Rattle.tree_index.proofs.Widening.{full_or}

-- ---- the ends of a row

at_end : {T K : Type 0} (kids : List (T × K)) (last : T) → tree_at (length kids) kids last ≡ last
at_end [] last = refl
at_end (kid ∷ kids) last = at_end kids last

none_right : {T K X : Type 0} (f : T → List X) (between : K → List X) (kids : List (T × K)) (last : T) → right_at f between (length kids) kids last ≡ []
none_right f between [] last = refl
none_right f between (kid ∷ kids) last = none_right f between kids last

none_left : {T K X : Type 0} (f : T → List X) (between : K → List X) (kids : List (T × K)) (last : T) → left_at f between zero kids last ≡ []
none_left f between [] last = refl
none_left f between (kid ∷ kids) last = refl

children_len : {T K : Type 0} (page : T → ℕ) (kids : List (T × K)) → length (children page kids) ≡ length kids
children_len page [] = refl
children_len page (kid ∷ kids) = ap suc (children_len page kids)

-- what a row gives on the left of its last subtree
abbrev before_last : {T K X : Type 0} → (T → List X) → (K → List X) → List (T × K) → T → List X
before_last f between kids last = left_at f between (length kids) kids last

-- and on the right of its first
abbrev after_start : {T K X : Type 0} → (T → List X) → (K → List X) → List (T × K) → T → List X
after_start f between kids last = right_at f between zero kids last

module _ {T K X : Type 0} (f : T → List X) (between : K → List X) where
  by_last : (kids : List (T × K)) (last : T) → each_of f between kids last ≡ before_last f between kids last ++ f last
  by_last kids last =
      row_split f between (length kids) kids last
      ∙ ap (λ (xs : List X). before_last f between kids last ++ (f (tree_at (length kids) kids last) ++ xs)) (none_right f between kids last)
      ∙ ap (λ (xs : List X). before_last f between kids last ++ xs) (append-nil (f (tree_at (length kids) kids last)))
      ∙ ap (λ (t : T). before_last f between kids last ++ f t) (at_end kids last)

  by_start : (kids : List (T × K)) (last : T) → each_of f between kids last ≡ f (tree_at zero kids last) ++ after_start f between kids last
  by_start kids last =
      row_split f between zero kids last
      ∙ ap (λ (xs : List X). xs ++ (f (tree_at zero kids last) ++ after_start f between kids last)) (none_left f between kids last)

  -- the row with others in place of the last of one and the first of another
  by_seam : (window : Side T K) (kids : List (T × K)) (last : T) (more : List (T × K)) (end : T) (row : Side T K) → row ≡ replaced (length kids) (replaced zero window more end) kids last
      → each_of f between row.0 row.1 ≡ before_last f between kids last ++ (each_of f between window.0 window.1 ++ after_start f between more end)
  by_seam window kids last more end row is =
      let inner = replaced zero window more end in
      ap (λ (s : Side T K). each_of f between s.0 s.1) is ∙ row_gives f between (length kids) inner kids last
      ∙ ap (λ (xs : List X). before_last f between kids last ++ (each_of f between inner.0 inner.1 ++ xs)) (none_right f between kids last)
      ∙ ap (λ (xs : List X). before_last f between kids last ++ xs) (append-nil (each_of f between inner.0 inner.1))
      ∙ ap (λ (xs : List X). before_last f between kids last ++ xs) (row_gives f between zero window more end
      ∙ ap (λ (xs : List X). xs ++ (each_of f between window.0 window.1 ++ after_start f between more end)) (none_left f between more end))

module _ (old : PageMap) (size left right depth : ℕ) (a b : Tree (suc depth)) (free : List ℕ) (is : AreBeside old size left right (suc depth) a b free) where
  abbrev Row : Type 0
  Row = Side (Tree depth) Held

  abbrev pub last_tree : Tree depth
  last_tree = a.last

  abbrev pub first_tree : Tree depth
  first_tree = tree_at zero b.kids b.last

  abbrev before : List ℕ
  before = before_last (pages_of depth) chain a.kids a.last

  abbrev behind_it : List ℕ
  behind_it = after_start (pages_of depth) chain b.kids b.last

  abbrev others : List ℕ
  others = before ++ behind_it

  abbrev pub tops_in : List ℕ
  tops_in = top depth last_tree ∷ top depth first_tree ∷ []

  abbrev pub belows_in : List ℕ
  belows_in = below_of depth last_tree ++ below_of depth first_tree

  abbrev both : List ℕ
  both = below_of (suc depth) a ++ below_of (suc depth) b

  left_counts : (n : ℕ) → occurs n (below_of (suc depth) a) ≡ occurs n before + occurs n (pages_of depth last_tree)
  left_counts n = (let e = ap (occurs n) (by_last (pages_of depth) chain a.kids a.last) in let f = occurs_append n before (pages_of depth last_tree) in omega (arith, e, f))

  right_counts : (n : ℕ) → occurs n (below_of (suc depth) b) ≡ occurs n (pages_of depth first_tree) + occurs n behind_it
  right_counts n = (let e = ap (occurs n) (by_start (pages_of depth) chain b.kids b.last) in let f = occurs_append n (pages_of depth first_tree) behind_it in omega (arith, e, f))

  split_in : (n : ℕ) → occurs n tops_in + occurs n belows_in ≡ occurs n (pages_of depth last_tree) + occurs n (pages_of depth first_tree)
  split_in n =
      let x = ap (occurs n) (pages_split depth last_tree) in
      let y = ap (occurs n) (pages_split depth first_tree) in
      let c = occurs_append n (below_of depth last_tree) (below_of depth first_tree) in
      let e = occurs_append n (top depth last_tree ∷ []) (below_of depth last_tree) in
      let f = occurs_append n (top depth first_tree ∷ []) (below_of depth first_tree) in
      let g = occurs_append n (top depth last_tree ∷ []) (top depth first_tree ∷ []) in
      omega (arith, x, y, c, e, f, g)

  parts_in : IsJoined (tops_in ++ belows_in) others both
  parts_in n =
      let l = left_counts n in
      let r = right_counts n in
      let s = split_in n in
      let c = occurs_append n (below_of (suc depth) a) (below_of (suc depth) b) in
      let d = occurs_append n tops_in belows_in in
      let e = occurs_append n before behind_it in
      omega (arith, l, r, s, c, d, e)

  -- each page of both is used once, their tops among them
  both_once : (n : ℕ) → occurs n (a.page ∷ b.page ∷ both) + occurs n free ≤ 1
  both_once n =
      let once = is.apart n in
      let c = occurs_append n (below_of (suc depth) a) (below_of (suc depth) b) in
      let e = occurs_append n (a.page ∷ []) (below_of (suc depth) a) in
      let f = occurs_append n (b.page ∷ []) (below_of (suc depth) b) in
      let g = occurs_append n (a.page ∷ []) (b.page ∷ both) in
      let h = occurs_append n (b.page ∷ []) both in
      omega (arith, once, c, e, f, g, h)

  lies_last : Lies old size depth last_tree
  lies_last = subst (λ (u : Tree depth). Lies old size depth u) (at_end a.kids a.last) (holds_at (Lies old size depth) (length a.kids) a.kids a.last is.lies_left.1)

  lies_first : Lies old size depth first_tree
  lies_first = holds_at (Lies old size depth) zero b.kids b.last is.lies_right.1

  none_one : occurs 1 both ≡ 0
  none_one =
      let none = is.first in
      let c = occurs_append 1 (below_of (suc depth) a) (below_of (suc depth) b) in
      let e = occurs_append 1 (a.page ∷ []) (below_of (suc depth) a) in
      let f = occurs_append 1 (b.page ∷ []) (below_of (suc depth) b) in
      omega (arith, none, c, e, f)

  pub inner_beside : AreBeside old size (top depth last_tree) (top depth first_tree) depth last_tree first_tree free
  inner_beside = record {
    left_is = refl;
    right_is = refl;
    lies_left = lies_last;
    lies_right = lies_first;
    apart = λ n. (let once = is.apart n in let l = left_counts n in let r = right_counts n in let e = occurs_append n (a.page ∷ []) (below_of (suc depth) a) in
        let f = occurs_append n (b.page ∷ []) (below_of (suc depth) b) in omega (arith, once, l, r, e, f));
    first = (let none = none_one in let l = left_counts 1 in let r = right_counts 1 in let c = occurs_append 1 (below_of (suc depth) a) (below_of (suc depth) b) in omega (arith, none, l, r, c));
    free_are = is.free_are;
    sized = is.sized;
  }

  there_in : AllByRecursion (Has old) tops_in
  there_in = (top_there old size depth last_tree lies_last, (top_there old size depth first_tree lies_first, tt))

  far_in : AllByRecursion (λ n. 1 < n) tops_in
  far_in =
      let none = inner_beside.first in
      let s = split_in 1 in
      let g = occurs_append 1 (top depth last_tree ∷ []) (top depth first_tree ∷ []) in (
        after_first old (top depth last_tree) [] (top_there old size depth last_tree lies_last) (omega (arith, none, s, g)),
        (after_first old (top depth first_tree) [] (top_there old size depth first_tree lies_first) (omega (arith, none, s, g)), tt),
      )

  apart_in : (n : ℕ) → occurs n tops_in + occurs n belows_in + occurs n free ≤ 1
  apart_in n = (let once = inner_beside.apart n in let s = split_in n in omega (arith, once, s))

  first_in : occurs 1 belows_in ≡ 0
  first_in = (let none = inner_beside.first in let s = split_in 1 in omega (arith, none, s))

  up_in : AreUpTo (length old) belows_in
  up_in = up_append (length old) (below_of depth last_tree) (below_of depth first_tree) (below_up old size depth last_tree lies_last) (below_up old size depth first_tree lies_first)

  abbrev pub joined_entries : List Entry
  joined_entries = entries_of depth last_tree ++ entries_of depth first_tree

  module _ (mid : PageMap) (packed : Packed) (plan : IsPlanned old mid size depth joined_entries belows_in free packed) where
    pub store_in : (new : PageMap) (result : Result Fan Fault) → Stores mid new size tops_in packed result → MatchResult result (IsStored mid new size tops_in plan.now_free packed) IsOutsideOrFull
    store_in new (Ok fan) stores =
        stores plan.now_free (grown_after old mid size depth (top depth last_tree) (top depth first_tree ∷ []) belows_in free joined_entries packed plan is.free_are there_in far_in apart_in first_in up_in).are
        (can_store_all old mid size depth (top depth last_tree) (top depth first_tree ∷ []) belows_in free joined_entries packed plan is.free_are there_in far_in apart_in first_in up_in) plan.sized
    store_in new (Err fault) stores =
        full_or fault (stores plan.now_free (grown_after old mid size depth (top depth last_tree) (top depth first_tree ∷ []) belows_in free joined_entries packed plan is.free_are there_in far_in apart_in first_in up_in).are
        (can_store_all old mid size depth (top depth last_tree) (top depth first_tree ∷ []) belows_in free joined_entries packed plan is.free_are there_in far_in apart_in first_in up_in) plan.sized)

    module _ (new : PageMap) (fan : Fan) (stored : IsStored mid new size tops_in plan.now_free packed fan) where
      g : IsGrown old new size (top depth last_tree) depth joined_entries (tops_in ++ belows_in) free fan
      g = grown_all old mid size depth (top depth last_tree) (top depth first_tree ∷ []) belows_in free joined_entries packed plan is.free_are there_in far_in apart_in first_in up_in new fan stored

      whole_new : AreWhole size new
      whole_new = (g.moves).whole size (is.free_are).whole

      kept : AreKept old new size (a.page ∷ b.page ∷ others)
      kept = others_kept old new size (tops_in ++ belows_in) free (pages_in depth g.kids g.last) g.now_free (a.page ∷ b.page ∷ others) (is.free_are).whole g.moves
          (λ n some. (let all = both_once n in let part = parts_in n in
          let c = occurs_append n (a.page ∷ b.page ∷ []) others in let d = occurs_append n (a.page ∷ b.page ∷ []) both in omega (arith, all, part, some, c, d)))

      kept_others : AreKept old new size others
      kept_others = kept_of old new size (a.page ∷ b.page ∷ others) others (λ n some. (let c = occurs_append n (a.page ∷ b.page ∷ []) others in omega (arith, some, c))) kept

      kept_before : AreKept old new size before
      kept_before = kept_of old new size others before (λ n some. (let c = occurs_append n before behind_it in omega (arith, some, c))) kept_others

      kept_behind : AreKept old new size behind_it
      kept_behind = kept_of old new size others behind_it (λ n some. (let c = occurs_append n before behind_it in omega (arith, some, c))) kept_others

      -- the pages of both still say what they said
      pub left_now : Says new left (Between (said_left old size left right depth a b free is) (top depth a.last))
      left_now = says_kept old new size left (left ∷ []) (Between (said_left old size left right depth a b free is) (top depth a.last))
          (kept_of old new size (a.page ∷ b.page ∷ others) (left ∷ []) (λ n some. (let at = ap (λ (k : ℕ). occurs n (k ∷ [])) is.left_is in let c = occurs_append n (a.page ∷ []) (b.page ∷ others) in omega (arith, some, at, c))) kept)
          (occurs_here left []) (left_says old size left right depth a b free is)

      pub right_now : Says new right (Between (said_right old size left right depth a b free is) (top depth b.last))
      right_now = says_kept old new size right (right ∷ []) (Between (said_right old size left right depth a b free is) (top depth b.last))
          (kept_of old new size (a.page ∷ b.page ∷ others) (right ∷ []) (λ n some. (let at = ap (λ (k : ℕ). occurs n (k ∷ [])) is.right_is in let c = occurs_append n (a.page ∷ []) (b.page ∷ others) in
          let d = occurs_append n (b.page ∷ []) others in omega (arith, some, at, c, d))) kept)
          (occurs_here right []) (right_says old size left right depth a b free is)

      abbrev inner : Row
      inner = replaced zero (g.kids, g.last) b.kids b.last

      abbrev side : Row
      side = replaced (length a.kids) inner a.kids a.last

      joined_new : IsJoined (pages_in depth g.kids g.last) others (pages_in depth side.0 side.1)
      joined_new n =
          let mids = pages_in depth g.kids g.last in
          let e = ap (occurs n) (by_seam (pages_of depth) chain (g.kids, g.last) a.kids a.last b.kids b.last side refl) in
          let c = occurs_append n before (mids ++ behind_it) in
          let d = occurs_append n mids behind_it in
          let f = occurs_append n before behind_it in
          omega (arith, e, c, d, f)

      side_moves : Moves old new both free (pages_in depth side.0 side.1) g.now_free
      side_moves = beside_used old new (tops_in ++ belows_in) free (pages_in depth g.kids g.last) g.now_free others both (pages_in depth side.0 side.1) g.moves parts_in joined_new

      inner_lies : Each (Lies new size depth) inner.0 inner.1
      inner_lies = row_kept (Lies old size depth) (Lies new size depth) (pages_of depth) chain old new size (λ u k its. lies_kept old new size depth u k its) zero (g.kids, g.last) b.kids b.last
          (subst (λ (xs : List ℕ). AreKept old new size (xs ++ behind_it)) (sym (none_left (pages_of depth) chain b.kids b.last)) kept_behind) g.lies is.lies_right.1

      side_lies : Each (Lies new size depth) side.0 side.1
      side_lies = row_kept (Lies old size depth) (Lies new size depth) (pages_of depth) chain old new size (λ u k its. lies_kept old new size depth u k its) (length a.kids) inner a.kids a.last
          (subst (λ (xs : List ℕ). AreKept old new size xs) (sym (ap (λ (xs : List ℕ). before ++ xs) (none_right (pages_of depth) chain a.kids a.last) ∙ append-nil before)) kept_before) inner_lies is.lies_left.1

      left_keys : (n : ℕ) → occurs n (chains_of (entries_between a.kids)) ≤ occurs n before
      left_keys n =
          let row = row_pages (pages_of depth) n a.kids a.last in
          let le = pages_among (pages_of depth) (length a.kids) n a.kids a.last in
          let same = ap (λ (u : Tree depth). occurs n (pages_of depth u)) (at_end a.kids a.last) in
          let l = left_counts n in
          omega (arith, row, le, same, l)

      right_keys : (n : ℕ) → occurs n (chains_of (entries_between b.kids)) ≤ occurs n behind_it
      right_keys n =
          let row = row_pages (pages_of depth) n b.kids b.last in
          let le = pages_among (pages_of depth) zero n b.kids b.last in
          let r = right_counts n in
          omega (arith, row, le, r)

      abbrev its_left : List (ℕ × Local)
      its_left = said_left old size left right depth a b free is

      abbrev its_right : List (ℕ × Local)
      its_right = said_right old size left right depth a b free is

      shown_left : Pairwise (IsKidAs new size) its_left (children (top depth) a.kids)
      shown_left = kids_kept old new size (top depth) its_left a.kids (kept_of old new size before (chains_of (entries_between a.kids)) (λ n some. (let le = left_keys n in omega (arith, some, le))) kept_before) (is.lies_left.0).children

      shown_right : Pairwise (IsKidAs new size) its_right (children (top depth) b.kids)
      shown_right = kids_kept old new size (top depth) its_right b.kids (kept_of old new size behind_it (chains_of (entries_between b.kids)) (λ n some. (let le = right_keys n in omega (arith, some, le))) kept_behind) (is.lies_right.0).children

      counted : (said : List (ℕ × Local)) (kids : List (Tree depth × Held)) → Pairwise (IsKidAs new size) said (children (top depth) kids) → length said ≡ length kids
      counted [] [] pair = refl
      counted [] (kid ∷ kids) pair = absurd pair
      counted (it ∷ said) [] pair = absurd pair
      counted (it ∷ said) (kid ∷ kids) pair = ap suc (counted said kids pair.1)

      abbrev shows : ℕ → Side ℕ Local
      shows n = replaced n (replaced zero (g.news, fan.last) its_right (top depth b.last)) its_left (top depth a.last)

      entries_now : entries_in depth side.0 side.1 ≡ entries_of (suc depth) a ++ entries_of (suc depth) b
      entries_now =
          let l = before_last (entries_of depth) one a.kids a.last in
          let r = after_start (entries_of depth) one b.kids b.last in
          let x = entries_of depth last_tree in
          let y = entries_of depth first_tree in
          by_seam (entries_of depth) one (g.kids, g.last) a.kids a.last b.kids b.last side refl
          ∙ ap (λ (es : List Entry). l ++ (es ++ r)) g.entries_are
          ∙ ap (λ (es : List Entry). l ++ es) (append_assoc x y r)
          ∙ sym (append_assoc l x (y ++ r))
          ∙ ap (λ (es : List Entry). es ++ (y ++ r)) (sym (by_last (entries_of depth) one a.kids a.last))
          ∙ ap (λ (es : List Entry). entries_of (suc depth) a ++ es) (sym (by_start (entries_of depth) one b.kids b.last))

      seam_planned : (p : Packed) → IsSeamed size (shows (length a.kids)) p → IsPlanned old new size (suc depth) (entries_of (suc depth) a ++ entries_of (suc depth) b) both free p
      seam_planned p it =
          let inner_pair = pair_row new size zero g.news (children (top depth) g.kids) fan.last (top depth g.last) its_right (children (top depth) b.kids) (top depth b.last) (top depth b.last) g.shown (sym g.last_is) shown_right refl in
          let inner_shows = replaced zero (g.news, fan.last) its_right (top depth b.last) in
          let inner_seen = replaced zero (children (top depth) g.kids, top depth g.last) (children (top depth) b.kids) (top depth b.last) in
          let pair = pair_row new size (length a.kids) inner_shows.0 inner_seen.0 inner_shows.1 inner_seen.1 its_left (children (top depth) a.kids) (top depth a.last) (top depth a.last) inner_pair.0 inner_pair.1 shown_left refl in
          let same : seen (top depth) side ≡ replaced (length a.kids) inner_seen (children (top depth) a.kids) (top depth a.last) = (
          seen_row (top depth) (length a.kids) inner a.kids a.last
          ∙ ap (λ (s : Side ℕ Held). replaced (length a.kids) s (children (top depth) a.kids) (top depth a.last)) (seen_row (top depth) zero (g.kids, g.last) b.kids b.last)) in
          let hold = subst (λ (s : Side ℕ Held). Pairwise (IsKidAs new size) (shows (length a.kids)).0 s.0) (sym same) pair.0 in
          let ends : (shows (length a.kids)).1 ≡ top depth side.1 = pair.1 ∙ sym (ap (λ (s : Side ℕ Held). s.1) same) in
          let tops = branch_tops new size depth false it.cells (shows (length a.kids)).0 (shows (length a.kids)).1 side.0 side.1 p it.packs hold ends side_lies it.few in
          subst (λ (es : List Entry). IsPlanned old new size (suc depth) es both free p) entries_now
          (planned_by old new size (suc depth) (entries_in depth side.0 side.1) (pages_in depth side.0 side.1) both free p tops g.now_free g.has side_moves g.header)

      -- the cells of both pages, with the fan in place of the two children
      pub seamed_or : (result : Result Packed Fault) → Seams new size left fan right result
          → MatchResult result (IsPlanned old new size (suc depth) (entries_of (suc depth) a ++ entries_of (suc depth) b) both free) IsOutside
      seamed_or result seams = by result
          (subst (λ (n : ℕ). MatchResult result (IsSeamed size (shows n)) IsOutside) (counted its_left a.kids shown_left)
          (seams its_left g.news its_right (top depth a.last) (top depth b.last) whole_new is.sized (far_left old size left right (suc depth) a b free is) (far_right old size left right (suc depth) a b free is)
          left_now right_now g.near g.cells g.few))
        where
          by : (result : Result Packed Fault) → MatchResult result (IsSeamed size (shows (length a.kids))) IsOutside
              → MatchResult result (IsPlanned old new size (suc depth) (entries_of (suc depth) a ++ entries_of (suc depth) b) both free) IsOutside
          by (Ok p) it = seam_planned p it
          by (Err fault) outside = outside
