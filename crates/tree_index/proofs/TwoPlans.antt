-- An interior page two of whose children give way to others.
use Rattle.std.proofs.Common.{◌≡◌, ◌≤◌, ◌<◌, ◌+◌, ℕ, suc, List, [], ◌∷◌, ◌++◌, length, refl, sym, ap, subst, ◌∙◌, arith}
use Rattle.std.specs.List.{AllByRecursion}
use Rattle.std.specs.Prelude.{Result, Ok, Err, MatchResult}
use Rattle.sqlval.specs.PageSizes.{IsPageSize}
use Rattle.sqlval.specs.declared.fault.Fault.{Fault}
use Rattle.sqlval.specs.declared.fault.Fault.TheVariants.{Memory}
use Rattle.pages.specs.Calls.{IsOutsideOrFull}
use Rattle.pages.specs.Counting.{occurs, Moves}
use Rattle.pages.specs.Laws.{IsJoined}
use Rattle.pages.specs.Map.{PageMap, page_at, AreWhole, Has, IsThere}
use Rattle.pages.proofs.Moving.{occurs_append}
use Rattle.tree_page.specs.Cells.{Pairwise}
use Rattle.tree_page.specs.Node.{Local, Between, IsNode, IsBetweenCell}
use Rattle.tree_pack.specs.Packing.{Packs}
use Rattle.tree_pack.specs.declared.spreading.Packed.{Packed}
use Rattle.tree_page.specs.declared.items.Kind.TheVariants.{IndexInterior}
use Rattle.tree_store.specs.Saying.{Says}
use Rattle.tree_store.specs.Sides.{Side, Each, children}
use Rattle.tree_store.specs.Staying.{AreKept}
use Rattle.tree_store.specs.Storing.{IsStored, Stores, cells_of}
use Rattle.tree_store.specs.declared.storing.Fan.{Fan}
use Rattle.tree_store.proofs.Staying.{kept_of, says_kept, occurs_here}
use Rattle.tree_index.specs.Entries.{Entry}
use Rattle.tree_index.specs.Freeing.{StandsUnder, chains_of, below_of}
use Rattle.tree_index.specs.Growing.{replaced, IsFanned, IsPlanned, entries_in}
use Rattle.tree_index.specs.Joining.{tree_at, left_at, right_at, held_at, without_at, entries_around, pair_below, AreBeside, FansTwo}
use Rattle.tree_index.specs.Tree.{Held, IsKidAs, Tree, top, entries_of, pages_of, Lies}
use Rattle.tree_index.proofs.Branches.{kids_kept}
use Rattle.tree_index.proofs.Clearing.{number_far}
use Rattle.tree_index.proofs.Emptied.{large_size}
use Rattle.tree_index.proofs.Grown.{can_store_all, grown_after, grown_all}
use Rattle.tree_index.proofs.Growth.{IsGrown, chain, pages_in}
use Rattle.tree_index.proofs.Leaves.{usual}
use Rattle.tree_index.proofs.OneLess.{pairwise_without}
use Rattle.tree_index.proofs.Pairs.{one, left_same, right_same, children_without, each_without, pair_pages}
use Rattle.tree_index.proofs.Rows.{row_gives, seen, seen_row, pair_row, holds_at, row_kept, pages_among, row_split}
use Rattle.tree_index.proofs.Shares.{AreUpTo, beside_used, others_kept, start_after, after_first}
use Rattle.tree_index.proofs.Staying.{lies_kept}
use Rattle.tree_index.proofs.Subtrees.{entries_between, row_pages, pages_split, top_there, below_up}
use Rattle.tree_index.proofs.Tops.{branch_tops, planned_by}
use Rattle.tree_index.proofs.Widening.{full_or}

module _ (old : PageMap) (size number ways depth : ℕ) (t : Tree (suc depth)) (free : List ℕ) (under : StandsUnder old size number ways (suc depth) t free) (sized : IsPageSize size) (place : ℕ) (lt : place < length t.kids) where
  abbrev Row : Type 0
  Row = Side (Tree depth) Held

  abbrev pub left_tree : Tree depth
  left_tree = tree_at place t.kids t.last

  abbrev pub right_tree : Tree depth
  right_tree = tree_at (suc place) t.kids t.last

  abbrev between : List ℕ
  between = chains_of (held_at place t.kids)

  -- the row without the entry between them
  abbrev kids : List (Tree depth × Held)
  kids = without_at place t.kids

  abbrev left : List ℕ
  left = left_at (pages_of depth) chain place kids t.last

  abbrev right : List ℕ
  right = right_at (pages_of depth) chain place kids t.last

  abbrev others : List ℕ
  others = left ++ right

  abbrev pub tops_two : List ℕ
  tops_two = top depth left_tree ∷ top depth right_tree ∷ []

  abbrev pub belows : List ℕ
  belows = pair_below depth place t

  pub pair_counts : (n : ℕ) → occurs n (below_of (suc depth) t) ≡ occurs n left + occurs n (pages_of depth left_tree) + occurs n between + occurs n (pages_of depth right_tree) + occurs n right
  pair_counts n =
      let all = pair_pages (pages_of depth) n place t.kids t.last lt in
      let a = ap (occurs n) (left_same (pages_of depth) chain place t.kids t.last lt) in
      let b = ap (occurs n) (right_same (pages_of depth) chain place t.kids t.last lt) in
      omega (arith, all, a, b)

  -- the pages of both, told by their tops and what is below
  pub split_two : (n : ℕ) → occurs n tops_two + occurs n belows ≡ occurs n (pages_of depth left_tree) + occurs n between + occurs n (pages_of depth right_tree)
  split_two n =
      let a = ap (occurs n) (pages_split depth left_tree) in
      let b = ap (occurs n) (pages_split depth right_tree) in
      let c = occurs_append n (below_of depth left_tree) (between ++ below_of depth right_tree) in
      let d = occurs_append n between (below_of depth right_tree) in
      let e = occurs_append n (top depth left_tree ∷ []) (below_of depth left_tree) in
      let f = occurs_append n (top depth right_tree ∷ []) (below_of depth right_tree) in
      let g = occurs_append n (top depth left_tree ∷ []) (top depth right_tree ∷ []) in
      omega (arith, a, b, c, d, e, f, g)

  pub parts_two : IsJoined (tops_two ++ belows) others (below_of (suc depth) t)
  parts_two n =
      let all = pair_counts n in
      let two = split_two n in
      let a = occurs_append n tops_two belows in
      let b = occurs_append n left right in
      omega (arith, all, two, a, b)

  pub here_once : (n : ℕ) → occurs n (t.page ∷ below_of (suc depth) t) + occurs n free ≤ 1
  here_once n = under.apart n

  lies_left : Lies old size depth left_tree
  lies_left = holds_at (Lies old size depth) place t.kids t.last under.lies.1

  lies_right : Lies old size depth right_tree
  lies_right = holds_at (Lies old size depth) (suc place) t.kids t.last under.lies.1

  pub two_beside : AreBeside old size (top depth left_tree) (top depth right_tree) depth left_tree right_tree free
  two_beside = record {
    left_is = refl;
    right_is = refl;
    lies_left = lies_left;
    lies_right = lies_right;
    apart = λ n. (let all = here_once n in let parts = pair_counts n in omega (arith, all, parts));
    first = (let none = under.first in let parts = pair_counts 1 in omega (arith, none, parts));
    free_are = under.free_are;
    sized = sized;
  }

  pub page_says : Says old number (Between (under.lies.0).said (top depth t.last))
  page_says = subst (λ (n : ℕ). Says old n (Between (under.lies.0).said (top depth t.last))) under.top_is (under.lies.0).says

  there_two : AllByRecursion (Has old) tops_two
  there_two = (top_there old size depth left_tree lies_left, (top_there old size depth right_tree lies_right, tt))

  far_two : AllByRecursion (λ n. 1 < n) tops_two
  far_two =
      let none = under.first in
      let parts = pair_counts 1 in
      let two = split_two 1 in
      let a = occurs_append 1 (top depth left_tree ∷ []) (top depth right_tree ∷ []) in (
        after_first old (top depth left_tree) [] (top_there old size depth left_tree lies_left) (omega (arith, none, parts, two, a)),
        (after_first old (top depth right_tree) [] (top_there old size depth right_tree lies_right) (omega (arith, none, parts, two, a)), tt),
      )

  apart_two : (n : ℕ) → occurs n tops_two + occurs n belows + occurs n free ≤ 1
  apart_two n = (let all = here_once n in let parts = pair_counts n in let two = split_two n in omega (arith, all, parts, two))

  first_two : occurs 1 belows ≡ 0
  first_two = (let none = under.first in let parts = pair_counts 1 in let two = split_two 1 in omega (arith, none, parts, two))

  up_two : AreUpTo (length old) belows
  up_two n some = below_up old size (suc depth) t under.lies n (let parts = pair_counts n in let two = split_two n in omega (arith, some, parts, two))

  module _ (mid : PageMap) (entries : List Entry) (packed : Packed) (plan : IsPlanned old mid size depth entries belows free packed) where
    pub store_two : (new : PageMap) (result : Result Fan Fault) → Stores mid new size tops_two packed result → MatchResult result (IsStored mid new size tops_two plan.now_free packed) IsOutsideOrFull
    store_two new result stores = by result stores
      where
        by : (result : Result Fan Fault) → Stores mid new size tops_two packed result → MatchResult result (IsStored mid new size tops_two plan.now_free packed) IsOutsideOrFull
        by (Ok fan) stores = stores plan.now_free (grown_after old mid size depth (top depth left_tree) (top depth right_tree ∷ []) belows free entries packed plan under.free_are there_two far_two apart_two first_two up_two).are
            (can_store_all old mid size depth (top depth left_tree) (top depth right_tree ∷ []) belows free entries packed plan under.free_are there_two far_two apart_two first_two up_two) plan.sized
        by (Err fault) stores = full_or fault (stores plan.now_free (grown_after old mid size depth (top depth left_tree) (top depth right_tree ∷ []) belows free entries packed plan under.free_are there_two far_two apart_two first_two up_two).are
            (can_store_all old mid size depth (top depth left_tree) (top depth right_tree ∷ []) belows free entries packed plan under.free_are there_two far_two apart_two first_two up_two) plan.sized)

    module _ (new : PageMap) (fan : Fan) (is : IsStored mid new size tops_two plan.now_free packed fan) where
      g : IsGrown old new size (top depth left_tree) depth entries (tops_two ++ belows) free fan
      g = grown_all old mid size depth (top depth left_tree) (top depth right_tree ∷ []) belows free entries packed plan under.free_are there_two far_two apart_two first_two up_two new fan is

      whole_new : AreWhole size new
      whole_new = (g.moves).whole size (under.free_are).whole

      kept : AreKept old new size (t.page ∷ others)
      kept = others_kept old new size (tops_two ++ belows) free (pages_in depth g.kids g.last) g.now_free (t.page ∷ others) (under.free_are).whole g.moves
          (λ n some. (let all = here_once n in let part = parts_two n in omega (arith, all, part, some)))

      says_new : Says new number (Between (under.lies.0).said (top depth t.last))
      says_new = subst (λ (n : ℕ). Says new n (Between (under.lies.0).said (top depth t.last))) under.top_is
          (says_kept old new size t.page (t.page ∷ others) (Between (under.lies.0).said (top depth t.last)) kept (occurs_here t.page others) (under.lies.0).says)

      pub page_there : IsThere new size number
      page_there = record { has = says_new.has; whole = whole_new number says_new.has }

      long : length (page_at new number) ≡ size
      long = page_there.whole

      node : IsNode (page_at new number) 0 (Between (under.lies.0).said (top depth t.last))
      node = subst (λ (n : ℕ). IsNode (page_at new number) n (Between (under.lies.0).said (top depth t.last))) (start_after number (number_far old size number ways (suc depth) t free under)) says_new.node_is

      abbrev window : Row
      window = (g.kids, g.last)

      abbrev side : Row
      side = replaced place window kids t.last

      abbrev said : List (ℕ × Local)
      said = without_at place (under.lies.0).said

      joined_new : IsJoined (pages_in depth g.kids g.last) others (pages_in depth side.0 side.1)
      joined_new n =
          let mids = pages_in depth g.kids g.last in
          let e = ap (occurs n) (row_gives (pages_of depth) chain place window kids t.last) in
          let a = occurs_append n left (mids ++ right) in
          let b = occurs_append n mids right in
          let c = occurs_append n left right in
          omega (arith, e, a, b, c)

      side_moves : Moves old new (below_of (suc depth) t) free (pages_in depth side.0 side.1) g.now_free
      side_moves = beside_used old new (tops_two ++ belows) free (pages_in depth g.kids g.last) g.now_free others (below_of (suc depth) t) (pages_in depth side.0 side.1) g.moves parts_two joined_new

      side_lies : Each (Lies new size depth) side.0 side.1
      side_lies = row_kept (Lies old size depth) (Lies new size depth) (pages_of depth) chain old new size (λ u k its. lies_kept old new size depth u k its) place window kids t.last
          (kept_of old new size (t.page ∷ others) others (λ n some. omega (arith, some)) kept) g.lies (each_without (Lies old size depth) place t.kids t.last under.lies.1)

      keys_among : (n : ℕ) → occurs n (chains_of (entries_between kids)) ≤ occurs n others
      keys_among n =
          let row = row_pages (pages_of depth) n kids t.last in
          let le = pages_among (pages_of depth) place n kids t.last in
          let e = ap (occurs n) (row_split (pages_of depth) chain place kids t.last) in
          let mids = pages_of depth (tree_at place kids t.last) in
          let a = occurs_append n left (mids ++ right) in
          let b = occurs_append n mids right in
          let c = occurs_append n left right in
          omega (arith, row, le, e, a, b, c)

      kids_shown : Pairwise (IsKidAs new size) said (children (top depth) kids)
      kids_shown = kids_kept old new size (top depth) said kids
          (kept_of old new size (t.page ∷ others) (chains_of (entries_between kids)) (λ n some. (let le = keys_among n in omega (arith, le, some))) kept)
          (subst (λ (cells : List (ℕ × Held)). Pairwise (IsKidAs old size) said cells) (sym (children_without (top depth) place t.kids))
          (pairwise_without (IsKidAs old size) place (under.lies.0).said (children (top depth) t.kids) (under.lies.0).children))

      entries_now : entries_in depth side.0 side.1 ≡ entries_around depth place entries t
      entries_now =
          row_gives (entries_of depth) one place window kids t.last
          ∙ ap (λ (es : List Entry). left_at (entries_of depth) one place kids t.last ++ (es ++ right_at (entries_of depth) one place kids t.last)) g.entries_are
          ∙ ap (λ (es : List Entry). es ++ (entries ++ right_at (entries_of depth) one place kids t.last)) (left_same (entries_of depth) one place t.kids t.last lt)
          ∙ ap (λ (es : List Entry). left_at (entries_of depth) one place t.kids t.last ++ (entries ++ es)) (right_same (entries_of depth) one place t.kids t.last lt)

      plan_two : (p : Packed) → IsFanned (page_at new number) (replaced place (g.news, fan.last) said (top depth t.last)) fan p
          → IsPlanned old new size (suc depth) (entries_around depth place entries t) (below_of (suc depth) t) free p
      plan_two p is =
          let shows = replaced place (g.news, fan.last) said (top depth t.last) in
          let pair = pair_row new size place g.news (children (top depth) g.kids) fan.last (top depth g.last) said (children (top depth) kids) (top depth t.last) (top depth t.last) g.shown (sym g.last_is) kids_shown refl in
          let same : seen (top depth) side ≡ replaced place (children (top depth) g.kids, top depth g.last) (children (top depth) kids) (top depth t.last) = seen_row (top depth) place window kids t.last in
          let hold = subst (λ (shown : Side ℕ Held). Pairwise (IsKidAs new size) shows.0 shown.0) (sym same) pair.0 in
          let ends : shows.1 ≡ top depth side.1 = pair.1 ∙ sym (ap (λ (shown : Side ℕ Held). shown.1) same) in
          let packs = subst (λ (n : ℕ). Packs IndexInterior n [] is.rises is.cells (Between shows.0 shows.1) p) long is.packs in
          let tops = branch_tops new size depth is.rises is.cells shows.0 shows.1 side.0 side.1 p packs hold ends side_lies (let few = is.few in omega (arith, few)) in
          subst (λ (es : List Entry). IsPlanned old new size (suc depth) es (below_of (suc depth) t) free p) entries_now
          (planned_by old new size (suc depth) (entries_in depth side.0 side.1) (pages_in depth side.0 side.1) (below_of (suc depth) t) free p tops g.now_free g.has side_moves g.header)

      -- the page above has the fan in place of both
      pub spread_or : (page : List ℕ) (result : Result Packed Fault) → page ≡ page_at new number → FansTwo page place fan result
          → MatchResult result (IsPlanned old new size (suc depth) (entries_around depth place entries t) (below_of (suc depth) t) free) (λ fault. fault ≡ Memory)
      spread_or page result page_is fans = by result
          ((subst (λ (bytes : List ℕ). FansTwo bytes place fan result) page_is fans) (under.lies.0).said g.news (top depth t.last) node (usual (page_at new number) size (large_size size sized) long)
          (let a = counted (under.lies.0).said t.kids (under.lies.0).children in omega (arith, a, lt)) g.near (subst (λ (n : ℕ). Pairwise (IsBetweenCell n) (cells_of fan) g.news) (sym long) g.cells) g.few)
        where
          counted : (said : List (ℕ × Local)) (kids : List (Tree depth × Held)) → Pairwise (IsKidAs old size) said (children (top depth) kids) → length said ≡ length kids
          counted [] [] pair = refl
          counted [] (kid ∷ kids) pair = absurd pair
          counted (it ∷ said) [] pair = absurd pair
          counted (it ∷ said) (kid ∷ kids) pair = ap suc (counted said kids pair.1)

          by : (result : Result Packed Fault) → MatchResult result (IsFanned (page_at new number) (replaced place (g.news, fan.last) said (top depth t.last)) fan) (λ fault. fault ≡ Memory)
              → MatchResult result (IsPlanned old new size (suc depth) (entries_around depth place entries t) (below_of (suc depth) t) free) (λ fault. fault ≡ Memory)
          by (Err fault) memory = memory
          by (Ok p) fanned = plan_two p fanned
