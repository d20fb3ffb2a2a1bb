-- A page above a subtree that has grown.
use Rattle.std.proofs.Common.{◌≡◌, ◌≤◌, ◌<◌, ◌+◌, ◌-◌, ℕ, suc, ℤ, List, [], ◌∷◌, ◌++◌, length, map, take, refl, sym, ap, subst, ◌∙◌, arith}
use Rattle.std.proofs.lemmas.Grind.{common_steps}
use Rattle.std.proofs.lemmas.List.{length-map, length-take-le}
use Rattle.std.specs.List.{AllByRecursion}
use Rattle.sqlval.specs.PageSizes.{IsPageSize}
use Rattle.tree_leaf.specs.Leaf.{Entry}
use Rattle.pages.specs.Counting.{occurs, start_of, body_at, Moves}
use Rattle.pages.specs.Laws.{IsJoined}
use Rattle.pages.specs.Map.{PageMap, page_at, AreWhole}
use Rattle.pages.proofs.Moving.{occurs_append}
use Rattle.freelist.specs.Calls.{HasFree, KeepsHeader}
use Rattle.tree_overflow.proofs.Laying.{beside}
use Rattle.tree_page.specs.Cells.{Pairwise}
use Rattle.tree_page.specs.Node.{Keys, IsKeyCell}
use Rattle.tree_page.proofs.HeaderLemmas.{same_length}
use Rattle.tree_pack.specs.Building.{cell_room}
use Rattle.tree_pack.specs.Parts.{total}
use Rattle.tree_pack.specs.Packing as packing
use Rattle.tree_pack.specs.Packing.{IsKey, images, divider_bytes, Packs}
use Rattle.tree_page.specs.declared.items.Kind.TheVariants.{TableInterior}
use Rattle.tree_pack.specs.Lists.{side_parts, entry_parts}
use Rattle.tree_pack.specs.Rows.{LieWithin}
use Rattle.tree_pack.proofs.RowLemmas.{cut_within}
use Rattle.tree_pack.specs.declared.spreading.Packed.{Packed}
use Rattle.tree_pack.specs.declared.spreading.Piece.{Piece}
use Rattle.tree_store.specs.Saying.{Says}
use Rattle.tree_store.specs.Sides.{Side, children, each_of, nothing, Each, Parted}
use Rattle.tree_store.specs.Frames.{framed, left_of, right_of}
use Rattle.tree_store.specs.Storing.{cells_of}
use Rattle.tree_store.specs.declared.storing.Fan.{Fan}
use Rattle.tree_store.proofs.Windows.{frame_gives}
use Rattle.tree_table.specs.Fanning.{fanned, IsFanned}
use Rattle.tree_table.specs.Growing.{below_of, IsTop, all_of, IsPlanned, IsUnder, IsPut}
use Rattle.tree_table.specs.Rows.{payload_at, IsLocal}
use Rattle.tree_table.specs.Tree.{Tree, top, rows_of, pages_of, IsSorted, Lies}
use Rattle.tree_table.proofs.Cutting.{cut_into}
use Rattle.tree_table.proofs.Few.{few_parts, large_size}
use Rattle.tree_table.proofs.Growth.{IsGrown}
use Rattle.tree_table.proofs.Holes.{Kids, pages_in, seen, IsHole, among}
use Rattle.tree_table.proofs.Orders.{payload_within}
use Rattle.tree_table.proofs.Passing.{beside_used, others_seen, top_there}
use Rattle.tree_table.proofs.Planting.{pages_split}
use Rattle.tree_table.proofs.Starts.{parts_counted, sides_count, begins_same, no_counts, front_alone}
use Rattle.tree_table.proofs.Staying.{says_stays, lies_stays}

start_le : (n : ℕ) → start_of n ≤ 100
start_le n = grind (arith, common_steps)

-- the packed pages of a row of subtrees that lies in a window's place
pub plan_side : (old mid : PageMap) (size number depth : ℕ) (low high : ℤ) → IsPageSize size → (used free : List ℕ) (rows : List Entry) (s : Side (Tree depth) ℤ) → Each (Lies mid size depth) s.0 s.1
    → Parted (IsSorted depth) low s.0 s.1 high → each_of (rows_of depth) nothing s.0 s.1 ≡ rows → (now_free : List ℕ) → HasFree mid size now_free → Moves old mid used free (pages_in depth s.0 s.1) now_free
    → KeepsHeader old mid → length (page_at mid number) ≡ size → (fan : Fan) → total (map cell_room (cells_of fan)) ≤ 120 → (side : Side ℕ ℤ) → side ≡ seen (top depth) s → (packed : Packed)
    → IsFanned (page_at mid number) (start_of number) side fan packed → IsPlanned old mid size number (suc depth) low high rows used free packed
plan_side old mid size number depth low high sized used free rows s lies sorted rows_are now_free has moves header long fan few_cells side shown packed is =
    let packs = is.packs in
    let page = page_at mid number in
    let start = start_of number in
    let sizes = large_size size sized in
    let near = start_le number in
    let front_len : length (take start page) ≡ start = length-take-le start page (omega (arith, long, sizes.0, near)) in
    let packs_now : Packs TableInterior (length page) (take start page) is.rises is.cells (Keys (seen (top depth) s).0 (seen (top depth) s).1) packed =
    subst (λ (side : Side ℕ ℤ). Packs TableInterior (length page) (take start page) is.rises is.cells (Keys side.0 side.1) packed) shown packs in
    let keys = (side_parts packs_now.counts (seen (top depth) s)).0 in
    let room : ℕ = length page - length (take start page) - 8 - 4 in
    let cell_count : length (map cell_room is.cells) ≡ length (seen (top depth) s).0 =
    length-map is.cells cell_room ∙ same_length IsKeyCell is.cells _ is.say ∙ ap (λ (side : Side ℕ ℤ). length side.0) shown in
    let within = subst (λ (n : ℕ). LieWithin 1 packs_now.counts n) cell_count (cut_within 1 room is.rises (map cell_room is.cells) packs_now.counts packs_now.cut) in
    let piece_count : length packed.pieces.items ≡ length (entry_parts packs_now.counts (seen (top depth) s).0).0 = (
    sym (length-map packed.pieces.items (λ (piece : Piece). piece.divider.items)) ∙ same_length IsKey (divider_bytes packed) _ packs_now.divide
    ∙ length-map keys (λ part. part.1) ∙ sides_count (entry_parts packs_now.counts (seen (top depth) s).0).0) in
    let counted = parts_counted packs_now.counts (seen (top depth) s).0 (length packed.pieces.items) within piece_count in
    let at = packing.start_of (take start page) packs_now.counts in
    let cut = cut_into mid size depth at low high s.0 s.1 packs_now.counts (images packed) lies sorted packs_now.say in
    record {
      kids = cut.kids;
      last = cut.last;
      tops = subst (λ (n : ℕ). Pairwise (IsTop mid size (suc depth) n) (images packed) (all_of cut.kids cut.last)) (begins_same (take start page) number packs_now.counts packed.pieces.items counted front_len) cut.tops;
      divide = subst (λ (ks : List ℤ). Pairwise IsKey (divider_bytes packed) ks) cut.keys_are packs_now.divide;
      sorted = cut.sorted;
      rows_are = sym (cut.gives (rows_of depth)) ∙ rows_are;
      now_free = now_free;
      has = has;
      moves = subst (λ (pages : List ℕ). Moves old mid (number ∷ used) free (number ∷ pages) now_free) (cut.gives (pages_of depth)) (beside old mid used free (pages_in depth s.0 s.1) now_free number moves);
      header = header;
      sized = subst (λ (n : ℕ). AllByRecursion (λ image. length image ≡ n) (images packed)) long packs_now.sized;
      front = λ none. front_alone (take start page) packed.last.items start front_len (packs_now.front_is (no_counts packs_now.counts packed.pieces.items counted none));
      few = (let most = few_parts 1 room is.rises (map cell_room is.cells) packs_now.counts packs_now.cut (omega (arith, long, front_len, sizes.0, near))
          (let cells = is.room in let few = few_cells in omega (arith, cells, few, front_len, near, long, sizes.0)) in let le = counted.few in omega (arith, most, le));
    }

module _ (old : PageMap) (size number ways : ℕ) (rowid : ℤ) (edit : List Entry → List Entry) (depth : ℕ) (low : ℤ) (t : Tree (suc depth)) (high : ℤ) (free : List ℕ)
    (under : IsUnder old size number (suc ways) rowid (suc depth) low t high free) (place : ℕ) (h : IsHole depth rowid low t.kids t.last high place) where
  abbrev Row : Type 0
  Row = Side (Tree depth) ℤ

  child_among : (n : ℕ) → occurs n (pages_of depth h.tree) ≤ occurs n (pages_in depth t.kids t.last)
  child_among n = h.each (λ u. occurs n (pages_of depth u) ≤ occurs n (pages_in depth t.kids t.last)) (among depth n t.kids t.last)

  -- the subtree that has the row's place
  pub under_child : IsUnder old size (top depth h.tree) ways rowid depth h.from h.tree h.to free
  under_child = record {
    top_is = refl;
    lies = h.each (Lies old size depth) (under.lies).1;
    sorted = h.sorted;
    above = h.above;
    upto = h.upto;
    shallow = (let le = under.shallow in omega (arith, le));
    apart = λ n. (let all = under.apart n in let part = child_among n in omega (arith, all, part));
    first = (let none = under.first in let part = child_among 1 in let e = ap (occurs 1) (pages_split depth h.tree) in omega (arith, none, part, e));
    free_are = under.free_are;
    sized = under.sized;
  }

  pub child_far : 1 < top depth h.tree
  child_far =
      let there = (top_there old size depth h.tree (h.each (Lies old size depth) (under.lies).1)).first in
      let none = under.first in
      let part = child_among 1 in
      let e = ap (occurs 1) (pages_split depth h.tree) in
      not_one (top depth h.tree) (below_of depth h.tree) there (omega (arith, none, part, e))
    where
      not_one : (n : ℕ) (rest : List ℕ) → 1 ≤ n → occurs 1 (n ∷ rest) ≡ 0 → 1 < n
      not_one n rest some none = grind (arith, common_steps)

  -- ---- rows

  abbrev left : List Entry
  left = left_of (rows_of depth) nothing h.frame

  abbrev right : List Entry
  right = right_of (rows_of depth) nothing h.frame

  rows_split : rows_of (suc depth) t ≡ left ++ (rows_of depth h.tree ++ right)
  rows_split = ap (λ (s : Row). each_of (rows_of depth) nothing s.0 s.1) (sym h.whole) ∙ frame_gives (rows_of depth) nothing h.frame ([], h.tree)

  pub payload_same : payload_at rowid (rows_of (suc depth) t) ≡ payload_at rowid (rows_of depth h.tree)
  payload_same = ap (payload_at rowid) rows_split ∙ payload_within rowid left (rows_of depth h.tree) right h.left h.right

  rows_with : IsLocal rowid h.to edit → (window : Row) → each_of (rows_of depth) nothing window.0 window.1 ≡ edit (rows_of depth h.tree)
      → each_of (rows_of depth) nothing (framed h.frame window).0 (framed h.frame window).1 ≡ edit (rows_of (suc depth) t)
  rows_with about window e =
      frame_gives (rows_of depth) nothing h.frame window ∙ ap (λ (rows : List Entry). left ++ (rows ++ right)) e
      ∙ sym (ap edit rows_split ∙ about.within left (rows_of depth h.tree) right h.left h.beyond)

  -- ---- pages

  abbrev others : List ℕ
  others = left_of (pages_of depth) nothing h.frame ++ right_of (pages_of depth) nothing h.frame

  joined : (window : Row) → IsJoined (pages_in depth window.0 window.1) others (pages_in depth (framed h.frame window).0 (framed h.frame window).1)
  joined window n =
      let a = left_of (pages_of depth) nothing h.frame in
      let b = right_of (pages_of depth) nothing h.frame in
      let mid = pages_in depth window.0 window.1 in
      let e = ap (occurs n) (frame_gives (pages_of depth) nothing h.frame window) in
      let one = occurs_append n a (mid ++ b) in
      let two = occurs_append n mid b in
      let both = occurs_append n a b in
      omega (arith, e, one, two, both)

  joined_old : IsJoined (pages_of depth h.tree) others (pages_in depth t.kids t.last)
  joined_old n = (let e = ap (λ (s : Row). occurs n (pages_in depth s.0 s.1)) h.whole in let j = joined ([], h.tree) n in omega (arith, e, j))

  -- ---- the page with others in place of the child

  module _ (mid : PageMap) (window : Row) (now_free : List ℕ) (moves : Moves old mid (pages_of depth h.tree) free (pages_in depth window.0 window.1) now_free)
      (lies : Each (Lies mid size depth) window.0 window.1) where
    abbrev side : Row
    side = framed h.frame window

    whole_mid : AreWhole size mid
    whole_mid = moves.whole size (under.free_are).whole

    side_lies : Each (Lies mid size depth) side.0 side.1
    side_lies = h.fill (Lies old size depth) (Lies mid size depth) window lies
        (λ u some is. lies_stays old mid moves.longer size (under.free_are).whole whole_mid depth u
        (others_seen old mid (pages_of depth h.tree) free (pages_in depth window.0 window.1) now_free (pages_of depth u) moves
        (λ n so. (let all = under.apart n in let part = some n in omega (arith, all, part, so)))) is) (under.lies).1

    side_moves : Moves old mid (pages_in depth t.kids t.last) free (pages_in depth side.0 side.1) now_free
    side_moves = beside_used old mid (pages_of depth h.tree) free (pages_in depth window.0 window.1) now_free others (pages_in depth t.kids t.last) (pages_in depth side.0 side.1) moves
        joined_old (joined window)

    page_seen : body_at mid t.page ≡ body_at old t.page
    page_seen = (let is = (under.lies).0 in
        moves.keeps t.page is.has.first is.has.last (let all = under.apart t.page in let part = child_among t.page in let self = here t.page (pages_in depth t.kids t.last) in omega (arith, all, part, self)))
      where
        here : (n : ℕ) (xs : List ℕ) → occurs n (n ∷ xs) ≡ 1 + occurs n xs
        here n xs = grind (arith, common_steps)

    -- the page is as it was
    pub page_stays : body_at mid number ≡ body_at old number
    page_stays = subst (λ (n : ℕ). body_at mid n ≡ body_at old n) under.top_is page_seen

    page_says : Says mid t.page (Keys (children (top depth) t.kids) (top depth t.last))
    page_says = says_stays old mid moves.longer size (under.free_are).whole whole_mid t.page (Keys (children (top depth) t.kids) (top depth t.last)) page_seen (under.lies).0

  -- ---- one page in place of the child, which kept its number

  pub put_above : IsLocal rowid h.to edit → (mid : PageMap) → IsPut old mid size (top depth h.tree) depth h.from h.to (edit (rows_of depth h.tree)) (pages_of depth h.tree) free
      → IsPut old mid size number (suc depth) low high (edit (rows_of (suc depth) t)) (pages_of (suc depth) t) free
  put_above about mid p =
      let window : Row = ([], p.tree) in
      let s = framed h.frame window in
      let same : seen (top depth) s ≡ seen (top depth) (t.kids, t.last) = (
      h.fan window ∙ ap (λ (n : ℕ). fanned place [] n (children (top depth) t.kids) (top depth t.last)) p.top_is ∙ sym (h.fan ([], h.tree)) ∙ ap (λ (r : Row). seen (top depth) r) h.whole) in
      record {
        tree = record { page = t.page; kids = s.0; last = s.1 };
        top_is = under.top_is;
        lies = (
          subst (λ (shown : Side ℕ ℤ). Says mid t.page (Keys shown.0 shown.1)) (sym same) (page_says mid window p.now_free p.moves p.lies),
          side_lies mid window p.now_free p.moves p.lies,
        );
        sorted = h.opening.fill window p.sorted;
        rows_are = rows_with about window p.rows_are;
        now_free = p.now_free;
        has = p.has;
        moves = beside old mid (pages_in depth t.kids t.last) free (pages_in depth s.0 s.1) p.now_free t.page (side_moves mid window p.now_free p.moves p.lies);
        header = p.header;
      }

  pub grown_alone : (mid : PageMap) (fan : Fan) (g : IsGrown old mid size (top depth h.tree) depth h.from h.to (edit (rows_of depth h.tree)) (pages_of depth h.tree) free fan) → cells_of fan ≡ []
      → IsPut old mid size (top depth h.tree) depth h.from h.to (edit (rows_of depth h.tree)) (pages_of depth h.tree) free
  grown_alone mid fan g none =
      let alone = g.alone none in
      record {
        tree = g.last;
        top_is = g.last_is ∙ alone.1;
        lies = subst (λ (ks : Kids depth). Each (Lies mid size depth) ks g.last) alone.0 g.lies;
        sorted = subst (λ (ks : Kids depth). Parted (IsSorted depth) h.from ks g.last h.to) alone.0 g.sorted;
        rows_are = subst (λ (ks : Kids depth). each_of (rows_of depth) nothing ks g.last ≡ edit (rows_of depth h.tree)) alone.0 g.rows_are;
        now_free = g.now_free;
        has = g.has;
        moves = subst (λ (ks : Kids depth). Moves old mid (pages_of depth h.tree) free (pages_in depth ks g.last) g.now_free) alone.0 g.moves;
        header = g.header;
      }

  -- ---- several pages in place of the child

  -- the page's children are these, and so it says
  pub page_at_mid : (mid : PageMap) (fan : Fan) (g : IsGrown old mid size (top depth h.tree) depth h.from h.to (edit (rows_of depth h.tree)) (pages_of depth h.tree) free fan)
      → Says mid number (Keys (children (top depth) t.kids) (top depth t.last))
  page_at_mid mid fan g = subst (λ (n : ℕ). Says mid n (Keys (children (top depth) t.kids) (top depth t.last))) under.top_is (page_says mid (g.kids, g.last) g.now_free g.moves g.lies)

  pub plan_above : IsLocal rowid h.to edit → (mid : PageMap) (fan : Fan) (g : IsGrown old mid size (top depth h.tree) depth h.from h.to (edit (rows_of depth h.tree)) (pages_of depth h.tree) free fan) (packed : Packed)
      → IsFanned (page_at mid number) (start_of number) (fanned place (children (top depth) g.kids) fan.last (children (top depth) t.kids) (top depth t.last)) fan packed
      → IsPlanned old mid size number (suc depth) low high (edit (rows_of (suc depth) t)) (below_of (suc depth) t) free packed
  plan_above about mid fan g packed is =
      let window : Row = (g.kids, g.last) in
      let s = framed h.frame window in
      let long = whole_mid mid window g.now_free g.moves g.lies number (page_at_mid mid fan g).has in
      plan_side old mid size number depth low high under.sized (below_of (suc depth) t) free (edit (rows_of (suc depth) t)) s (side_lies mid window g.now_free g.moves g.lies) (h.opening.fill window g.sorted)
      (rows_with about window g.rows_are) g.now_free g.has (side_moves mid window g.now_free g.moves g.lies) g.header long fan g.few
      (fanned place (children (top depth) g.kids) fan.last (children (top depth) t.kids) (top depth t.last))
      (ap (λ (n : ℕ). fanned place (children (top depth) g.kids) n (children (top depth) t.kids) (top depth t.last)) (sym g.last_is) ∙ sym (h.fan window)) packed is
