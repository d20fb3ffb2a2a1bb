-- Subtrees stand in the place of one, once their pages are stored.
use Rattle.std.proofs.Common.{◌≡◌, ◌≤◌, ◌<◌, ◌+◌, ◌*◌, ◌^◌, ℕ, ℤ, List, [], ◌∷◌, ◌++◌, length, map, refl, sym, ap, subst, ◌∙◌, inl, inr, arith}
use Rattle.std.proofs.lemmas.List.{length-append, length-map}
use Rattle.std.specs.Int.{w32, to_be_bytes}
use Rattle.tree_leaf.specs.Leaf.{Entry}
use Rattle.pages.specs.Counting.{occurs, Moves}
use Rattle.pages.specs.Map.{PageMap, Has}
use Rattle.pages.proofs.Moving.{in_sequence, occurs_append}
use Rattle.freelist.specs.Calls.{HasFree, KeepsHeader}
use Rattle.freelist.proofs.Lists.{occurs_self}
use Rattle.tree_overflow.proofs.Laying.{keeps_then}
use Rattle.tree_page.specs.Cells.{Pairwise}
use Rattle.tree_page.specs.Node.{IsKeyCell}
use Rattle.tree_pack.specs.Building.{cell_room}
use Rattle.tree_pack.specs.Packing.{IsKey, images, divider_bytes}
use Rattle.tree_pack.specs.Parts.{total}
use Rattle.tree_pack.specs.declared.spreading.Packed.{Packed}
use Rattle.tree_pack.specs.declared.spreading.Piece.{Piece}
use Rattle.tree_store.specs.Sides.{children, each_of, nothing, Each, Parted}
use Rattle.tree_store.specs.Storing.{BeginsAs, AreOlds, IsStored, cells_of, cells_over}
use Rattle.tree_store.specs.declared.storing.Fan.{Fan}
use Rattle.tree_table.specs.Growing.{below_of, IsTop, all_of, start_in, IsPlanned, IsUnder}
use Rattle.tree_table.specs.Tree.{Tree, top, rows_of, pages_of, IsSorted, Lies}
use Rattle.tree_table.proofs.Holes.{Kids, keys_of, pages_in}
use Rattle.tree_table.proofs.Passing.{IsAfter, after_top, once_after, top_there, tree_up, beside_used, others_seen, AreUpTo}
use Rattle.tree_table.proofs.Planting.{plant, pages_split, after_one}
use Rattle.tree_table.proofs.Staying.{shows_stays}

-- Subtrees stand in the place of one, on these pages, and hold these rows.
pub record IsGrown (old new : PageMap) (size child depth : ℕ) (low high : ℤ) (rows : List Entry) (used free : List ℕ) (fan : Fan) : Type 0 where
  pub kids : Kids depth
  pub last : Tree depth
  pub last_is : top depth last ≡ fan.last
  pub near : fan.last < 2 ^ 32
  pub lies : Each (Lies new size depth) kids last
  pub sorted : Parted (IsSorted depth) low kids last high
  pub rows_are : each_of (rows_of depth) nothing kids last ≡ rows
  pub cells_are : Pairwise IsKeyCell (cells_of fan) (children (top depth) kids)
  pub now_free : List ℕ
  pub has : HasFree new size now_free
  pub moves : Moves old new used free (pages_in depth kids last) now_free
  pub header : KeepsHeader old new
  pub alone : cells_of fan ≡ [] → (kids ≡ []) × (fan.last ≡ child)
  pub few : total (map cell_room (cells_of fan)) ≤ 120

-- ---- few cells

-- a key has at most nine bytes
pub key_len : (bytes : List ℕ) (key : ℤ) → IsKey bytes key → length bytes ≤ 9
key_len bytes key is =
    let v = is.key_is in
    let len : length bytes ≡ length v.high + 1 = omega (arith, ap length v.spelled, length-append (map (λ digit. 128 + digit) v.high) (v.last ∷ []), length-map v.high (λ (digit : ℕ). 128 + digit)) in
    elim v.ends [
      | inl short ↦ (let lt = short.0 in omega (arith, lt, len))
      | inr full ↦ (let e = full.0 in omega (arith, e, len))
    ]

pub few_cells : (fronts : List ℕ) (dividers : List (List ℕ)) (keys : List ℤ) → Pairwise IsKey dividers keys → total (map cell_room (cells_over fronts dividers)) ≤ 15 * length dividers
few_cells [] dividers keys h = omega arith
few_cells (n ∷ fronts) [] keys h = omega arith
few_cells (n ∷ fronts) (divider ∷ dividers) [] h = absurd h
few_cells (n ∷ fronts) (divider ∷ dividers) (key ∷ keys) h =
    let rest = few_cells fronts dividers keys h.1 in
    let len = key_len divider key h.0 in
    let cell = length-append (to_be_bytes w32 n) divider in
    let child : length (to_be_bytes w32 n) ≡ 4 = refl in
    omega (arith, rest, len, cell, child)

pub few_dividers : (dividers : List (List ℕ)) (keys : List ℤ) → Pairwise IsKey dividers keys → total (map (λ divider. length divider + 6) dividers) ≤ 15 * length dividers
few_dividers [] [] h = omega arith
few_dividers [] (key ∷ keys) h = absurd h
few_dividers (divider ∷ dividers) [] h = absurd h
few_dividers (divider ∷ dividers) (key ∷ keys) h =
    let rest = few_dividers dividers keys h.1 in
    let len = key_len divider key h.0 in
    omega (arith, rest, len)

-- ---- where packed pages begin

pub starts_at : (n : ℕ) (pieces : List Piece) → 1 < n → start_in n pieces ≡ 0
starts_at n [] far = after_one n far
starts_at n (piece ∷ pieces) far = refl

-- ---- the pages of a planned subtree

module _ (old mid : PageMap) (size number ways : ℕ) (rowid : ℤ) (depth : ℕ) (low : ℤ) (t : Tree depth) (high : ℤ) (free : List ℕ) (under : IsUnder old size number ways rowid depth low t high free)
    (rows : List Entry) (packed : Packed) (plan : IsPlanned old mid size number depth low high rows (below_of depth t) free packed) where
  -- the pages of the tree's parts, and not yet those of their tops
  abbrev pub parts : List ℕ
  parts = each_of (below_of depth) nothing plan.kids plan.last

  top_once : (n : ℕ) → occurs n (number ∷ below_of depth t) + occurs n free ≤ 1
  top_once n = (let once = under.apart n in let e = ap (occurs n) (pages_split depth t) in let f = ap (λ (m : ℕ). occurs n (m ∷ below_of depth t)) under.top_is in omega (arith, once, e, f))

  top_up : AreUpTo (length old) (number ∷ below_of depth t)
  top_up n some = tree_up old size depth t under.lies n (let e = ap (occurs n) (pages_split depth t) in let f = ap (λ (m : ℕ). occurs n (m ∷ below_of depth t)) under.top_is in omega (arith, e, f, some))

  pub moves_top : Moves old mid (number ∷ below_of depth t) free (number ∷ parts) plan.now_free
  moves_top = plan.moves

  -- neither the top's page nor the others is free or used twice
  pub planned_once : (n : ℕ) → occurs n (number ∷ parts) + occurs n plan.now_free ≤ 1
  planned_once = once_after old mid size (number ∷ below_of depth t) free (number ∷ parts) plan.now_free under.free_are moves_top top_up top_once

  pub planned_after : IsAfter mid size parts plan.now_free
  planned_after = after_top old mid size number (below_of depth t) free parts plan.now_free under.free_are plan.moves plan.has top_up top_once under.first

  pub number_there : Has mid number
  number_there =
      let there = subst (λ (n : ℕ). Has old n) under.top_is (top_there old size depth t under.lies) in
      record { first = there.first; last = (let last = there.last in let longer = (plan.moves).longer in omega (arith, last, longer)) }

  pub number_unfree : occurs number plan.now_free ≡ 0
  number_unfree = (let once = planned_once number in let self = occurs_self number in omega (arith, once, self))

  -- its page can be written, where it isn't page 1
  pub can_store : 1 < number → AreOlds mid plan.now_free (number ∷ [])
  can_store far = record {
    there = (number_there, tt);
    after = (far, tt);
    once = record { once = λ n. (let once = planned_once n in let e = occurs_append n (number ∷ []) plan.now_free in omega (arith, once, e)) };
  }

  module _ (new : PageMap) (now_used now_free : List ℕ) (moves : Moves mid new (number ∷ []) plan.now_free now_used now_free) (start : ℕ) where
    top_stays : (page : List ℕ) (u : Tree depth) → ((n : ℕ) → occurs n (below_of depth u) ≤ occurs n parts) → IsTop mid size depth start page u → IsTop new size depth start page u
    top_stays page u among is = record {
      node = is.node;
      says = is.says;
      shows = shows_stays mid new moves.longer size (planned_after.are).whole (moves.whole size (planned_after.are).whole) depth u is.node
          (others_seen mid new (number ∷ []) plan.now_free now_used now_free (below_of depth u) moves (λ n some. (let once = planned_once n in let m = among n in omega (arith, once, m, some)))) is.shows;
    }

    -- the parts stay where only the top's page and free ones change
    pub tops_stay : (pages : List (List ℕ)) (kids : Kids depth) (last : Tree depth) → ((n : ℕ) → occurs n (each_of (below_of depth) nothing kids last) ≤ occurs n parts)
        → Pairwise (IsTop mid size depth start) pages (all_of kids last) → Pairwise (IsTop new size depth start) pages (all_of kids last)
    tops_stay [] [] last among tops = absurd tops
    tops_stay [] (kid ∷ kids) last among tops = absurd tops
    tops_stay (page ∷ []) [] last among tops = (top_stays page last among tops.0, tt)
    tops_stay (page ∷ other ∷ pages) [] last among tops = absurd tops.1
    tops_stay (page ∷ pages) (kid ∷ kids) last among tops =
        let both = λ (n : ℕ). occurs_append n (below_of depth kid.0) (each_of (below_of depth) nothing kids last) in (
          top_stays page kid.0 (λ n. (let m = among n in let e = both n in omega (arith, m, e))) tops.0,
          tops_stay pages kids last (λ n. (let m = among n in let e = both n in omega (arith, m, e))) tops.1,
        )

-- a planned subtree whose pages are stored has grown
pub grown : (old mid new : PageMap) (size number ways : ℕ) (rowid : ℤ) (depth : ℕ) (low : ℤ) (t : Tree depth) (high : ℤ) (free : List ℕ) (under : IsUnder old size number ways rowid depth low t high free)
    (rows : List Entry) (packed : Packed) (plan : IsPlanned old mid size number depth low high rows (below_of depth t) free packed) (fan : Fan) → 1 < number
    → IsStored mid new size (number ∷ []) plan.now_free packed fan → IsGrown old new size number depth low high rows (pages_of depth t) free fan
grown old mid new size number ways rowid depth low t high free under rows packed plan fan far is =
    let stored = is.stored in
    let at_parts = parts old mid size number ways rowid depth low t high free under rows packed plan in
    let tops = tops_stay old mid size number ways rowid depth low t high free under rows packed plan new (is.fronts ++ fan.last ∷ []) stored.now_free stored.moves 0 (images packed) plan.kids plan.last (λ n. omega arith)
    (subst (λ (start : ℕ). Pairwise (IsTop mid size depth start) (images packed) (all_of plan.kids plan.last)) (starts_at number packed.pieces.items far) plan.tops) in
    let planted = plant new size depth is.fronts fan.last (images packed) plan.kids plan.last (divider_bytes packed) low high stored.on tops plan.divide plan.sorted in
    let first_move = moves_top old mid size number ways rowid depth low t high free under rows packed plan in
    let second_move = beside_used mid new (number ∷ []) plan.now_free (is.fronts ++ fan.last ∷ []) stored.now_free at_parts (number ∷ at_parts) (pages_in depth planted.kids planted.last) stored.moves
    (λ n. occurs_append n (number ∷ []) at_parts) (λ n. planted.pages_are n) in
    let all_moves = in_sequence old mid new (number ∷ below_of depth t) free (number ∷ at_parts) plan.now_free (pages_in depth planted.kids planted.last) stored.now_free first_move second_move in
    let top_pages : number ∷ below_of depth t ≡ pages_of depth t = ap (λ (n : ℕ). n ∷ below_of depth t) (sym under.top_is) ∙ sym (pages_split depth t) in
    record {
      kids = planted.kids;
      last = planted.last;
      last_is = planted.last_is;
      near = planted.near;
      lies = planted.lies;
      sorted = planted.sorted;
      rows_are = planted.rows_are ∙ plan.rows_are;
      cells_are = subst (λ (cells : List (List ℕ)). Pairwise IsKeyCell cells (children (top depth) planted.kids)) (sym is.cells_are) planted.cells_are;
      now_free = stored.now_free;
      has = stored.has;
      moves = subst (λ (pages : List ℕ). Moves old new pages free (pages_in depth planted.kids planted.last) stored.now_free) top_pages all_moves;
      header = keeps_then old mid new plan.header stored.header;
      alone = λ none. (let lone = planted.alone (sym is.cells_are ∙ none) in (lone.1, begins_with is.fronts fan.last number lone.0 stored.begins));
      few = (let small = few_cells is.fronts (divider_bytes packed) (keys_of plan.kids) plan.divide in
          let len : length (divider_bytes packed) ≡ length packed.pieces.items = length-map packed.pieces.items (λ (piece : Piece). piece.divider.items) in
          let few = plan.few in
          subst (λ (cells : List (List ℕ)). total (map cell_room cells) ≤ 120) (sym is.cells_are) (omega (arith, small, len, few)));
    }
  where
    one_is : (a b : ℕ) → a ∷ [] ≡ b ∷ [] → a ≡ b
    one_is a b e = cc

    begins_with : (fronts : List ℕ) (n child : ℕ) → fronts ≡ [] → BeginsAs (fronts ++ n ∷ []) (child ∷ []) → n ≡ child
    begins_with fronts n child e begins = one_is n child (subst (λ (numbers : List ℕ). BeginsAs (numbers ++ n ∷ []) (child ∷ [])) e begins)
