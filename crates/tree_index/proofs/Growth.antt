-- Subtrees stand in the place of one, once their pages are stored.
use Rattle.std.proofs.Common.{◌≡◌, ◌≤◌, ◌<◌, ◌+◌, ◌^◌, ℕ, List, [], ◌∷◌, ◌++◌, length, sym, ap, subst, ◌∙◌, arith}
use Rattle.std.proofs.lemmas.List.{length-map}
use Rattle.pages.specs.Counting.{occurs, Moves}
use Rattle.pages.specs.Map.{PageMap, Has}
use Rattle.pages.proofs.Moving.{in_sequence, occurs_append}
use Rattle.freelist.specs.Calls.{HasFree, KeepsHeader}
use Rattle.tree_overflow.proofs.Laying.{beside, keeps_then}
use Rattle.tree_page.specs.Cells.{Pairwise}
use Rattle.tree_page.specs.Node.{Local, IsBetweenCell}
use Rattle.tree_pack.specs.Packing.{images, divider_bytes}
use Rattle.tree_pack.specs.declared.spreading.Packed.{Packed}
use Rattle.tree_pack.specs.declared.spreading.Piece.{Piece}
use Rattle.tree_store.specs.Sides.{children, each_of, Each}
use Rattle.tree_store.specs.Storing.{BeginsAs, AreOlds, IsStored, cells_of}
use Rattle.tree_store.specs.declared.storing.Fan.{Fan}
use Rattle.tree_index.specs.Entries.{Entry}
use Rattle.tree_index.specs.Freeing.{StandsUnder, below_of}
use Rattle.tree_index.specs.Growing.{IsPlanned, entries_in}
use Rattle.tree_index.specs.Tree.{Held, IsKidAs, Tree, top, pages_of, Lies}
use Rattle.tree_index.proofs.Clearing.{top_and_below, number_far}
use Rattle.tree_index.proofs.Planting.{plant, tops_kept, dividers_kept}
use Rattle.tree_index.proofs.Shares.{AreUpTo, IsAfter, after, once_after, beside_used, others_kept, self_once}
use Rattle.tree_index.proofs.Subtrees.{top_there, tree_up, below_up}

abbrev pub chain : Held → List ℕ
chain held = held.pages

-- the pages of a row of subtrees, and of the entries between them
abbrev pub pages_in : (depth : ℕ) → List (Tree depth × Held) → Tree depth → List ℕ
pages_in depth kids last = each_of (pages_of depth) chain kids last

-- Subtrees stand in the place of one, on these pages, and have these entries.
pub record IsGrown (old new : PageMap) (size child depth : ℕ) (entries : List Entry) (used free : List ℕ) (fan : Fan) : Type 0 where
  pub kids : List (Tree depth × Held)
  pub last : Tree depth
  pub last_is : top depth last ≡ fan.last
  pub near : fan.last < 2 ^ 32
  pub lies : Each (Lies new size depth) kids last
  pub entries_are : entries_in depth kids last ≡ entries
  pub news : List (ℕ × Local)
  pub cells : Pairwise (IsBetweenCell size) (cells_of fan) news
  pub shown : Pairwise (IsKidAs new size) news (children (top depth) kids)
  pub few : length news ≤ 2
  pub now_free : List ℕ
  pub has : HasFree new size now_free
  pub moves : Moves old new used free (pages_in depth kids last) now_free
  pub header : KeepsHeader old new
  pub alone : cells_of fan ≡ [] → (kids ≡ []) × (fan.last ≡ child)

module _ (old mid : PageMap) (size number ways depth : ℕ) (t : Tree depth) (free : List ℕ) (under : StandsUnder old size number ways depth t free) (entries : List Entry) (packed : Packed)
    (plan : IsPlanned old mid size depth entries (below_of depth t) free packed) where
  -- the pages of the tree's parts, and not yet those of their tops
  abbrev pub parts : List ℕ
  parts = each_of (below_of depth) chain plan.kids plan.last

  same_pages : (n : ℕ) → occurs n (pages_of depth t) ≡ occurs n (number ∷ below_of depth t)
  same_pages n = ap (occurs n) (top_and_below old size number ways depth t free under)

  top_once : (n : ℕ) → occurs n (number ∷ below_of depth t) + occurs n free ≤ 1
  top_once n = (let once = under.apart n in let e = same_pages n in omega (arith, once, e))

  top_up : AreUpTo (length old) (number ∷ below_of depth t)
  top_up n some = tree_up old size depth t under.lies n (let e = same_pages n in omega (arith, e, some))

  pub moves_top : Moves old mid (number ∷ below_of depth t) free (number ∷ parts) plan.now_free
  moves_top = beside old mid (below_of depth t) free parts plan.now_free number plan.moves

  -- neither the top's page nor the others is free or used twice
  pub planned_once : (n : ℕ) → occurs n (number ∷ parts) + occurs n plan.now_free ≤ 1
  planned_once = once_after old mid size (number ∷ below_of depth t) free (number ∷ parts) plan.now_free under.free_are moves_top top_up top_once

  pub planned_after : IsAfter mid size parts plan.now_free
  planned_after = after old mid size (below_of depth t) free parts plan.now_free under.free_are plan.moves plan.has (below_up old size depth t under.lies)
      (λ n. (let once = top_once n in omega (arith, once))) (let none = under.first in let e = same_pages 1 in omega (arith, none, e))

  pub number_there : Has mid number
  number_there =
      let there = subst (λ (n : ℕ). Has old n) under.top_is (top_there old size depth t under.lies) in
      record { first = there.first; last = (let last = there.last in let longer = (plan.moves).longer in omega (arith, last, longer)) }

  pub number_unfree : occurs number plan.now_free ≡ 0
  number_unfree = (let once = planned_once number in let self = self_once number parts in omega (arith, once, self))

  -- its page can be written
  pub can_store : AreOlds mid plan.now_free (number ∷ [])
  can_store = record {
    there = (number_there, tt);
    after = (number_far old size number ways depth t free under, tt);
    once = record { once = λ n. (let once = planned_once n in let e = occurs_append n (number ∷ []) plan.now_free in omega (arith, once, e)) };
  }

  one_is : (a b : ℕ) → a ∷ [] ≡ b ∷ [] → a ≡ b
  one_is a b e = cc

  begins_with : (fronts : List ℕ) (n child : ℕ) → fronts ≡ [] → BeginsAs (fronts ++ n ∷ []) (child ∷ []) → n ≡ child
  begins_with fronts n child e begins = one_is n child (subst (λ (numbers : List ℕ). BeginsAs (numbers ++ n ∷ []) (child ∷ [])) e begins)

  -- a planned subtree whose pages are stored has grown
  pub grown : (new : PageMap) (fan : Fan) → IsStored mid new size (number ∷ []) plan.now_free packed fan → IsGrown old new size number depth entries (pages_of depth t) free fan
  grown new fan is =
      let stored = is.stored in
      let kept = others_kept mid new size (number ∷ []) plan.now_free (is.fronts ++ fan.last ∷ []) stored.now_free parts (planned_after.are).whole stored.moves
      (λ n some. (let once = planned_once n in omega (arith, once, some))) in
      let planted = plant new size depth is.fronts fan.last (images packed) plan.kids plan.last (divider_bytes packed) stored.on
      (tops_kept mid new size depth (images packed) plan.kids plan.last kept plan.tops) (dividers_kept mid new size depth (divider_bytes packed) plan.kids plan.last kept plan.divide) in
      let second_move = beside_used mid new (number ∷ []) plan.now_free (is.fronts ++ fan.last ∷ []) stored.now_free parts (number ∷ parts) (pages_in depth planted.kids planted.last) stored.moves
      (λ n. occurs_append n (number ∷ []) parts) (λ n. planted.pages_are n) in
      let all_moves = in_sequence old mid new (number ∷ below_of depth t) free (number ∷ parts) plan.now_free (pages_in depth planted.kids planted.last) stored.now_free moves_top second_move in
      record {
        kids = planted.kids;
        last = planted.last;
        last_is = planted.last_is;
        near = planted.near;
        lies = planted.lies;
        entries_are = planted.entries_are ∙ plan.entries_are;
        news = planted.news;
        cells = subst (λ (cells : List (List ℕ)). Pairwise (IsBetweenCell size) cells planted.news) (sym is.cells_are) planted.cells;
        shown = planted.shown;
        few = (let le = planted.few in let len : length (divider_bytes packed) ≡ length packed.pieces.items = length-map packed.pieces.items (λ (piece : Piece). piece.divider.items) in
            let few = plan.few in omega (arith, le, len, few));
        now_free = stored.now_free;
        has = stored.has;
        moves = subst (λ (pages : List ℕ). Moves old new pages free (pages_in depth planted.kids planted.last) stored.now_free) (sym (top_and_below old size number ways depth t free under)) all_moves;
        header = keeps_then old mid new plan.header stored.header;
        alone = λ none. (let lone = planted.alone (sym is.cells_are ∙ none) in (lone.1, begins_with is.fronts fan.last number lone.0 stored.begins));
      }
