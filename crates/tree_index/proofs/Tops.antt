-- Packed pages as the tops of subtrees.
use Rattle.std.proofs.Common.{◌≡◌, ◌≤◌, ℕ, zero, suc, Bool, List, [], ◌∷◌, length, map, sym, ap, subst, ◌∙◌, arith}
use Rattle.std.proofs.lemmas.List.{length-map}
use Rattle.std.specs.List.{AllByRecursion}
use Rattle.pages.specs.Counting.{occurs, Moves}
use Rattle.pages.specs.Map.{PageMap}
use Rattle.freelist.specs.Calls.{HasFree, KeepsHeader}
use Rattle.tree_page.specs.Cells.{Pairwise}
use Rattle.tree_page.specs.Node.{Local, Entries, Between, IsNode, IsEntryCell}
use Rattle.tree_page.specs.declared.items.Kind.TheVariants.{IndexLeaf, IndexInterior}
use Rattle.tree_page.proofs.HeaderLemmas.{same_length}
use Rattle.tree_pack.specs.Lists.{pieces, entry_parts, side_parts, all_sides}
use Rattle.tree_pack.specs.Packing.{images, divider_bytes, Packs}
use Rattle.tree_pack.specs.declared.spreading.Packed.{Packed}
use Rattle.tree_pack.specs.declared.spreading.Piece.{Piece}
use Rattle.tree_store.specs.Sides.{Each, children, each_of}
use Rattle.tree_index.specs.Entries.{Entry}
use Rattle.tree_index.specs.Freeing.{chains_of, all_of, below_of}
use Rattle.tree_index.specs.Growing.{IsTop, IsDivider, IsPlanned, entries_in}
use Rattle.tree_index.specs.Tree.{Held, IsHeldAs, IsKidAs, Tree, top, entries_of, pages_of, Lies}
use Rattle.tree_index.proofs.Branches.{starts_at}
use Rattle.tree_index.proofs.Cutting.{cut_leaf, cut_branch, values}
use Rattle.tree_index.proofs.Fans.{sides_count}
use Rattle.tree_index.proofs.Growth.{chain, pages_in}
use Rattle.tree_index.proofs.Leaves.{parts_few}

-- The packed pages are the tops of subtrees of these entries, over these pages.
pub record AreTops (m : PageMap) (size depth : ℕ) (entries : List Entry) (below : List ℕ) (packed : Packed) : Type 0 where
  pub kids : List (Tree depth × Held)
  pub last : Tree depth
  pub tops : Pairwise (IsTop m size depth) (images packed) (all_of kids last)
  pub divide : Pairwise (IsDivider m size) (divider_bytes packed) (map (λ kid. kid.1) kids)
  pub entries_are : entries_in depth kids last ≡ entries
  pub below_are : (n : ℕ) → occurs n (each_of (below_of depth) chain kids last) ≡ occurs n below
  pub sized : AllByRecursion (λ image. length image ≡ size) (images packed)
  pub few : length packed.pieces.items ≤ 2

-- ---- pages that moved

module _ (old new : PageMap) (size depth : ℕ) (entries : List Entry) (below used free : List ℕ) (packed : Packed) (are : AreTops new size depth entries below packed) where
  pub planned_by : (now_free : List ℕ) → HasFree new size now_free → Moves old new used free below now_free → KeepsHeader old new → IsPlanned old new size depth entries used free packed
  planned_by now_free has moves header = record {
    kids = are.kids;
    last = are.last;
    tops = are.tops;
    divide = are.divide;
    entries_are = are.entries_are;
    now_free = now_free;
    has = has;
    moves = record {
      longer = moves.longer;
      counts = λ n. (let at = moves.counts n in let same = are.below_are n in omega (arith, at, same));
      keeps = moves.keeps;
      whole = moves.whole;
    };
    header = header;
    sized = are.sized;
    few = are.few;
  }

-- ---- leaves

module _ (m : PageMap) (size : ℕ) (rises : Bool) (cells : List (List ℕ)) (said : List Local) (held : List Held) (packed : Packed) (packs : Packs IndexLeaf size [] rises cells (Entries said) packed)
    (hold : Pairwise (IsHeldAs m size) said held) where
  pub leaf_pieces : length packed.pieces.items ≤ length packs.counts
  leaf_pieces =
      let piece_count : length packed.pieces.items ≡ length (entry_parts packs.counts said).0 = (
      sym (length-map packed.pieces.items (λ (piece : Piece). piece.divider.items)) ∙ same_length (IsEntryCell size) (divider_bytes packed) _ packs.divide
      ∙ length-map (entry_parts packs.counts said).0 (λ part. part.1)) in
      let parts = parts_few packs.counts said in
      omega (arith, piece_count, parts)

  pub leaf_tops : length packs.counts ≤ 2 → AreTops m size zero (values held) (chains_of held) packed
  leaf_tops few =
      let says = subst (λ (n : ℕ). Pairwise (λ image node. IsNode image n node) (images packed) (map (λ part. Entries part) (pieces (entry_parts packs.counts said).0 (entry_parts packs.counts said).1))) (starts_at packs.counts) packs.say in
      let cut = cut_leaf m size packs.counts said held (images packed) (divider_bytes packed) hold says packs.divide in
      let pieces_are = leaf_pieces in
      record {
        kids = cut.kids;
        last = cut.last;
        tops = cut.tops;
        divide = cut.divide;
        entries_are = cut.entries_are;
        below_are = λ n. ap (occurs n) cut.chains_are;
        sized = packs.sized;
        few = omega (arith, pieces_are, few);
      }

-- ---- interior pages

-- there are as many packed pages as parts
pub branch_few : (size : ℕ) (rises : Bool) (cells : List (List ℕ)) (said : List (ℕ × Local)) (number : ℕ) (packed : Packed) (packs : Packs IndexInterior size [] rises cells (Between said number) packed)
    → length packed.pieces.items ≤ length packs.counts
branch_few size rises cells said number packed packs =
    let piece_count : length packed.pieces.items ≡ length (entry_parts packs.counts said).0 = (
    sym (length-map packed.pieces.items (λ (piece : Piece). piece.divider.items)) ∙ same_length (IsEntryCell size) (divider_bytes packed) _ packs.divide
    ∙ length-map (side_parts packs.counts (said, number)).0 (λ part. part.1) ∙ sides_count (entry_parts packs.counts said).0) in
    let parts = parts_few packs.counts said in
    omega (arith, piece_count, parts)

module _ (m : PageMap) (size depth : ℕ) (rises : Bool) (cells : List (List ℕ)) (said : List (ℕ × Local)) (number : ℕ) (kids : List (Tree depth × Held)) (last : Tree depth) (packed : Packed)
    (packs : Packs IndexInterior size [] rises cells (Between said number) packed) (hold : Pairwise (IsKidAs m size) said (children (top depth) kids)) (ends : number ≡ top depth last)
    (lies : Each (Lies m size depth) kids last) where
  abbrev one : Held → List Entry
  one held = held.entry ∷ []

  pub branch_tops : length packed.pieces.items ≤ 2 → AreTops m size (suc depth) (entries_in depth kids last) (pages_in depth kids last) packed
  branch_tops few =
      let says = subst (λ (n : ℕ). Pairwise (λ image node. IsNode image n node) (images packed) (map (λ side. Between side.0 side.1) (all_sides (side_parts packs.counts (said, number)).0 (side_parts packs.counts (said, number)).1))) (starts_at packs.counts) packs.say in
      let cut = cut_branch m size depth packs.counts said number kids last (images packed) (divider_bytes packed) hold ends lies says packs.divide in
      record {
        kids = cut.tops_of;
        last = cut.last_of;
        tops = cut.tops;
        divide = cut.divide;
        entries_are = sym (cut.gives (entries_of depth) one);
        below_are = λ n. ap (occurs n) (sym (cut.gives (pages_of depth) chain));
        sized = packs.sized;
        few = few;
      }
