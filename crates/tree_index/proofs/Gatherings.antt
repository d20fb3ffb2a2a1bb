-- Pages above subtrees that stand in a row: the subtrees are the children of fewer ones.
use Rattle.std.proofs.Common.{◌≡◌, ◌≤◌, ◌<◌, ◌-◌, ◌*◌, ◌/◌, ◌^◌, ◌∙◌, ap, refl, sym, subst, ℕ, suc, true, List, [], ◌∷◌, ◌++◌, length, map, inl, inr, arith}
use Rattle.std.proofs.lemmas.List.{length-map}
use Rattle.std.specs.Int.{w32, to_be_bytes}
use Rattle.std.specs.Prelude.{Result, Ok, Err, MatchResult, ◌⊎◌, Some}
use Rattle.sqlval.specs.Faults.{IsOutside}
use Rattle.sqlval.specs.declared.fault.Fault.{Fault}
use Rattle.sqlval.specs.declared.fault.Fault.TheVariants.{Full}
use Rattle.pages.specs.Calls.{IsOutsideOrFull}
use Rattle.pages.specs.Counting.{occurs, Moves}
use Rattle.pages.specs.Map.{PageMap}
use Rattle.tree_page.specs.Cells.{Pairwise}
use Rattle.tree_page.specs.Node.{Node, Between, IsNode, IsBetweenCell}
use Rattle.tree_page.specs.declared.items.Kind.TheVariants.{IndexInterior}
use Rattle.tree_pack.specs.Building.{cell_room, right_bytes}
use Rattle.tree_pack.specs.Lists.{side_parts, all_sides}
use Rattle.tree_pack.specs.Packing.{AreOf, CanPack, images, divider_bytes, Packs}
use Rattle.tree_pack.specs.declared.spreading.Packed.{Packed}
use Rattle.tree_pack.specs.declared.spreading.Piece.{Piece}
use Rattle.tree_pack.proofs.SmallLemmas.{node_packs}
use Rattle.tree_store.specs.Sides.{each_of}
use Rattle.tree_store.specs.Staying.{AreKept}
use Rattle.tree_store.specs.Storing.{AreOlds, IsStored, Stores, cells_of, cells_over}
use Rattle.tree_store.specs.declared.storing.Fan.{Fan}
use Rattle.tree_index.specs.Entries.{Entry}
use Rattle.tree_index.specs.Flattening.{AreInRow, BecomeRow}
use Rattle.tree_index.specs.Freeing.{below_of}
use Rattle.tree_index.specs.Tree.{Held, top, entries_of, pages_of, Lies}
use Rattle.tree_index.proofs.Branches.{starts_at}
use Rattle.tree_index.proofs.Cutting.{AreBranches, cut_branch}
use Rattle.tree_index.proofs.Emptied.{large_size}
use Rattle.tree_index.proofs.Fourths.{cut_fourth, cells_at_most}
use Rattle.tree_index.proofs.Growth.{chain, pages_in}
use Rattle.tree_index.proofs.Planting.{plant, tops_kept, dividers_kept}
use Rattle.tree_index.proofs.Shares.{AreUpTo, after, beside_used, others_kept}
use Rattle.tree_index.proofs.Subtrees.{row_up, tree_up}
use Rattle.tree_index.proofs.Tops.{branch_few}

cells_count : (fronts : List ℕ) (dividers : List (List ℕ)) → length (cells_over fronts dividers) ≤ length dividers
cells_count [] dividers = omega arith
cells_count (front ∷ fronts) [] = omega arith
cells_count (front ∷ fronts) (divider ∷ dividers) = (let rest = cells_count fronts dividers in omega (arith, rest))

module _ (old : PageMap) (size depth : ℕ) (entries : List Entry) (used free : List ℕ) (fan : Fan) (is : AreInRow old size depth entries used free fan) where
  abbrev pub row_node : Node
  row_node = Between is.said (top depth is.last)

  -- the cells can be packed
  pub are_of : (cells : List (List ℕ)) → cells ≡ cells_of fan → AreOf IndexInterior size (right_bytes (Some fan.last)) cells row_node
  are_of cells same = record {
    kind_is = refl;
    right_is = ap (to_be_bytes w32) (sym is.fan_is.last_is);
    say = (subst (λ (cs : List (List ℕ)). Pairwise (IsBetweenCell size) cs is.said) (sym same) is.fan_is.cells, is.fan_is.near);
  }

  pub can_pack : (cells : List (List ℕ)) → cells ≡ cells_of fan → CanPack size 0 IndexInterior cells
  can_pack cells same =
      let sizes = large_size size is.sized in
      node_packs IndexInterior size 0 (right_bytes (Some fan.last)) cells row_node sizes.0 sizes.1 (omega arith) (are_of cells same)

  no_olds : AreOlds old free []
  no_olds = record { there = tt; after = tt; once = is.free_are.once }

  module _ (cells : List (List ℕ)) (same : cells ≡ cells_of fan) (packed : Packed) (packs : Packs IndexInterior size [] true cells row_node packed) where
    cut : AreBranches old size depth is.kids is.last (images packed) (divider_bytes packed)
    cut = cut_branch old size depth packs.counts is.said (top depth is.last) is.kids is.last (images packed) (divider_bytes packed) is.shown refl is.lies
        (subst (λ (n : ℕ). Pairwise (λ image node. IsNode image n node) (images packed) (map (λ side. Between side.0 side.1) (all_sides (side_parts packs.counts (is.said, top depth is.last)).0 (side_parts packs.counts (is.said, top depth is.last)).1)))
        (starts_at packs.counts) packs.say) packs.divide

    abbrev parts : List ℕ
    parts = each_of (below_of (suc depth)) chain cut.tops_of cut.last_of

    -- the pages below the new tops are those of the subtrees
    parts_are : (n : ℕ) → occurs n parts ≡ occurs n used
    parts_are n = (let e = ap (occurs n) (sym (cut.gives (pages_of depth) chain)) in let f = ap (occurs n) is.used_are in omega (arith, e, f))

    few_dividers : 4 * length (divider_bytes packed) ≤ length (cells_of fan)
    few_dividers =
        let sizes = large_size size is.sized in
        let most = (size - 12) / 3 in
        let say = subst (λ (cs : List (List ℕ)). Pairwise (IsBetweenCell size) cs is.said) (sym same) is.fan_is.cells in
        let small = cells_at_most size most cells is.said sizes.0 (omega arith) say in
        let fourth = cut_fourth (size - 0 - 8 - 4) most (omega arith) (map cell_room cells) packs.counts small packs.cut in
        let few = branch_few size true cells is.said (top depth is.last) packed packs in
        let pieces = length-map packed.pieces.items (λ (piece : Piece). piece.divider.items) in
        let long = length-map cells cell_room in
        let e = ap length same in
        omega (arith, fourth, few, pieces, long, e)

    pub gathered_row : (new : PageMap) (above : Fan) → IsStored old new size [] free packed above
        → BecomeRow old new size (suc depth) entries used free above × (4 * length (cells_of above) ≤ length (cells_of fan))
    gathered_row new above s =
        let stored = s.stored in
        let moves = stored.moves in
        let numbers = s.fronts ++ above.last ∷ [] in
        let kept : AreKept old new size parts = others_kept old new size [] free numbers stored.now_free parts is.free_are.whole moves
        (λ n some. (let part = parts_are n in let most = is.apart n in omega (arith, part, most, some))) in
        let planted = plant new size (suc depth) s.fronts above.last (images packed) cut.tops_of cut.last_of (divider_bytes packed) stored.on
        (tops_kept old new size (suc depth) (images packed) cut.tops_of cut.last_of kept cut.tops) (dividers_kept old new size (suc depth) (divider_bytes packed) cut.tops_of cut.last_of kept cut.divide) in
        let now_pages = pages_in (suc depth) planted.kids planted.last in
        let all_moves : Moves old new used free now_pages stored.now_free =
        beside_used old new [] free numbers stored.now_free used used now_pages moves (λ n. omega arith) (λ n. (let pages = planted.pages_are n in let part = parts_are n in omega (arith, pages, part))) in
        let up : AreUpTo (length old) used = subst (AreUpTo (length old)) is.used_are (row_up old size (top depth) (pages_of depth) (Lies old size depth) (tree_up old size depth) is.said is.kids is.last is.shown is.lies) in
        let later = after old new size used free now_pages stored.now_free is.free_are all_moves stored.has up is.apart is.first in
        let few = few_dividers in
        let count = cells_count s.fronts (divider_bytes packed) in
        let shown = ap length s.cells_are in (
          record {
            now_used = now_pages;
            now_free = stored.now_free;
            row = record {
              kids = planted.kids;
              last = planted.last;
              said = planted.news;
              fan_is = record {
                cells = subst (λ (cs : List (List ℕ)). Pairwise (IsBetweenCell size) cs planted.news) (sym s.cells_are) planted.cells;
                last_is = sym planted.last_is;
                near = subst (λ (n : ℕ). n < 2 ^ 32) (sym planted.last_is) planted.near;
              };
              shown = planted.shown;
              lies = planted.lies;
              entries_are = planted.entries_are ∙ sym (cut.gives (entries_of depth) (λ (held : Held). held.entry ∷ [])) ∙ is.entries_are;
              used_are = refl;
              apart = later.apart;
              first = later.first;
              free_are = later.are;
              sized = is.sized;
            };
            moves = all_moves;
            header = stored.header;
          },
          omega (arith, few, count, shown),
        )

    pub gathered_or : (new : PageMap) (result : Result Fan Fault) → Stores old new size [] packed result
        → MatchResult result (λ above. BecomeRow old new size (suc depth) entries used free above × (4 * length (cells_of above) ≤ length (cells_of fan))) IsOutsideOrFull
    gathered_or new result stores = by result (stores free is.free_are no_olds packs.sized)
      where
        by : (result : Result Fan Fault) → MatchResult result (IsStored old new size [] free packed) (λ fault. IsOutside fault ⊎ ((fault ≡ Full) × (0 < length (images packed))))
            → MatchResult result (λ above. BecomeRow old new size (suc depth) entries used free above × (4 * length (cells_of above) ≤ length (cells_of fan))) IsOutsideOrFull
        by (Ok above) s = gathered_row new above s
        by (Err fault) (inl outside) = inl outside
        by (Err fault) (inr full) = inr full.0
