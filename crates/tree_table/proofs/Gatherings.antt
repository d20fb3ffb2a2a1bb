-- Pages above subtrees that stand side by side: the subtrees are the children of fewer ones.
use Rattle.std.proofs.Common.{◌≡◌, ◌≤◌, ◌<◌, ◌-◌, ◌*◌, ◌^◌, ◌∙◌, ap, refl, sym, subst, ℕ, suc, ℤ, true, List, [], ◌∷◌, ◌++◌, length, map, inl, inr, arith}
use Rattle.std.proofs.Math.Nat.{mul-le-mul_right}
use Rattle.std.proofs.lemmas.List.{length-append, length-map}
use Rattle.std.specs.Int.{w32, to_be_bytes}
use Rattle.std.specs.Prelude.{Result, Ok, Err, MatchResult, ◌⊎◌, Some}
use Rattle.sqlval.specs.Faults.{IsOutside}
use Rattle.sqlval.specs.declared.fault.Fault.{Fault}
use Rattle.sqlval.specs.declared.fault.Fault.TheVariants.{Full}
use Rattle.tree_leaf.specs.Leaf.{Entry}
use Rattle.pages.specs.Calls.{IsOutsideOrFull}
use Rattle.pages.specs.Counting.{occurs, Moves}
use Rattle.pages.specs.Map.{PageMap, AreWhole}
use Rattle.pages.proofs.Moving.{occurs_append}
use Rattle.tree_page.specs.Cells.{Pairwise}
use Rattle.tree_page.specs.Node.{Keys, IsNode, IsKeyCell}
use Rattle.tree_page.proofs.HeaderLemmas.{same_length}
use Rattle.tree_page.specs.declared.items.Kind.TheVariants.{TableInterior}
use Rattle.tree_pack.specs.Building.{cell_room, right_bytes}
use Rattle.tree_pack.specs.Lists.{side_parts, entry_parts}
use Rattle.tree_pack.specs.Packing as packing
use Rattle.tree_pack.specs.Packing.{AreOf, CanPack, IsKey, images, divider_bytes, Packs}
use Rattle.tree_pack.specs.Parts.{total}
use Rattle.tree_pack.specs.Rows.{LieWithin}
use Rattle.tree_pack.specs.declared.spreading.Packed.{Packed}
use Rattle.tree_pack.proofs.CountLemmas.{cut_fewer}
use Rattle.tree_pack.proofs.RowLemmas.{cut_within}
use Rattle.tree_pack.proofs.SmallLemmas.{node_packs}
use Rattle.tree_store.specs.Sides.{children, each_of, nothing}
use Rattle.tree_store.specs.Storing.{AreOlds, IsStored, Stores, cells_of, cells_over}
use Rattle.tree_store.specs.declared.storing.Fan.{Fan}
use Rattle.tree_table.specs.Flattening.{AreBeside, BecomeBeside}
use Rattle.tree_table.specs.Growing.{below_of, IsTop, all_of}
use Rattle.tree_table.specs.Tree.{Tree, top, rows_of, pages_of, Lies}
use Rattle.tree_table.proofs.Cutting.{IsCutInto, cut_into}
use Rattle.tree_table.proofs.Few.{large_size}
use Rattle.tree_table.proofs.Growth.{key_len}
use Rattle.tree_table.proofs.Holes.{Kids, keys_of, pages_in, seen}
use Rattle.tree_table.proofs.Passing.{AreUpTo, after, beside_used, each_up, others_seen, tree_up}
use Rattle.tree_table.proofs.Planting.{plant}
use Rattle.tree_table.proofs.Starts.{parts_counted, sides_count}
use Rattle.tree_table.proofs.Staying.{AreSeen, shows_stays}

-- ---- small cells

-- a child's cell has at most 13 bytes
cell_len : (cell : List ℕ) (kid : ℕ × ℤ) → IsKeyCell cell kid → cell_room cell ≤ 15
cell_len cell kid is =
    let key : IsKey is.key kid.1 = record { number = is.number; key_is = is.key_is; signed = is.signed } in
    let short = key_len is.key kid.1 key in
    let whole = ap length is.parts in
    let both = length-append (to_be_bytes w32 kid.0) is.key in
    let four : length (to_be_bytes w32 kid.0) ≡ 4 = refl in
    omega (arith, short, whole, both, four)

pub cells_room : (cells : List (List ℕ)) (kids : List (ℕ × ℤ)) → Pairwise IsKeyCell cells kids → total (map cell_room cells) ≤ 15 * length cells
cells_room [] kids say = omega arith
cells_room (cell ∷ cells) [] say = absurd say
cells_room (cell ∷ cells) (kid ∷ kids) say = (let one = cell_len cell kid say.0 in let rest = cells_room cells kids say.1 in omega (arith, one, rest))

-- ---- subtrees whose pages didn't change

module _ (old new : PageMap) (longer : length old ≤ length new) (size depth start : ℕ) (whole : AreWhole size old) (whole_now : AreWhole size new) where
  top_kept : (image : List ℕ) (u : Tree depth) → AreSeen old new (below_of depth u) → IsTop old size depth start image u → IsTop new size depth start image u
  top_kept image u seen is = record { node = is.node; says = is.says; shows = shows_stays old new longer size whole whole_now depth u is.node seen is.shows }

  pub tops_kept : (images : List (List ℕ)) (kids : Kids depth) (last : Tree depth) → AreSeen old new (each_of (below_of depth) nothing kids last)
      → Pairwise (IsTop old size depth start) images (all_of kids last) → Pairwise (IsTop new size depth start) images (all_of kids last)
  tops_kept [] [] last seen tops = absurd tops
  tops_kept [] (kid ∷ kids) last seen tops = absurd tops
  tops_kept (image ∷ []) [] last seen tops = (top_kept image last seen tops.0, tt)
  tops_kept (image ∷ other ∷ images) [] last seen tops = absurd tops.1
  tops_kept (image ∷ images) (kid ∷ kids) last seen tops =
      let both = λ (n : ℕ). occurs_append n (below_of depth kid.0) (each_of (below_of depth) nothing kids last) in (
        top_kept image kid.0 (record { same = λ n from to some. seen.same n from to (let e = both n in omega (arith, e, some)) }) tops.0,
        tops_kept images kids last (record { same = λ n from to some. seen.same n from to (let e = both n in omega (arith, e, some)) }) tops.1,
      )

-- ---- fewer subtrees

cells_count : (fronts : List ℕ) (dividers : List (List ℕ)) → length (cells_over fronts dividers) ≤ length dividers
cells_count [] dividers = omega arith
cells_count (front ∷ fronts) [] = omega arith
cells_count (front ∷ fronts) (divider ∷ dividers) = (let rest = cells_count fronts dividers in omega (arith, rest))

start_none : (counts : List ℕ) → packing.start_of [] counts ≡ 0
start_none [] = refl
start_none (count ∷ counts) = refl

module _ (old : PageMap) (size depth : ℕ) (low high : ℤ) (rows : List Entry) (used free : List ℕ) (fan : Fan) (is : AreBeside old size depth low high rows used free fan) where
  abbrev node_kids : List (ℕ × ℤ)
  node_kids = children (top depth) is.kids

  abbrev node_last : ℕ
  node_last = top depth is.last

  -- the cells can be packed
  pub are_of : (cells : List (List ℕ)) → cells ≡ cells_of fan → AreOf TableInterior size (right_bytes (Some fan.last)) cells (Keys node_kids node_last)
  are_of cells same = record {
    kind_is = refl;
    right_is = ap (to_be_bytes w32) (sym is.fan_is.last_is);
    say = (subst (λ (cs : List (List ℕ)). Pairwise IsKeyCell cs node_kids) (sym same) is.fan_is.cells, is.fan_is.near);
  }

  pub can_pack : (cells : List (List ℕ)) → cells ≡ cells_of fan → CanPack size 0 TableInterior cells
  can_pack cells same =
      let sizes = large_size size is.sized in
      node_packs TableInterior size 0 (right_bytes (Some fan.last)) cells (Keys node_kids node_last) sizes.0 sizes.1 (omega arith) (are_of cells same)

  pub no_olds : AreOlds old free []
  no_olds = record { there = tt; after = tt; once = is.free_are.once }

  module _ (cells : List (List ℕ)) (same : cells ≡ cells_of fan) (packed : Packed) (packs : Packs TableInterior size [] true cells (Keys node_kids node_last) packed) where
    cut : IsCutInto old size depth 0 low high (is.kids, is.last) packs.counts (images packed)
    cut = cut_into old size depth 0 low high is.kids is.last packs.counts (images packed) is.lies is.sorted
        (subst (λ (start : ℕ). Pairwise (λ image node. IsNode image start node) (images packed) (packing.nodes_of packs.counts (Keys node_kids node_last))) (start_none packs.counts) packs.say)

    divide : Pairwise IsKey (divider_bytes packed) (keys_of cut.kids)
    divide = subst (λ (ks : List ℤ). Pairwise IsKey (divider_bytes packed) ks) cut.keys_are packs.divide

    -- the pages below the new tops are those of the subtrees
    parts_are : (n : ℕ) → occurs n (each_of (below_of (suc depth)) nothing cut.kids cut.last) ≡ occurs n used
    parts_are n = (let e = ap (occurs n) (sym (cut.gives (pages_of depth))) in let f = ap (occurs n) is.used_are in omega (arith, e, f))

    few_dividers : 16 * length (divider_bytes packed) ≤ length (cells_of fan)
    few_dividers =
        let keys = (side_parts packs.counts (seen (top depth) (is.kids, is.last))).0 in
        let cell_count : length (map cell_room cells) ≡ length node_kids = length-map cells cell_room ∙ ap length same ∙ same_length IsKeyCell (cells_of fan) node_kids is.fan_is.cells in
        let room : ℕ = size - 0 - 8 - 4 in
        let within = subst (λ (n : ℕ). LieWithin 1 packs.counts n) cell_count (cut_within 1 room true (map cell_room cells) packs.counts packs.cut) in
        let piece_count : length (divider_bytes packed) ≡ length (entry_parts packs.counts node_kids).0 = (
        same_length IsKey (divider_bytes packed) _ packs.divide ∙ length-map keys (λ part. part.1) ∙ sides_count (entry_parts packs.counts node_kids).0) in
        let counted = parts_counted packs.counts node_kids (length (divider_bytes packed)) within piece_count in
        let fewer = cut_fewer 1 room true (map cell_room cells) packs.counts (omega arith) packs.cut in
        let small = cells_room cells node_kids (subst (λ (cs : List (List ℕ)). Pairwise IsKeyCell cs node_kids) (sym same) is.fan_is.cells) in
        let sizes = large_size size is.sized in
        few_of room (length packs.counts) (length (divider_bytes packed)) (length (cells_of fan)) (total (map cell_room cells)) (omega (arith, sizes.0)) counted.few fewer
        (let e = ap length same in omega (arith, small, e))
      where
        few_of : (room counts dividers cells sum : ℕ) → 500 ≤ room → dividers ≤ counts → room * counts ≤ sum → sum ≤ 15 * cells → 16 * dividers ≤ cells
        few_of room counts dividers cells sum large le fewer small =
            let least = mul-le-mul_right counts large in
            omega (arith, le, fewer, small, least)

    pub gathered_beside : (new : PageMap) (above : Fan) → IsStored old new size [] free packed above
        → BecomeBeside old new size (suc depth) low high rows used free above × (16 * length (cells_of above) ≤ length (cells_of fan))
    gathered_beside new above s =
        let stored = s.stored in
        let moves = stored.moves in
        let numbers = s.fronts ++ above.last ∷ [] in
        let seen_parts : AreSeen old new (each_of (below_of (suc depth)) nothing cut.kids cut.last) =
        others_seen old new [] free numbers stored.now_free (each_of (below_of (suc depth)) nothing cut.kids cut.last) moves
        (λ n some. (let part = parts_are n in let most = is.apart n in omega (arith, part, most, some))) in
        let tops = tops_kept old new moves.longer size (suc depth) 0 is.free_are.whole (moves.whole size is.free_are.whole) (images packed) cut.kids cut.last seen_parts cut.tops in
        let planted = plant new size (suc depth) s.fronts above.last (images packed) cut.kids cut.last (divider_bytes packed) low high stored.on tops divide cut.sorted in
        let now_pages = pages_in (suc depth) planted.kids planted.last in
        let all_moves : Moves old new used free now_pages stored.now_free =
        beside_used old new [] free numbers stored.now_free used used now_pages moves (λ n. omega arith) (λ n. (let pages = planted.pages_are n in let part = parts_are n in omega (arith, pages, part))) in
        let up : AreUpTo (length old) used = subst (AreUpTo (length old)) is.used_are (each_up depth (length old) (Lies old size depth) (tree_up old size depth) is.kids is.last is.lies) in
        let later = after old new size used free now_pages stored.now_free is.free_are all_moves stored.has up is.apart is.first in
        let few = few_dividers in
        let count = cells_count s.fronts (divider_bytes packed) in
        let shown = ap length s.cells_are in (
          record {
            now_used = now_pages;
            now_free = stored.now_free;
            beside = record {
              kids = planted.kids;
              last = planted.last;
              fan_is = record {
                cells = subst (λ (cs : List (List ℕ)). Pairwise IsKeyCell cs (children (top (suc depth)) planted.kids)) (sym s.cells_are) planted.cells_are;
                last_is = sym planted.last_is;
                near = subst (λ (n : ℕ). n < 2 ^ 32) (sym planted.last_is) planted.near;
              };
              lies = planted.lies;
              sorted = planted.sorted;
              rows_are = planted.rows_are ∙ sym (cut.gives (rows_of depth)) ∙ is.rows_are;
              used_are = refl;
              apart = later.apart;
              first = later.first;
              free_are = later.are;
              sized = is.sized;
            };
            moves = all_moves;
            header = stored.header;
          },
          omega (arith, few, count, shown),
        )

    pub gathered_or : (new : PageMap) (result : Result Fan Fault) → Stores old new size [] packed result
        → MatchResult result (λ above. BecomeBeside old new size (suc depth) low high rows used free above × (16 * length (cells_of above) ≤ length (cells_of fan))) IsOutsideOrFull
    gathered_or new result stores = by result (stores free is.free_are no_olds packs.sized)
      where
        by : (result : Result Fan Fault) → MatchResult result (IsStored old new size [] free packed) (λ fault. IsOutside fault ⊎ ((fault ≡ Full) × (0 < length (images packed))))
            → MatchResult result (λ above. BecomeBeside old new size (suc depth) low high rows used free above × (16 * length (cells_of above) ≤ length (cells_of fan))) IsOutsideOrFull
        by (Ok above) s = gathered_beside new above s
        by (Err fault) (inl outside) = inl outside
        by (Err fault) (inr full) = inr full.0
