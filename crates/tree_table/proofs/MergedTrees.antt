-- Two trees side by side whose top pages are packed together.
use Rattle.std.proofs.Common.{◌≡◌, ◌≤◌, ◌+◌, ◌-◌, ◌^◌, ℕ, zero, suc, ℤ, pos, ◌≤ℤ◌, false, List, [], ◌∷◌, ◌++◌, length, map, refl, sym, ap, subst, ◌∙◌, arith}
use Rattle.std.proofs.lemmas.Int.{ints}
use Rattle.std.proofs.lemmas.List.{length-map, length-append, map-append}
use Rattle.std.proofs.lemmas.List.Concat.{flat_map-append}
use Rattle.std.specs.Int.{w32, to_be_bytes}
use Rattle.std.specs.List.{AllByRecursion}
use Rattle.pages.specs.Counting.{occurs}
use Rattle.pages.specs.Map.{PageMap}
use Rattle.pages.proofs.Moving.{occurs_append}
use Rattle.tree_page.specs.Cells.{Pairwise}
use Rattle.tree_page.specs.Node.{Local, Rows, Keys, IsNode, IsRowCell, IsKeyCell}
use Rattle.tree_page.specs.declared.items.Kind.TheVariants.{TableLeaf, TableInterior}
use Rattle.tree_page.proofs.HeaderLemmas.{same_length}
use Rattle.tree_pack.specs.Building.{cell_room}
use Rattle.tree_pack.specs.Lists.{row_parts, side_parts, entry_parts}
use Rattle.tree_pack.specs.Packing as packing
use Rattle.tree_pack.specs.Packing.{IsKey, images, divider_bytes, nodes_of, Packs}
use Rattle.tree_pack.specs.Rows.{LieWithin, last_number}
use Rattle.tree_pack.specs.declared.spreading.Packed.{Packed}
use Rattle.tree_pack.specs.declared.spreading.Piece.{Piece}
use Rattle.tree_pack.proofs.RowLemmas.{cut_within}
use Rattle.tree_pack.proofs.SmallLemmas.{varint_len}
use Rattle.tree_pack.proofs.Splices.{pairwise_append}
use Rattle.tree_store.specs.Sides.{Side, children, each_of, nothing, Parted}
use Rattle.tree_store.proofs.Windows.{each_join}
use Rattle.tree_table.specs.Growing.{below_of, IsTop, all_of}
use Rattle.tree_table.specs.Joining.{AreKeysMerged}
use Rattle.tree_table.specs.Tree.{Held, IsHeldAs, IsLeaf, Leaf, Tree, top, rows_of, pages_of, Rises, IsSorted, Lies}
use Rattle.tree_table.proofs.Cutting.{cut_into, each_split}
use Rattle.tree_table.proofs.Few.{few_parts}
use Rattle.tree_table.proofs.Holes.{Kids, keys_of, seen, pages_in, children_append, parted_join}
use Rattle.tree_table.proofs.Leaves.{chains_of, cut_leaf}
use Rattle.tree_pack.proofs.Rooms.{cells_fit}
use Rattle.tree_table.proofs.Roots.{sorted_wider}
use Rattle.tree_table.proofs.Starts.{rows_counted, parts_counted, sides_count}
use Rattle.tree_table.proofs.Sums.{room_append}

-- The packed pages are the tops of subtrees that have all rows of two trees.
pub record AreMerged (map' : PageMap) (size depth : ℕ) (low high : ℤ) (left right : Tree depth) (packed : Packed) : Type 0 where
  pub kids : Kids depth
  pub last : Tree depth
  pub tops : Pairwise (IsTop map' size depth 0) (images packed) (all_of kids last)
  pub divide : Pairwise IsKey (divider_bytes packed) (keys_of kids)
  pub sorted : Parted (IsSorted depth) low kids last high
  pub rows_are : each_of (rows_of depth) nothing kids last ≡ rows_of depth left ++ rows_of depth right
  pub below_are : (n : ℕ) → occurs n (each_of (below_of depth) nothing kids last) ≡ occurs n (below_of depth left) + occurs n (below_of depth right)
  pub sized : AllByRecursion (λ image. length image ≡ size) (images packed)
  pub few : length packed.pieces.items ≤ 8

no_front : (counts : List ℕ) → packing.start_of [] counts ≡ 0
no_front [] = refl
no_front (count ∷ counts) = refl

same_le : (a : ℤ) → a ≤ℤ a
same_le a = omega (arith, ints)

pub rises_join : (low : ℤ) (rows : List Held) (key : ℤ) (others : List Held) (high : ℤ) → Rises low rows key → Rises key others high → Rises low (rows ++ others) high
rises_join low [] key others high first after = sorted_wider zero key low (record { page = 0; rows = others }) high high first (same_le high) after
rises_join low (held ∷ rows) key others high first after = (first.0, rises_join held.row.rowid rows key others high first.1 after)

-- ---- leaves

module _ (map' : PageMap) (size : ℕ) (sizes : (512 ≤ size) × (size ≤ 2 ^ 16)) (low key high : ℤ) (a b : Leaf) (lies_a : IsLeaf map' size a) (lies_b : IsLeaf map' size b)
    (rise_a : Rises low a.rows key) (rise_b : Rises key b.rows high) (left right : List ℕ) (is_left : IsNode left 0 (Rows lies_a.said)) (is_right : IsNode right 0 (Rows lies_b.said))
    (long_left : length left ≡ size) (long_right : length right ≡ size) (packed : Packed)
    (packs : Packs TableLeaf (length left) [] false (is_left.cells ++ is_right.cells) (Rows (lies_a.said ++ lies_b.said)) packed) where
  abbrev said : List (ℤ × Local)
  said = lies_a.said ++ lies_b.said

  abbrev rows : List Held
  rows = a.rows ++ b.rows

  abbrev cells : List (List ℕ)
  cells = is_left.cells ++ is_right.cells

  hold : Pairwise (IsHeldAs map' size) said rows
  hold = pairwise_append (IsHeldAs map' size) lies_a.said lies_b.said a.rows b.rows lies_a.rows lies_b.rows

  say : Pairwise (IsRowCell size) cells said
  say = pairwise_append (IsRowCell size) is_left.cells is_right.cells lies_a.said lies_b.said (subst (λ (n : ℕ). Pairwise (IsRowCell n) is_left.cells lies_a.said) long_left is_left.say)
      (subst (λ (n : ℕ). Pairwise (IsRowCell n) is_right.cells lies_b.said) long_right is_right.say)

  pub merged_leaf : AreMerged map' size zero low high a b packed
  merged_leaf =
      let room : ℕ = length left - 0 - 8 - 0 in
      let cell_len : length (map cell_room cells) ≡ length rows =
      length-map cells cell_room ∙ same_length (IsRowCell size) cells said say ∙ same_length (IsHeldAs map' size) said rows hold in
      let lie = subst (λ (n : ℕ). LieWithin 0 packs.counts n) cell_len (cut_within 0 room false (map cell_room cells) packs.counts packs.cut) in
      let piece_count : length packed.pieces.items ≡ length packs.counts = (
      sym (length-map packed.pieces.items (λ (piece : Piece). piece.divider.items)) ∙ same_length IsKey (divider_bytes packed) _ packs.divide
      ∙ length-map (row_parts (last_number (pos 0)) packs.counts said).0 (λ part. part.1) ∙ rows_counted (last_number (pos 0)) packs.counts said) in
      let says = subst (λ (start : ℕ). Pairwise (λ image part. IsNode image start part) (images packed) (nodes_of packs.counts (Rows said))) (no_front packs.counts) packs.say in
      let cut = cut_leaf map' size 0 low high packs.counts said rows (images packed) hold (rises_join low a.rows key b.rows high rise_a rise_b) lie says in
      record {
        kids = cut.kids;
        last = cut.last;
        tops = cut.tops;
        divide = subst (λ (ks : List ℤ). Pairwise IsKey (divider_bytes packed) ks) cut.keys_are packs.divide;
        sorted = cut.sorted;
        rows_are = cut.rows_are ∙ map-append (λ (held : Held). held.row) a.rows b.rows;
        below_are = λ n. (let e = ap (occurs n) (cut.chains_are ∙ flat_map-append (λ (held : Held). held.pages) a.rows b.rows) in
            let both = occurs_append n (chains_of a.rows) (chains_of b.rows) in omega (arith, e, both));
        sized = subst (λ (n : ℕ). AllByRecursion (λ image. length image ≡ n) (images packed)) long_left packs.sized;
        few = (let sum = room_append cell_room is_left.cells is_right.cells in
            let one = cells_fit 13 left 0 [] is_left.cells is_left.page_is in
            let two = cells_fit 13 right 0 [] is_right.cells is_right.page_is in
            let most = few_parts 0 room false (map cell_room cells) packs.counts packs.cut (omega (arith, long_left, sizes.0)) (omega (arith, sum, one, two, long_left, long_right, sizes.0)) in
            omega (arith, most, piece_count));
      }

-- ---- interior pages

module _ (map' : PageMap) (size depth : ℕ) (sizes : (512 ≤ size) × (size ≤ 2 ^ 16)) (low key high : ℤ) (a b : Tree (suc depth)) (lies_a : Lies map' size (suc depth) a) (lies_b : Lies map' size (suc depth) b)
    (sorted_a : IsSorted (suc depth) low a key) (sorted_b : IsSorted (suc depth) key b high) (left right : List ℕ)
    (is_left : IsNode left 0 (Keys (children (top depth) a.kids) (top depth a.last))) (is_right : IsNode right 0 (Keys (children (top depth) b.kids) (top depth b.last)))
    (long_left : length left ≡ size) (long_right : length right ≡ size) (cell : List ℕ) (number : ℕ) (cell_is : IsKeyCell cell (number, key)) (packed : Packed)
    (are : AreKeysMerged (length left) is_left.cells is_right.cells (children (top depth) a.kids) (children (top depth) b.kids) (top depth a.last) (top depth b.last) cell key packed) where
  abbrev kids : Kids depth
  kids = a.kids ++ (a.last, key) ∷ b.kids

  abbrev all_cells : List (List ℕ)
  all_cells = is_left.cells ++ are.between ∷ is_right.cells

  shown : children (top depth) a.kids ++ (top depth a.last, key) ∷ children (top depth) b.kids ≡ children (top depth) kids
  shown = sym (children_append (top depth) a.kids ((a.last, key) ∷ b.kids))

  packs_now : Packs TableInterior (length left) [] false all_cells (Keys (children (top depth) kids) (top depth b.last)) packed
  packs_now = subst (λ (ks : List (ℕ × ℤ)). Packs TableInterior (length left) [] false all_cells (Keys ks (top depth b.last)) packed) shown are.packs

  all_say : Pairwise IsKeyCell all_cells (children (top depth) kids)
  all_say = subst (λ (ks : List (ℕ × ℤ)). Pairwise IsKeyCell all_cells ks) shown
      (pairwise_append IsKeyCell is_left.cells (are.between ∷ is_right.cells) (children (top depth) a.kids) ((top depth a.last, key) ∷ children (top depth) b.kids) is_left.say.0 (are.between_is, is_right.say.0))

  between_room : cell_room are.between ≤ 15
  between_room =
      let len = ap length cell_is.parts in
      let both = length-append (to_be_bytes w32 number) cell_is.key in
      let child : length (to_be_bytes w32 number) ≡ 4 = refl in
      let nine = varint_len cell_is.key cell_is.number cell_is.key_is in
      let same = are.between_len in
      omega (arith, len, both, child, nine, same)

  pub merged_inner : AreMerged map' size (suc depth) low high a b packed
  merged_inner =
      let room : ℕ = length left - 0 - 8 - 4 in
      let s : Side (Tree depth) ℤ = (kids, b.last) in
      let keys = (side_parts packs_now.counts (seen (top depth) s)).0 in
      let cell_count : length (map cell_room all_cells) ≡ length (children (top depth) kids) = length-map all_cells cell_room ∙ same_length IsKeyCell all_cells (children (top depth) kids) all_say in
      let within = subst (λ (n : ℕ). LieWithin 1 packs_now.counts n) cell_count (cut_within 1 room false (map cell_room all_cells) packs_now.counts packs_now.cut) in
      let piece_count : length packed.pieces.items ≡ length (entry_parts packs_now.counts (seen (top depth) s).0).0 = (
      sym (length-map packed.pieces.items (λ (piece : Piece). piece.divider.items)) ∙ same_length IsKey (divider_bytes packed) _ packs_now.divide
      ∙ length-map keys (λ part. part.1) ∙ sides_count (entry_parts packs_now.counts (seen (top depth) s).0).0) in
      let counted = parts_counted packs_now.counts (seen (top depth) s).0 (length packed.pieces.items) within piece_count in
      let says = subst (λ (start : ℕ). Pairwise (λ image part. IsNode image start part) (images packed) (nodes_of packs_now.counts (Keys (children (top depth) kids) (top depth b.last)))) (no_front packs_now.counts) packs_now.say in
      let cut = cut_into map' size depth 0 low high kids b.last packs_now.counts (images packed) (each_join (Lies map' size depth) a.kids a.last key b.kids b.last lies_a.1 lies_b.1)
      (parted_join (IsSorted depth) low a.kids a.last key b.kids b.last high sorted_a sorted_b) says in
      record {
        kids = cut.kids;
        last = cut.last;
        tops = cut.tops;
        divide = subst (λ (ks : List ℤ). Pairwise IsKey (divider_bytes packed) ks) cut.keys_are packs_now.divide;
        sorted = cut.sorted;
        rows_are = sym (cut.gives (rows_of depth)) ∙ each_split (rows_of depth) a.kids a.last key b.kids b.last;
        below_are = λ n. (let e = ap (occurs n) (sym (cut.gives (pages_of depth)) ∙ each_split (pages_of depth) a.kids a.last key b.kids b.last) in
            let both = occurs_append n (pages_in depth a.kids a.last) (pages_in depth b.kids b.last) in omega (arith, e, both));
        sized = subst (λ (n : ℕ). AllByRecursion (λ image. length image ≡ n) (images packed)) long_left packs_now.sized;
        few = (let sum = room_append cell_room is_left.cells (are.between ∷ is_right.cells) in
            let one = cells_fit 5 left 0 (to_be_bytes w32 (top depth a.last)) is_left.cells is_left.page_is in
            let two = cells_fit 5 right 0 (to_be_bytes w32 (top depth b.last)) is_right.cells is_right.page_is in
            let child : length (to_be_bytes w32 (top depth a.last)) ≡ 4 = refl in
            let other : length (to_be_bytes w32 (top depth b.last)) ≡ 4 = refl in
            let small = between_room in
            let most = few_parts 1 room false (map cell_room all_cells) packs_now.counts packs_now.cut (omega (arith, long_left, sizes.0))
            (omega (arith, sum, one, two, child, other, small, long_left, long_right, sizes.0)) in let le = counted.few in omega (arith, most, le));
      }
