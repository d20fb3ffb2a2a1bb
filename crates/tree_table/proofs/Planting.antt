-- Packed pages that are stored are the tops of subtrees.
use Rattle.std.proofs.Common.{◌≡◌, ◌<◌, ◌+◌, ◌^◌, ℕ, zero, suc, ℤ, List, [], ◌∷◌, ◌++◌, refl, sym, ap, subst, ◌∙◌, arith}
use Rattle.std.proofs.lemmas.Grind.{common_steps}
use Rattle.std.specs.Int.{w32, to_be_bytes}
use Rattle.tree_leaf.specs.Leaf.{Entry}
use Rattle.pages.specs.Counting.{occurs, start_of}
use Rattle.pages.specs.Map.{PageMap, page_at}
use Rattle.pages.proofs.Moving.{occurs_append}
use Rattle.tree_page.specs.Cells.{Pairwise}
use Rattle.tree_page.specs.Node.{Node, IsNode, IsKeyCell}
use Rattle.tree_pack.specs.Packing.{IsKey}
use Rattle.tree_store.specs.Saying.{Says}
use Rattle.tree_store.specs.Sides.{children, each_of, nothing, Each, Parted}
use Rattle.tree_store.specs.Storing.{IsOn, cells_over}
use Rattle.tree_table.specs.Growing.{below_of, Shows, IsTop, all_of}
use Rattle.tree_table.specs.Tree.{Tree, top, rows_of, pages_of, IsSorted, Lies}
use Rattle.tree_table.proofs.Holes.{Kids, keys_of, pages_in}

-- ---- a tree with another page at the top

abbrev pub moved_to : (depth : ℕ) → ℕ → Tree depth → Tree depth
moved_to zero n t = record { page = n; rows = t.rows }
moved_to (suc depth) n t = record { page = n; kids = t.kids; last = t.last }

pub top_moved : (depth n : ℕ) (t : Tree depth) → top depth (moved_to depth n t) ≡ n
top_moved zero n t = refl
top_moved (suc depth) n t = refl

pub rows_moved : (depth n : ℕ) (t : Tree depth) → rows_of depth (moved_to depth n t) ≡ rows_of depth t
rows_moved zero n t = refl
rows_moved (suc depth) n t = refl

pub pages_moved : (depth n : ℕ) (t : Tree depth) → pages_of depth (moved_to depth n t) ≡ n ∷ below_of depth t
pages_moved zero n t = refl
pages_moved (suc depth) n t = refl

pub pages_split : (depth : ℕ) (t : Tree depth) → pages_of depth t ≡ top depth t ∷ below_of depth t
pages_split zero t = refl
pages_split (suc depth) t = refl

pub sorted_moved : (depth n : ℕ) (low : ℤ) (t : Tree depth) (high : ℤ) → IsSorted depth low t high → IsSorted depth low (moved_to depth n t) high
sorted_moved zero n low t high h = h
sorted_moved (suc depth) n low t high h = h

pub lies_moved : (map' : PageMap) (size depth n : ℕ) (t : Tree depth) (node : Node) → Shows map' size depth t node → Says map' n node → Lies map' size depth (moved_to depth n t)
lies_moved map' size zero n t node shows says = record { said = shows.0; says = subst (λ (node : Node). Says map' n node) shows.1 says; rows = shows.2 }
lies_moved map' size (suc depth) n t node shows says = (subst (λ (node : Node). Says map' n node) shows.0 says, shows.1)

-- ---- pages that are stored

pub after_one : (n : ℕ) → 1 < n → start_of n ≡ 0
after_one n after = grind (arith, common_steps)

on_says : (map' : PageMap) (n : ℕ) (image : List ℕ) (node : Node) → IsOn map' n image → IsNode image 0 node → Says map' n node
on_says map' n image node on is = record {
  has = on.has;
  node_is = subst (λ (start : ℕ). IsNode (page_at map' n) start node) (sym (after_one n on.after)) (subst (λ (bytes : List ℕ). IsNode bytes 0 node) (sym on.is) is);
}

pub record ArePlanted (map' : PageMap) (size depth : ℕ) (low high : ℤ) (rows : List Entry) (below fronts : List ℕ) (n : ℕ) (dividers : List (List ℕ)) : Type 0 where
  pub kids : Kids depth
  pub last : Tree depth
  pub last_is : top depth last ≡ n
  pub near : n < 2 ^ 32
  pub lies : Each (Lies map' size depth) kids last
  pub sorted : Parted (IsSorted depth) low kids last high
  pub rows_are : each_of (rows_of depth) nothing kids last ≡ rows
  pub pages_are : (m : ℕ) → occurs m (pages_in depth kids last) ≡ occurs m (fronts ++ n ∷ []) + occurs m below
  pub cells_are : Pairwise IsKeyCell (cells_over fronts dividers) (children (top depth) kids)
  pub alone : cells_over fronts dividers ≡ [] → (fronts ≡ []) × (kids ≡ [])

abbrev below_in : (depth : ℕ) → Kids depth → Tree depth → List ℕ
below_in depth kids last = each_of (below_of depth) nothing kids last

module _ (map' : PageMap) (size depth : ℕ) where
  none_left : (kids : Kids depth) (last : Tree depth) → Pairwise (IsTop map' size depth 0) [] (all_of kids last) → ⊥
  none_left [] last h = h
  none_left (kid ∷ kids) last h = h

  none_on : (fronts : List ℕ) (n : ℕ) → Pairwise (IsOn map') (fronts ++ n ∷ []) [] → ⊥
  none_on [] n h = h
  none_on (m ∷ fronts) n h = h

  too_many : (fronts : List ℕ) (n : ℕ) (images : List (List ℕ)) → Pairwise (IsOn map') (fronts ++ n ∷ []) images → Pairwise (IsTop map' size depth 0) images [] → ⊥
  too_many fronts n [] on tops = none_on fronts n on
  too_many fronts n (image ∷ images) on tops = tops

  plant_one : (n : ℕ) (image : List ℕ) (t : Tree depth) (low high : ℤ) (dividers : List (List ℕ)) → IsOn map' n image → IsTop map' size depth 0 image t → IsSorted depth low t high
      → ArePlanted map' size depth low high (rows_of depth t) (below_of depth t) [] n dividers
  plant_one n image t low high dividers on is sorted = record {
    kids = [];
    last = moved_to depth n t;
    last_is = top_moved depth n t;
    near = on.near;
    lies = lies_moved map' size depth n t is.node is.shows (on_says map' n image is.node on is.says);
    sorted = sorted_moved depth n low t high sorted;
    rows_are = rows_moved depth n t;
    pages_are = λ m. (let e = ap (occurs m) (pages_moved depth n t) in let s = occurs_append m (n ∷ []) (below_of depth t) in omega (arith, e, s));
    cells_are = tt;
    alone = λ e. (refl, refl);
  }

  plant_more : (m : ℕ) (fronts : List ℕ) (n : ℕ) (image : List ℕ) (kid : Tree depth × ℤ) (low high : ℤ) (rows : List Entry) (below divider : List ℕ) (dividers : List (List ℕ))
      → IsOn map' m image → IsTop map' size depth 0 image kid.0 → IsKey divider kid.1 → IsSorted depth low kid.0 kid.1 → ArePlanted map' size depth kid.1 high rows below fronts n dividers
      → ArePlanted map' size depth low high (rows_of depth kid.0 ++ rows) (below_of depth kid.0 ++ below) (m ∷ fronts) n (divider ∷ dividers)
  plant_more m fronts n image kid low high rows below divider dividers on is key sorted planted =
      let moved = moved_to depth m kid.0 in
      record {
        kids = (moved, kid.1) ∷ planted.kids;
        last = planted.last;
        last_is = planted.last_is;
        near = planted.near;
        lies = (lies_moved map' size depth m kid.0 is.node is.shows (on_says map' m image is.node on is.says), planted.lies);
        sorted = (sorted_moved depth m low kid.0 kid.1 sorted, planted.sorted);
        rows_are = ap (λ (xs : List Entry). xs ++ each_of (rows_of depth) nothing planted.kids planted.last) (rows_moved depth m kid.0) ∙ ap (λ (xs : List Entry). rows_of depth kid.0 ++ xs) planted.rows_are;
        pages_are = λ k. (let e = ap (λ (xs : List ℕ). occurs k (xs ++ pages_in depth planted.kids planted.last)) (pages_moved depth m kid.0) in
            let one = occurs_append k (m ∷ below_of depth kid.0) (pages_in depth planted.kids planted.last) in
            let two = occurs_append k (below_of depth kid.0) below in
            let rest = planted.pages_are k in omega (arith, e, one, two, rest));
        cells_are = (
          subst (λ (k : ℕ). IsKeyCell (to_be_bytes w32 m ++ divider) (k, kid.1)) (sym (top_moved depth m kid.0))
              (record { key = divider; number = key.number; parts = refl; near = on.near; key_is = key.key_is; signed = key.signed }),
          planted.cells_are,
        );
        alone = λ e. absurd (no_cons e);
      }
    where
      no_cons : {x : List ℕ} {xs : List (List ℕ)} → x ∷ xs ≡ [] → ⊥
      no_cons e = cc

  -- packed pages that are stored are the tops of subtrees on these pages
  pub plant : (fronts : List ℕ) (n : ℕ) (images : List (List ℕ)) (kids : Kids depth) (last : Tree depth) (dividers : List (List ℕ)) (low high : ℤ)
      → Pairwise (IsOn map') (fronts ++ n ∷ []) images → Pairwise (IsTop map' size depth 0) images (all_of kids last) → Pairwise IsKey dividers (keys_of kids)
      → Parted (IsSorted depth) low kids last high
      → ArePlanted map' size depth low high (each_of (rows_of depth) nothing kids last) (below_in depth kids last) fronts n dividers
  plant [] n [] kids last dividers low high on tops divide sorted = absurd on
  plant [] n (image ∷ []) [] last dividers low high on tops divide sorted = plant_one n image last low high dividers on.0 tops.0 sorted
  plant [] n (image ∷ []) (kid ∷ kids) last dividers low high on tops divide sorted = absurd (none_left kids last tops.1)
  plant [] n (image ∷ other ∷ images) kids last dividers low high on tops divide sorted = absurd on.1
  plant (m ∷ fronts) n [] kids last dividers low high on tops divide sorted = absurd on
  plant (m ∷ fronts) n (image ∷ images) [] last dividers low high on tops divide sorted = absurd (too_many fronts n images on.1 tops.1)
  plant (m ∷ fronts) n (image ∷ images) (kid ∷ kids) last [] low high on tops divide sorted = absurd divide
  plant (m ∷ fronts) n (image ∷ images) (kid ∷ kids) last (divider ∷ dividers) low high on tops divide sorted =
      plant_more m fronts n image kid low high (each_of (rows_of depth) nothing kids last) (below_in depth kids last) divider dividers on.0 tops.0 divide.0 sorted.0
      (plant fronts n images kids last dividers kid.1 high on.1 tops.1 divide.1 sorted.1)
