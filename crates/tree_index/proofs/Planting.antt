-- Packed pages that are stored are the tops of subtrees.
use Rattle.std.proofs.Common.{◌≡◌, ◌<◌, ◌≤◌, ◌+◌, ◌^◌, ℕ, zero, suc, List, [], ◌∷◌, ◌++◌, length, map, refl, sym, ap, subst, ◌∙◌, arith}
use Rattle.pages.specs.Counting.{occurs}
use Rattle.pages.specs.Map.{PageMap, page_at}
use Rattle.pages.proofs.Moving.{occurs_append}
use Rattle.tree_page.specs.Cells.{Pairwise}
use Rattle.tree_page.specs.Node.{Local, Node, IsNode, IsBetweenCell}
use Rattle.tree_pack.specs.declared.spreading.Piece.{Piece}
use Rattle.tree_store.specs.Saying.{Says}
use Rattle.tree_store.specs.Sides.{children, each_of, Each}
use Rattle.tree_store.specs.Staying.{AreKept}
use Rattle.tree_store.specs.Storing.{IsOn, cells_over}
use Rattle.tree_store.proofs.Staying.{kept_of, each_kept}
use Rattle.tree_index.specs.Entries.{Entry}
use Rattle.tree_index.specs.Freeing.{all_of, below_of}
use Rattle.tree_index.specs.Growing.{Shows, IsTop, IsDivider, entries_in}
use Rattle.tree_index.specs.Tree.{Held, IsKidAs, Tree, top, entries_of, pages_of, Lies}
use Rattle.tree_index.proofs.Shares.{start_after}
use Rattle.tree_index.proofs.Staying.{entry_kept, entries_kept, between_kept, lies_kept}

-- ---- a tree with another page at the top

abbrev pub moved_to : (depth : ℕ) → ℕ → Tree depth → Tree depth
moved_to zero n t = record { page = n; entries = t.entries }
moved_to (suc depth) n t = record { page = n; kids = t.kids; last = t.last }

pub top_moved : (depth n : ℕ) (t : Tree depth) → top depth (moved_to depth n t) ≡ n
top_moved zero n t = refl
top_moved (suc depth) n t = refl

pub entries_moved : (depth n : ℕ) (t : Tree depth) → entries_of depth (moved_to depth n t) ≡ entries_of depth t
entries_moved zero n t = refl
entries_moved (suc depth) n t = refl

pub pages_moved : (depth n : ℕ) (t : Tree depth) → pages_of depth (moved_to depth n t) ≡ n ∷ below_of depth t
pages_moved zero n t = refl
pages_moved (suc depth) n t = refl

pub lies_moved : (m : PageMap) (size depth n : ℕ) (t : Tree depth) (node : Node) → Shows m size depth t node → Says m n node → Lies m size depth (moved_to depth n t)
lies_moved m size zero n t node shows says = record { said = shows.0; says = subst (λ (node : Node). Says m n node) shows.1 says; entries = shows.2 }
lies_moved m size (suc depth) n t node shows says = (record { said = shows.0; says = subst (λ (node : Node). Says m n node) shows.1 says; children = shows.2 }, shows.3)

-- ---- what stays

pub shows_kept : (old new : PageMap) (size depth : ℕ) (t : Tree depth) (node : Node) → AreKept old new size (below_of depth t) → Shows old size depth t node → Shows new size depth t node
shows_kept old new size zero t node kept shows = (shows.0, shows.1, entries_kept old new size shows.0 t.entries kept shows.2)
shows_kept old new size (suc depth) t node kept shows = (
  shows.0,
  shows.1,
  between_kept old new size (top depth) (pages_of depth) shows.0 t.kids t.last kept shows.2,
  each_kept (Lies old size depth) (Lies new size depth) (pages_of depth) (λ (held : Held). held.pages) old new size (λ kid k its. lies_kept old new size depth kid k its) t.kids t.last kept shows.3,
)

module _ (old new : PageMap) (size depth : ℕ) where
  abbrev below_in : List (Tree depth × Held) → Tree depth → List ℕ
  below_in kids last = each_of (below_of depth) (λ (held : Held). held.pages) kids last

  pub top_kept : (image : List ℕ) (t : Tree depth) → AreKept old new size (below_of depth t) → IsTop old size depth image t → IsTop new size depth image t
  top_kept image t kept is = record { node = is.node; says = is.says; shows = shows_kept old new size depth t is.node kept is.shows }

  first_kept : (kid : Tree depth × Held) (kids : List (Tree depth × Held)) (last : Tree depth) → AreKept old new size (below_in (kid ∷ kids) last) → AreKept old new size (below_of depth kid.0)
  first_kept kid kids last kept = kept_of old new size (below_in (kid ∷ kids) last) (below_of depth kid.0)
      (λ n some. (let a = occurs_append n (below_of depth kid.0) (kid.1.pages ++ below_in kids last) in omega (arith, a, some))) kept

  key_kept : (kid : Tree depth × Held) (kids : List (Tree depth × Held)) (last : Tree depth) → AreKept old new size (below_in (kid ∷ kids) last) → AreKept old new size kid.1.pages
  key_kept kid kids last kept = kept_of old new size (below_in (kid ∷ kids) last) kid.1.pages
      (λ n some. (let a = occurs_append n (below_of depth kid.0) (kid.1.pages ++ below_in kids last) in let b = occurs_append n kid.1.pages (below_in kids last) in omega (arith, a, b, some))) kept

  rest_kept : (kid : Tree depth × Held) (kids : List (Tree depth × Held)) (last : Tree depth) → AreKept old new size (below_in (kid ∷ kids) last) → AreKept old new size (below_in kids last)
  rest_kept kid kids last kept = kept_of old new size (below_in (kid ∷ kids) last) (below_in kids last)
      (λ n some. (let a = occurs_append n (below_of depth kid.0) (kid.1.pages ++ below_in kids last) in let b = occurs_append n kid.1.pages (below_in kids last) in omega (arith, a, b, some))) kept

  pub tops_kept : (images : List (List ℕ)) (kids : List (Tree depth × Held)) (last : Tree depth) → AreKept old new size (below_in kids last) → Pairwise (IsTop old size depth) images (all_of kids last)
      → Pairwise (IsTop new size depth) images (all_of kids last)
  tops_kept [] [] last kept tops = absurd tops
  tops_kept [] (kid ∷ kids) last kept tops = absurd tops
  tops_kept (image ∷ []) [] last kept tops = (top_kept image last kept tops.0, tt)
  tops_kept (image ∷ other ∷ images) [] last kept tops = absurd tops.1
  tops_kept (image ∷ images) (kid ∷ kids) last kept tops = (top_kept image kid.0 (first_kept kid kids last kept) tops.0, tops_kept images kids last (rest_kept kid kids last kept) tops.1)

  pub dividers_kept : (bytes : List (List ℕ)) (kids : List (Tree depth × Held)) (last : Tree depth) → AreKept old new size (below_in kids last) → Pairwise (IsDivider old size) bytes (map (λ kid. kid.1) kids)
      → Pairwise (IsDivider new size) bytes (map (λ kid. kid.1) kids)
  dividers_kept [] [] last kept divide = tt
  dividers_kept [] (kid ∷ kids) last kept divide = absurd divide
  dividers_kept (one ∷ bytes) [] last kept divide = absurd divide
  dividers_kept (one ∷ bytes) (kid ∷ kids) last kept divide = (
    record { said = divide.0.said; cell = divide.0.cell; is = entry_kept old new size divide.0.said kid.1 (key_kept kid kids last kept) divide.0.is },
    dividers_kept bytes kids last (rest_kept kid kids last kept) divide.1,
  )

-- ---- pages that are stored

on_says : (m : PageMap) (n : ℕ) (image : List ℕ) (node : Node) → IsOn m n image → IsNode image 0 node → Says m n node
on_says m n image node on is = record {
  has = on.has;
  node_is = subst (λ (start : ℕ). IsNode (page_at m n) start node) (sym (start_after n on.after)) (subst (λ (bytes : List ℕ). IsNode bytes 0 node) (sym on.is) is);
}

-- Subtrees stand on these pages, with an entry between each two.
pub record ArePlanted (m : PageMap) (size depth : ℕ) (entries : List Entry) (below fronts : List ℕ) (n : ℕ) (dividers : List (List ℕ)) : Type 0 where
  pub kids : List (Tree depth × Held)
  pub last : Tree depth
  pub last_is : top depth last ≡ n
  pub near : n < 2 ^ 32
  pub lies : Each (Lies m size depth) kids last
  pub entries_are : entries_in depth kids last ≡ entries
  pub pages_are : (k : ℕ) → occurs k (each_of (pages_of depth) (λ (held : Held). held.pages) kids last) ≡ occurs k (fronts ++ n ∷ []) + occurs k below
  pub news : List (ℕ × Local)
  pub cells : Pairwise (IsBetweenCell size) (cells_over fronts dividers) news
  pub shown : Pairwise (IsKidAs m size) news (children (top depth) kids)
  pub few : length news ≤ length dividers
  pub alone : cells_over fronts dividers ≡ [] → (fronts ≡ []) × (kids ≡ [])

module _ (m : PageMap) (size depth : ℕ) where
  none_left : (kids : List (Tree depth × Held)) (last : Tree depth) → Pairwise (IsTop m size depth) [] (all_of kids last) → ⊥
  none_left [] last h = h
  none_left (kid ∷ kids) last h = h

  none_on : (fronts : List ℕ) (n : ℕ) → Pairwise (IsOn m) (fronts ++ n ∷ []) [] → ⊥
  none_on [] n h = h
  none_on (k ∷ fronts) n h = h

  too_many : (fronts : List ℕ) (n : ℕ) (images : List (List ℕ)) → Pairwise (IsOn m) (fronts ++ n ∷ []) images → Pairwise (IsTop m size depth) images [] → ⊥
  too_many fronts n [] on tops = none_on fronts n on
  too_many fronts n (image ∷ images) on tops = tops

  plant_one : (n : ℕ) (image : List ℕ) (t : Tree depth) (dividers : List (List ℕ)) → IsOn m n image → IsTop m size depth image t
      → ArePlanted m size depth (entries_of depth t) (below_of depth t) [] n dividers
  plant_one n image t dividers on is = record {
    kids = [];
    last = moved_to depth n t;
    last_is = top_moved depth n t;
    near = on.near;
    lies = lies_moved m size depth n t is.node is.shows (on_says m n image is.node on is.says);
    entries_are = entries_moved depth n t;
    pages_are = λ k. (let e = ap (occurs k) (pages_moved depth n t) in let s = occurs_append k (n ∷ []) (below_of depth t) in omega (arith, e, s));
    news = [];
    cells = tt;
    shown = tt;
    few = omega arith;
    alone = λ e. (refl, refl);
  }

  plant_more : (n' : ℕ) (fronts : List ℕ) (n : ℕ) (image : List ℕ) (kid : Tree depth × Held) (entries : List Entry) (below divider : List ℕ) (dividers : List (List ℕ))
      → IsOn m n' image → IsTop m size depth image kid.0 → IsDivider m size divider kid.1 → ArePlanted m size depth entries below fronts n dividers
      → ArePlanted m size depth (entries_of depth kid.0 ++ (kid.1.entry ∷ entries)) (below_of depth kid.0 ++ (kid.1.pages ++ below)) (n' ∷ fronts) n (divider ∷ dividers)
  plant_more n' fronts n image kid entries below divider dividers on is key planted =
      let moved = moved_to depth n' kid.0 in
      let row = each_of (pages_of depth) (λ (held : Held). held.pages) planted.kids planted.last in
      record {
        kids = (moved, kid.1) ∷ planted.kids;
        last = planted.last;
        last_is = planted.last_is;
        near = planted.near;
        lies = (lies_moved m size depth n' kid.0 is.node is.shows (on_says m n' image is.node on is.says), planted.lies);
        entries_are = ap (λ (xs : List Entry). xs ++ (kid.1.entry ∷ entries_in depth planted.kids planted.last)) (entries_moved depth n' kid.0)
            ∙ ap (λ (xs : List Entry). entries_of depth kid.0 ++ (kid.1.entry ∷ xs)) planted.entries_are;
        pages_are = λ k. (let e = ap (λ (xs : List ℕ). occurs k (xs ++ (kid.1.pages ++ row))) (pages_moved depth n' kid.0) in
            let one = occurs_append k (n' ∷ below_of depth kid.0) (kid.1.pages ++ row) in
            let two = occurs_append k kid.1.pages row in
            let three = occurs_append k (below_of depth kid.0) (kid.1.pages ++ below) in
            let four = occurs_append k kid.1.pages below in
            let rest = planted.pages_are k in omega (arith, e, one, two, three, four, rest));
        news = (n', key.said) ∷ planted.news;
        cells = (record { rest = divider; parts = refl; near = on.near; entry = key.cell }, planted.cells);
        shown = ((sym (top_moved depth n' kid.0), key.is), planted.shown);
        few = (let rest = planted.few in omega (arith, rest));
        alone = λ e. absurd (no_cons e);
      }
    where
      no_cons : {x : List ℕ} {xs : List (List ℕ)} → x ∷ xs ≡ [] → ⊥
      no_cons e = cc

  -- packed pages that are stored are the tops of subtrees on these pages
  pub plant : (fronts : List ℕ) (n : ℕ) (images : List (List ℕ)) (kids : List (Tree depth × Held)) (last : Tree depth) (dividers : List (List ℕ))
      → Pairwise (IsOn m) (fronts ++ n ∷ []) images → Pairwise (IsTop m size depth) images (all_of kids last) → Pairwise (IsDivider m size) dividers (map (λ kid. kid.1) kids)
      → ArePlanted m size depth (entries_in depth kids last) (each_of (below_of depth) (λ (held : Held). held.pages) kids last) fronts n dividers
  plant [] n [] kids last dividers on tops divide = absurd on
  plant [] n (image ∷ []) [] last dividers on tops divide = plant_one n image last dividers on.0 tops.0
  plant [] n (image ∷ []) (kid ∷ kids) last dividers on tops divide = absurd (none_left kids last tops.1)
  plant [] n (image ∷ other ∷ images) kids last dividers on tops divide = absurd on.1
  plant (k ∷ fronts) n [] kids last dividers on tops divide = absurd on
  plant (k ∷ fronts) n (image ∷ images) [] last dividers on tops divide = absurd (too_many fronts n images on.1 tops.1)
  plant (k ∷ fronts) n (image ∷ images) (kid ∷ kids) last [] on tops divide = absurd divide
  plant (k ∷ fronts) n (image ∷ images) (kid ∷ kids) last (divider ∷ dividers) on tops divide =
      plant_more k fronts n image kid (entries_in depth kids last) (each_of (below_of depth) (λ (held : Held). held.pages) kids last) divider dividers on.0 tops.0 divide.0
      (plant fronts n images kids last dividers on.1 tops.1 divide.1)

-- a packed page alone is the top of one subtree
pub lone_top : (m : PageMap) (size depth : ℕ) (pieces : List Piece) (image : List ℕ) (kids : List (Tree depth × Held)) (last : Tree depth) → pieces ≡ []
    → Pairwise (IsTop m size depth) (map (λ (piece : Piece). piece.page.items) pieces ++ image ∷ []) (all_of kids last) → (kids ≡ []) × IsTop m size depth image last
lone_top m size depth [] image [] last none tops = (refl, tops.0)
lone_top m size depth [] image (kid ∷ []) last none tops = absurd tops.1
lone_top m size depth [] image (kid ∷ other ∷ kids) last none tops = absurd tops.1
lone_top m size depth (piece ∷ pieces) image kids last none tops = absurd (no_cons none)
  where
    no_cons : {x : Piece} {xs : List Piece} → x ∷ xs ≡ [] → ⊥
    no_cons e = cc
