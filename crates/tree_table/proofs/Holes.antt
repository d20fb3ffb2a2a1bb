-- The child of an interior page that has a rowid's place: what stands beside it, and what can stand in its place.
use Rattle.std.proofs.Common.{◌≡◌, ◌≤◌, ◌+◌, ℕ, suc, ℤ, ◌<ℤ◌, ◌≤ℤ◌, List, [], ◌∷◌, ◌++◌, length, map, refl, sym, ap, subst, ◌∙◌, inl, inr, arith}
use Rattle.std.proofs.lemmas.Int.{ints}
use Rattle.tree_leaf.specs.Leaf.{Entry}
use Rattle.pages.specs.Counting.{occurs}
use Rattle.pages.proofs.Moving.{occurs_append}
use Rattle.tree_page.specs.Reading.{below}
use Rattle.tree_store.specs.Sides.{Side, behind, children, each_of, nothing, Each, Parted}
use Rattle.tree_store.specs.Frames.{Frame, ends, goes, framed, left_of, right_of, IsOpening}
use Rattle.tree_store.proofs.Windows.{each_join}
use Rattle.tree_table.specs.Fanning.{fanned}
use Rattle.tree_table.specs.Stepping.{child_at}
use Rattle.tree_table.specs.Tree.{Tree, IsSorted, rows_of, pages_of, top}
use Rattle.tree_table.proofs.Orders.{AreLess, AreGreater, all_append, less_or_not, sorted_less, sorted_le, kids_more}

abbrev pub Kids : ℕ → Type 0
Kids depth = List (Tree depth × ℤ)

abbrev pub keys_of : {T : Type 0} → List (T × ℤ) → List ℤ
keys_of kids = map (λ kid. kid.1) kids

-- what children a row of subtrees shows
abbrev pub seen : {T : Type 0} → (T → ℕ) → Side T ℤ → Side ℕ ℤ
seen page side = (children page side.0, page side.1)

-- the pages of a row of subtrees
abbrev pub pages_in : (depth : ℕ) → Kids depth → Tree depth → List ℕ
pages_in depth kids last = each_of (pages_of depth) nothing kids last

pub record IsHole (depth : ℕ) (rowid low : ℤ) (kids : Kids depth) (last : Tree depth) (high : ℤ) (place : ℕ) : Type 1 where
  pub frame : Frame (Tree depth) ℤ
  pub tree : Tree depth
  pub whole : framed frame ([], tree) ≡ (kids, last)
  pub from : ℤ
  pub to : ℤ
  pub above : from <ℤ rowid
  pub upto : rowid ≤ℤ to
  pub sorted : IsSorted depth from tree to
  pub opening : IsOpening (IsSorted depth) low frame high from to
  pub left : AreLess rowid (left_of (rows_of depth) nothing frame)
  pub right : AreGreater rowid (right_of (rows_of depth) nothing frame)
  pub beyond : AreGreater to (right_of (rows_of depth) nothing frame)
  pub to_le : to ≤ℤ high
  pub child : child_at place (children (top depth) kids) (top depth last) ≡ top depth tree
  pub fan : (window : Side (Tree depth) ℤ)
      → seen (top depth) (framed frame window) ≡ fanned place (children (top depth) window.0) (top depth window.1) (children (top depth) kids) (top depth last)
  pub within : place ≤ length (children (top depth) kids)
  pub each : (P : Tree depth → Type 0) → Each P kids last → P tree
  pub fill : (P Q : Tree depth → Type 0) (window : Side (Tree depth) ℤ) → Each Q window.0 window.1
      → ((u : Tree depth) → ((n : ℕ) → occurs n (pages_of depth u) + occurs n (pages_of depth tree) ≤ occurs n (pages_in depth kids last)) → P u → Q u)
      → Each P kids last → Each Q (framed frame window).0 (framed frame window).1

-- ---- one more subtree in front

abbrev pub in_front : {T K : Type 0} → T × K → Frame T K → Frame T K
in_front kid (ends front) = ends (kid ∷ front)
in_front kid (goes front key rest) = goes (kid ∷ front) key rest

pub front_framed : {T K : Type 0} (kid : T × K) (frame : Frame T K) (window : Side T K) → framed (in_front kid frame) window ≡ behind (kid ∷ []) (framed frame window)
front_framed kid (ends front) window = refl
front_framed kid (goes front key rest) window = refl

front_left : {T K X : Type 0} (f : T → List X) (kid : T × K) (frame : Frame T K) → left_of f nothing (in_front kid frame) ≡ f kid.0 ++ left_of f nothing frame
front_left f kid (ends front) = refl
front_left f kid (goes front key rest) = refl

front_right : {T K X : Type 0} (f : T → List X) (kid : T × K) (frame : Frame T K) → right_of f nothing (in_front kid frame) ≡ right_of f nothing frame
front_right f kid (ends front) = refl
front_right f kid (goes front key rest) = refl

-- ---- all of the rest

each_through : (depth : ℕ) (P Q : Tree depth → Type 0) (kids : Kids depth) (last : Tree depth)
    → ((u : Tree depth) → ((n : ℕ) → occurs n (pages_of depth u) ≤ occurs n (pages_in depth kids last)) → P u → Q u)
    → Each P kids last → Each Q kids last
each_through depth P Q [] last go h = go last (λ n. omega arith) h
each_through depth P Q (kid ∷ kids) last go h = (
  go kid.0 (λ n. (let e = occurs_append n (pages_of depth kid.0) (pages_in depth kids last) in omega (arith, e))) h.0,
  each_through depth P Q kids last (λ u some k. go u (λ n. (let e = occurs_append n (pages_of depth kid.0) (pages_in depth kids last) in let m = some n in omega (arith, e, m))) k) h.1,
)

pub each_stays : (depth : ℕ) (P Q : Tree depth → Type 0) (kids : Kids depth) (last : Tree depth)
    → ((u : Tree depth) → ((n : ℕ) → occurs n (pages_of depth u) ≤ occurs n (pages_in depth kids last)) → P u → Q u)
    → Each P kids last → Each Q kids last
each_stays = each_through

units : (depth : ℕ) (kids : Kids depth) (last : Tree depth) → Each (λ (u : Tree depth). Unit {0}) kids last
units depth [] last = tt
units depth (kid ∷ kids) last = (tt, units depth kids last)

-- a subtree's pages are among those of the row
pub among : (depth n : ℕ) (kids : Kids depth) (last : Tree depth) → Each (λ (u : Tree depth). occurs n (pages_of depth u) ≤ occurs n (pages_in depth kids last)) kids last
among depth n kids last =
    each_through depth (λ u. Unit {0}) (λ u. occurs n (pages_of depth u) ≤ occurs n (pages_in depth kids last)) kids last (λ u some k. some n) (units depth kids last)

pub children_append : {T : Type 0} (page : T → ℕ) (xs ys : List (T × ℤ)) → children page (xs ++ ys) ≡ children page xs ++ children page ys
children_append page [] ys = refl
children_append page (x ∷ xs) ys = ap (λ (cells : List (ℕ × ℤ)). (page x.0, x.1) ∷ cells) (children_append page xs ys)

pub parted_join : {T : Type 0} (P : ℤ → T → ℤ → Type 0) (low : ℤ) (kids : List (T × ℤ)) (t : T) (key : ℤ) (rest : List (T × ℤ)) (last : T) (high : ℤ)
    → Parted P low kids t key → Parted P key rest last high → Parted P low (kids ++ (t, key) ∷ rest) last high
parted_join P low [] t key rest last high h k = (h, k)
parted_join P low (kid ∷ kids) t key rest last high (h, r) k = (h, parted_join P kid.1 kids t key rest last high r k)

-- ---- the hole

same_le : (a : ℤ) → a ≤ℤ a
same_le a = omega (arith, ints)

hole_last : (depth : ℕ) (rowid low : ℤ) (last : Tree depth) (high : ℤ) → low <ℤ rowid → rowid ≤ℤ high → IsSorted depth low last high → IsHole depth rowid low [] last high 0
hole_last depth rowid low last high above upto sorted = record {
  frame = ends [];
  tree = last;
  whole = refl;
  from = low;
  to = high;
  above = above;
  upto = upto;
  sorted = sorted;
  opening = record { fill = λ window parted. parted };
  left = tt;
  right = tt;
  beyond = tt;
  to_le = same_le high;
  child = refl;
  fan = λ window. refl;
  within = omega arith;
  each = λ P h. h;
  fill = λ P Q window new go h. new;
}

hole_here : (depth : ℕ) (rowid low : ℤ) (kid : Tree depth × ℤ) (kids : Kids depth) (last : Tree depth) (high : ℤ) → low <ℤ rowid → rowid ≤ℤ kid.1
    → IsSorted depth low kid.0 kid.1 → Parted (IsSorted depth) kid.1 kids last high → IsHole depth rowid low (kid ∷ kids) last high 0
hole_here depth rowid low kid kids last high above upto sorted more =
    let frame : Frame (Tree depth) ℤ = goes [] kid.1 (kids, last) in
    record {
      frame = frame;
      tree = kid.0;
      whole = refl;
      from = low;
      to = kid.1;
      above = above;
      upto = upto;
      sorted = sorted;
      opening = record { fill = λ window parted. parted_join (IsSorted depth) low window.0 window.1 kid.1 kids last high parted more };
      left = tt;
      right = kids_more depth rowid kid.1 kids last high upto more;
      beyond = kids_more depth kid.1 kid.1 kids last high (same_le kid.1) more;
      to_le = sorted_le (suc depth) kid.1 (record { page = 0; kids = kids; last = last }) high more;
      child = refl;
      fan = λ window. ap (λ (cells : List (ℕ × ℤ)). (cells, top depth last)) (children_append (top depth) window.0 ((window.1, kid.1) ∷ kids));
      within = omega arith;
      each = λ P h. h.0;
      fill = λ P Q window new go h. each_join Q window.0 window.1 kid.1 kids last new
          (each_through depth P Q kids last (λ u some k. go u (λ n. (let e = occurs_append n (pages_of depth kid.0) (pages_in depth kids last) in let m = some n in omega (arith, e, m))) k) h.1);
    }

hole_behind : (depth : ℕ) (rowid low : ℤ) (kid : Tree depth × ℤ) (kids : Kids depth) (last : Tree depth) (high : ℤ) (place : ℕ) → kid.1 <ℤ rowid
    → IsSorted depth low kid.0 kid.1 → IsHole depth rowid kid.1 kids last high place → IsHole depth rowid low (kid ∷ kids) last high (suc place)
hole_behind depth rowid low kid kids last high place lt sorted r =
    record {
      frame = in_front kid r.frame;
      tree = r.tree;
      whole = front_framed kid r.frame ([], r.tree) ∙ ap (λ (s : Side (Tree depth) ℤ). behind (kid ∷ []) s) r.whole;
      from = r.from;
      to = r.to;
      above = r.above;
      upto = r.upto;
      sorted = r.sorted;
      opening = record { fill = λ window parted. subst (λ (s : Side (Tree depth) ℤ). Parted (IsSorted depth) low s.0 s.1 high) (sym (front_framed kid r.frame window)) (sorted, r.opening.fill window parted) };
      left = subst (λ (rows : List Entry). AreLess rowid rows) (sym (front_left (rows_of depth) kid r.frame))
          (all_append (λ (row : Entry). row.rowid <ℤ rowid) (rows_of depth kid.0) (left_of (rows_of depth) nothing r.frame) (sorted_less depth rowid low kid.0 kid.1 lt sorted) r.left);
      right = subst (λ (rows : List Entry). AreGreater rowid rows) (sym (front_right (rows_of depth) kid r.frame)) r.right;
      beyond = subst (λ (rows : List Entry). AreGreater r.to rows) (sym (front_right (rows_of depth) kid r.frame)) r.beyond;
      to_le = r.to_le;
      child = r.child;
      fan = λ window. ap (λ (s : Side (Tree depth) ℤ). seen (top depth) s) (front_framed kid r.frame window)
          ∙ ap (λ (s : Side ℕ ℤ). behind ((top depth kid.0, kid.1) ∷ []) s) (r.fan window);
      within = (let le = r.within in omega (arith, le));
      each = λ P h. r.each P h.1;
      fill = λ P Q window new go h. subst (λ (s : Side (Tree depth) ℤ). Each Q s.0 s.1) (sym (front_framed kid r.frame window)) (
        go kid.0 (λ n. (let e = occurs_append n (pages_of depth kid.0) (pages_in depth kids last) in let m = r.each (λ (u : Tree depth). occurs n (pages_of depth u) ≤ occurs n (pages_in depth kids last)) (among depth n kids last) in omega (arith, e, m))) h.0,
        r.fill P Q window new (λ u some k. go u (λ n. (let e = occurs_append n (pages_of depth kid.0) (pages_in depth kids last) in let m = some n in omega (arith, e, m))) k) h.1,
      );
    }

pub hole : (depth : ℕ) (rowid low : ℤ) (kids : Kids depth) (last : Tree depth) (high : ℤ) → low <ℤ rowid → rowid ≤ℤ high → Parted (IsSorted depth) low kids last high
    → IsHole depth rowid low kids last high (below rowid (keys_of kids))
hole depth rowid low [] last high above upto sorted = hole_last depth rowid low last high above upto sorted
hole depth rowid low (kid ∷ kids) last high above upto sorted = elim (less_or_not kid.1 rowid) [
  | inl less ↦ rw less.0 (hole_behind depth rowid low kid kids last high (below rowid (keys_of kids)) less.1 sorted.0 (hole depth rowid kid.1 kids last high less.1 upto sorted.1))
  | inr not ↦ rw not.0 (hole_here depth rowid low kid kids last high above not.1 sorted.0 sorted.1)
]
