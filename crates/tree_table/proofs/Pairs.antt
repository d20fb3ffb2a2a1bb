-- Two children of an interior page, side by side: what can stand in their place.
use Rattle.std.proofs.Common.{◌≡◌, ◌≤◌, ◌<◌, ◌+◌, ℕ, zero, suc, ℤ, List, [], ◌∷◌, length, slice_index_or, refl, sym, ap, subst, ◌∙◌, arith}
use Rattle.pages.specs.Counting.{occurs}
use Rattle.pages.proofs.Moving.{occurs_append}
use Rattle.tree_store.specs.Sides.{Side, behind, children, Each}
use Rattle.tree_store.specs.Frames.{Frame, ends, goes, framed}
use Rattle.tree_store.proofs.Windows.{each_join}
use Rattle.tree_table.specs.Fanning.{fanned}
use Rattle.tree_table.specs.Joining.{without_at}
use Rattle.tree_table.specs.Stepping.{child_at}
use Rattle.tree_table.specs.Tree.{Tree, pages_of, top}
use Rattle.tree_table.proofs.Holes.{Kids, seen, pages_in, in_front, front_framed, children_append, each_stays}

pub record IsPair (depth : ℕ) (kids : Kids depth) (last : Tree depth) (place : ℕ) : Type 1 where
  pub frame : Frame (Tree depth) ℤ
  pub left : Tree depth
  pub key : ℤ
  pub right : Tree depth
  pub whole : framed frame ((left, key) ∷ [], right) ≡ (kids, last)
  pub left_is : child_at place (children (top depth) kids) (top depth last) ≡ top depth left
  pub right_is : child_at (suc place) (children (top depth) kids) (top depth last) ≡ top depth right
  pub key_is : (d : ℕ × ℤ) → (slice_index_or (children (top depth) kids) place d).1 ≡ key
  pub two : (n : ℕ) → occurs n (pages_of depth left) + occurs n (pages_of depth right) ≤ occurs n (pages_in depth kids last)
  pub fan : (window : Side (Tree depth) ℤ)
      → seen (top depth) (framed frame window) ≡ fanned place (children (top depth) window.0) (top depth window.1) (without_at place (children (top depth) kids)) (top depth last)
  pub fill : (P Q : Tree depth → Type 0) (window : Side (Tree depth) ℤ) → Each Q window.0 window.1
      → ((u : Tree depth) → ((n : ℕ) → occurs n (pages_of depth u) + (occurs n (pages_of depth left) + occurs n (pages_of depth right)) ≤ occurs n (pages_in depth kids last)) → P u → Q u)
      → Each P kids last → Each Q (framed frame window).0 (framed frame window).1

-- of the first two of three or more
pair_here : (depth : ℕ) (kid next : Tree depth × ℤ) (kids : Kids depth) (last : Tree depth) → IsPair depth (kid ∷ next ∷ kids) last 0
pair_here depth kid next kids last = record {
  frame = goes [] next.1 (kids, last);
  left = kid.0;
  key = kid.1;
  right = next.0;
  whole = refl;
  left_is = refl;
  right_is = refl;
  key_is = λ d. refl;
  two = λ n. (let a = occurs_append n (pages_of depth kid.0) (pages_in depth (next ∷ kids) last) in let b = occurs_append n (pages_of depth next.0) (pages_in depth kids last) in omega (arith, a, b));
  fan = λ window. ap (λ (cells : List (ℕ × ℤ)). (cells, top depth last)) (children_append (top depth) window.0 ((window.1, next.1) ∷ kids));
  fill = λ P Q window new go h. each_join Q window.0 window.1 next.1 kids last new
      (each_stays depth P Q kids last (λ u some k. go u (λ n. (
      let a = occurs_append n (pages_of depth kid.0) (pages_in depth (next ∷ kids) last) in
      let b = occurs_append n (pages_of depth next.0) (pages_in depth kids last) in let m = some n in omega (arith, a, b, m))) k) h.1.1);
}

-- of the last two
pair_last : (depth : ℕ) (kid : Tree depth × ℤ) (last : Tree depth) → IsPair depth (kid ∷ []) last 0
pair_last depth kid last = record {
  frame = ends [];
  left = kid.0;
  key = kid.1;
  right = last;
  whole = refl;
  left_is = refl;
  right_is = refl;
  key_is = λ d. refl;
  two = λ n. (let a = occurs_append n (pages_of depth kid.0) (pages_of depth last) in omega (arith, a));
  fan = λ window. refl;
  fill = λ P Q window new go h. new;
}

pair_behind : (depth : ℕ) (kid : Tree depth × ℤ) (kids : Kids depth) (last : Tree depth) (place : ℕ) → IsPair depth kids last place → IsPair depth (kid ∷ kids) last (suc place)
pair_behind depth kid kids last place r = record {
  frame = in_front kid r.frame;
  left = r.left;
  key = r.key;
  right = r.right;
  whole = front_framed kid r.frame ((r.left, r.key) ∷ [], r.right) ∙ ap (λ (s : Side (Tree depth) ℤ). behind (kid ∷ []) s) r.whole;
  left_is = r.left_is;
  right_is = r.right_is;
  key_is = r.key_is;
  two = λ n. (let e = occurs_append n (pages_of depth kid.0) (pages_in depth kids last) in let m = r.two n in omega (arith, e, m));
  fan = λ window. ap (λ (s : Side (Tree depth) ℤ). seen (top depth) s) (front_framed kid r.frame window)
      ∙ ap (λ (s : Side ℕ ℤ). behind ((top depth kid.0, kid.1) ∷ []) s) (r.fan window);
  fill = λ P Q window new go h. subst (λ (s : Side (Tree depth) ℤ). Each Q s.0 s.1) (sym (front_framed kid r.frame window)) (
    go kid.0 (λ n. (let e = occurs_append n (pages_of depth kid.0) (pages_in depth kids last) in let m = r.two n in omega (arith, e, m))) h.0,
    r.fill P Q window new (λ u some k. go u (λ n. (let e = occurs_append n (pages_of depth kid.0) (pages_in depth kids last) in let m = some n in omega (arith, e, m))) k) h.1,
  );
}

pub pair : (depth : ℕ) (kids : Kids depth) (last : Tree depth) (place : ℕ) → place < length kids → IsPair depth kids last place
pair depth [] last place lt = absurd (omega (arith, lt))
pair depth (kid ∷ []) last zero lt = pair_last depth kid last
pair depth (kid ∷ next ∷ kids) last zero lt = pair_here depth kid next kids last
pair depth (kid ∷ kids) last (suc place) lt = pair_behind depth kid kids last place (pair depth kids last place (omega (arith, lt)))
