-- Cells that fit a page.
use Rattle.std.proofs.Common.{◌≡◌, ℕ, ◌+◌, ◌-◌, ◌*◌, ◌^◌, ◌≤◌, true, false, cond, nat_lt, nat_le, Bool, List, [], ◌∷◌, length, Option, Some, None, sum_by, refl, ap, arith}
use Rattle.std.specs.List.{AllByRecursion}
use Rattle.std.proofs.lemmas.Bool.{ltb-false, le-ltb, leb-true, le-leb}
use Rattle.std.proofs.lemmas.List.Sums.{sum_by-cons}
use Rattle.tree_leaf.specs.Leaf.{Entry}
use Rattle.tree_leaf.specs.Writing.{Fits, cell_size, content_below, content_of, is_whole}

keep_some : (b : Bool) (r : Option ℕ) (n : ℕ) → cond b r None ≡ Some n → (b ≡ true) × (r ≡ Some n)
keep_some true r n e = (refl, e)
keep_some false r n e = absurd cc

guard_some : (b : Bool) (r : Option ℕ) (n : ℕ) → cond b None r ≡ Some n → (b ≡ false) × (r ≡ Some n)
guard_some true r n e = absurd cc
guard_some false r n e = (refl, e)

abbrev some : ℕ → Option ℕ
some n = Some n

some_is : {m n : ℕ} → some m ≡ some n → m ≡ n
some_is e = cc

pub record FitsBelow (page_size room content : ℕ) (entries : List Entry) (last : ℕ) : Type 0 where
  pub whole : AllByRecursion (λ entry. length entry.payload + 35 ≤ page_size) entries
  pub enough : 2 * length entries + sum_by cell_size entries ≤ room
  pub last_is : last ≡ content - sum_by cell_size entries

below_is : (page_size room content : ℕ) (entries : List Entry) (last : ℕ) → content_below page_size room content entries ≡ Some last → FitsBelow page_size room content entries last
unfolding is_whole
below_is page_size room content [] last e = record { whole = tt; enough = omega arith; last_is = omega (arith, some_is e) }
below_is page_size room content (entry ∷ entries) last e =
    let w = keep_some (is_whole page_size (length entry.payload)) _ last e in
    let g = guard_some (nat_lt room (cell_size entry + 2)) _ last w.1 in
    let le : cell_size entry + 2 ≤ room = ltb-false _ _ g.0 in
    let r = below_is page_size (room - (cell_size entry + 2)) (content - cell_size entry) entries last g.1 in
    record {
      whole = (leb-true _ _ w.0, r.whole);
      enough = omega (arith, r.enough, sum_by-cons cell_size entry entries);
      last_is = omega (arith, r.last_is, sum_by-cons cell_size entry entries);
    }

below_again : (page_size room content : ℕ) (entries : List Entry) → AllByRecursion (λ entry. length entry.payload + 35 ≤ page_size) entries → 2 * length entries + sum_by cell_size entries ≤ room
    → content_below page_size room content entries ≡ Some (content - sum_by cell_size entries)
unfolding is_whole
below_again page_size room content [] whole enough = ap (λ (n : ℕ). some n) (omega arith)
below_again page_size room content (entry ∷ entries) whole enough =
    let sum = sum_by-cons cell_size entry entries in
    let fine : nat_le (length entry.payload + 35) page_size ≡ true = le-leb _ _ whole.0 in
    let place : nat_lt room (cell_size entry + 2) ≡ false = le-ltb _ _ (omega arith) in
    let rest = below_again page_size (room - (cell_size entry + 2)) (content - cell_size entry) entries whole.1 (omega arith) in
    let same : content - cell_size entry - sum_by cell_size entries ≡ content - sum_by cell_size (entry ∷ entries) = omega arith in
    rw (fine, place, rest) (ap (λ (n : ℕ). some n) same)

pub fits_is : (page_size start : ℕ) (entries : List Entry) (last : ℕ) → content_of page_size start entries ≡ Some last → Fits page_size start entries × (last ≡ page_size - sum_by cell_size entries)
unfolding content_of
fits_is page_size start entries last e =
    let a = guard_some (nat_lt (2 ^ 16) page_size) _ last e in
    let b = guard_some (nat_lt page_size 8) _ last a.1 in
    let c = guard_some (nat_lt (page_size - 8) start) _ last b.1 in
    let le_a : page_size ≤ 2 ^ 16 = ltb-false _ _ a.0 in
    let le_b : 8 ≤ page_size = ltb-false _ _ b.0 in
    let le_c : start ≤ page_size - 8 = ltb-false _ _ c.0 in
    let f = below_is page_size (page_size - 8 - start) page_size entries last c.1 in
    (record { addressed = le_a; whole = f.whole; room = omega (arith, f.enough) }, f.last_is)

pub fits_again : (page_size start : ℕ) (entries : List Entry) → Fits page_size start entries → content_of page_size start entries ≡ Some (page_size - sum_by cell_size entries)
unfolding content_of
fits_again page_size start entries f =
    let a : nat_lt (2 ^ 16) page_size ≡ false = le-ltb _ _ f.addressed in
    let b : nat_lt page_size 8 ≡ false = le-ltb _ _ (omega (arith, f.room)) in
    let c : nat_lt (page_size - 8) start ≡ false = le-ltb _ _ (omega (arith, f.room)) in
    rw (a, b, c) (below_again page_size (page_size - 8 - start) page_size entries f.whole (omega (arith, f.room)))
