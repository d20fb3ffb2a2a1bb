-- Two subtrees side by side in a row.
use Rattle.std.proofs.Common.{◌≡◌, ◌<◌, ◌+◌, ℕ, zero, suc, List, [], ◌∷◌, ◌++◌, append_assoc, length, map, slice_index_or, refl, sym, ap, ◌∙◌, arith}
use Rattle.std.proofs.lemmas.List.{append-nil}
use Rattle.pages.specs.Counting.{occurs}
use Rattle.pages.proofs.Moving.{occurs_append}
use Rattle.tree_store.specs.Sides.{Each, children, each_of}
use Rattle.tree_index.specs.Entries.{Entry}
use Rattle.tree_index.specs.Freeing.{chains_of}
use Rattle.tree_index.specs.Joining.{tree_at, left_at, right_at, held_at, without_at}
use Rattle.tree_index.specs.Tree.{Held}
use Rattle.tree_index.proofs.Growth.{chain}
use Rattle.tree_index.proofs.Subtrees.{entries_between}

-- ---- the row without the entry between them

module _ {T X : Type 0} (f : T → List X) (between : Held → List X) where
  pub left_same : (place : ℕ) (kids : List (T × Held)) (last : T) → place < length kids → left_at f between place (without_at place kids) last ≡ left_at f between place kids last
  left_same place [] last lt = absurd (omega (arith, lt))
  left_same zero (kid ∷ []) last lt = refl
  left_same zero (kid ∷ next ∷ kids) last lt = refl
  left_same (suc place) (kid ∷ kids) last lt = ap (λ (xs : List X). f kid.0 ++ (between kid.1 ++ xs)) (left_same place kids last (omega (arith, lt)))

  pub right_same : (place : ℕ) (kids : List (T × Held)) (last : T) → place < length kids → right_at f between place (without_at place kids) last ≡ right_at f between (suc place) kids last
  right_same place [] last lt = absurd (omega (arith, lt))
  right_same zero (kid ∷ kids) last lt = refl
  right_same (suc place) (kid ∷ kids) last lt = right_same place kids last (omega (arith, lt))

pub children_without : {T : Type 0} (page : T → ℕ) (place : ℕ) (kids : List (T × Held)) → children page (without_at place kids) ≡ without_at place (children page kids)
children_without page place [] = refl
children_without page zero (kid ∷ kids) = refl
children_without page (suc place) (kid ∷ kids) = ap (λ (cells : List (ℕ × Held)). (page kid.0, kid.1) ∷ cells) (children_without page place kids)

pub each_without : {T : Type 0} (P : T → Type 0) (place : ℕ) (kids : List (T × Held)) (last : T) → Each P kids last → Each P (without_at place kids) last
each_without P place [] last all = all
each_without P zero (kid ∷ kids) last all = all.1
each_without P (suc place) (kid ∷ kids) last all = (all.0, each_without P place kids last all.1)

-- ---- what the row gives

abbrev pub one : Held → List Entry
one held = held.entry ∷ []

pub pair_entries : {T : Type 0} (f : T → List Entry) (place : ℕ) (kids : List (T × Held)) (last : T) → place < length kids
    → each_of f one kids last ≡ left_at f one place kids last ++ (f (tree_at place kids last) ++ (map (λ h. h.entry) (held_at place kids) ++ (f (tree_at (suc place) kids last) ++ right_at f one (suc place) kids last)))
pair_entries f place [] last lt = absurd (omega (arith, lt))
pair_entries f zero (kid ∷ []) last lt = ap (λ (es : List Entry). f kid.0 ++ (kid.1.entry ∷ es)) (sym (append-nil (f last)))
pair_entries f zero (kid ∷ next ∷ kids) last lt = refl
pair_entries f (suc place) (kid ∷ kids) last lt =
    let left = left_at f one place kids last in
    let rest = f (tree_at place kids last) ++ (map (λ h. h.entry) (held_at place kids) ++ (f (tree_at (suc place) kids last) ++ right_at f one (suc place) kids last)) in
    ap (λ (es : List Entry). f kid.0 ++ (kid.1.entry ∷ es)) (pair_entries f place kids last (omega (arith, lt))) ∙ sym (append_assoc (f kid.0) (kid.1.entry ∷ left) rest)

pub pair_pages : {T : Type 0} (f : T → List ℕ) (n place : ℕ) (kids : List (T × Held)) (last : T) → place < length kids
    → occurs n (each_of f chain kids last)
    ≡ occurs n (left_at f chain place kids last) + occurs n (f (tree_at place kids last)) + occurs n (chains_of (held_at place kids)) + occurs n (f (tree_at (suc place) kids last)) + occurs n (right_at f chain (suc place) kids last)
pair_pages f n place [] last lt = absurd (omega (arith, lt))
pair_pages f n zero (kid ∷ []) last lt =
    let a = occurs_append n (f kid.0) (kid.1.pages ++ f last) in
    let b = occurs_append n kid.1.pages (f last) in
    let c = occurs_append n kid.1.pages [] in
    omega (arith, a, b, c)
pair_pages f n zero (kid ∷ next ∷ kids) last lt =
    let rest = each_of f chain kids last in
    let a = occurs_append n (f kid.0) (kid.1.pages ++ (f next.0 ++ (next.1.pages ++ rest))) in
    let b = occurs_append n kid.1.pages (f next.0 ++ (next.1.pages ++ rest)) in
    let c = occurs_append n kid.1.pages [] in
    let d = occurs_append n (f next.0) (next.1.pages ++ rest) in
    omega (arith, a, b, c, d)
pair_pages f n (suc place) (kid ∷ kids) last lt =
    let rest = each_of f chain kids last in
    let left = left_at f chain place kids last in
    let a = occurs_append n (f kid.0) (kid.1.pages ++ rest) in
    let b = occurs_append n kid.1.pages rest in
    let c = occurs_append n (f kid.0) (kid.1.pages ++ left) in
    let d = occurs_append n kid.1.pages left in
    let more = pair_pages f n place kids last (omega (arith, lt)) in
    omega (arith, a, b, c, d, more)

-- the entry between them is the one at the place
pub held_is : {T : Type 0} (place : ℕ) (kids : List (T × Held)) (d : Held) → place < length kids → held_at place kids ≡ slice_index_or (entries_between kids) place d ∷ []
held_is place [] d lt = absurd (omega (arith, lt))
held_is zero (kid ∷ kids) d lt = refl
held_is (suc place) (kid ∷ kids) d lt = held_is place kids d (omega (arith, lt))

pub between_len : {T : Type 0} (kids : List (T × Held)) → length (entries_between kids) ≡ length kids
between_len [] = refl
between_len (kid ∷ kids) = ap suc (between_len kids)
