-- Whether each page is marked.
use Rattle.std.proofs.Common.{◌≡◌, ◌-◌, ◌≤◌, ◌<◌, ℕ, zero, suc, Bool, true, false, List, [], ◌∷◌, length, take, drop, IsTrue, refl, sym, ap, subst, ◌∙◌, arith}
use Rattle.std.specs.List.{list_all}
use Rattle.std.specs.Prelude.{◌↔◌}
use Rattle.tree_check.specs.Marks.{mark_of}
use Rattle.tree_check.proofs.TailChains.{all_taken}

-- each number from a first one on is marked
abbrev AreMarkedFrom : ℕ → List Bool → Type 0
AreMarkedFrom first marks = (n : ℕ) → first ≤ n → n < length marks → mark_of n marks ≡ 1

all_marked : (marks : List Bool) → IsTrue (list_all (λ mark. mark) marks) → AreMarkedFrom 0 marks
all_marked [] all n le lt = absurd (omega (arith, lt))
all_marked (true ∷ marks) all zero le lt = refl
all_marked (true ∷ marks) all (suc n) le lt = all_marked marks all n (omega arith) (omega (arith, lt))
all_marked (false ∷ marks) all n le lt = absurd (never all)
  where
    never : IsTrue false → ⊥
    never e = cc

marked_all : (marks : List Bool) → AreMarkedFrom 0 marks → IsTrue (list_all (λ mark. mark) marks)
marked_all [] marked = refl
marked_all (true ∷ marks) marked = marked_all marks (λ n le lt. marked (suc n) (omega arith) (omega (arith, lt)))
marked_all (false ∷ marks) marked = absurd (let none = marked 0 (omega arith) (omega arith) in omega (arith, none))

-- all marks but that of page 0
pub marked_after : (marks : List Bool) (result : Bool) → 1 ≤ length marks → result ≡ list_all (λ mark. mark) (take (length marks - 1) (drop 1 marks)) → IsTrue result ↔ AreMarkedFrom 1 marks
marked_after [] result some is = absurd (omega (arith, some))
marked_after (first ∷ marks) result some is =
    let same : result ≡ list_all (λ mark. mark) marks = is ∙ ap (list_all (λ mark. mark)) (all_taken marks) in (
      λ yes n le lt. later n le lt (all_marked marks (subst IsTrue same yes)),
      λ marked. subst IsTrue (sym same) (marked_all marks (λ n le lt. marked (suc n) (omega arith) (omega (arith, lt)))),
    )
  where
    later : (n : ℕ) → 1 ≤ n → n < suc (length marks) → AreMarkedFrom 0 marks → mark_of n (first ∷ marks) ≡ 1
    later zero le lt marked = absurd (omega (arith, le))
    later (suc n) le lt marked = marked n (omega arith) (omega (arith, lt))
