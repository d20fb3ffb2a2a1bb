-- How deep a tree is.
use Rattle.std.proofs.Common.{◌≡◌, ◌≤◌, ◌+◌, ℕ, zero, suc, Option, Some, refl, sym, ◌∙◌, arith}
use Rattle.std.specs.Prelude.{Result, Ok, Err, MatchResult}
use Rattle.sqlval.specs.Faults.{IsOutside}
use Rattle.sqlval.specs.declared.fault.Fault.{Fault}
use Rattle.pages.specs.Map.{PageMap, AreWhole}
use Rattle.tree_index.specs.Comparing.{FindsChild}
use Rattle.tree_index.specs.Joining.{tree_at}
use Rattle.tree_index.specs.Removing.{FindsDepth}
use Rattle.tree_index.specs.Tree.{Tree, top, Lies}
use Rattle.tree_index.proofs.Rows.{child_there, holds_at}
use Rattle.tree_index.proofs.Subtrees.{told}
use Rattle.tree_index.proofs.Widening.{kids_alike, some_none, some_is}

module _ (pages : PageMap) (size number : ℕ) (whole : AreWhole size pages) where
  pub child_unread : (depth : ℕ) (t : Tree depth) → top depth t ≡ number → Lies pages size depth t → (fault : Fault) → FindsChild pages size number 0 (Err fault) → IsOutside fault
  child_unread depth t at lies fault finds = (let its = told pages size number depth t at lies in finds its.node whole its.has.says its.has.ours)

  pub no_child : (found : Option ℕ) → ((child : ℕ) → found ≡ Some child → ⊥) → (depth : ℕ) (t : Tree depth) → top depth t ≡ number → Lies pages size depth t → FindsChild pages size number 0 (Ok found) → 0 ≡ depth
  no_child found none zero t at lies finds = refl
  no_child found none (suc depth) t at lies finds = (let its = told pages size number (suc depth) t at lies in absurd (none _ (finds its.node whole its.has.says its.has.ours)))

  pub not_flat : (child depth : ℕ) (t : Tree depth) → top depth t ≡ number → Lies pages size depth t → FindsChild pages size number 0 (Ok (Some child)) → depth ≤ 0 → ⊥
  not_flat child zero t at lies finds le = (let its = told pages size number zero t at lies in some_none _ (finds its.node whole its.has.says its.has.ours))
  not_flat child (suc depth) t at lies finds le = omega (arith, le)

  pub one_deeper : (child fewer depth : ℕ) (t : Tree depth) → top depth t ≡ number → Lies pages size depth t → depth ≤ suc fewer → FindsChild pages size number 0 (Ok (Some child)) → (result : Result ℕ Fault)
      → FindsDepth pages size child fewer result → MatchResult result (λ found. found + 1 ≡ depth) IsOutside
  one_deeper child fewer zero t at lies le finds result depths = (let its = told pages size number zero t at lies in absurd (some_none _ (finds its.node whole its.has.says its.has.ours)))
  one_deeper child fewer (suc depth) t at lies le finds result depths =
      by result (depths depth (tree_at zero t.kids t.last) whole (sym child_is) (holds_at (Lies pages size depth) zero t.kids t.last lies.1) (omega (arith, le)))
    where
      child_is : child ≡ top depth (tree_at zero t.kids t.last)
      child_is =
          (let its = told pages size number (suc depth) t at lies in some_is _ _ (finds its.node whole its.has.says its.has.ours))
          ∙ kids_alike (top depth) pages size zero (lies.0).said t.kids (top depth t.last) (lies.0).children ∙ child_there (top depth) zero t.kids t.last

      by : (result : Result ℕ Fault) → MatchResult result (λ found. found ≡ depth) IsOutside → MatchResult result (λ found. found + 1 ≡ suc depth) IsOutside
      by (Ok found) is = omega (arith, is)
      by (Err fault) outside = outside
