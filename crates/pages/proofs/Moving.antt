-- Pages that move are counted.
use Rattle.std.proofs.Common.{◌≡◌, ◌∙◌, ◌≤◌, ◌+◌, ◌++◌, ℕ, List, [], ◌∷◌, length, arith}
use Rattle.std.proofs.lemmas.Grind.{common_steps}
use Rattle.pages.specs.Map.{PageMap}
use Rattle.pages.specs.Counting.{occurs, fresh, Moves}

pub occurs_append : (n : ℕ) (xs ys : List ℕ) → occurs n (xs ++ ys) ≡ occurs n xs + occurs n ys
occurs_append n [] ys = omega arith
occurs_append n (x ∷ xs) ys = let rest = occurs_append n xs ys in omega arith

-- a page that was added first, or then, was added
pub fresh_twice : (a b c n : ℕ) → a ≤ b → b ≤ c → fresh a b n + fresh b c n ≡ fresh a c n
fresh_twice a b c n le more = grind (arith, common_steps)

pub not_fresh : (a b n : ℕ) → n ≤ a → fresh a b n ≡ 0
not_fresh a b n le = grind (arith, common_steps)

pub in_sequence : (old mid new : PageMap) (used free mid_used mid_free now_used now_free : List ℕ)
    → Moves old mid used free mid_used mid_free → Moves mid new mid_used mid_free now_used now_free → Moves old new used free now_used now_free
in_sequence old mid new used free mid_used mid_free now_used now_free first second = record {
  longer = omega (arith, first.longer, second.longer);
  counts = λ n. (let twice = fresh_twice (length old) (length mid) (length new) n first.longer second.longer in
      omega (arith, first.counts n, second.counts n, twice));
  keeps = λ n from to none. (let old_page = not_fresh (length old) (length mid) n to in
      second.keeps n from (omega (arith, to, first.longer)) (omega (arith, first.counts n, none, old_page)) ∙ first.keeps n from to none);
  whole = λ size whole. second.whole size (first.whole size whole);
}
