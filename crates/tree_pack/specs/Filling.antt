-- How full the parts are.
use Rattle.std.specs.Prelude.{◌⊎◌, ◌≤◌, ◌<◌, ◌+◌, ◌*◌, ℕ, List, [], ◌∷◌, take}
use Rattle.std.specs.List.{AllByRecursion}
use Rattle.tree_pack.specs.Parts.{total}

-- each is at most so large
abbrev pub AreWithin : ℕ → List ℕ → Type 0
AreWithin most sizes = AllByRecursion (λ size. size ≤ most) sizes

-- The first part has half of all, or not even the largest cell would fit beside it, or all but what has to stand after it; and
-- after it stands half of all, but for one cell.
pub record IsAboutHalf (up room most all part : ℕ) : Type 0 where
  pub enough : (all ≤ 2 * part) ⊎ ((room < part + most) ⊎ (all ≤ part + (up + 1) * most))
  pub behind : 2 * part ≤ all + 2 * most

-- there is a first part with others after it, and it has about half of all
abbrev pub BeginsAboutHalf : (up room most : ℕ) → List ℕ → List ℕ → Type 0
BeginsAboutHalf up room most sizes [] = ⊥
BeginsAboutHalf up room most sizes (count ∷ counts) = IsAboutHalf up room most (total sizes) (total (take count sizes))
