-- How often each page is used, and what changes of pages keep.
use Rattle.std.specs.Prelude.{◌≡◌, ◌≤◌, ◌+◌, ◌==◌, ℕ, List, [], ◌∷◌, length, drop, nat_lt, if◌then◌else◌}
use Rattle.pages.specs.Map.{PageMap, page_at, AreWhole}

-- how often a page stands in a list
abbrev pub occurs : ℕ → List ℕ → ℕ
occurs n [] = 0
occurs n (x ∷ xs) = (if x == n then 1 else 0) + occurs n xs

-- no page stands there twice
pub record IsOnce (used : List ℕ) : Type 0 where
  pub once : (n : ℕ) → occurs n used ≤ 1

-- 1 for a page that was added at the end of so many, and 0 for another
abbrev pub fresh : ℕ → ℕ → ℕ → ℕ
fresh old new n = if nat_lt old n then (if nat_lt new n then 0 else 1) else 0

-- where a tree's part of a page begins: after the database header on page 1 (Database File Format, "B-tree Pages")
abbrev pub start_of : ℕ → ℕ
start_of number = if number == 1 then 100 else 0

-- what a tree sees of a page
abbrev pub body_at : PageMap → ℕ → List ℕ
body_at map n = drop (start_of n) (page_at map n)

-- Of the pages that were used or free, and those that were added at the end, each is used or free now, as often as before; of the
-- others trees see what they saw.
pub record Moves (old new : PageMap) (used free now_used now_free : List ℕ) : Type 0 where
  pub longer : length old ≤ length new
  pub counts : (n : ℕ) → occurs n now_used + occurs n now_free ≡ occurs n used + occurs n free + fresh (length old) (length new) n
  pub keeps : (n : ℕ) → 1 ≤ n → n ≤ length old → occurs n used + occurs n free ≡ 0 → body_at new n ≡ body_at old n
  pub whole : (size : ℕ) → AreWhole size old → AreWhole size new
