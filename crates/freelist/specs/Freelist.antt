-- The pages that nothing uses (Database File Format, "The Freelist").
use Rattle.std.specs.Prelude.{◌≡◌, ◌≤◌, ◌<◌, ◌^◌, ◌+◌, ◌/◌, ℕ, List, [], ◌∷◌, ◌++◌, length, ⊤}
use Rattle.std.specs.List.{AllByRecursion, flat_map}
use Rattle.std.specs.Int.{w32, to_be_bytes}
use Rattle.pages.specs.Map.{PageMap, page_at, Has}

-- a trunk page, and the free pages that it lists
pub record Trunk : Type 0 where
  pub page : ℕ
  pub leaves : List ℕ

-- the first trunk page, or 0 where there is none
abbrev pub first_of : List Trunk → ℕ
first_of [] = 0
first_of (trunk ∷ trunks) = trunk.page

-- the trunk pages and the pages that they list
abbrev pub pages_of : List Trunk → List ℕ
pages_of trunks = flat_map (λ trunk. trunk.page ∷ trunk.leaves) trunks

-- A trunk page: the next trunk, 0 at the last, how many pages it lists, and their numbers, for which there is room except for
-- two. What is on the pages that it lists doesn't matter.
pub record IsTrunk (map : PageMap) (usable : ℕ) (trunk : Trunk) (next : ℕ) : Type 0 where
  pub has : Has map trunk.page
  pub near : next < 2 ^ 32
  pub rest : List ℕ
  pub parts : page_at map trunk.page ≡ to_be_bytes w32 next ++ (to_be_bytes w32 (length trunk.leaves) ++ (flat_map (to_be_bytes w32) trunk.leaves ++ rest))
  pub few : length trunk.leaves + 2 ≤ usable / 4
  pub leaves : AllByRecursion (Has map) trunk.leaves
  pub leaves_near : AllByRecursion (λ leaf. leaf < 2 ^ 32) trunk.leaves

-- these trunks stand one after the other
abbrev pub AreTrunks : PageMap → ℕ → List Trunk → Type 0
AreTrunks map usable [] = ⊤
AreTrunks map usable (trunk ∷ trunks) = IsTrunk map usable trunk (first_of trunks) × AreTrunks map usable trunks

-- The freelist that a header tells: its first trunk page, and how many pages it has, trunks among them.
pub record IsFreelist (map : PageMap) (usable first count : ℕ) (trunks : List Trunk) : Type 0 where
  pub first_is : first ≡ first_of trunks
  pub trunks_are : AreTrunks map usable trunks
  pub count_is : count ≡ length (pages_of trunks)
