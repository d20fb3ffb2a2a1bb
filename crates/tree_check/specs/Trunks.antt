-- Trunk pages of the freelist, one after the other.
use Rattle.std.specs.Prelude.{◌≡◌, ◌≤◌, ◌<◌, ◌^◌, ◌+◌, ◌/◌, ℕ, Bool, List, ◌∷◌, ◌++◌, length, take, drop, Result, Ok, Err}
use Rattle.std.specs.Int.{w32, to_be_bytes}
use Rattle.std.specs.List.{AllByRecursion, flat_map}
use Rattle.sqlval.specs.declared.fault.Fault.{Fault}
use Rattle.sqlval.specs.Faults.{IsOutside}
use Rattle.pages.specs.Map.{PageMap, Has}
use Rattle.freelist.specs.Freelist.{IsTrunk}
use Rattle.tree_check.specs.Exact.{Checks}
use Rattle.tree_check.specs.Marks.{AreUnmarked}
use Rattle.tree_check.specs.declared.lists.Listed.{Listed}

-- The bytes begin with the numbers of these pages.
pub record AreListed (map : PageMap) (bytes : List ℕ) (count : ℕ) (leaves : List ℕ) : Type 0 where
  pub many : length leaves ≡ count
  pub rest : List ℕ
  pub parts : bytes ≡ flat_map (to_be_bytes w32) leaves ++ rest
  pub there : AllByRecursion (Has map) leaves
  pub near : AllByRecursion (λ leaf. leaf < 2 ^ 32) leaves

-- The bytes tell the next trunk page and how many pages they list, for which there is room, and fewer than so many.
pub record TellsList (bytes : List ℕ) (left : ℕ) (listed : Listed) : Type 0 where
  pub next : to_be_bytes w32 listed.next ≡ take 4 bytes
  pub len : to_be_bytes w32 listed.len ≡ take 4 (drop 4 bytes)
  pub next_near : listed.next < 2 ^ 32
  pub len_near : listed.len < 2 ^ 32
  pub few : listed.len + 2 ≤ length bytes / 4
  pub fewer : listed.len < left

-- The page is a trunk page that tells the next one, and lists so many pages: these.
pub record IsTrunkOf (map : PageMap) (size page next len : ℕ) (leaves : List ℕ) : Type 0 where
  pub trunk : IsTrunk map size (record { page = page; leaves = leaves }) next
  pub many : length leaves ≡ len

-- Where the call answered, the page is a trunk page, and was marked with the pages that it lists. Where it is one that lists fewer than so
-- many, memory was short, or a disk's call failed.
abbrev pub ChecksTrunk : PageMap → ℕ → ℕ → ℕ → List Bool → List Bool → Result Listed Fault → Type 0
ChecksTrunk map size page left old new (Ok listed) =
    (listed.len < left) × Checks (IsTrunkOf map size page listed.next listed.len) (λ leaves. page ∷ leaves) old new (Ok tt)
ChecksTrunk map size page left old new (Err fault) = (next : ℕ) (leaves : List ℕ)
    → IsTrunk map size (record { page = page; leaves = leaves }) next → length leaves < left → AreUnmarked old (page ∷ leaves)
    → IsOutside fault
