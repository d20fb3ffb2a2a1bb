-- What stands on the pages that the freelist changes, as bytes.
use Rattle.std.specs.Prelude.{◌≡◌, ◌≤◌, ◌<◌, ◌^◌, ◌+◌, ◌/◌, ℕ, List, [], ◌∷◌, ◌++◌, length, drop, Option, Some}
use Rattle.std.specs.List.{AllByRecursion, flat_map}
use Rattle.std.specs.Int.{w32, to_be_bytes}
use Rattle.pages.specs.Map.{PageMap, page_at}
use Rattle.db_header.specs.Header.{IsHeader}
use Rattle.db_header.specs.declared.fields.Header.{Header}

-- The bytes tell this header now, and what stands after it is as it was.
pub record Reheads (old new : List ℕ) (header : Header) : Type 0 where
  pub header_is : IsHeader new header
  pub rest : drop 100 new ≡ drop 100 old
  pub same : length new ≡ length old

-- a header of a list that begins with this trunk page and has so many pages
abbrev pub listing : Header → ℕ → ℕ → Header
listing header trunk count = record header { freelist_trunk = trunk; freelist_count = count }

-- The bytes of a trunk page, which tell the next trunk page and these leaves.
pub record IsTrunkPage (bytes : List ℕ) (next : ℕ) (leaves : List ℕ) : Type 0 where
  pub near : next < 2 ^ 32
  pub rest : List ℕ
  pub parts : bytes ≡ to_be_bytes w32 next ++ (to_be_bytes w32 (length leaves) ++ (flat_map (to_be_bytes w32) leaves ++ rest))
  pub few : length leaves + 2 ≤ length bytes / 4
  pub short : length leaves < 2 ^ 32
  pub leaves_near : AllByRecursion (λ leaf. leaf < 2 ^ 32) leaves

-- Where the bytes list so many leaves, the last of them was found, and they list the others now.
abbrev pub IsLastTaken : List ℕ → List ℕ → ℕ → Option ℕ → Type 0
IsLastTaken old new len result = (next : ℕ) (leaves : List ℕ) (leaf : ℕ) → IsTrunkPage old next (leaves ++ leaf ∷ []) → len ≡ length leaves + 1
    → (result ≡ Some leaf) × IsTrunkPage new next leaves

-- Where the bytes list so many leaves, they list this one behind them now.
abbrev pub IsLeafPut : List ℕ → List ℕ → ℕ → ℕ → Type 0
IsLeafPut old new len leaf = (next : ℕ) (leaves : List ℕ) → IsTrunkPage old next leaves → len ≡ length leaves → IsTrunkPage new next (leaves ++ leaf ∷ [])

-- a page that is a trunk page tells this next one, and lists so many pages
abbrev pub LeadsTo : List ℕ → ℕ → ℕ → Type 0
LeadsTo bytes next len = (n : ℕ) (leaves : List ℕ) → IsTrunkPage bytes n leaves → (n ≡ next) × (length leaves ≡ len)

-- these are the bytes of page 1, which tell this header and no other
pub record IsFront (map : PageMap) (first : List ℕ) (header : Header) : Type 0 where
  pub first_is : first ≡ page_at map 1
  pub only : (other : Header) → IsHeader first other → header ≡ other
