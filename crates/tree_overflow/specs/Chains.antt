-- Where the bytes of a payload lie: in its cell, and on overflow pages (Database File Format, "B-tree Pages" and 1.7
-- "Cell Payload Overflow Pages").
use Rattle.std.specs.Prelude.{◌≡◌, ◌≤◌, ◌<◌, ◌^◌, ◌-◌, ℕ, List, [], ◌∷◌, ◌++◌, length, take, drop}
use Rattle.std.specs.Int.{w32, to_be_bytes}
use Rattle.pages.specs.Map.{PageMap, page_at, Has}
use Rattle.tree_page.specs.Payload.{local_size}

-- the page after which a chain goes on, or 0 at its end
abbrev pub next_of : List ℕ → ℕ
next_of [] = 0
next_of (page ∷ pages) = page

-- An overflow page: the number of the next, 0 at the last, then bytes, as many as there are or as it can hold
-- (Database File Format, "Cell Payload Overflow Pages").
pub record IsLink (map : PageMap) (usable page : ℕ) (bytes : List ℕ) (next : ℕ) : Type 0 where
  pub has : Has map page
  pub behind : 1 < page
  pub near : page < 2 ^ 32
  pub some : 1 ≤ length bytes
  pub rest : List ℕ
  pub parts : page_at map page ≡ to_be_bytes w32 next ++ (take (usable - 4) bytes ++ rest)

-- the bytes lie on these overflow pages, in order, and all but the last are full
abbrev pub IsChain : PageMap → ℕ → List ℕ → List ℕ → Type 0
IsChain map usable bytes [] = bytes ≡ []
IsChain map usable bytes (page ∷ pages) = IsLink map usable page bytes (next_of pages) × IsChain map usable (drop (usable - 4) bytes) pages

-- the number of the first overflow page, where there is one
abbrev pub first_link : List ℕ → List ℕ
first_link [] = []
first_link (page ∷ pages) = to_be_bytes w32 page

-- A payload begins in these bytes of a cell, at most `most` of it, and goes on over these overflow pages.
pub record IsPayload (map : PageMap) (usable most : ℕ) (bytes payload pages : List ℕ) : Type 0 where
  pub parts : bytes ≡ take (local_size usable most (length payload)) payload ++ first_link pages
  pub chain : IsChain map usable (drop (local_size usable most (length payload)) payload) pages
