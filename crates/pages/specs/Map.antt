-- Pages by their numbers.
use Rattle.std.specs.Prelude.{◌≡◌, ◌≤◌, ◌+◌, ◌-◌, ◌++◌, ℕ, List, [], drop, length, slice_index_or, slice_set, take}

-- the bytes of each page, page 1 first, and none where a page isn't there (Database File Format, "Pages")
abbrev pub PageMap : Type 0
PageMap = List (List ℕ)

-- the page of this number, from 1
abbrev pub page_at : PageMap → ℕ → List ℕ
page_at map n = slice_index_or map (n - 1) []

-- the pages with these bytes in the place of this one
abbrev pub with_page : PageMap → ℕ → List ℕ → PageMap
with_page map n bytes = slice_set map (n - 1) bytes

-- the bytes with these in the places of those from an offset on
abbrev pub written_over : ℕ → List ℕ → List ℕ → List ℕ
written_over offset bytes page = take offset page ++ (bytes ++ drop (offset + length bytes) page)

-- the number is that of a page
pub record Has (map : PageMap) (number : ℕ) : Type 0 where
  pub first : 1 ≤ number
  pub last : number ≤ length map

-- the page of this number is there, and has so many bytes
pub record IsThere (map : PageMap) (size number : ℕ) : Type 0 where
  pub has : Has map number
  pub whole : length (page_at map number) ≡ size

-- each page has so many bytes
abbrev pub AreWhole : ℕ → PageMap → Type 0
AreWhole size map = (number : ℕ) → Has map number → length (page_at map number) ≡ size
