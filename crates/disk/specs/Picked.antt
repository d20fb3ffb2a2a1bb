-- The file that picks choose among those that a crash may leave.
use Rattle.std.specs.Prelude.{◌≡◌, ◌<◌, ◌≤◌, ◌+◌, ◌/◌, ◌%◌, ◌^◌, ℕ, List, [], ◌∷◌, length, drop, map, slice_index, if◌then◌else◌}
use Rattle.std.specs.List.{range_with_len, All}
use Rattle.disk.specs.File.{Version, version_at}

-- the pick at a place, of so many; the first where there is none
abbrev pub picked : List ℕ → ℕ → ℕ → ℕ
picked picks at count = slice_index picks at % count

-- how many of these versions stand before the first cut among them
abbrev pub before_cut : List Version → ℕ
before_cut [] = 0
before_cut (v ∷ vs) = if v.is_cut then 0 else before_cut vs + 1

-- how many versions, from the oldest on, a sector may come from where this one gives the length: those before the next cut after it
abbrev pub choices : List Version → ℕ → ℕ
choices versions from = from + 1 + before_cut (drop (from + 1) versions)

-- the version that gives the length
abbrev pub length_source : List Version → List ℕ → ℕ
length_source versions picks = picked picks 0 (length versions)

-- the version that sector k comes from
abbrev pub sector_source : List Version → List ℕ → ℕ → ℕ
sector_source versions picks k = picked picks (1 + k) (choices versions (length_source versions picks))

-- the byte at a place, which is that of its sector's version, and zero past that version's end
abbrev pub byte_left : List Version → List ℕ → ℕ → ℕ
byte_left versions picks at = slice_index (version_at versions (sector_source versions picks (at / 512))).bytes at

-- The file that these picks choose: the first one the length, and each further one a sector.
abbrev pub left_by : List Version → List ℕ → List ℕ
left_by versions picks = map (byte_left versions picks) (range_with_len 0 (length (version_at versions (length_source versions picks)).bytes))

-- Some picks, each of 32 bits and about as many as there are sectors, choose this file.
pub record IsPicked (versions : List Version) (c : List ℕ) : Type 0 where
  pub picks : List ℕ
  pub small : All (λ pick. pick < 2 ^ 32) picks
  pub few : length picks ≤ length c / 512 + 2
  pub same : left_by versions picks ≡ c
