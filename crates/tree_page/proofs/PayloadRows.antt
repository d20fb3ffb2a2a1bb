-- How payloads are parted, by example, on pages of 512 bytes.
use Rattle.std.specs.Prelude.{◌≡◌, refl, ℕ, [], ◌∷◌, map}
use Rattle.tree_page.specs.Payload.{table_most, index_most, local_size, overflow_count}

abbrev in_table : ℕ → ℕ
in_table size = local_size 512 (table_most 512) size

abbrev table_pages : ℕ → ℕ
table_pages size = overflow_count 512 (table_most 512) size

abbrev in_index : ℕ → ℕ
in_index size = local_size 512 (index_most 512) size

abbrev index_pages : ℕ → ℕ
index_pages size = overflow_count 512 (index_most 512) size

pub table_cells : map in_table (477 ∷ 478 ∷ 600 ∷ 1000 ∷ []) ≡ 477 ∷ 39 ∷ 92 ∷ 39 ∷ []
table_cells = refl

pub table_overflow : map table_pages (477 ∷ 478 ∷ 600 ∷ 1000 ∷ []) ≡ 0 ∷ 1 ∷ 1 ∷ 2 ∷ []
table_overflow = refl

pub index_cells : map in_index (102 ∷ 103 ∷ []) ≡ 102 ∷ 39 ∷ []
index_cells = refl

pub index_overflow : map index_pages (102 ∷ 103 ∷ []) ≡ 0 ∷ 1 ∷ []
index_overflow = refl
