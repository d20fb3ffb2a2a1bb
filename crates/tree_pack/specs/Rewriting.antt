-- Payloads in the places of others that are as long, in the rows of a leaf (Database File Format, "B-tree Pages", table leaf cells).
use Rattle.std.specs.Prelude.{◌≡◌, ◌≤◌, ◌+◌, ◌-◌, ℕ, ℤ, List, [], length, take, slice_index_or, slice_set}
use Rattle.tree_page.specs.Node.{Local, Rows, IsNode, IsRowCell}
use Rattle.tree_pack.specs.Replacing.{no_span}

-- a payload that lies whole in its cell
abbrev pub whole : List ℕ → Local
whole payload = record { size = length payload; bytes = payload }

-- The leaf's row at a place has this payload, which lies whole in its cell, where the one before was as long; and all else is as it was.
pub record IsRewritten (page : List ℕ) (start : ℕ) (said : List (ℤ × Local)) (is : IsNode page start (Rows said)) (place : ℕ) (payload new : List ℕ) : Type 0 where
  pub row : ℤ × Local
  pub row_is : (d : ℤ × Local) → slice_index_or said place d ≡ row
  pub size_is : row.1.size ≡ length payload
  pub short : length payload ≤ length page - 35
  pub cell : List ℕ
  pub says : IsRowCell (length page) cell (row.0, whole payload)
  pub now : IsNode new start (Rows (slice_set said place (row.0, whole payload)))
  pub cells_are : now.cells ≡ slice_set is.cells place cell
  pub long : length new ≡ length page
  pub front : take start new ≡ take start page

-- the row at a place has a payload of so many bytes, which begins there
pub record IsPayloadAt (page : List ℕ) (start : ℕ) (said : List (ℤ × Local)) (is : IsNode page start (Rows said)) (place size at : ℕ) : Type 0 where
  pub row : ℤ × Local
  pub row_is : (d : ℤ × Local) → slice_index_or said place d ≡ row
  pub says : IsRowCell (length page) (slice_index_or is.cells place []) row
  pub size_is : row.1.size ≡ size
  pub at_is : at ≡ (slice_index_or is.page_is.spans place no_span).from + length says.size + length says.rowid
