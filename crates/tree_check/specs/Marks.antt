-- A mark for each page that is used.
use Rattle.std.specs.Prelude.{◌≡◌, ◌≤◌, ◌+◌, ℕ, Bool, false, List, length, slice_index_or, if◌then◌else◌}
use Rattle.pages.specs.Counting.{occurs}

-- 1 where the page is marked
abbrev pub mark_of : ℕ → List Bool → ℕ
mark_of n marks = if slice_index_or marks n false then 1 else 0

-- These pages were marked, each once, and none of them had been before.
pub record Marks (old new : List Bool) (pages : List ℕ) : Type 0 where
  pub long : length new ≡ length old
  pub marks : (n : ℕ) → mark_of n new ≡ mark_of n old + occurs n pages

-- none of these pages is marked, and none stands there twice
abbrev pub AreUnmarked : List Bool → List ℕ → Type 0
AreUnmarked marks pages = (n : ℕ) → mark_of n marks + occurs n pages ≤ 1
