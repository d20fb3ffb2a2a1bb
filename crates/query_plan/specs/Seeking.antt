-- The rowid that a condition seeks, so that the other rows of its source needn't be read (The SQLite Query Optimizer Overview, "WHERE
-- Clause Analysis").
use Rattle.std.specs.Prelude.{◌≡◌, ℕ, ℤ, pos, Bool, true, false, ◌&&◌, ◌==◌, Option, None, Some, if◌then◌else◌}
use Rattle.std.specs.List.{list_any}
use Rattle.sqlval.specs.declared.collation.Collation.{Collation}
use Rattle.query_terms.specs.Terms.{Term, Cell, Digits, Two}
use Rattle.query_terms.specs.declared.tree.Comparison.TheVariants.{Equal}
use Rattle.query_terms.specs.declared.tree.Place.TheVariants.{RowId}
use Rattle.query_terms.specs.declared.tree.TwoSided.TheVariants.{Compare}
use Rattle.query_names.specs.Calm.{is_calm, parts}

-- whether it is `rowid = k` of the source of this number
abbrev pub is_rowid : ℕ → ℕ → Term → Bool
is_rowid n k (Two (Compare Equal) (Cell s RowId a c) (Digits j)) = (s == n) && (j == k)
is_rowid n k _ = false

-- ---- its parts

-- whether it is the rowid of the source of this number
abbrev pub is_rowid_cell : ℕ → Term → Bool
is_rowid_cell n (Cell s RowId a c) = s == n
is_rowid_cell n _ = false

-- a number as it is written
abbrev pub digits : Term → Option ℕ
digits (Digits j) = Some j
digits _ = None

-- the number where the left side is that rowid and the right side a number
abbrev pub asked : ℕ → Term → Term → Option ℕ
asked n left right = if is_rowid_cell n left then digits right else None

-- The condition can't be refused, and AND joins `rowid = k` of the source with what else it asks.
pub record Seeks (source : ℕ) (condition : Term) (k : ℕ) : Type 0 where
  pub calm : is_calm condition ≡ true
  pub part : list_any (is_rowid source k) (parts condition) ≡ true

-- the condition seeks this rowid of the source
abbrev pub SeeksRowid : ℕ → Term → ℤ → Type 0
SeeksRowid source condition rowid = (k : ℕ) × (rowid ≡ pos k) × Seeks source condition k

-- no column begins an index
abbrev pub no_index : ℕ → Collation → Bool
no_index place collation = false
