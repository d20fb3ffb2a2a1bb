-- A leaf of rising rows is a whole tree.
use Rattle.std.proofs.Common.{◌≡◌, ◌-◌, ℕ, zero, suc, ℤ, pos, ◌<ℤ◌, ◌≤ℤ◌, ◌-ℤ◌, List, [], ◌∷◌, map, slice_index_or, subst, arith}
use Rattle.std.specs.Int.Signed.{≤ℤ_refl}
use Rattle.tree_leaf.specs.Leaf.{Entry}
use Rattle.tree_table.specs.Tree.{Rises}
use Rattle.tree_table.specs.SingleLeaf.{AreRising, IsOwnTree}
use Rattle.tree_table.proofs.Refused.{no_row}
use Rattle.tree_table.proofs.WholeLeaf.{whole, whole_tree}

-- the rows after the first rise
rest_rising : (row : Entry) (rows : List Entry) → AreRising (row ∷ rows) → AreRising rows
rest_rising row rows rising zero d le lt = absurd (omega (arith, le))
rest_rising row rows rising (suc j) d le lt =
    subst (λ k. (slice_index_or (row ∷ rows) k d).rowid <ℤ (slice_index_or rows (suc j) d).rowid) (before j) (rising (suc (suc j)) d (omega arith) (omega (arith, lt)))
  where
    before : (j : ℕ) → suc (suc j) - 1 ≡ suc (suc j - 1)
    before j = omega arith

same_place : (n : ℤ) → n ≤ℤ n
same_place n = ≤ℤ_refl n

one_less : (n : ℤ) → (n -ℤ pos 1) <ℤ n
one_less n = grind (arith)

-- they lie between two numbers
rises_above : (low : ℤ) (row : Entry) (rows : List Entry) → low <ℤ row.rowid → AreRising (row ∷ rows) → (high : ℤ) × Rises low (map whole (row ∷ rows)) high
rises_above low row [] first rising = (row.rowid, (first, same_place row.rowid))
rises_above low row (next ∷ rows) first rising =
    let (high, above) = rises_above row.rowid next rows (rising 1 no_row (omega arith) (omega arith)) (rest_rising row (next ∷ rows) rising) in
    (high, (first, above))

pub own_tree : IsOwnTree
own_tree pages number [] has single_leaf = whole_tree pages number (pos 0) (pos 0) [] has single_leaf.leaf (same_place (pos 0))
own_tree pages number (row ∷ rows) has single_leaf =
    let (high, above) = rises_above (row.rowid -ℤ pos 1) row rows (one_less row.rowid) single_leaf.rising in
    whole_tree pages number (row.rowid -ℤ pos 1) high (row ∷ rows) has single_leaf.leaf above
