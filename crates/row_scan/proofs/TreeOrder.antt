-- The rows of a table's tree rise.
use Rattle.std.proofs.Common.{◌≡◌, subst, ℕ, zero, suc, ◌-◌, ℤ, ◌<ℤ◌, ◌≤ℤ◌, List, [], ◌∷◌, ◌++◌, map, slice_index_or, arith}
use Rattle.tree_leaf.specs.Leaf.{Entry}
use Rattle.pages.specs.Map.{PageMap}
use Rattle.tree_store.specs.Sides.{Parted, each_of, nothing}
use Rattle.tree_table.specs.SingleLeaf.{AreRising}
use Rattle.tree_table.specs.Tree.{Held, IsSorted, IsTableTree, Rises, Tree, rows_of}
use Rattle.tree_table.proofs.Orders.{le_le, le_lt}

-- the rowids rise, above one and up to another
abbrev pub Goes : ℤ → List Entry → ℤ → Type 0
Goes low [] high = low ≤ℤ high
Goes low (row ∷ rows) high = (low <ℤ row.rowid) × Goes row.rowid rows high

goes_from : (low mid : ℤ) (rows : List Entry) (high : ℤ) → low ≤ℤ mid → Goes mid rows high → Goes low rows high
goes_from low mid [] high le goes = le_le low mid high le goes
goes_from low mid (row ∷ rows) high le goes = (le_lt low mid row.rowid le goes.0, goes.1)

goes_on : (low : ℤ) (rows : List Entry) (mid : ℤ) (more : List Entry) (high : ℤ) → Goes low rows mid → Goes mid more high → Goes low (rows ++ more) high
goes_on low [] mid more high goes then = goes_from low mid more high goes then
goes_on low (row ∷ rows) mid more high goes then = (goes.0, goes_on row.rowid rows mid more high goes.1 then)

of_leaf : (low : ℤ) (rows : List Held) (high : ℤ) → Rises low rows high → Goes low (map (λ held. held.row) rows) high
of_leaf low [] high rises = rises
of_leaf low (held ∷ rows) high rises = (rises.0, of_leaf held.row.rowid rows high rises.1)

of_each : {T : Type 0} (P : ℤ → T → ℤ → Type 0) (f : T → List Entry) → ((low : ℤ) (t : T) (high : ℤ) → P low t high → Goes low (f t) high)
    → (low : ℤ) (kids : List (T × ℤ)) (last : T) (high : ℤ) → Parted P low kids last high → Goes low (each_of f nothing kids last) high
of_each P f each low [] last high parted = each low last high parted
of_each P f each low (kid ∷ kids) last high parted =
    goes_on low (f kid.0) kid.1 (each_of f nothing kids last) high (each low kid.0 kid.1 parted.0) (of_each P f each kid.1 kids last high parted.1)

of_tree : (depth : ℕ) (low : ℤ) (t : Tree depth) (high : ℤ) → IsSorted depth low t high → Goes low (rows_of depth t) high
of_tree zero low t high sorted = of_leaf low t.rows high sorted
of_tree (suc depth) low t high sorted = of_each (IsSorted depth) (rows_of depth) (of_tree depth) low t.kids t.last high sorted

are_rising : (low : ℤ) (rows : List Entry) (high : ℤ) → Goes low rows high → AreRising rows
are_rising low [] high goes i d le lt = absurd (omega (arith, lt))
are_rising low (row ∷ []) high goes i d le lt = absurd (omega (arith, le, lt))
are_rising low (row ∷ next ∷ rows) high goes zero d le lt = absurd (omega (arith, le))
are_rising low (row ∷ next ∷ rows) high goes (suc zero) d le lt = goes.1.0
are_rising low (row ∷ next ∷ rows) high goes (suc (suc j)) d le lt =
    subst (λ k. (slice_index_or (row ∷ next ∷ rows) k d).rowid <ℤ (slice_index_or (next ∷ rows) (suc j) d).rowid) (before j)
    (are_rising row.rowid (next ∷ rows) high goes.1 (suc j) d (omega arith) (omega (arith, lt)))
  where
    before : (j : ℕ) → suc (suc j - 1) ≡ suc (suc j) - 1
    before j = omega arith

-- each row's number is greater than that of the row before it
pub tree_rises : (pages : PageMap) (size root : ℕ) (rows : List Entry) (used : List ℕ) → IsTableTree pages size root rows used → AreRising rows
tree_rises pages size root rows used is = subst AreRising is.rows_are (are_rising is.low (rows_of is.depth is.tree) is.high (of_tree is.depth is.low is.tree is.high is.sorted))

-- the rowids of a tree rise, above one and up to another
pub tree_goes : (pages : PageMap) (size root : ℕ) (rows : List Entry) (used : List ℕ) → (is : IsTableTree pages size root rows used) → Goes is.low rows is.high
tree_goes pages size root rows used is = subst (λ (them : List Entry). Goes is.low them is.high) is.rows_are (of_tree is.depth is.low is.tree is.high is.sorted)
