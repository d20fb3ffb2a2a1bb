-- An item of a list of expressions is smaller than the list.
use Rattle.std.proofs.Common.{ℕ, zero, suc, ◌<◌, List, [], ◌∷◌, length, get_or, arith}
use Rattle.sql_syntax.specs.Tree.{Tree, size, size_in, trees}

pub item_falls : (es : List Tree) (i : ℕ) (d : Tree) → i < length es → size (get_or es i d) < size_in (trees es)
item_falls [] i d h = absurd (omega (arith, h))
item_falls (e ∷ es) zero d h = omega arith
item_falls (e ∷ es) (suc i) d h = omega (arith, item_falls es i d (omega (arith, h)))
