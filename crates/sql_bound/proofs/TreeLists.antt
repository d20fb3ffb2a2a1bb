-- Items of lists of expressions.
use Rattle.std.proofs.Common.{◌≡◌, ℕ, zero, suc, ◌<◌, List, [], ◌∷◌, length, get_or, map, refl, ap, arith}
use Rattle.sqlval.specs.declared.value.Value.{Value}
use Rattle.sql_syntax.specs.Tree.{Tree, More, size, size_in, trees}
use Rattle.sql_bound.specs.Bound.{bound_tree, bound_trees}

-- an item is smaller than the list
pub item_falls : (es : List Tree) (i : ℕ) (d : Tree) → i < length es → size (get_or es i d) < size_in (trees es)
item_falls [] i d h = absurd (omega (arith, h))
item_falls (e ∷ es) zero d h = omega arith
item_falls (e ∷ es) (suc i) d h = omega (arith, item_falls es i d (omega (arith, h)))

-- the expressions of a list, one by one
pub each_bound : (values : List Value) (es : List Tree) → trees (map (bound_tree values) es) ≡ bound_trees values (trees es)
each_bound values [] = refl
each_bound values (e ∷ es) = ap (More (bound_tree values e)) (each_bound values es)
