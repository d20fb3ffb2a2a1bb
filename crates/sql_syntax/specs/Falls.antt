-- Each child is smaller.
use Rattle.std.specs.Prelude.{◌+◌, ◌≤◌, List, [], ◌∷◌}
use Rattle.std.proofs.Common.{arith}
use denote.Param.Weighed.{most}
use Rattle.sql_syntax.specs.Tree.{Tree, size, size_in, trees}
use Rattle.sql_syntax.specs.View.{tree_of}
use Rattle.sql_syntax.specs.declared.expr.Node.{Node}
use Rattle.sql_syntax.specs.declared.expr.Node.TheVariants as code
use Rattle.sql_syntax.specs.declared.expr.Expr.TheDeep.{deep-Node}

most_le : (es : List Tree) → most (λ e. size e + 1) es ≤ size_in (trees es)
most_le [] = omega arith
most_le (e ∷ es) = omega (arith, most_le es)

pub falls : (n : Node) → deep-Node n ≤ size (tree_of n)
falls (code.In n a es) = omega (arith, most_le es.items)
falls (code.Call f es) = omega (arith, most_le es.items)
falls _ = omega arith
