-- Each part is smaller.
use Rattle.std.specs.Prelude.{◌+◌, ◌≤◌, List, [], ◌∷◌}
use Rattle.std.proofs.Common.{arith}
use denote.Param.Weighed.{most}
use Rattle.query_terms.specs.Terms.{Term, size, size_in, terms}
use Rattle.query_terms.specs.View.{tree_of}
use Rattle.query_terms.specs.declared.tree.Node.{Node}
use Rattle.query_terms.specs.declared.tree.Node.TheVariants as code
use Rattle.query_terms.specs.declared.tree.Term.TheDeep.{deep-Node}

most_le : (es : List Term) → most (λ e. size e + 1) es ≤ size_in (terms es)
most_le [] = omega arith
most_le (e ∷ es) = omega (arith, most_le es)

pub falls : (n : Node) → deep-Node n ≤ size (tree_of n)
falls (code.In n a es) = omega (arith, most_le es.items)
falls (code.Apply f es) = omega (arith, most_le es.items)
falls _ = omega arith
