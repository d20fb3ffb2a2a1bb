use Rattle.std.proofs.Common.{◌∙◌, ap, map}
use Rattle.std.proofs.lemmas.List.{take_all}
use Rattle.sql_syntax.specs.Tree.{trees}
use Rattle.sql_bound.specs.Bound.{bound_tree}
use Rattle.sql_bound.proofs.TreeLists.{each_bound}
use Rattle.sql_bound.proofs.expressions.+bound_expression.Goals as goal

pub bound_list-returns : goal.bound_list-returns
bound_list-returns t c =
    ap trees c.expressions.invariant
    ∙ (ap (λ es. trees (map (bound_tree c.args.values.now) es)) (take_all c.expressions.expression-index c.args.list.now c.expressions-test.false) ∙ each_bound c.args.values.now c.args.list.now)
