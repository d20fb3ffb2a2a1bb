use Rattle.std.proofs.Common.{◌≡◌, subst, rules}
use Rattle.sql_syntax.specs.Tree as tree
use Rattle.query_names.specs.Named.{Names}
use Rattle.query_names.specs.Queries.{resolve_order}
use Rattle.query_bind.proofs.clauses.bind_order.Goals as goal

pub returns-in-Integer : goal.returns-in-Integer
returns-in-Integer c = λ tables.
    let is : tree.Integer c.in-Integer.number ≡ c.args.tree.now = search rules in
    subst (λ e. Names (resolve_order c.args.scope.now c.args.items.now c.args.results.now e) c.result_at.result) is (c.result_at.ensures c.args.scope.now c.args.items.now tables)
