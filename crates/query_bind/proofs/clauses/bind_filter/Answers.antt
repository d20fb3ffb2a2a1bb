use Rattle.std.proofs.Common.{false, rules}
use Rattle.query_names.specs.Expressions.{resolve}
use Rattle.query_names.proofs.QuietNames.{not_disk, of_tree}
use Rattle.query_bind.proofs.clauses.bind_filter.Goals as goal

pub returns-in_err-bind_term-in-Some-clause-not_disk : goal.returns-in_err-bind_term-in-Some-clause-not_disk
returns-in_err-bind_term-in-Some-clause-not_disk c =
    let h = not_disk (resolve false c.args.scope.now c.in-Some.tree) c.in_err-bind_term-in-Some.field-0.0 (of_tree false c.args.scope.now c.in-Some.tree) c.in_err-bind_term-in-Some.ensures in
    search rules
