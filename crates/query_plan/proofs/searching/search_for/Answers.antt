use Rattle.std.proofs.Common.{rules, ◌≡◌, true}
use Rattle.query_names.specs.Calm.{is_calm}
use Rattle.query_plan.proofs.Asked.{seeks_nothing}
use Rattle.query_plan.proofs.searching.search_for.Goals as goal

pub returns-in-None-clause-only : goal.returns-in-None-clause-only
returns-in-None-clause-only c =
    let calm : is_calm c.args.condition.now ≡ true = search rules in
    seeks_nothing c.args.source c.args.indexes.now c.args.condition.now calm c.in-None.ensures.none c.many_sought.result c.many_sought.ensures.only c.many_sought.ensures.ranges
