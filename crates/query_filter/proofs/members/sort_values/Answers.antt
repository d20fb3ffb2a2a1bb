use Rattle.std.proofs.Common.{rules}
use Rattle.sqlval.specs.Order.{order}
use Rattle.sqlval.proofs.Ordering as values
use Rattle.sqlval.proofs.StableSorts.{sort_by_is}
use Rattle.query_filter.proofs.members.sort_values.Goals as goal

pub returns-clause-sorted : goal.returns-clause-sorted
returns-clause-sorted c =
    sort_by_is (order c.args.collation) c.args.values.now.items c.sort_by.new.self.items
    (values.total c.args.collation) c.in_ok-sort_by.ensures.sorted c.in_ok-sort_by.ensures.stable (λ a r q k. search rules)
