use Rattle.std.proofs.Common.{rules}
use Rattle.std.proofs.lemmas.Cmp.{nat_cmp_total}
use Rattle.std.specs.Ordering.{nat_cmp}
use Rattle.sqlval.proofs.StableSorts.{sort_by_is}
use Rattle.query_answer.proofs.distinct.sort_rising.Goals as goal

pub returns-clause-sorted : goal.returns-clause-sorted
returns-clause-sorted c = sort_by_is nat_cmp c.args.places.now.items c.sort_by.new.self.items nat_cmp_total c.in_ok-sort_by.ensures.sorted c.in_ok-sort_by.ensures.stable (λ a r q k. search rules)
