use Rattle.std.proofs.Common.{rules}
use Rattle.std.specs.Ordering.{int_cmp}
use Rattle.std.proofs.lemmas.Cmp.{int_cmp_total}
use Rattle.sqlval.proofs.StableSorts.{sort_by_is}
use Rattle.row_search.proofs.entries.sort_rowids.Goals as goal

pub returns-clause-sorted : goal.returns-clause-sorted
returns-clause-sorted c = sort_by_is int_cmp c.args.rowids.now.items c.sort_by.new.self.items int_cmp_total c.in_ok-sort_by.ensures.sorted c.in_ok-sort_by.ensures.stable (λ a r q k. search rules)
