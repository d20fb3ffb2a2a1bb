use Rattle.std.proofs.Common.{rules}
use Rattle.sqlval.proofs.StableSorts.{sort_by_is}
use Rattle.index_build.specs.Ranking.{ranked}
use Rattle.index_build.proofs.Ranks.{total}
use Rattle.index_build.proofs.entries.sort_entries.Goals as goal

pub returns-clause-sorted : goal.returns-clause-sorted
returns-clause-sorted c =
    sort_by_is (ranked 0 c.args.columns.now) c.args.entries.now.items c.sort_by.new.self.items (total 0 c.args.columns.now) c.in_ok-sort_by.ensures.sorted c.in_ok-sort_by.ensures.stable (λ a r q k. search rules)
