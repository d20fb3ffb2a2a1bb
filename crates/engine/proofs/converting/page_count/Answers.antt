use Rattle.std.proofs.Common.{Ok, ap, rules, ℕ, []}
use Rattle.wal.specs.Sizes.{IsSizeWithinLimits}
use Rattle.wal.proofs.Openable.{one_size, some_size}
use Rattle.engine.proofs.AloneFiles.{one_within}
use Rattle.engine.proofs.converting.page_count.Goals as goal

pub returns-then-not-is_within_limits-clause-only : goal.returns-then-not-is_within_limits-clause-only
returns-then-not-is_within_limits-clause-only c count is within =
    let size = c.args.header.now.page_size in
    let served : IsSizeWithinLimits size c.in_ok-count.count = one_within _ c.args.len size c.in_ok-count.count count (some_size size c.requires) c.in_ok-count.ensures.found is within in
    absurd (search (rules, served))

pub returns-clause-only : goal.returns-clause-only
returns-clause-only c count is within =
    let size = c.args.header.now.page_size in
    ap (λ (n : ℕ). Ok n) (one_size [] _ c.args.len size c.in_ok-count.count count (some_size size c.requires) c.in_ok-count.ensures.found is)
