use Rattle.std.proofs.Common.{◌++◌, length}
use Rattle.kinolavust_c.proofs.Splitting.{splits}
use Rattle.kinolavust_c.proofs.values.counted_first.Goals as goal

pub returns-clause-only : goal.returns-clause-only
returns-clause-only c front rest fits is =
    let found = c.in_ok-count.ensures.only (length front) (front ++ rest) fits is in
    splits (λ parts. parts.0.now) (λ parts. parts.1.now) c.in_ok-count.rest.now front rest c.in_ok-count.count c.split_at_checked.result found.0 found.1 c.split_at_checked.ensures.cases
