use Rattle.std.proofs.Common.{rules}
use Rattle.query_terms.proofs.operands.stands.Goals as goal

pub returns : goal.returns
returns c =
    let compared = c.truth_of.ensures _ (c.made.ensures _ c.compare_by-found.ensures) in
    search rules
