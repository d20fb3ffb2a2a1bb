use Rattle.std.proofs.Common.{◌∙◌}
use Rattle.query_terms.proofs.Items.{none_left}
use Rattle.query_terms.proofs.sameness.+is_same.Goals as goal

pub are_same-returns-in_default : goal.are_same-returns-in_default
are_same-returns-in_default t c =
    c.is_empty.ensures ∙ (none_left c.pairs.first.now c.pairs.second.now c.in_default.ensures.cases ∙ c.pairs.invariant.0)
