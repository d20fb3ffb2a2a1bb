use Rattle.std.proofs.Common.{◌∙◌, ap, subst, sym}
use Rattle.query_terms.specs.Outcome.{Answers}
use Rattle.query_totals.specs.Tallies.{given_by}
use Rattle.query_totals.proofs.Kept.{given_is}
use Rattle.query_totals.proofs.tally.Tally.given.Goals as goal

pub returns-clause-given : goal.returns-clause-given
returns-clause-given c = λ g k vs h. (subst (λ a. Answers a c.told.result) (ap given_by h ∙ sym (given_is g k vs)) c.told.ensures.told)
