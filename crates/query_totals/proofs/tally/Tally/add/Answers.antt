use Rattle.std.proofs.Common.{◌∙◌, ap, subst, sym}
use Rattle.sqlval.specs.Fields.{value_of}
use Rattle.query_terms.specs.Outcome.{AnswersBy}
use Rattle.query_totals.specs.Tallies.{tally_with}
use Rattle.query_totals.proofs.Kept.{tally_more}
use Rattle.query_totals.proofs.tally.Tally.add.Goals as goal

pub returns : goal.returns
returns c = λ g k vs h.
    (subst (λ a. AnswersBy (λ u. c.take.new.self) a c.take.result) (sym (tally_more g k vs (value_of c.args.value) ∙ ap (λ t. tally_with t (value_of c.args.value)) (sym h))) c.take.ensures)
