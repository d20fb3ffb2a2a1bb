use Rattle.std.proofs.Common.{◌∙◌, ap, subst, sym}
use Rattle.query_terms.specs.Outcome.{AnswersBy}
use Rattle.query_totals.specs.Totals.{alone, tallies_with}
use Rattle.query_totals.proofs.Taken.{tallies_more}
use Rattle.query_totals.proofs.rows.add_row.Goals as goal

pub returns : goal.returns
returns c = λ group now s h.
    (subst (λ a. AnswersBy (λ u. c.add_to_each.new.tallies.items) a c.add_to_each.result)
    (ap (λ e. tallies_with c.args.terms.now e c.args.tallies.now.items) s ∙ (ap (tallies_with c.args.terms.now (alone now)) h ∙ sym (tallies_more group now c.args.terms.now)))
    c.add_to_each.ensures)
