use Rattle.std.proofs.Common.{◌≡◌, ◌∙◌, ap, rules, subst, sym}
use Rattle.query_terms.specs.Outcome.{Answers}
use Rattle.query_totals.specs.Tallies.{given_by}
use Rattle.query_groups.specs.Giving.{given_of}
use Rattle.query_groups.proofs.OfGroup.{collation_of, given_as, kind_of, not_a_key, tally_is}
use Rattle.query_groups.proofs.results.value_of_group.Goals as goal

pub returns-in_default : goal.returns-in_default
returns-in_default c = record {
  given = λ vs h.
      let term = c.args.term.now in
      let tally = c.args.tally in
      let same : given_of c.args.keys.now term tally ≡ given_by tally = ap (λ t. given_of c.args.keys.now t tally) (sym c.term.view_is) ∙ not_a_key c.args.keys.now tally c.term.inside.node c.in_default.not-Key in
      subst (λ a. Answers a c.given.result) (given_as term vs tally h ∙ sym same) (c.given.ensures.given (kind_of term) (collation_of term) vs (h ∙ tally_is term vs));
  not_disk = search rules;
}
