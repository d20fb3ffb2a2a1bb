use Rattle.std.proofs.Common.{◌≡◌, ◌∙◌, ◌<◌, ◌≤◌, ◌++◌, List, ap, arith, drop, drop_of_length-le, get_or, length, rules, subst, sym, take}
use Rattle.std.proofs.lemmas.List.{length-set}
use Rattle.query_terms.specs.Outcome.{IsRefusedBy}
use Rattle.query_terms.specs.Rows.{seen}
use Rattle.query_totals.specs.Totals.{tallies_with}
use Rattle.query_totals.specs.declared.tally.Tally.{Tally}
use Rattle.query_totals.proofs.EachTally.{all_on, done, kept_all, none_is, one_on, one_refused, past_all, set_own, under_way}
use Rattle.query_totals.proofs.rows.add_to_each.Goals as goal

pub tallies-preserved : goal.tallies-preserved
tallies-preserved c =
    let env = seen c.args.env in
    let items = c.tallies.tally-items in
    let i = c.tallies.tally-index in
    let old = get_or items i c.tally-item.result in
    let lt : i < length items = (let test = c.tallies-test.true in let long = c.tallies.auto.tally-items in omega (arith, test, long)) in (
      sym (one_on env c.in-Some.term.now c.in-Some.rest.now items i old c.add_to.new.tally lt (ap (get_or items i) (sym c.tally-item.is)) c.in_ok-add_to.ensures)
          ∙ (ap (λ left. under_way env left items i) (sym c.in-Some.ensures.cases.0) ∙ c.tallies.invariant.0),
      length-set items i c.add_to.new.tally ∙ c.tallies.invariant.1,
    )

pub returns-in_err-add_to : goal.returns-in_err-add_to
returns-in_err-add_to c =
    let env = seen c.args.env in
    let items = c.tallies.tally-items in
    let i = c.tallies.tally-index in
    let old = get_or items i c.tally-item.result in
    let fault = c.in_err-add_to.field-0.0 in
    let lt : i < length items = (let test = c.tallies-test.true in let long = c.tallies.auto.tally-items in omega (arith, test, long)) in
    let h : IsRefusedBy (tallies_with c.args.terms.now env c.args.tallies.now.items) fault =
    subst (λ a. IsRefusedBy a fault) c.tallies.invariant.0
    (subst (λ left. IsRefusedBy (under_way env left items i) fault) (sym c.in-Some.ensures.cases.0)
    (one_refused env c.in-Some.term.now c.in-Some.rest.now items i old fault lt (ap (get_or items i) (sym c.tally-item.is)) c.in_err-add_to.ensures)) in
    search rules

pub returns-in_default : goal.returns-in_default
returns-in_default c =
    let env = seen c.args.env in
    let items = c.tallies.tally-items in
    let i = c.tallies.tally-index in
    let now = c.args.tallies.now in
    let whole : length now.items ≡ now.len = search rules in
    sym c.tallies.invariant.0
    ∙ (ap (λ left. under_way env left items i) (none_is c.tallies.left.now c.in_default.ensures.cases)
    ∙ (all_on env items i
    ∙ (ap done (kept_all items now.items now.len (c.tallies.invariant.1 ∙ whole))
    ∙ ap (λ (ks : List Tally). done (take now.len (ks ++ drop (length ks) now.items))) (sym (set_own items i c.tally-item.result)))))

pub returns : goal.returns
returns c =
    let env = seen c.args.env in
    let items = c.tallies.tally-items in
    let i = c.tallies.tally-index in
    let now = c.args.tallies.now in
    let whole : length now.items ≡ now.len = search rules in
    let le : length items ≤ i = (let test = c.tallies-test.false in let long = c.tallies.auto.tally-items in omega (arith, test, long)) in
    sym c.tallies.invariant.0
    ∙ (past_all env c.tallies.left.now items i (drop_of_length-le items le) ∙ ap done (kept_all items now.items now.len (c.tallies.invariant.1 ∙ whole)))
