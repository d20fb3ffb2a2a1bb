use Rattle.std.proofs.Common.{◌≡◌, ◌∙◌, ◌++◌, ◌∷◌, ◌==◌, [], List, Ok, ap, false, length, map, rules, subst, sym, true}
use Rattle.sqlval.specs.Refusals.{◌then◌}
use Rattle.query_terms.specs.Outcome.{AnswersBy}
use Rattle.query_terms.specs.Rows.{picked_rows}
use Rattle.query_terms.specs.Terms.{Term}
use Rattle.query_totals.specs.Totals.{arguments_at, tallies_over}
use Rattle.query_answer.specs.Nesting.{shown}
use Rattle.query_answer.proofs.LongKeys.{as_long}
use Rattle.query_answer.proofs.PartGroups.{row_put}
use Rattle.query_answer.proofs.PartRows.{of_totals}
use Rattle.query_answer.proofs.PartTotals.{row_added}
use Rattle.query_answer.proofs.parts.keep_row.Goals as goal

pub returns-then-len-eq0 : goal.returns-then-len-eq0
returns-then-len-eq0 c = λ before long is.
    let q = c.args.loops.reading.now in
    let rows = picked_rows c.args.loops.sources.now c.args.picked.now in
    let group = map (λ f. f.1) before in
    let none : (length q.keys == 0) ≡ true = search rules in
    row_added q rows before (of_totals q c.requires c.if-not-loops.false none) c.if-not-loops.false c.add_row.result (map shown c.found.inside.rows.items) c.found.inside.groups c.found.inside.tallies.items c.add_row.new.tallies.items
    (c.found.view_is ∙ is)
    (λ old.
    subst (λ (ts : List Term). AnswersBy (λ u. c.add_row.new.tallies.items) (arguments_at ts rows then λ vs. Ok (tallies_over (group ++ rows ∷ []) ts)) c.add_row.result) c.as_slice-terms.ensures
    (c.add_row.ensures group rows c.env-env.ensures.sees (old ∙ ap (tallies_over group) (sym c.as_slice-terms.ensures))))

pub returns-else-len-eq0 : goal.returns-else-len-eq0
returns-else-len-eq0 c = λ before long is.
    let q = c.args.loops.reading.now in
    let rows = picked_rows c.args.loops.sources.now c.args.picked.now in
    let some : (length q.keys == 0) ≡ false = search rules in
    row_put q rows before c.if-not-loops.false some c.keep_in_group.result (map shown c.found.inside.rows.items) c.found.inside.tallies.items c.found.inside.groups c.keep_in_group.new.groups (c.found.view_is ∙ is)
    (λ old. c.keep_in_group.ensures before rows c.env-env.ensures.sees (as_long q c.if-not-loops.false before long) old)
