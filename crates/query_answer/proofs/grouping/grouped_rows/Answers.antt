use Rattle.std.proofs.Common.{◌∙◌, map, subst, sym}
use Rattle.query_terms.specs.Outcome.{AnswersBy}
use Rattle.query_terms.specs.Rows.{picked_rows}
use Rattle.query_answer.specs.Groups.{keyed_of, of_groups}
use Rattle.query_answer.specs.Nesting.{shown}
use Rattle.query_answer.proofs.GroupRows.{by_groups, by_one}
use Rattle.query_answer.proofs.grouping.grouped_rows.Goals as goal

pub returns-then-len-eq0 : goal.returns-then-len-eq0
returns-then-len-eq0 c = λ long.
    subst (λ rows. AnswersBy (λ found. map shown found.items) (of_groups c.args.loops.reading.now (picked_rows c.args.loops.sources.now c.args.loops.outer.now) (map (keyed_of c.args.loops.sources.now) rows)) c.one_group.result) c.as_slice.ensures.value
    (subst (λ a. AnswersBy (λ found. map shown found.items) a c.one_group.result)
    (by_one c.args.loops.reading.now (picked_rows c.args.loops.sources.now c.args.loops.outer.now) c.args.loops.sources.now c.as_slice.result.now (sym c.len.ensures ∙ c.if-len-eq0.true))
    c.one_group.ensures)

pub returns-else-len-eq0 : goal.returns-else-len-eq0
returns-else-len-eq0 c = λ long.
    subst (λ a. AnswersBy (λ rows. map shown rows.items) a c.sorted_groups.result)
    (by_groups c.args.loops.reading.now (picked_rows c.args.loops.sources.now c.args.loops.outer.now) c.args.loops.sources.now c.args.found.items (λ e. c.if-len-eq0.false (c.len.ensures ∙ e)) long)
    c.sorted_groups.ensures
