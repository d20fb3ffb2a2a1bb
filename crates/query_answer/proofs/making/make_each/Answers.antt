use Rattle.std.proofs.Common.{◌≡◌, ◌∙◌, [], List, ap, drop, refl, rules, sym}
use Rattle.query_terms.specs.Outcome.{IsRefusedBy}
use Rattle.query_terms.specs.Values.{Row}
use Rattle.query_answer.specs.Nesting.{filtered_by, onto}
use Rattle.query_answer.specs.Parts.{of_rows}
use Rattle.query_answer.proofs.PartRows.{none_left}
use Rattle.query_answer.proofs.RowsMade.{all_made, makes_done, makes_go_on, makes_stop}
use Rattle.query_answer.proofs.making.make_each.Goals as goal

pub rows-init : goal.rows-init
rows-init c = λ before is. (before, is, refl)

pub returns-in_err-make_at : goal.returns-in_err-make_at
returns-in_err-make_at c = λ before is.
    (let p = filtered_by c.args.loops.filter.now c.args.loops.reading.now in
    let total = onto before (of_rows p c.args.condition.now c.args.rows.now) in
    let was = c.rows.invariant before is in
    let h : IsRefusedBy (all_made total) c.in_err-make_at.field-0.0 =
    makes_stop p c.args.condition.now c.args.loops.sources.now c.args.rows.now c.rows.index was.0 total c.requires.sources c.rows-test.true was.2 c.in_err-make_at.field-0.0 (c.in_err-make_at.ensures was.0 was.1) in
    search rules)

pub rows-preserved : goal.rows-preserved
rows-preserved c = λ before is.
    let p = filtered_by c.args.loops.filter.now c.args.loops.reading.now in
    let was = c.rows.invariant before is in
    makes_go_on p c.args.condition.now c.args.loops.sources.now c.args.rows.now c.rows.index was.0 (onto before (of_rows p c.args.condition.now c.args.rows.now)) c.requires.sources c.rows-test.true was.2
    c.make_at.new.made (c.in_ok-make_at.ensures was.0 was.1)

pub returns : goal.returns
returns c = λ before is.
    let p = filtered_by c.args.loops.filter.now c.args.loops.reading.now in
    let was = c.rows.invariant before is in
    let none : drop c.rows.index c.args.rows.now ≡ [] = none_left c.args.rows.now c.rows.index c.rows-test.false in
    makes_done was.0 (onto before (of_rows p c.args.condition.now c.args.rows.now)) c.rows.made was.1 (ap (λ (l : List Row). onto was.0 (of_rows p c.args.condition.now l)) (sym none) ∙ was.2)
