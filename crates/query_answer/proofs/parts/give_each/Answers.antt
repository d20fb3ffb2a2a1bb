use Rattle.std.proofs.Common.{◌≡◌, ◌∙◌, ◌∷◌, [], List, ap, drop, refl, rules, sym}
use Rattle.query_terms.specs.Outcome.{IsRefusedBy}
use Rattle.query_terms.specs.Rows.{picked_rows}
use Rattle.query_terms.specs.Values.{Row}
use Rattle.query_answer.specs.Nesting.{filtered_by, onto}
use Rattle.query_answer.specs.Parts.{of_rows}
use Rattle.query_answer.proofs.LongKeys.{stay_long}
use Rattle.query_answer.proofs.PartRows.{all_of, none_left, rows_done, rows_go_on, rows_stop}
use Rattle.query_answer.proofs.parts.give_each.Goals as goal

pub rows-init : goal.rows-init
rows-init c = λ before long is. (before, long, is, refl)

pub returns-in_err-give_row : goal.returns-in_err-give_row
returns-in_err-give_row c = λ before long is.
    (let q = c.args.loops.reading.now in
    let p = filtered_by c.args.loops.filter.now q in
    let total = onto before (of_rows p c.args.condition.now c.args.rows.now) in
    let was = c.rows.invariant before long is in
    let h : IsRefusedBy (all_of q total) c.in_err-give_row.field-0.0 =
    rows_stop p q c.args.condition.now c.args.loops.sources.now c.args.rows.now c.rows.index was.0 total c.requires.sources c.rows-test.true was.3 c.in_err-give_row.field-0.0 (c.in_err-give_row.ensures was.0 was.1 was.2) in
    search rules)

pub rows-preserved : goal.rows-preserved
rows-preserved c = λ before long is.
    let q = c.args.loops.reading.now in
    let p = filtered_by c.args.loops.filter.now q in
    let was = c.rows.invariant before long is in
    let on = rows_go_on p q c.args.condition.now c.args.loops.sources.now c.args.rows.now c.rows.index was.0 (onto before (of_rows p c.args.condition.now c.args.rows.now)) c.requires.sources c.rows-test.true was.3
    c.give_row.new.found (c.in_ok-give_row.ensures was.0 was.1 was.2) in
    (on.0, stay_long q c.args.loops.filter.now c.args.condition.now (picked_rows c.args.loops.sources.now (c.rows.index ∷ [])) was.0 on.0 on.3 was.1, on.1, on.2)

pub returns : goal.returns
returns c = λ before long is.
    let q = c.args.loops.reading.now in
    let p = filtered_by c.args.loops.filter.now q in
    let was = c.rows.invariant before long is in
    let none : drop c.rows.index c.args.rows.now ≡ [] = none_left c.args.rows.now c.rows.index c.rows-test.false in
    rows_done q was.0 (onto before (of_rows p c.args.condition.now c.args.rows.now)) c.rows.found was.2 (ap (λ (l : List Row). onto was.0 (of_rows p c.args.condition.now l)) (sym none) ∙ was.3)
