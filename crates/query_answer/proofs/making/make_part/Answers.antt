use Rattle.std.proofs.Common.{◌≡◌, [], List, ap, slice_index_or, ◌∙◌}
use Rattle.query_answer.specs.Nesting.{Named, filtered_by}
use Rattle.query_answer.proofs.InTurn.{in_turn}
use Rattle.query_answer.proofs.PartRows.{alone}
use Rattle.query_answer.proofs.RowsMade.{are_made, makes_calm}
use Rattle.query_answer.proofs.making.make_part.Goals as goal

made_with : goal.returns-clause-made
made_with c = λ same none.
    let q = c.args.reading.now in
    let s = alone q (in_turn q c.requires) in
    let is : filtered_by c.loops_over-loops.result.filter.now c.loops_over-loops.result.reading.now ≡ q =
    (λ i. filtered_by (c.loops_over-loops.ensures.filter i) (c.loops_over-loops.ensures.reading i)) ∙ (λ i. filtered_by (same i) q) in
    let at : c.condition_of-condition.result.now ≡ s.0.1 =
    c.condition_of-condition.ensures s.0 ∙ ap (λ (l : List Named). (slice_index_or l 0 s.0).1) (c.as_slice.ensures ∙ s.1) in
    are_made q c.requires s.0 s.1 s.2 c.args.rows.now c.make_each.result c.make_each.new.made (filtered_by c.loops_over-loops.result.filter.now c.loops_over-loops.result.reading.now) c.condition_of-condition.result.now c.as_slice-2.result.now
    is at c.as_slice-2.ensures (c.make_each.ensures [] none)

pub returns-clause-made : goal.returns-clause-made
returns-clause-made c = made_with c

pub returns-clause-not_disk : goal.returns-clause-not_disk
returns-clause-not_disk c = λ same none.
    let q = c.args.reading.now in
    let s = alone q (in_turn q c.requires) in
    makes_calm q c.requires s.0 s.1 s.2 c.args.rows.now c.make_each.result c.make_each.new.made (made_with c same none)
