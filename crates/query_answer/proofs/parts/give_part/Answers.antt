use Rattle.std.proofs.Common.{◌≡◌, List, ap, slice_index_or, subst, sym, ◌∙◌}
use Rattle.query_names.specs.declared.reading.Reading.{Reading}
use Rattle.query_answer.specs.Nesting.{Named, filtered_by}
use Rattle.query_answer.specs.Parts.{HaveKeys, kept_of}
use Rattle.query_answer.proofs.PartRows.{alone, part_answers, part_calm, part_given}
use Rattle.query_answer.proofs.parts.give_part.Goals as goal

given_with : goal.returns-clause-given
given_with c = λ same before had.
    let q = c.args.reading.now in
    let s = alone q c.requires in
    let is : filtered_by c.loops_over-loops.result.filter.now c.loops_over-loops.result.reading.now ≡ q =
    (λ i. filtered_by (c.loops_over-loops.ensures.filter i) (c.loops_over-loops.ensures.reading i)) ∙ (λ i. filtered_by (same i) q) in
    let at : c.condition_of-condition.result.now ≡ s.0.1 =
    c.condition_of-condition.ensures s.0 ∙ ap (λ (l : List Named). (slice_index_or l 0 s.0).1) (c.as_slice.ensures ∙ s.1) in
    part_given q s.0 c.args.rows.now before c.requires s.1 s.2 c.give_each.result c.args.found.now c.give_each.new.found had
    (λ found long kept. part_answers q s.0 c.give_each.new.found c.loops_over-loops.result.reading.now (filtered_by c.loops_over-loops.result.filter.now c.loops_over-loops.result.reading.now) c.condition_of-condition.result.now c.as_slice-2.result.now
    c.args.rows.now found c.give_each.result c.loops_over-loops.ensures.reading is at c.as_slice-2.ensures (c.give_each.ensures found (subst (λ (r : Reading). HaveKeys r found) (sym c.loops_over-loops.ensures.reading) long) (kept ∙ ap (λ (r : Reading). kept_of r found) (sym c.loops_over-loops.ensures.reading))))

pub returns-clause-given : goal.returns-clause-given
returns-clause-given c = given_with c

pub returns-clause-not_disk : goal.returns-clause-not_disk
returns-clause-not_disk c = λ same before had.
    let q = c.args.reading.now in
    let s = alone q c.requires in
    part_calm q s.0 c.args.rows.now before c.requires s.1 s.2 c.give_each.result c.give_each.new.found (given_with c same before had)
