use Rattle.std.proofs.Common.{Option, ◌++◌, subst, sym}
use Rattle.sqlval.specs.declared.fault.Fault.{Fault}
use Rattle.query_answer.specs.Parts.{Kept}
use Rattle.query_view.specs.Seen.{HasKept, HasSeen}
use Rattle.query_view.proofs.SeenParts.{more_seen}
use Rattle.query_view.proofs.seen.see_rows.Goals as goal

pub returns-clause-seen : goal.returns-clause-seen
returns-clause-seen c = λ is e prepared ready before has.
    let old : Kept × Option Fault = (c.seen.inside.found, c.seen.inside.refusal) in
    let had : HasSeen c.args.view.now c.args.reading.now before old = subst (λ (s : Kept × Option Fault). HasSeen c.args.view.now c.args.reading.now before s) (sym c.seen.view_is) has in
    let new : Kept × Option Fault = (c.seen-2.inside.found, c.seen-2.inside.refusal) in
    more_seen c.parts_follow_one_another.ensures c.args.view.now c.args.reading.now is before c.args.rows.now old had c.in_ok-made.made new (c.in_ok-made.ensures.made is prepared)
    (λ them kept. subst (λ (s : Kept × Option Fault). HasKept c.args.reading.now (them ++ c.in_ok-made.made) s.0 s.1) (sym c.seen-2.view_is) (c.keep.ensures e ready them kept))
