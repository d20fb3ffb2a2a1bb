use Rattle.std.proofs.Common.{◌≡◌, ◌++◌, None, Ok, Option, rules, subst, sym}
use Rattle.sqlval.specs.declared.fault.Fault.{Fault}
use Rattle.query_answer.specs.Parts.{Kept, part_of}
use Rattle.query_view.specs.Seen.{HasKept}
use Rattle.query_view.proofs.SeenParts.{now_refused}
use Rattle.query_view.proofs.seen.keep.Goals as goal

pub returns-in-Err : goal.returns-in-Err
returns-in-Err c = λ e ready before kept.
    let q = c.args.reading.now in
    let none : c.seen.inside.refusal ≡ None = search rules in
    let here : HasKept q before c.seen.inside.found c.seen.inside.refusal = subst (λ (s : Kept × Option Fault). HasKept q before s.0 s.1) (sym c.seen.view_is) kept in
    let given : part_of q before ≡ Ok c.seen.inside.found = subst (λ (r : Option Fault). HasKept q before c.seen.inside.found r) none here in
    subst (λ (r : Option Fault). HasKept q (before ++ c.args.rows.now) c.give_rows.new.found r) (sym c.note.ensures)
    (now_refused c.rows_are_given_in_parts.ensures q e before c.args.rows.now c.give_rows.new.found c.in-Err.fault (c.in-Err.ensures.not_disk e ready before given) (c.in-Err.ensures.given e ready before given))
