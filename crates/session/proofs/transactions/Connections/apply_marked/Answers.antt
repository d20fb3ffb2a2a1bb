use Rattle.std.proofs.Common.{◌∙◌}
use Rattle.pager.specs.Marks.{marks_of, now_of}
use Rattle.executor_programs.specs.Writes.{written}
use Rattle.session.proofs.Marked.{at_last_mark, moved_on, released, unmarked}
use Rattle.session.proofs.transactions.Connections.apply_marked.Goals as goal

pub returns-in_err-place-clause-applies : goal.returns-in_err-place-clause-applies
returns-in_err-place-clause-applies g c db text on =
    unmarked (written c.args.write) c.args.self.now c.args.writer.now c.mark.new.self db c.from_residual.result c.in_err-place.field-0.0 c.from_residual.ensures.1 c.in_err-place.ensures.refused.0 on

pub returns-in-Ok-clause-applies : goal.returns-in-Ok-clause-applies
returns-in-Ok-clause-applies g c db text on =
    let old = c.args.self.now in
    let here = moved_on old c.args.writer.now c.mark.new.self db c.in_ok-place.ensures.same c.in_ok-place.ensures.stands on in
    released (written c.args.write) old c.apply.new.self db c.apply.new.writer c.release.new.self c.release.ensures.same c.release.ensures.stands (c.in-Ok.ensures.applies db text here)

pub returns-in-Err-clause-back : goal.returns-in-Err-clause-back
returns-in-Err-clause-back g c =
    let set = c.in_ok-place.ensures.marked in
    c.release-in-Err.ensures.same ∙ at_last_mark (marks_of c.args.writer.now) (marks_of c.apply.new.writer) (now_of c.args.writer.now) (now_of c.back_to.new.self) c.in_ok-place.place set.0 (c.in-Err.ensures.marks ∙ set.1) c.back_to.ensures.back

pub returns-in-Err-clause-applies : goal.returns-in-Err-clause-applies
returns-in-Err-clause-applies g c db text on =
    let old = c.args.self.now in
    let set = c.in_ok-place.ensures in
    let here = moved_on old c.args.writer.now c.mark.new.self db set.same set.stands on in
    c.in-Err.ensures.applies db text here
