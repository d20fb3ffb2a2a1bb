use Rattle.std.proofs.Common.{◌<◌, refl, subst, sym, length}
use Rattle.pager.specs.Marks.{marks_of}
use Rattle.session.specs.Saving.{OnWriter, ReleasesMarks}
use Rattle.session.specs.declared.seats.Transaction.{Transaction}
use Rattle.session.specs.declared.seats.Transaction.TheVariants as transaction
use Rattle.session.proofs.seats.Transaction.release.Goals as goal

pub returns-in-Writing : goal.returns-in-Writing
returns-in-Writing c =
    subst (λ (t : Transaction). OnWriter (λ old new. c.args.place < length (marks_of old) → ReleasesMarks c.args.place old new) t (transaction.Writing c.let_go.new.writer)) (sym c.in-Writing.is)
    (c.let_go.new.writer, refl, c.let_go.ensures)
