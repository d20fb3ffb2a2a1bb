use Rattle.std.proofs.Common.{◌<◌, refl, subst, sym, length}
use Rattle.pager.specs.Marks.{marks_of}
use Rattle.session.specs.Saving.{GoesBackToMark, OnWriter}
use Rattle.session.specs.declared.seats.Transaction.{Transaction}
use Rattle.session.specs.declared.seats.Transaction.TheVariants as transaction
use Rattle.session.proofs.seats.Transaction.back_to.Goals as goal

pub returns-in-Writing : goal.returns-in-Writing
returns-in-Writing c =
    subst (λ (t : Transaction). OnWriter (λ old new. c.args.place < length (marks_of old) → GoesBackToMark c.args.place old new) t (transaction.Writing c.go_back.new.writer)) (sym c.in-Writing.is)
    (c.go_back.new.writer, refl, c.go_back.ensures)
