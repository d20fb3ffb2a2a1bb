use Rattle.pager.proofs.WriterPages.{not_among_gap}
use Rattle.pager.proofs.writer.Writer.place.Goals as goal

pub returns-in-Err-clause-none : goal.returns-in-Err-clause-none
returns-in-Err-clause-none c whole = not_among_gap _ _ _ c.in-Err.ensures.gap
