use Rattle.std.proofs.Common.{◌∙◌, ap}
use Rattle.wal.specs.declared.pages.PageImage.{PageImage}
use Rattle.pager.proofs.WriterPages.{among_at, not_among_gap}
use Rattle.pager.proofs.writer.Writer.find.Goals as goal

pub returns-in-Ok-clause-found : goal.returns-in-Ok-clause-found
returns-in-Ok-clause-found c = among_at _ _ _ _ c.in-Ok.ensures.found c.at.result.now (c.as_slice.ensures.value ∙ ap (λ (p : PageImage). p.bytes.items) c.at.ensures)

pub returns-in-Err-clause-none : goal.returns-in-Err-clause-none
returns-in-Err-clause-none c whole = not_among_gap _ _ _ c.in-Err.ensures.gap
