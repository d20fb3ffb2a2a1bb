use Rattle.pager.proofs.Reheading.{first_header}
use Rattle.pager.proofs.writer.Writer.header.Goals as goal

pub returns-in-Some-clause-only : goal.returns-in-Some-clause-only
returns-in-Some-clause-only c header whole has = c.header_of.ensures.only header (first_header _ _ _ header c.in-Some.page.now whole.pages whole.first has c.in-Some.ensures.found)
