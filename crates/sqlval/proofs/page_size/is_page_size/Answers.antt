use Rattle.std.proofs.Common.{sym, ◌∙◌}
use Rattle.sqlval.proofs.PageSizeLemmas.{size_is, size_tested}
use Rattle.sqlval.proofs.page_size.is_page_size.Goals as goal

pub returns-clause-is : goal.returns-clause-is
returns-clause-is c = (λ is. size_is c.args.size (sym c.is_listed.ensures ∙ is), λ sized. c.is_listed.ensures ∙ size_tested c.args.size sized)
