use Rattle.std.proofs.Common.{ap, ◌∙◌}
use Rattle.std.specs.Result.{result_ok}
use Rattle.freelist.proofs.bytes.header_in.Goals as goal

pub returns-clause-only : goal.returns-clause-only
returns-clause-only c = λ header is. c.ok.ensures.value ∙ ap result_ok (c.read.ensures.only header is)
