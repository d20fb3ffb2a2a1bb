use Rattle.pages.proofs.Moving.{occurs_append}
use Rattle.pages.proofs.laws.pages_are_counted.Goals as goal

pub returns : goal.returns
returns c = occurs_append
