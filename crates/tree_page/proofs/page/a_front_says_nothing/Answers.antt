use Rattle.tree_page.proofs.AfterFront.{stays_after_front}
use Rattle.tree_page.proofs.page.a_front_says_nothing.Goals as goal

pub returns : goal.returns
returns c = stays_after_front
