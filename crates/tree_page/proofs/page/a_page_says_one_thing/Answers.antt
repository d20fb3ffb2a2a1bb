use Rattle.tree_page.proofs.OneThing.{says_one}
use Rattle.tree_page.proofs.page.a_page_says_one_thing.Goals as goal

pub returns : goal.returns
returns c = says_one
