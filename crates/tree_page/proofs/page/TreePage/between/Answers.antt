use Rattle.tree_page.specs.Node.{Between}
use Rattle.tree_page.specs.Reading.{between_of}
use Rattle.tree_page.specs.Bytes.{item_on, leading_between}
use Rattle.tree_page.proofs.NodeLemmas.{node_between, found_there, seen, unseen}
use Rattle.tree_page.proofs.page.TreePage.between.Goals as goal

pub returns-in-Some-clause-only : goal.returns-in-Some-clause-only
returns-in-Some-clause-only c = λ kids last d is less.
    let page = c.args.self.now in
    seen between_of c.find_between.result _ _ c.in-Some.is
    (found_there between_of (λ bytes start header. item_on leading_between bytes start header c.args.index) c.find_between.result page _ _ _ (Between kids last) _ c.self.view_is c.self.inside.sound c.find_between.ensures is (node_between page.bytes page.start kids last c.args.index d is less))

pub returns-in-None-clause-only : goal.returns-in-None-clause-only
returns-in-None-clause-only c = λ kids last d is less.
    let page = c.args.self.now in
    absurd (unseen between_of c.find_between.result _ c.in-None.is
    (found_there between_of (λ bytes start header. item_on leading_between bytes start header c.args.index) c.find_between.result page _ _ _ (Between kids last) _ c.self.view_is c.self.inside.sound c.find_between.ensures is (node_between page.bytes page.start kids last c.args.index d is less)))
