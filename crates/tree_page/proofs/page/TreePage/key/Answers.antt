use Rattle.tree_page.specs.Node.{Keys}
use Rattle.tree_page.specs.Reading.{key_of}
use Rattle.tree_page.specs.Bytes.{item_on, leading_key}
use Rattle.tree_page.proofs.NodeLemmas.{node_key, found_there, seen, unseen}
use Rattle.tree_page.proofs.page.TreePage.key.Goals as goal

pub returns-in-Some-clause-only : goal.returns-in-Some-clause-only
returns-in-Some-clause-only c = λ kids last d is less.
    let page = c.args.self.now in
    seen key_of c.find_key.result _ _ c.in-Some.is
    (found_there key_of (λ bytes start header. item_on (λ usable. leading_key) bytes start header c.args.index) c.find_key.result page _ _ _ (Keys kids last) _ c.self.view_is c.self.inside.sound c.find_key.ensures is (node_key page.bytes page.start kids last c.args.index d is less))

pub returns-in-None-clause-only : goal.returns-in-None-clause-only
returns-in-None-clause-only c = λ kids last d is less.
    let page = c.args.self.now in
    absurd (unseen key_of c.find_key.result _ c.in-None.is
    (found_there key_of (λ bytes start header. item_on (λ usable. leading_key) bytes start header c.args.index) c.find_key.result page _ _ _ (Keys kids last) _ c.self.view_is c.self.inside.sound c.find_key.ensures is (node_key page.bytes page.start kids last c.args.index d is less)))
