use Rattle.tree_page.specs.Node.{Entries}
use Rattle.tree_page.specs.Reading.{local_of}
use Rattle.tree_page.specs.Bytes.{item_on, leading_entry}
use Rattle.tree_page.proofs.NodeLemmas.{node_entry, found_there, seen, unseen}
use Rattle.tree_page.proofs.page.TreePage.entry.Goals as goal

pub returns-in-Some-clause-only : goal.returns-in-Some-clause-only
returns-in-Some-clause-only c = λ entries d is less.
    let page = c.args.self.now in
    seen local_of c.find_entry.result _ _ c.in-Some.is
    (found_there local_of (λ bytes start header. item_on leading_entry bytes start header c.args.index) c.find_entry.result page _ _ _ (Entries entries) _ c.self.view_is c.self.inside.sound c.find_entry.ensures is (node_entry page.bytes page.start entries c.args.index d is less))

pub returns-in-None-clause-only : goal.returns-in-None-clause-only
returns-in-None-clause-only c = λ entries d is less.
    let page = c.args.self.now in
    absurd (unseen local_of c.find_entry.result _ c.in-None.is
    (found_there local_of (λ bytes start header. item_on leading_entry bytes start header c.args.index) c.find_entry.result page _ _ _ (Entries entries) _ c.self.view_is c.self.inside.sound c.find_entry.ensures is (node_entry page.bytes page.start entries c.args.index d is less)))
