use Rattle.tree_page.specs.Node.{Rows}
use Rattle.tree_page.specs.Reading.{row_of}
use Rattle.tree_page.specs.Bytes.{item_on, leading_row}
use Rattle.tree_page.proofs.NodeLemmas.{node_row, found_there, seen, unseen}
use Rattle.tree_page.proofs.page.TreePage.row.Goals as goal

pub returns-in-Some-clause-only : goal.returns-in-Some-clause-only
returns-in-Some-clause-only c = λ rows d is less.
    let page = c.args.self.now in
    seen row_of c.find_row.result _ _ c.in-Some.is
    (found_there row_of (λ bytes start header. item_on leading_row bytes start header c.args.index) c.find_row.result page _ _ _ (Rows rows) _ c.self.view_is c.self.inside.sound c.find_row.ensures is (node_row page.bytes page.start rows c.args.index d is less))

pub returns-in-None-clause-only : goal.returns-in-None-clause-only
returns-in-None-clause-only c = λ rows d is less.
    let page = c.args.self.now in
    absurd (unseen row_of c.find_row.result _ c.in-None.is
    (found_there row_of (λ bytes start header. item_on leading_row bytes start header c.args.index) c.find_row.result page _ _ _ (Rows rows) _ c.self.view_is c.self.inside.sound c.find_row.ensures is (node_row page.bytes page.start rows c.args.index d is less)))
