use Rattle.std.proofs.Common.{List, ℕ, Bor}
use Rattle.tree_page.specs.Bytes.{cell_on}
use Rattle.tree_page.proofs.NodeLemmas.{node_cell, found_there, seen, unseen}
use Rattle.tree_page.proofs.page.TreePage.cell.Goals as goal

pub returns-in-Some-clause-only : goal.returns-in-Some-clause-only
returns-in-Some-clause-only c = λ node is less.
    let page = c.args.self.now in
    seen (λ (cell : Bor (List ℕ)). cell.now) c.find_cell.result _ _ c.in-Some.is
    (found_there (λ (cell : Bor (List ℕ)). cell.now) (λ bytes start header. cell_on bytes start header c.args.index) c.find_cell.result page _ _ _ node _ c.self.view_is c.self.inside.sound c.find_cell.ensures is (node_cell page.bytes page.start node is c.args.index less))

pub returns-in-None-clause-only : goal.returns-in-None-clause-only
returns-in-None-clause-only c = λ node is less.
    let page = c.args.self.now in
    absurd (unseen (λ (cell : Bor (List ℕ)). cell.now) c.find_cell.result _ c.in-None.is
    (found_there (λ (cell : Bor (List ℕ)). cell.now) (λ bytes start header. cell_on bytes start header c.args.index) c.find_cell.result page _ _ _ node _ c.self.view_is c.self.inside.sound c.find_cell.ensures is (node_cell page.bytes page.start node is c.args.index less)))
