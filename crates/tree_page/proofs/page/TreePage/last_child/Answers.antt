use Rattle.std.proofs.Common.{ap, ◌∙◌, ℕ}
use Rattle.tree_page.specs.declared.items.Kind.{Kind}
use Rattle.tree_page.specs.Bytes.{last_on}
use Rattle.tree_page.proofs.NodeLemmas.{on_place, header_is, node_last}
use Rattle.tree_page.proofs.page.TreePage.last_child.Goals as goal

pub returns : goal.returns
returns c = λ node is.
    let bytes = c.self.inside.bytes.now in
    let start = c.self.inside.start in
    let same = header_is c.args.self.now bytes start _ node c.self.view_is c.self.inside.sound is in
    c.read_last.ensures ∙ (ap (λ (h : Kind × ℕ). last_on bytes start h.0) same ∙ node_last bytes start node (on_place c.args.self.now bytes start node c.self.view_is is))
