use Rattle.std.proofs.Common.{ap, ◌∙◌, ℕ}
use Rattle.tree_page.specs.declared.items.Kind.{Kind}
use Rattle.tree_page.specs.Reading.{type_of}
use Rattle.tree_page.proofs.NodeLemmas.{header_is, type_is}
use Rattle.tree_page.proofs.page.TreePage.kind.Goals as goal

pub returns : goal.returns
returns c = λ node is. ap (λ (h : Kind × ℕ). type_of h.0) (header_is c.args.self.now _ _ _ node c.self.view_is c.self.inside.sound is) ∙ type_is node
