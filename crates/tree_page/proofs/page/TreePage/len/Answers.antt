use Rattle.std.proofs.Common.{ap, ℕ, arith}
use Rattle.tree_page.specs.declared.items.Kind.{Kind}
use Rattle.tree_page.proofs.NodeLemmas.{header_is}
use Rattle.tree_page.proofs.page.TreePage.len.Goals as goal

pub returns : goal.returns
returns c = λ node is. omega (arith, c.from.ensures, ap (λ (h : Kind × ℕ). h.1) (header_is c.args.self.now _ _ _ node c.self.view_is c.self.inside.sound is))
