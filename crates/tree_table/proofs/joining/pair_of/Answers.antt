use Rattle.std.proofs.Common.{◌∙◌, ℕ, List, sym, subst}
use Rattle.pages.specs.Counting.{start_of}
use Rattle.tree_page.specs.Node.{Keys, IsNode}
use Rattle.tree_table.proofs.Refusing.{memory_outside}
use Rattle.tree_table.proofs.joining.pair_of.Goals as goal

pub returns-in-Err-clause-found : goal.returns-in-Err-clause-found
returns-in-Err-clause-found g c = λ told kids last whole says.
    (let bytes = c.loaded.ensures ∙ c.in_ok-load.ensures.bytes told in
    memory_outside c.args.number c.in-Err.fault c.at_page.result c.at_page.ensures (c.in-Err.ensures.found kids last (subst (λ (start : ℕ). IsNode c.loaded.result.now start (Keys kids last)) (sym c.start_of.ensures)
    (subst (λ (page : List ℕ). IsNode page (start_of c.args.number) (Keys kids last)) (sym bytes) says.node_is))))
