use Rattle.std.proofs.Common.{◌∙◌, ℕ, List, sym, subst}
use Rattle.pages.specs.Counting.{start_of}
use Rattle.tree_page.specs.Node.{IsNode}
use Rattle.tree_table.proofs.StepsDown.{ok_is, not_refused}
use Rattle.tree_table.proofs.lowering.lone_child.Goals as goal

pub returns-in-Ok-clause-found : goal.returns-in-Ok-clause-found
returns-in-Ok-clause-found g c = λ told node whole says.
    (let bytes = c.loaded.ensures ∙ c.in_ok-load.ensures.bytes told in
    ok_is _ _ (c.in-Ok.ensures.only node (subst (λ (start : ℕ). IsNode c.loaded.result.now start node) (sym c.start_of.ensures)
    (subst (λ (page : List ℕ). IsNode page (start_of c.args.number) node) (sym bytes) says.node_is))))

pub returns-in-Err-clause-found : goal.returns-in-Err-clause-found
returns-in-Err-clause-found g c = λ told node whole says.
    (let bytes = c.loaded.ensures ∙ c.in_ok-load.ensures.bytes told in
    absurd (not_refused _ _ (c.in-Err.ensures.only node (subst (λ (start : ℕ). IsNode c.loaded.result.now start node) (sym c.start_of.ensures)
    (subst (λ (page : List ℕ). IsNode page (start_of c.args.number) node) (sym bytes) says.node_is)))))
