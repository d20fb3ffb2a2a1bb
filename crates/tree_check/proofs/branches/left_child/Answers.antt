use Rattle.std.proofs.Common.{◌≡◌, ◌∙◌, ℕ, List, ap, sym, subst}
use Rattle.tree_page.specs.Node.{IsNode}
use Rattle.pages.specs.Map.{page_at}
use Rattle.pages.specs.Counting.{start_of}
use Rattle.tree_check.proofs.Passed.{not_refused}
use Rattle.tree_check.proofs.branches.left_child.Goals as goal

pub returns-in-Err-clause-found : goal.returns-in-Err-clause-found
returns-in-Err-clause-found g c = λ map size told whole node says.
    (let read : c.loaded.result.now ≡ page_at map c.args.page = c.loaded.ensures ∙ (c.in_ok-load.ensures.bytes told.told ∙ ap (λ m. page_at m c.args.page) told.map_is) in
    absurd (not_refused c.in-Err.fault _ (c.in-Err.ensures.only node (subst (λ (l : List ℕ). IsNode l (start_of c.args.page) node) (sym read) says.node_is))))
