use Rattle.std.proofs.Common.{◌≡◌, ◌∙◌, ℕ, ap, sym, subst, List}
use Rattle.tree_page.specs.Node.{Keys, IsNode}
use Rattle.pages.specs.Map.{page_at}
use Rattle.pages.specs.Counting.{start_of}
use Rattle.tree_check.proofs.Passed.{outside_placed}
use Rattle.tree_check.proofs.branches.read_kids.Goals as goal

pub returns-in-Err-clause-read : goal.returns-in-Err-clause-read
returns-in-Err-clause-read g c = λ map size told whole kids last says.
    (let read : c.loaded.result.now ≡ page_at map c.args.page = c.loaded.ensures ∙ (c.in_ok-load.ensures.bytes told.told ∙ ap (λ m. page_at m c.args.page) told.map_is) in
    outside_placed c.args.page c.in-Err.fault c.at_page.result c.at_page.ensures
    (c.in-Err.ensures.only kids last (subst (λ (l : List ℕ). IsNode l (start_of c.args.page) (Keys kids last)) (sym read) says.node_is)))
