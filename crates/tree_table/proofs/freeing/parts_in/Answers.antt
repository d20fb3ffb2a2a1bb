use Rattle.std.proofs.Common.{ℕ, Ok, sym, ap, subst}
use Rattle.tree_page.specs.Node.{IsNode}
use Rattle.tree_table.specs.declared.freeing.Parts.{Parts}
use Rattle.tree_table.proofs.Pieces.{cells_for, children_for, not_of_index}
use Rattle.tree_table.proofs.StepsDown.{on_page}
use Rattle.tree_table.proofs.freeing.parts_in.Goals as goal

pub returns-in_err-page-clause-only : goal.returns-in_err-page-clause-only
returns-in_err-page-clause-only c = λ node is ours.
    absurd (c.in_err-page.ensures.only node (subst (λ (n : ℕ). IsNode c.args.bytes.now n node) (sym c.start_of.ensures) is))

pub returns-in-TableLeaf-clause-only : goal.returns-in-TableLeaf-clause-only
returns-in-TableLeaf-clause-only c = λ node is ours.
    (let on = on_page c.in_ok-page.page c.args.bytes.now _ c.start_of.result node c.in_ok-page.ensures.place c.start_of.ensures is in
    ap (λ (parts : Parts). Ok parts) (cells_for node c.len-len.result (c.in-TableLeaf.ensures node on) (c.len-len.ensures node on)))

pub returns-in-TableInterior-clause-only : goal.returns-in-TableInterior-clause-only
returns-in-TableInterior-clause-only c = λ node is ours.
    (let on = on_page c.in_ok-page.page c.args.bytes.now _ c.start_of.result node c.in_ok-page.ensures.place c.start_of.ensures is in
    ap (λ (parts : Parts). Ok parts) (children_for c.in_ok-page.page.bytes c.in_ok-page.page.start node c.len-len.result c.saturating_add.result on (c.in-TableInterior.ensures node on) (c.len-len.ensures node on) c.saturating_add.ensures))

pub returns-in-IndexLeaf-clause-only : goal.returns-in-IndexLeaf-clause-only
returns-in-IndexLeaf-clause-only c = λ node is ours.
    (let on = on_page c.in_ok-page.page c.args.bytes.now _ c.start_of.result node c.in_ok-page.ensures.place c.start_of.ensures is in
    absurd (not_of_index node c.kind.result ours (c.kind.ensures node on) c.in-IndexLeaf.is))
