use Rattle.std.proofs.Common.{ℕ, map, inl, sym, subst}
use Rattle.tree_page.specs.Node.{Keys, IsKeyCell}
use Rattle.tree_store.specs.Saying.{Says}
use Rattle.tree_table.proofs.KidCells.{kid_added, cells_say, pushed_cell}
use Rattle.tree_table.proofs.StepsDown.{ok_is, not_refused}
use Rattle.tree_table.proofs.LeafRows.{refused}
use Rattle.tree_table.proofs.flattening.read_kid.Goals as goal

pub returns-in_err-number-clause-read : goal.returns-in_err-number-clause-read
returns-in_err-number-clause-read g c = λ told side whole leads. absurd (not_refused _ _ (c.in_err-number.ensures.only (leads.number, side.1) leads.cell_is))

pub returns-in_err-last-clause-read : goal.returns-in_err-last-clause-read
returns-in_err-last-clause-read g c = λ told side whole leads.
    (let at = ok_is _ _ (c.in_ok-number.ensures.only (leads.number, side.1) leads.cell_is) in
    let says = subst (λ (n : ℕ). Says (g.P.Pages.map c.args.pages.now) n (Keys side.0.0 side.0.1)) (sym at) leads.says in
    refused _ c.from_residual-in_err-last.result c.in_err-last.field-0.0 c.from_residual-in_err-last.ensures.1 (c.in_err-last.ensures.read told side.0.0 side.0.1 whole says))

pub returns-in_err-moved-clause-read : goal.returns-in_err-moved-clause-read
returns-in_err-moved-clause-read g c = λ told side whole leads.
    refused _ c.from_residual-in_err-moved.result c.in_err-moved.field-0.0 c.from_residual-in_err-moved.ensures.1 (inl (c.in_err-moved.ensures.parents (leads.number, side.1) leads.cell_is))

pub returns-clause-read : goal.returns-clause-read
returns-clause-read g c = λ told side whole leads.
    (let m = g.P.Pages.map c.args.pages.now in
    let at = ok_is _ _ (c.in_ok-number.ensures.only (leads.number, side.1) leads.cell_is) in
    let says = subst (λ (n : ℕ). Says m n (Keys side.0.0 side.0.1)) (sym at) leads.says in
    let read = c.in_ok-last.ensures.read told side.0.0 side.0.1 whole says in
    let moved = c.in_ok-moved.ensures.parents (leads.number, side.1) leads.cell_is in
    kid_added (map (λ cell. cell.items) c.args.out.now.items) (map (λ cell. cell.items) c.read_cells.new.out.items) (map (λ cell. cell.items) c.push.new.self.items) says.node_is.cells c.in_ok-moved.moved.items
    side.0.0 (side.0.1, side.1) read.1 (pushed_cell c.read_cells.new.out.items c.push.new.self.items c.in_ok-moved.moved c.in_ok-push.ensures.items) (cells_say m c.in_ok-number.number side.0.0 side.0.1 says)
    (subst (λ (n : ℕ). IsKeyCell c.in_ok-moved.moved.items (n, side.1)) read.0 moved.0))
