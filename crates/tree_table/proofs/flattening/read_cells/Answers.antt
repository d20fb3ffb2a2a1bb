use Rattle.std.proofs.Common.{◌∙◌, Ok, Err, map}
use Rattle.tree_table.proofs.KidCells.{read_at, memory_placed}
use Rattle.tree_table.proofs.flattening.read_cells.Goals as goal

pub returns-in-Ok-clause-read : goal.returns-in-Ok-clause-read
returns-in-Ok-clause-read g c = λ told kids last whole is.
    read_at (g.P.Pages.map c.args.pages.now) c.args.number c.loaded.result.now c.start_of.result (map (λ cell. cell.items) c.args.out.now.items) (map (λ cell. cell.items) c.cells_of_page.new.out.items) (Ok c.in-Ok.last)
    (c.loaded.ensures ∙ c.in_ok-load.ensures.bytes told) c.start_of.ensures c.in-Ok.ensures.read kids last is

pub returns-in-Err-clause-read : goal.returns-in-Err-clause-read
returns-in-Err-clause-read g c = λ told kids last whole is.
    memory_placed c.args.number c.in-Err.fault c.at_page.result
    (read_at (g.P.Pages.map c.args.pages.now) c.args.number c.loaded.result.now c.start_of.result (map (λ cell. cell.items) c.args.out.now.items) (map (λ cell. cell.items) c.cells_of_page.new.out.items) (Err c.in-Err.fault)
    (c.loaded.ensures ∙ c.in_ok-load.ensures.bytes told) c.start_of.ensures c.in-Err.ensures.read kids last is) c.at_page.ensures
