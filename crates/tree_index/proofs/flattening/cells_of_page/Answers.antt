use Rattle.std.proofs.Common.{◌∙◌, Ok, Err, sym, subst, map}
use Rattle.tree_page.specs.Node.{Between, IsNode}
use Rattle.tree_page.specs.Reading.{Place}
use Rattle.tree_index.proofs.Fans.{memory_err}
use Rattle.tree_index.proofs.KidCells.{copied_at, some_is}
use Rattle.tree_index.proofs.flattening.cells_of_page.Goals as goal

pub returns-in_err-page-clause-read : goal.returns-in_err-page-clause-read
returns-in_err-page-clause-read c = λ kids last is. absurd (c.in_err-page.ensures.only (Between kids last) is)

pub returns-in_default-clause-read : goal.returns-in_default-clause-read
returns-in_default-clause-read c = λ kids last is.
    (let here = subst (λ (page : Place). IsNode page.bytes page.start (Between kids last)) (sym c.in_ok-page.ensures.place) is in
    absurd (c.in_default.not-Some last (c.last_child.ensures (Between kids last) here)))

pub returns-in_err-copy_cells-clause-read : goal.returns-in_err-copy_cells-clause-read
returns-in_err-copy_cells-clause-read c = λ kids last is.
    memory_err _ c.from_residual-in_err-copy_cells.result c.in_err-copy_cells.field-0.0 c.from_residual-in_err-copy_cells.ensures.1
    (copied_at c.in_ok-page.page c.args.bytes.now c.args.start (map (λ cell. cell.items) c.args.out.now.items) (map (λ cell. cell.items) c.copy_cells.new.out.items) (Err c.in_err-copy_cells.field-0.0)
    c.in_ok-page.ensures.place c.in_err-copy_cells.ensures.copied (Between kids last) is)

pub returns-clause-read : goal.returns-clause-read
returns-clause-read c = λ kids last is.
    (let here = subst (λ (page : Place). IsNode page.bytes page.start (Between kids last)) (sym c.in_ok-page.ensures.place) is in (
      some_is c.in-Some.last last (sym c.in-Some.is ∙ c.last_child.ensures (Between kids last) here),
      copied_at c.in_ok-page.page c.args.bytes.now c.args.start (map (λ cell. cell.items) c.args.out.now.items) (map (λ cell. cell.items) c.copy_cells.new.out.items) (Ok tt)
          c.in_ok-page.ensures.place c.in_ok-copy_cells.ensures.copied (Between kids last) is,
    ))
