use Rattle.std.proofs.Common.{◌≡◌, ◌++◌, ℕ, ℤ, List, map, sym, subst}
use Rattle.std.specs.Global.{Vec}
use Rattle.tree_page.specs.Cells.{Pairwise}
use Rattle.tree_page.specs.Node.{IsKeyCell}
use Rattle.tree_table.proofs.KidCells.{first_said, number_added}
use Rattle.tree_table.proofs.StepsDown.{ok_is, not_refused}
use Rattle.tree_table.proofs.flattening.numbers_of.Goals as goal

abbrev bytes_of : List (Vec ℕ) → List (List ℕ)
bytes_of cells = map (λ cell. cell.items) cells

pub returns-in_err-number_in-clause-are : goal.returns-in_err-number_in-clause-are
returns-in_err-number_in-clause-are c = λ kids say.
    (let left = c.cells.invariant kids say in
    let now = subst (λ (cells : List (Vec ℕ)). Pairwise IsKeyCell (bytes_of cells) left.0) c.in-Some.ensures.cases.0 left.1 in
    let first = first_said c.in-Some.cell.now.items (bytes_of c.in-Some.after.now) left.0 now in
    absurd (not_refused _ _ (c.in_err-number_in.ensures.only first.0 (subst (λ (bytes : List ℕ). IsKeyCell bytes first.0) (sym c.as_slice.ensures.value) first.3))))

pub cells-preserved : goal.cells-preserved
cells-preserved c = λ kids say.
    (let left = c.cells.invariant kids say in
    let now = subst (λ (cells : List (Vec ℕ)). Pairwise IsKeyCell (bytes_of cells) left.0) c.in-Some.ensures.cases.0 left.1 in
    let first = first_said c.in-Some.cell.now.items (bytes_of c.in-Some.after.now) left.0 now in
    let at = ok_is _ _ (c.in_ok-number_in.ensures.only first.0 (subst (λ (bytes : List ℕ). IsKeyCell bytes first.0) (sym c.as_slice.ensures.value) first.3)) in (
      first.1,
      first.4,
      number_added kids first.1 first.0 c.cells.numbers.items c.push.new.self.items c.in_ok-number_in.field-0 c.in_ok-push.ensures.items at
          (subst (λ (rest : List (ℕ × ℤ)). c.cells.numbers.items ++ map (λ kid. kid.0) rest ≡ map (λ kid. kid.0) kids) first.2 left.2),
    ))
