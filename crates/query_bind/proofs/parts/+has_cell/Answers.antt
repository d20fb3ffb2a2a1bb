use Rattle.std.proofs.Common.{◌≡◌, ◌||◌, ◌∙◌, ap, Bool, false, sym, rules}
use Rattle.query_names.specs.Grouping.{has, is_own_cell}
use Rattle.query_terms.specs.Terms.{Term, Between, Two}
use Rattle.query_bind.proofs.parts.+has_cell.Goals as goal

pub has_cell-returns-in-Two : goal.has_cell-returns-in-Two
has_cell-returns-in-Two t c =
    let is : Two c.in-Two.field-0 c.deref-in-Two.result.now c.deref-in-Two-2.result.now ≡ c.args.term.now = search rules in
    c.either_has_cell.ensures ∙ ap (λ (e : Term). has false (is_own_cell c.args.outer) e) is

pub has_cell-returns-else-either_has_cell : goal.has_cell-returns-else-either_has_cell
has_cell-returns-else-either_has_cell t c =
    let is : Between c.in-Between.field-0 c.deref-in-Between.result.now c.deref-in-Between-2.result.now c.deref-else-either_has_cell.result.now ≡ c.args.term.now = search rules in
    let none = sym c.either_has_cell-in-Between.ensures ∙ c.if-either_has_cell.false in
    c.has_cell-else-either_has_cell.ensures
    ∙ (ap (λ (b : Bool). b || has false (is_own_cell c.args.outer) c.deref-else-either_has_cell.result.now) (sym none) ∙ ap (λ (e : Term). has false (is_own_cell c.args.outer) e) is)
