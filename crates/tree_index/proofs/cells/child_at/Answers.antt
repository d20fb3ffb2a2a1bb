use Rattle.std.proofs.Common.{◌<◌, ◌≤◌, ◌∙◌, ℕ, [], length, Some, Ok, Option, sym, ap, subst, arith}
use Rattle.tree_page.specs.Node.{Local, Node, Between, IsNode}
use Rattle.tree_index.proofs.Readings.{child_found, child_within, child_after}
use Rattle.tree_index.proofs.cells.child_at.Goals as goal

nothing : ℕ × Local
nothing = (0, record { size = 0; bytes = [] })

pub returns-in_err-between-clause-only : goal.returns-in_err-between-clause-only
returns-in_err-between-clause-only c = λ node is between.
    child_found node c.args.place c.from_residual.result between (λ kids last e.
    (let here = subst (λ (n : Node). IsNode c.args.page.now.bytes c.args.page.now.start n) e is in
    let long = c.len.ensures (Between kids last) here in
    absurd (c.in_err-between.ensures.only kids last nothing here (omega (arith, long, c.if-place-len.true)))))

pub returns-then-place-len-clause-only : goal.returns-then-place-len-clause-only
returns-then-place-len-clause-only c = λ node is between.
    child_found node c.args.place (Ok (Some c.in_ok-between.field-0.child)) between (λ kids last e.
    (let here = subst (λ (n : Node). IsNode c.args.page.now.bytes c.args.page.now.start n) e is in
    let long = c.len.ensures (Between kids last) here in
    let within : c.args.place < length kids = omega (arith, long, c.if-place-len.true) in
    ap (λ (n : ℕ). Ok (Some n)) (ap (λ (kid : ℕ × Local). kid.0) (c.in_ok-between.ensures.only kids last nothing here within) ∙ sym (child_within c.args.place kids last nothing within))))

pub returns-clause-only : goal.returns-clause-only
returns-clause-only c = λ node is between.
    child_found node c.args.place (Ok c.last_child.result) between (λ kids last e.
    (let here = subst (λ (n : Node). IsNode c.args.page.now.bytes c.args.page.now.start n) e is in
    let long = c.len.ensures (Between kids last) here in
    let after : length kids ≤ c.args.place = omega (arith, long, c.if-place-len.false) in
    ap (λ (child : Option ℕ). Ok child) (c.last_child.ensures (Between kids last) here) ∙ ap (λ (n : ℕ). Ok (Some n)) (sym (child_after c.args.place kids last after))))
