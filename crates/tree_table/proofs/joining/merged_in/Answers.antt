use Rattle.std.proofs.Common.{◌≡◌, ◌∙◌, ℕ, List, [], ◌∷◌, length, sym, subst}
use Rattle.tree_page.specs.Node.{Rows, Keys, IsNode, IsKeyCell}
use Rattle.tree_page.specs.Reading.{Place}
use Rattle.tree_pack.specs.Splicing.{Joins}
use Rattle.tree_table.specs.Joining.{AreKeysMerged}
use Rattle.tree_table.proofs.Merging.{some_or_none, merged_rows, merged_keys}
use Rattle.tree_table.proofs.Refusing.{memory_err}
use Rattle.tree_table.proofs.Stepped.{some_is}
use Rattle.tree_table.proofs.joining.merged_in.Goals as goal

pub returns-in_err-page-clause-rows : goal.returns-in_err-page-clause-rows
returns-in_err-page-clause-rows c = λ rows others is_left is_right usual long. absurd (c.in_err-page.ensures.only (Rows rows) is_left)

pub returns-in_err-page-clause-keys : goal.returns-in_err-page-clause-keys
returns-in_err-page-clause-keys c = λ kids more last end kid is_left is_right cell usual long. absurd (c.in_err-page.ensures.only (Keys kids last) is_left)

pub returns-in_default-clause-rows : goal.returns-in_default-clause-rows
returns-in_default-clause-rows c = merged_rows c.args.left.now c.args.right.now c.join.result c.join.ensures.joined

pub returns-in_default-clause-keys : goal.returns-in_default-clause-keys
returns-in_default-clause-keys c = λ kids more last end kid is_left is_right cell usual long.
    (let here = subst (λ (page : Place). IsNode page.bytes page.start (Keys kids last)) (sym c.in_ok-page.ensures.place) is_left in
    absurd (c.in_default.not-Some last (c.last_child.ensures (Keys kids last) here)))

pub returns-in_err-between-clause-rows : goal.returns-in_err-between-clause-rows
returns-in_err-between-clause-rows c = λ rows others is_left is_right usual long.
    (let here = subst (λ (page : Place). IsNode page.bytes page.start (Rows rows)) (sym c.in_ok-page.ensures.place) is_left in
    absurd (some_or_none (sym c.in-Some.is ∙ c.last_child.ensures (Rows rows) here)))

pub returns-in_err-between-clause-keys : goal.returns-in_err-between-clause-keys
returns-in_err-between-clause-keys c = λ kids more last end kid is_left is_right cell usual long.
    memory_err (AreKeysMerged (length c.args.left.now) is_left.cells is_right.cells kids more last end c.args.cell.now kid.1) c.from_residual-in_err-between.result c.in_err-between.field-0.0
    c.from_residual-in_err-between.ensures.1 (c.in_err-between.ensures.parents kid cell)

pub returns-clause-rows : goal.returns-clause-rows
returns-clause-rows c = λ rows others is_left is_right usual long.
    (let here = subst (λ (page : Place). IsNode page.bytes page.start (Rows rows)) (sym c.in_ok-page.ensures.place) is_left in
    absurd (some_or_none (sym c.in-Some.is ∙ c.last_child.ensures (Rows rows) here)))

pub returns-clause-keys : goal.returns-clause-keys
returns-clause-keys c = λ kids more last end kid is_left is_right cell usual long.
    (let here = subst (λ (page : Place). IsNode page.bytes page.start (Keys kids last)) (sym c.in_ok-page.ensures.place) is_left in
    let same : c.in-Some.child ≡ last = some_is (sym c.in-Some.is ∙ c.last_child.ensures (Keys kids last) here) in
    let moved = c.in_ok-between.ensures.parents kid cell in
    let between = c.in_ok-between.between.items in
    merged_keys c.args.left.now c.args.right.now c.args.cell.now between kids more last end kid is_left is_right usual long (subst (λ (n : ℕ). IsKeyCell between (n, kid.1)) same moved.0) moved.1 c.join-2.result
    (subst (λ (bytes : List ℕ). Joins c.args.left.now (bytes ∷ []) c.args.right.now c.join-2.result) c.as_slice.ensures.value c.join-2.ensures.joined))
