use Rattle.std.proofs.Common.{rules, ◌≡◌, ◌∙◌, ℤ, pos, [], sym, ap, subst, arith, w64}
use Rattle.std.proofs.lemmas.Int.{to_z-of_z}
use Rattle.tree_page.specs.Node.{Local, Node, IsNode}
use Rattle.tree_page.specs.Reading.{Place, below, count_of}
use Rattle.tree_table.proofs.Stepped.{looked_down, looked_found, looked_here, leaf_is, not_leaf_is, as_rows, ok_is, not_ok}
use Rattle.tree_table.proofs.descending.look.Goals.{else-place-len-via-then-place-len+in_ok-row+else-branch-rowid, else-place-len-via-else-place-len}
use Rattle.tree_table.proofs.descending.look.Goals as goal

pub returns-in_err-page-clause-found : goal.returns-in_err-page-clause-found
returns-in_err-page-clause-found c = λ node numbers is numbered rising. absurd (c.in_err-page.ensures.only node is)

pub returns-in_err-place-clause-found : goal.returns-in_err-place-clause-found
returns-in_err-place-clause-found c = λ node numbers is numbered rising.
    (let here = subst (λ (page : Place). IsNode page.bytes page.start node) (sym c.in_ok-page.ensures.place) is in
    absurd (not_ok (c.in_err-place.ensures.only node numbers here numbered rising)))

pub returns-then-not-is_leaf-clause-found : goal.returns-then-not-is_leaf-clause-found
returns-then-not-is_leaf-clause-found c = λ node numbers is numbered rising.
    (let here = subst (λ (page : Place). IsNode page.bytes page.start node) (sym c.in_ok-page.ensures.place) is in
    let plain = to_z-of_z w64 c.args.rowid c.ranges.rowid in
    looked_down c.args.rowid node numbers c.in_ok-place.place c.in_ok-child_at.field-0 c.kind.result numbered (c.kind.ensures node here) (not_leaf_is c.kind.result c.is_leaf.result c.is_leaf.ensures (c.if-not-is_leaf.true))
    (ok_is (c.in_ok-place.ensures.only node numbers here numbered rising) ∙ ap (λ (z : ℤ). below z numbers) plain)
    (λ kids last same. c.in_ok-child_at.ensures.found kids last (subst (λ (n : Node). IsNode c.in_ok-page.page.bytes c.in_ok-page.page.start n) same here)))

pub returns-in_err-row-clause-found : goal.returns-in_err-row-clause-found
returns-in_err-row-clause-found c = λ node numbers is numbered rising.
    (let here = subst (λ (page : Place). IsNode page.bytes page.start node) (sym c.in_ok-page.ensures.place) is in
    let long = c.len.ensures node here in
    absurd (as_rows node numbers c.kind.result numbered (c.kind.ensures node here) (leaf_is c.kind.result c.is_leaf.result c.is_leaf.ensures (c.if-not-is_leaf.false)) (λ rows same.
    c.in_err-row.ensures.only rows (pos 0, record { size = 0; bytes = [] }) (subst (λ (n : Node). IsNode c.in_ok-page.page.bytes c.in_ok-page.page.start n) same here)
    (let count = ap count_of same in omega (arith, long, count, c.if-place-len.true)))))

pub returns-then-branch-rowid-clause-found : goal.returns-then-branch-rowid-clause-found
returns-then-branch-rowid-clause-found c = λ node numbers is numbered rising.
    (let here = subst (λ (page : Place). IsNode page.bytes page.start node) (sym c.in_ok-page.ensures.place) is in
    let plain = to_z-of_z w64 c.args.rowid c.ranges.rowid in
    let long = c.len.ensures node here in
    looked_found c.args.rowid node numbers c.in_ok-place.place c.kind.result numbered (c.kind.ensures node here) (leaf_is c.kind.result c.is_leaf.result c.is_leaf.ensures (c.if-not-is_leaf.false))
    (ok_is (c.in_ok-place.ensures.only node numbers here numbered rising) ∙ ap (λ (z : ℤ). below z numbers) plain) (omega (arith, long, c.if-place-len.true))
    (λ rows d same. (let equal : c.args.rowid ≡ c.in_ok-row.field-0.rowid = search rules in equal) ∙ ap (λ (row : ℤ × Local). row.0) (c.in_ok-row.ensures.only rows d (subst (λ (n : Node). IsNode c.in_ok-page.page.bytes c.in_ok-page.page.start n) same here) (let count = ap count_of same in omega (arith, long, count, c.if-place-len.true)))))

pub returns-clause-found : goal.returns-clause-found
returns-clause-found c = λ node numbers is numbered rising.
    (let here = subst (λ (page : Place). IsNode page.bytes page.start node) (sym c.in_ok-page.ensures.place) is in
    let plain = to_z-of_z w64 c.args.rowid c.ranges.rowid in
    looked_here c.args.rowid node numbers c.in_ok-place.place c.kind.result numbered (c.kind.ensures node here) (leaf_is c.kind.result c.is_leaf.result c.is_leaf.ensures (c.if-not-is_leaf.false))
    (ok_is (c.in_ok-place.ensures.only node numbers here numbered rising) ∙ ap (λ (z : ℤ). below z numbers) plain)
    (λ rows same has. elim c.else-place-len.branch [
      | else-place-len-via-then-place-len+in_ok-row+else-branch-rowid w ↦ (
          let other : c.args.rowid ≡ w.in_ok-row.field-0.rowid → ⊥ = search rules in
          let lt = has.within in
          other (sym (has.same (pos 0, record { size = 0; bytes = [] })) ∙ sym (ap (λ (row : ℤ × Local). row.0) (w.in_ok-row.ensures.only rows (pos 0, record { size = 0; bytes = [] })
          (subst (λ (n : Node). IsNode c.in_ok-page.page.bytes c.in_ok-page.page.start n) same here) lt))))
      | else-place-len-via-else-place-len w ↦ (let long = c.len.ensures node here in let count = ap count_of same in let lt = has.within in omega (arith, long, count, lt, w.if-place-len.false))
    ]))
