use Rattle.std.proofs.Common.{rules, ◌≡◌, ◌∙◌, ◌<◌, ◌+◌, ℕ, suc, pos, List, length, slice_index_or, sym, ap, subst, arith}
use Rattle.tree_page.specs.Node.{Keys, IsNode, IsKeyCell}
use Rattle.tree_page.specs.Reading.{Place}
use Rattle.tree_table.specs.Stepping.{child_at}
use Rattle.tree_table.proofs.Fans.{cell_on, key_at}
use Rattle.tree_table.proofs.joining.pair_in.Goals as goal

pub returns-in_err-page-clause-found : goal.returns-in_err-page-clause-found
returns-in_err-page-clause-found c = λ kids last is. absurd (c.in_err-page.ensures.only (Keys kids last) is)

pub returns-then-first-len-clause-found : goal.returns-then-first-len-clause-found
returns-then-first-len-clause-found c = λ kids last is.
    (let here = subst (λ (page : Place). IsNode page.bytes page.start (Keys kids last)) (sym c.in_ok-page.ensures.place) is in
    let long = c.len.ensures (Keys kids last) here in
    omega (arith, long, c.saturating_sub-first.ensures, c.if-first-len.true))

pub returns-in_err-cell-clause-found : goal.returns-in_err-cell-clause-found
returns-in_err-cell-clause-found c = λ kids last is.
    (let here = subst (λ (page : Place). IsNode page.bytes page.start (Keys kids last)) (sym c.in_ok-page.ensures.place) is in
    let long = c.len.ensures (Keys kids last) here in
    absurd (c.in_err-cell.ensures.only (Keys kids last) here (omega (arith, long, c.if-first-len.false))))

pub returns-in_err-left-clause-found : goal.returns-in_err-left-clause-found
returns-in_err-left-clause-found c = λ kids last is.
    (let here = subst (λ (page : Place). IsNode page.bytes page.start (Keys kids last)) (sym c.in_ok-page.ensures.place) is in
    absurd (c.in_err-left.ensures.found kids last here))

pub returns-in_err-right-clause-found : goal.returns-in_err-right-clause-found
returns-in_err-right-clause-found c = λ kids last is.
    (let here = subst (λ (page : Place). IsNode page.bytes page.start (Keys kids last)) (sym c.in_ok-page.ensures.place) is in
    absurd (c.in_err-right.ensures.found kids last here))

pub returns-clause-found : goal.returns-clause-found
returns-clause-found c = λ kids last is.
    (let here = subst (λ (page : Place). IsNode page.bytes page.start (Keys kids last)) (sym c.in_ok-page.ensures.place) is in
    let long = c.len.ensures (Keys kids last) here in
    let first = c.saturating_sub-first.result in
    let lt : first < length kids = omega (arith, long, c.if-first-len.false) in
    let cell = cell_on c.in_ok-page.page c.args.bytes.now c.args.start first c.in_ok-cell.field-0.now c.in_ok-page.ensures.place c.in_ok-cell.ensures.only (Keys kids last) is lt in
    let key = key_at c.args.bytes.now c.args.start first kids last (0, pos 0) is c.in_ok-cell.field-0.now cell lt in
    let next : first + 1 ≡ suc first = omega arith in
    let copied : c.in_ok-cell-2.cell.items ≡ c.in_ok-cell.field-0.now = search rules in
    record {
      place_is = c.saturating_sub-first.ensures;
      within = lt;
      left_is = c.in_ok-left.ensures.found kids last here;
      right_is = c.in_ok-right.ensures.found kids last here ∙ ap (λ (n : ℕ). child_at n kids last) next;
      cell_is = subst (λ (bytes : List ℕ). IsKeyCell bytes (slice_index_or kids first (0, pos 0))) (sym copied) key;
    })
