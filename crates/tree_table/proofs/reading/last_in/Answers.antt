use Rattle.std.proofs.Common.{rules, SFits, ◌≡◌, ◌∙◌, ◌<◌, ◌-◌, ℕ, ℤ, [], pos, Option, Ok, Some, sym, ap, subst, length, map, slice_index_or, w64, arith}
use Rattle.std.proofs.lemmas.Int.{to_z-of_z}
use Rattle.tree_page.specs.Node.{Local, Rows, IsNode}
use Rattle.tree_page.specs.Reading.{row_of}
use Rattle.tree_table.proofs.Lasts.{last_there, none_last}
use Rattle.tree_table.proofs.LeafRows.{numbers_counted, number_there}
use Rattle.tree_table.proofs.StepsDown.{on_page}
use Rattle.tree_table.proofs.reading.last_in.Goals as goal

nothing : Local
nothing = record { size = 0; bytes = [] }

before : (most len : ℕ) → len ≡ most → (len ≡ 0 → ⊥) → len - 1 < most
before most len all some = omega (arith, all, some)

pub returns-in_err-page-clause-only : goal.returns-in_err-page-clause-only
returns-in_err-page-clause-only c = λ rows is.
    absurd (c.in_err-page.ensures.only (Rows rows) (subst (λ (n : ℕ). IsNode c.args.bytes.now n (Rows rows)) (sym c.start_of.ensures) is))

pub returns-then-len-eq0-clause-only : goal.returns-then-len-eq0-clause-only
returns-then-len-eq0-clause-only c = λ rows is.
    (let on = on_page c.in_ok-page.page c.args.bytes.now _ c.start_of.result (Rows rows) c.in_ok-page.ensures.place c.start_of.ensures is in
    ap (λ (last : Option ℤ). Ok last) (sym (none_last (map (λ row. row.0) rows) (omega (arith, numbers_counted rows, c.len-len.ensures (Rows rows) on, c.if-len-eq0.true)))))

pub returns-in_err-row-clause-only : goal.returns-in_err-row-clause-only
returns-in_err-row-clause-only c = λ rows is.
    (let on = on_page c.in_ok-page.page c.args.bytes.now _ c.start_of.result (Rows rows) c.in_ok-page.ensures.place c.start_of.ensures is in
    absurd (c.in_err-row.ensures.only rows (pos 0, nothing) on (before (length rows) _ (c.len-len.ensures (Rows rows) on) c.if-len-eq0.false)))

pub returns-clause-only : goal.returns-clause-only
returns-clause-only c = λ rows is.
    (let on = on_page c.in_ok-page.page c.args.bytes.now _ c.start_of.result (Rows rows) c.in_ok-page.ensures.place c.start_of.ensures is in
    let all = c.len-len.ensures (Rows rows) on in
    let counted = numbers_counted rows in
    let lt = before (length rows) _ all c.if-len-eq0.false in
    let fits : SFits w64 c.in_ok-row.field-0.rowid = search rules in
    let row = row_of c.in_ok-row.field-0 in
    let same : c.len-len.result - 1 ≡ length (map (λ row. row.0) rows) - 1 = omega (arith, all, counted) in
    ap (λ (z : ℤ). Ok (Some z)) (to_z-of_z w64 c.in_ok-row.field-0.rowid fits ∙ ap (λ (r : ℤ × Local). r.0) (c.in_ok-row.ensures.only rows row on lt)
    ∙ sym (number_there rows (c.len-len.result - 1) row (pos 0) lt) ∙ ap (λ (n : ℕ). slice_index_or (map (λ row. row.0) rows) n (pos 0)) same)
    ∙ ap (λ (last : Option ℤ). Ok last) (sym (last_there (map (λ row. row.0) rows) (pos 0) (λ none. c.if-len-eq0.false (omega (arith, none, counted, all))))))
