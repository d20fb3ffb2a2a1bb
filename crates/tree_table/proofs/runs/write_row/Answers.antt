use Rattle.std.proofs.Common.{rules, ◌≡◌, ◌≤◌, ◌-◌, arith, ◌∙◌, ℕ, ℤ, SFits, w64, to_z, of_z, length, List, sym, ap, subst}
use Rattle.std.proofs.lemmas.Int.{to_z-of_z}
use Rattle.tree_page.specs.Node.{IsRowCell}
use Rattle.tree_page.specs.Payload.{table_most, held_size}
use Rattle.tree_overflow.specs.Calls.{IsWritten}
use Rattle.tree_table.proofs.Leaves.{payload_held}
use Rattle.tree_table.proofs.NewCells.{none_written, some_written, whole_written, is_none}
use Rattle.tree_table.proofs.runs.write_row.Goals as goal

pub returns-in_default-clause-written : goal.returns-in_default-clause-written
returns-in_default-clause-written g c = λ told free are big.
    (let gs = g.P.Pages in
    none_written (gs.map c.args.pages.now) (gs.limits (gs.below c.args.pages.now)).page c.args.change.now free are (is_none c.args.change.now.payload (λ x same. c.in_default.not-Some x same)))

pub returns-clause-written : goal.returns-clause-written
returns-clause-written g c = λ told free are big.
    (let gs = g.P.Pages in
    let old = gs.map c.args.pages.now in
    let new = gs.map c.write_payload.new.pages in
    let size = (gs.limits (gs.below c.args.pages.now)).page in
    let change = c.args.change.now in
    let payload = c.in-Some.payload in
    let held = c.in_ok-held.held.items in
    let most : c.saturating_sub-most.result ≡ table_most size = c.saturating_sub-most.ensures ∙ ap (λ (n : ℕ). n - 35) c.page_size.ensures in
    let bytes : c.as_slice-2.result.now ≡ payload.items = c.as_slice-2.ensures.value in
    let w = subst (λ (p : List ℕ). IsWritten old new size (table_most size) free p held) bytes
    (subst (λ (n : ℕ). IsWritten old new size n free c.as_slice-2.result.now held) most (c.in_ok-held.ensures.written told free are)) in
    let long = payload_held new size held payload.items w.chain big w.is in
    let fits : SFits w64 change.rowid = search rules in
    let plain = to_z-of_z w64 change.rowid fits in
    let value = c.as_slice-3.ensures.value in
    let len : c.len-size.result ≡ length payload.items = search rules in
    let cell : IsRowCell size c.in_ok-cell.cell.items (change.rowid, record { size = length payload.items; bytes = held }) = (
    subst (λ (z : ℤ). IsRowCell size c.in_ok-cell.cell.items (z, record { size = length payload.items; bytes = held })) plain
    (subst (λ (bytes : List ℕ). IsRowCell size c.in_ok-cell.cell.items (to_z w64 (of_z w64 change.rowid), record { size = length payload.items; bytes = bytes })) value
    (subst (λ (n : ℕ). IsRowCell size c.in_ok-cell.cell.items (to_z w64 (of_z w64 change.rowid), record { size = n; bytes = c.as_slice-3.result.now })) len
    (c.in_ok-cell.ensures.is size (ap length value ∙ long ∙ sym (ap (λ (n : ℕ). held_size size (table_most size) n) len)))))) in
    some_written old new size change free payload held c.in_ok-cell.cell.items are big (search rules) w cell)

pub returns-then-len-most-clause-written : goal.returns-then-len-most-clause-written
returns-then-len-most-clause-written g c = λ told free are big.
    (let gs = g.P.Pages in
    let old = gs.map c.args.pages.now in
    let size = (gs.limits (gs.below c.args.pages.now)).page in
    let change = c.args.change.now in
    let payload = c.in-Some.payload in
    let most : c.saturating_sub-most.result ≡ table_most size = c.saturating_sub-most.ensures ∙ ap (λ (n : ℕ). n - 35) c.page_size.ensures in
    let fit = c.if-len-most.true in
    let count = c.len.ensures in
    let sized = payload.ok.0 in
    let short : length payload.items ≤ table_most size = omega (arith, fit, count, sized, most) in
    let w = whole_written old size free payload.items are short in
    let long = payload_held old size payload.items payload.items w.chain big w.is in
    let fits : SFits w64 change.rowid = search rules in
    let plain = to_z-of_z w64 change.rowid fits in
    let value = c.as_slice.ensures.value in
    let len : c.len-size.result ≡ length payload.items = search rules in
    let cell : IsRowCell size c.in_ok-row_cell.field-0.items (change.rowid, record { size = length payload.items; bytes = payload.items }) = (
    subst (λ (z : ℤ). IsRowCell size c.in_ok-row_cell.field-0.items (z, record { size = length payload.items; bytes = payload.items })) plain
    (subst (λ (bytes : List ℕ). IsRowCell size c.in_ok-row_cell.field-0.items (to_z w64 (of_z w64 change.rowid), record { size = length payload.items; bytes = bytes })) value
    (subst (λ (n : ℕ). IsRowCell size c.in_ok-row_cell.field-0.items (to_z w64 (of_z w64 change.rowid), record { size = n; bytes = c.as_slice.result.now })) len
    (c.in_ok-row_cell.ensures.is size (ap length value ∙ long ∙ sym (ap (λ (n : ℕ). held_size size (table_most size) n) len)))))) in
    some_written old old size change free payload payload.items c.in_ok-row_cell.field-0.items are big (search rules) w cell)
