use Rattle.std.proofs.Common.{◌≡◌, ◌∙◌, ℤ, Ok, SFits, ap, of_z, rules, subst, to_z, w64}
use Rattle.std.proofs.lemmas.Int.{to_z-of_z}
use Rattle.tree_table.specs.Calls.{FindsRow}
use Rattle.row_scan.specs.Sources.{as_held}
use Rattle.row_scan.proofs.SoughtRows.{none_sought, one_sought, sought_unread}
use Rattle.row_scan.proofs.sources.source_rows_at.Goals as goal
use Rattle.row_scan.proofs.sources.source_rows_at.Goals.{then-branch+in_ok-new+in_ok-push, else-branch}

pub returns-in_err-get-clause-loaded : goal.returns-in_err-get-clause-loaded
returns-in_err-get-clause-loaded g c = λ told.
    (let gs = g.P.Pages in
    sought_unread (gs.map c.args.pages.now) (gs.limits (gs.below c.args.pages.now)).page c.args.table c.args.rowid c.new-payload.result.items c.get.new.out.items c.in_err-get.field-0.0
    c.from_residual.result c.from_residual.ensures.1 (c.in_err-get.ensures.found told))

pub returns-clause-loaded : goal.returns-clause-loaded
returns-clause-loaded g c = λ told.
    (let gs = g.P.Pages in
    let pages = gs.map c.args.pages.now in
    let size = (gs.limits (gs.below c.args.pages.now)).page in
    let before = c.new-payload.result.items in
    let after = c.get.new.out.items in
    let fits : SFits w64 c.args.rowid = search rules in
    let same : to_z w64 (of_z w64 c.args.rowid) ≡ c.args.rowid = to_z-of_z w64 c.args.rowid fits in
    let finds : FindsRow pages size c.args.table.root c.args.rowid before after (Ok c.in_ok-get.field-0) =
    subst (λ (n : ℤ). FindsRow pages size c.args.table.root n before after (Ok c.in_ok-get.field-0)) same (c.in_ok-get.ensures.found told) in
    elim c.if-branch.branch [
      | then-branch+in_ok-new+in_ok-push w ↦
          one_sought c.records_hold_their_values.ensures pages size c.args.table c.args.rowid before after w.as_slice.result.now c.in_ok-get.field-0 c.new-rows.result c.if-branch.rows
          w.in_ok-new.field-0 c.new-payload.ensures.items finds w.if-branch.true w.as_slice.ensures.value (w.in_ok-new.ensures ∙ ap (λ (n : ℤ). as_held c.args.table.shape.own (record { rowid = n; payload = w.as_slice.result.now })) same) c.new-rows.ensures (w.rows-is ∙ w.in_ok-push.ensures)
      | else-branch w ↦
          none_sought c.records_hold_their_values.ensures pages size c.args.table c.args.rowid before after c.in_ok-get.field-0 c.new-rows.result c.if-branch.rows
          c.new-payload.ensures.items finds w.if-branch.false c.new-rows.ensures w.rows-is
    ])
