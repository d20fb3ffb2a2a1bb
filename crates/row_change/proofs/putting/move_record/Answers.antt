use Rattle.std.proofs.Common.{rules, SFits, w64}
use Rattle.std.proofs.lemmas.Int.{to_z-of_z}
use Rattle.row_change.specs.NewRows.{entry_in}
use Rattle.row_change.proofs.IntoTrees.{not_gone, puts_since, then_put}
use Rattle.row_change.proofs.putting.move_record.Goals as goal

pub returns-in_err-remove-clause-moved : goal.returns-in_err-remove-clause-moved
returns-in_err-remove-clause-moved g c = λ told.
    (let pages = g.P.Pages in
    let old = pages.map c.args.pages.now in
    let mid = pages.map c.remove.new.pages in
    let size = (pages.limits (pages.below c.args.pages.now)).page in
    not_gone old mid size c.args.root c.args.gone (entry_in c.args.row.now) c.in_err-remove.field-0.0 c.from_residual.result c.from_residual.ensures.1 (c.in_err-remove.ensures.removed told))

pub returns-clause-moved : goal.returns-clause-moved
returns-clause-moved g c = λ told.
    (let pages = g.P.Pages in
    let old = pages.map c.args.pages.now in
    let mid = pages.map c.remove.new.pages in
    let new = pages.map c.put_record.new.pages in
    let size = (pages.limits (pages.below c.args.pages.now)).page in
    let fits : SFits w64 c.args.gone = search rules in
    then_put old mid new size c.args.root _ c.args.gone (entry_in c.args.row.now) c.in_ok-remove.field-0 c.put_record.result (to_z-of_z w64 c.args.gone fits) (c.in_ok-remove.ensures.removed told)
    (puts_since pages.below pages.tells pages.limits c.args.pages.now c.remove.new.pages mid new c.args.root (entry_in c.args.row.now) c.put_record.result c.in_ok-remove.ensures.kept c.put_record.ensures.put told))
