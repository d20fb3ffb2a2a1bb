use Rattle.std.proofs.Common.{rules, SFits, true, false, w64}
use Rattle.std.proofs.lemmas.Int.{to_z-of_z}
use Rattle.row_change.proofs.IntoTrees.{put_among, put_refused, put_taken, as_entry}
use Rattle.row_change.specs.NewRows.{entry_in}
use Rattle.row_change.proofs.putting.put_record.Goals as goal

pub returns-in_err-insert-clause-put : goal.returns-in_err-insert-clause-put
returns-in_err-insert-clause-put g c = λ told.
    (let pages = g.P.Pages in
    let old = pages.map c.args.pages.now in
    let new = pages.map c.insert.new.pages in
    let size = (pages.limits (pages.below c.args.pages.now)).page in
    put_refused old new size c.args.root (entry_in c.args.row.now) c.in_err-insert.field-0.0 c.from_residual.result c.from_residual.ensures.1 (c.in_err-insert.ensures.inserted told))

pub returns-then-branch-clause-put : goal.returns-then-branch-clause-put
returns-then-branch-clause-put g c = λ told.
    (let pages = g.P.Pages in
    let old = pages.map c.args.pages.now in
    let new = pages.map c.insert.new.pages in
    let size = (pages.limits (pages.below c.args.pages.now)).page in
    let fits : SFits w64 c.args.row.now.rowid = search rules in
    put_among old new size c.args.root (entry_in c.args.row.now)
    (as_entry old new size c.args.root c.args.row.now c.deref.result.now _ _ true (to_z-of_z w64 c.args.row.now.rowid fits) c.deref.ensures.value c.if-branch.true (c.in_ok-insert.ensures.inserted told)))

pub returns-clause-put : goal.returns-clause-put
returns-clause-put g c = λ told.
    (let pages = g.P.Pages in
    let old = pages.map c.args.pages.now in
    let new = pages.map c.insert.new.pages in
    let size = (pages.limits (pages.below c.args.pages.now)).page in
    let fits : SFits w64 c.args.row.now.rowid = search rules in
    put_taken old new size c.args.root (entry_in c.args.row.now)
    (as_entry old new size c.args.root c.args.row.now c.deref.result.now _ _ false (to_z-of_z w64 c.args.row.now.rowid fits) c.deref.ensures.value c.if-branch.false (c.in_ok-insert.ensures.inserted told)))
