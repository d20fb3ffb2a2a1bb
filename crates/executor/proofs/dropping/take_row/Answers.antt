use Rattle.std.proofs.lemmas.Int.{to_z-of_z}
use Rattle.std.proofs.Common.{rules, SFits, w64, subst, Ok, Err, true, false}
use Rattle.tree_table.specs.Calls.{IsRemoved, RemovesRow}
use Rattle.executor.proofs.Answering.{handed_on}
use Rattle.executor.proofs.dropping.take_row.Goals as goal

pub returns-in_err-remove-clause-taken : goal.returns-in_err-remove-clause-taken
returns-in_err-remove-clause-taken g c told rows used free is there =
    let f = c.in_err-remove.field-0.0 in
    let size = (g.P.Pages.limits (g.P.Pages.below c.args.pages.now)).page in
    let fits : SFits w64 c.args.rowid = search rules in
    let removes : RemovesRow (g.P.Pages.map c.args.pages.now) (g.P.Pages.map c.remove.new.pages) size 1 c.args.rowid (Err f) =
    subst (λ z. RemovesRow (g.P.Pages.map c.args.pages.now) (g.P.Pages.map c.remove.new.pages) size 1 z (Err f)) (to_z-of_z w64 c.args.rowid fits) (c.in_err-remove.ensures.removed told) in
    handed_on _ _ c.from_residual.result f c.from_residual.ensures.1 (removes rows used free is)

pub returns-then-not-branch-clause-taken : goal.returns-then-not-branch-clause-taken
returns-then-not-branch-clause-taken g c told rows used free is there =
    let b = c.in_ok-remove.field-0 in
    let size = (g.P.Pages.limits (g.P.Pages.below c.args.pages.now)).page in
    let fits : SFits w64 c.args.rowid = search rules in
    let removes : RemovesRow (g.P.Pages.map c.args.pages.now) (g.P.Pages.map c.remove.new.pages) size 1 c.args.rowid (Ok b) =
    subst (λ z. RemovesRow (g.P.Pages.map c.args.pages.now) (g.P.Pages.map c.remove.new.pages) size 1 z (Ok b)) (to_z-of_z w64 c.args.rowid fits) (c.in_ok-remove.ensures.removed told) in
    let missing : IsRemoved (g.P.Pages.map c.args.pages.now) (g.P.Pages.map c.remove.new.pages) size 1 c.args.rowid rows used free false =
    subst (IsRemoved (g.P.Pages.map c.args.pages.now) (g.P.Pages.map c.remove.new.pages) size 1 c.args.rowid rows used free) c.if-not-branch.true (removes rows used free is) in
    absurd (there missing.0)

pub returns-clause-taken : goal.returns-clause-taken
returns-clause-taken g c told rows used free is there =
    let b = c.in_ok-remove.field-0 in
    let size = (g.P.Pages.limits (g.P.Pages.below c.args.pages.now)).page in
    let fits : SFits w64 c.args.rowid = search rules in
    let removes : RemovesRow (g.P.Pages.map c.args.pages.now) (g.P.Pages.map c.remove.new.pages) size 1 c.args.rowid (Ok b) =
    subst (λ z. RemovesRow (g.P.Pages.map c.args.pages.now) (g.P.Pages.map c.remove.new.pages) size 1 z (Ok b)) (to_z-of_z w64 c.args.rowid fits) (c.in_ok-remove.ensures.removed told) in
    let taken : IsRemoved (g.P.Pages.map c.args.pages.now) (g.P.Pages.map c.remove.new.pages) size 1 c.args.rowid rows used free true =
    subst (IsRemoved (g.P.Pages.map c.args.pages.now) (g.P.Pages.map c.remove.new.pages) size 1 c.args.rowid rows used free) c.if-not-branch.false (removes rows used free is) in
    taken.1.0
