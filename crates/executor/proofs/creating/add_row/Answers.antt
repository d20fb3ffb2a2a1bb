use Rattle.std.proofs.lemmas.Int.{to_z-of_z}
use Rattle.std.proofs.Common.{rules, SFits, w64, sym, subst, inl, Ok, true, false}
use Rattle.record.specs.Record.{IsRecord}
use Rattle.tree_leaf.specs.Leaf.{Entry}
use Rattle.tree_table.specs.Calls.{InsertsRow}
use Rattle.executor.proofs.AddedRows.{added, by_flag, not_there, passed}
use Rattle.executor.proofs.creating.add_row.Goals as goal

pub returns-in_err-insert-clause-added : goal.returns-in_err-insert-clause-added
returns-in_err-insert-clause-added g c told rows used free is none =
    passed _ c.from_residual-in_err-insert.result c.in_err-insert.field-0.0 c.args.values.now c.from_residual-in_err-insert.ensures.1
    (inl (c.in_err-insert.ensures.inserted told rows used free is))

pub returns-then-not-branch-clause-added : goal.returns-then-not-branch-clause-added
returns-then-not-branch-clause-added g c told rows used free is none =
    let row : Entry = record { rowid = c.args.rowid; payload = c.deref.result.now } in
    let fits : SFits w64 c.args.rowid = search rules in
    let inserts = subst (λ z. InsertsRow (g.P.Pages.map c.args.pages.now) (g.P.Pages.map c.insert.new.pages) (g.P.Pages.limits (g.P.Pages.below c.args.pages.now)).page 1 (record { rowid = z; payload = c.deref.result.now }) (Ok c.in_ok-insert.field-0))
    (to_z-of_z w64 c.args.rowid fits) (c.in_ok-insert.ensures.inserted told) in
    absurd (not_there (g.P.Pages.map c.args.pages.now) (g.P.Pages.map c.insert.new.pages) (g.P.Pages.limits (g.P.Pages.below c.args.pages.now)).page c.args.values.now rows used free row none
    (by_flag (g.P.Pages.map c.args.pages.now) (g.P.Pages.map c.insert.new.pages) (g.P.Pages.limits (g.P.Pages.below c.args.pages.now)).page c.args.values.now rows used free row none c.in_ok-insert.field-0 false c.if-not-branch.true (inserts rows used free is)))

pub returns-clause-added : goal.returns-clause-added
returns-clause-added g c told rows used free is none =
    let row : Entry = record { rowid = c.args.rowid; payload = c.deref.result.now } in
    let fits : SFits w64 c.args.rowid = search rules in
    let inserts = subst (λ z. InsertsRow (g.P.Pages.map c.args.pages.now) (g.P.Pages.map c.insert.new.pages) (g.P.Pages.limits (g.P.Pages.below c.args.pages.now)).page 1 (record { rowid = z; payload = c.deref.result.now }) (Ok c.in_ok-insert.field-0))
    (to_z-of_z w64 c.args.rowid fits) (c.in_ok-insert.ensures.inserted told) in
    added _ _ _ c.args.values.now rows used free row none (subst (λ bytes. IsRecord bytes c.args.values.now) (sym c.deref.ensures.value) c.in_ok-payload.ensures.is)
    (by_flag (g.P.Pages.map c.args.pages.now) (g.P.Pages.map c.insert.new.pages) (g.P.Pages.limits (g.P.Pages.below c.args.pages.now)).page c.args.values.now rows used free row none c.in_ok-insert.field-0 true c.if-not-branch.false (inserts rows used free is))
