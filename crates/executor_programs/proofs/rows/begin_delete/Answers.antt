use Rattle.std.proofs.Common.{Ok, SFits, ap, rules, subst, sym, w64, ℤ, ◌∙◌}
use Rattle.std.proofs.lemmas.Int.{to_z-of_z}
use Rattle.std.specs.Prelude.{option_map}
use Rattle.row_change.specs.NewRows.{row_of as pair_of}
use Rattle.trigger.specs.Binding.{aim_of}
use Rattle.executor_programs.specs.Begun.{FindsNow}
use Rattle.catalog.specs.Listed.{with_rows}
use Rattle.executor_programs.specs.declared.acts.TableItem.TheVariants as work
use Rattle.executor_programs.proofs.Beginning.{delete_begun, delete_gone, here, stores_table, unread}
use Rattle.executor_programs.proofs.rows.begin_delete.Goals as goal

pub returns-in_err-old-clause-begun : goal.returns-in_err-old-clause-begun
returns-in_err-old-clause-begun g c = λ l o change act told db seen stored shows tabled kind there.
    (let h = here c.listed_tables_are_found.ensures.finds _ _ l db change c.args.table.now stored tabled.named in
    unread l change db seen c.args.table.now act (work.Delete c.args.rowid) c.from_residual.result c.in_err-old.field-0.0 c.from_residual.ensures.1
    (c.in_err-old.ensures.found told l db (aim_of change).target (with_rows c.args.table.now h.rows) (stores_table _ _ l db change c.args.table.now stored tabled.named h) there))

pub returns-in-Some-clause-begun : goal.returns-in-Some-clause-begun
returns-in-Some-clause-begun g c = λ l o change act told db seen stored shows tabled kind there.
    (let h = here c.listed_tables_are_found.ensures.finds _ _ l db change c.args.table.now stored tabled.named in
    let fits : SFits w64 c.args.rowid = search rules in
    let found = subst (λ (n : ℤ). FindsNow (g.P.Pages.map c.args.pages.now) (g.P.Pages.limits (g.P.Pages.below c.args.pages.now)).page c.args.table.now n c.args.known (Ok c.in_ok-old.field-0)) (to_z-of_z w64 c.args.rowid fits) (c.in_ok-old.ensures.found told) in
    delete_begun l change db seen c.args.table.now act h c.args.rowid c.in-Some.old tabled.named kind
    (ap (option_map pair_of) (sym c.in-Some.is)
    ∙ found l db (aim_of change).target (with_rows c.args.table.now h.rows) (stores_table _ _ l db change c.args.table.now stored tabled.named h) there))

pub returns-in-None-clause-begun : goal.returns-in-None-clause-begun
returns-in-None-clause-begun g c = λ l o change act told db seen stored shows tabled kind there.
    (let h = here c.listed_tables_are_found.ensures.finds _ _ l db change c.args.table.now stored tabled.named in
    let fits : SFits w64 c.args.rowid = search rules in
    let found = subst (λ (n : ℤ). FindsNow (g.P.Pages.map c.args.pages.now) (g.P.Pages.limits (g.P.Pages.below c.args.pages.now)).page c.args.table.now n c.args.known (Ok c.in_ok-old.field-0)) (to_z-of_z w64 c.args.rowid fits) (c.in_ok-old.ensures.found told) in
    delete_gone l change db seen c.args.table.now act h c.args.rowid
    (ap (option_map pair_of) (sym c.in-None.is)
    ∙ found l db (aim_of change).target (with_rows c.args.table.now h.rows) (stores_table _ _ l db change c.args.table.now stored tabled.named h) there))
