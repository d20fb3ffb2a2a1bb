use Rattle.std.proofs.Common.{SFits, rules, subst, sym, w64, ℤ}
use Rattle.std.proofs.lemmas.Int.{to_z-of_z}
use Rattle.catalog.specs.Listed.{listed_in}
use Rattle.executor_programs.specs.Begun.{Begins}
use Rattle.executor_programs.specs.declared.acts.TableItem.{TableItem}
use Rattle.executor_programs.specs.declared.acts.TableItem.TheVariants as work
use Rattle.executor_programs.proofs.rows.begin.Goals as goal

pub returns-in-Insert-clause-begun : goal.returns-in-Insert-clause-begun
returns-in-Insert-clause-begun g c = λ change told.
    (let gs = g.P.Pages in
    let size = (gs.limits (gs.below c.args.pages.now)).page in
    subst (λ (i : TableItem). Begins (gs.map c.args.pages.now) size (listed_in c.args.catalog.now) c.args.outer change c.args.table.now c.args.act.now i c.args.known c.begin_insert.result) (sym c.in-Insert.is)
    (c.begin_insert.ensures.begun (gs.map c.args.pages.now) size (listed_in c.args.catalog.now) c.args.outer change c.args.known))

pub returns-in-Update-clause-begun : goal.returns-in-Update-clause-begun
returns-in-Update-clause-begun g c = λ change told.
    (let gs = g.P.Pages in
    let fits : SFits w64 c.in-Update.rowid = search rules in
    let size = (gs.limits (gs.below c.args.pages.now)).page in
    subst (λ (i : TableItem). Begins (gs.map c.args.pages.now) size (listed_in c.args.catalog.now) c.args.outer change c.args.table.now c.args.act.now i c.args.known c.begin_update.result) (sym c.in-Update.is)
    (subst (λ (n : ℤ). Begins (gs.map c.args.pages.now) size (listed_in c.args.catalog.now) c.args.outer change c.args.table.now c.args.act.now (work.Update n) c.args.known c.begin_update.result) (to_z-of_z w64 c.in-Update.rowid fits)
    (c.begin_update.ensures.begun (listed_in c.args.catalog.now) change told)))

pub returns-in-Delete-clause-begun : goal.returns-in-Delete-clause-begun
returns-in-Delete-clause-begun g c = λ change told.
    (let gs = g.P.Pages in
    let fits : SFits w64 c.in-Delete.rowid = search rules in
    let size = (gs.limits (gs.below c.args.pages.now)).page in
    subst (λ (i : TableItem). Begins (gs.map c.args.pages.now) size (listed_in c.args.catalog.now) c.args.outer change c.args.table.now c.args.act.now i c.args.known c.begin_delete.result) (sym c.in-Delete.is)
    (subst (λ (n : ℤ). Begins (gs.map c.args.pages.now) size (listed_in c.args.catalog.now) c.args.outer change c.args.table.now c.args.act.now (work.Delete n) c.args.known c.begin_delete.result) (to_z-of_z w64 c.in-Delete.rowid fits)
    (c.begin_delete.ensures.begun (listed_in c.args.catalog.now) c.args.outer change c.args.act.now told)))
