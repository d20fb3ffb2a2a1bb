use Rattle.std.proofs.Common.{Bool, length, rules, subst, sym, ◌==◌}
use Rattle.catalog.specs.Listed.{listed_in}
use Rattle.executor_programs.specs.Begun.{Finishes}
use Rattle.executor_programs.specs.declared.rows.Begun.{Begun}
use Rattle.executor_programs.specs.declared.rows.Begun.TheVariants as begin
use Rattle.executor_programs.proofs.rows.finish.Goals as goal

pub returns-in-Insert-clause-finished : goal.returns-in-Insert-clause-finished
returns-in-Insert-clause-finished g c = λ change told.
    (let gs = g.P.Pages in
    let size = (gs.limits (gs.below c.args.pages.now)).page in
    let alone = length c.args.act.now.before.items == 0 in
    subst (λ (b : Begun). Finishes (gs.map c.args.pages.now) (gs.map c.finish_insert.new.pages) size (listed_in c.args.catalog.now) change c.args.table.now c.args.act.now c.args.item.now b alone c.finish_insert.result) (sym c.in-Insert.is)
    (c.finish_insert.ensures.finished told (listed_in c.args.catalog.now) change c.args.item.now c.in-Insert.field-0 c.in-Insert.field-1 alone (sym c.given_of.ensures)))

pub returns-in-Update-clause-finished : goal.returns-in-Update-clause-finished
returns-in-Update-clause-finished g c = λ change told.
    (let gs = g.P.Pages in
    let size = (gs.limits (gs.below c.args.pages.now)).page in
    let alone = length c.args.act.now.before.items == 0 in
    subst (λ (b : Begun). Finishes (gs.map c.args.pages.now) (gs.map c.finish_update.new.pages) size (listed_in c.args.catalog.now) change c.args.table.now c.args.act.now c.args.item.now b alone c.finish_update.result) (sym c.in-Update.is)
    (subst (λ (x : Bool). Finishes (gs.map c.args.pages.now) (gs.map c.finish_update.new.pages) size (listed_in c.args.catalog.now) change c.args.table.now c.args.act.now c.args.item.now (begin.Update c.in-Update.old c.in-Update.field-1 c.in-Update.values) x c.finish_update.result) (search rules)
    (c.finish_update.ensures.finished told (listed_in c.args.catalog.now) change c.args.act.now c.args.item.now c.in-Update.field-1 c.in-Update.values (sym c.deref.ensures.value))))

pub returns-in-Delete-clause-finished : goal.returns-in-Delete-clause-finished
returns-in-Delete-clause-finished g c = λ change told.
    (let gs = g.P.Pages in
    let size = (gs.limits (gs.below c.args.pages.now)).page in
    let alone = length c.args.act.now.before.items == 0 in
    subst (λ (b : Begun). Finishes (gs.map c.args.pages.now) (gs.map c.finish_delete.new.pages) size (listed_in c.args.catalog.now) change c.args.table.now c.args.act.now c.args.item.now b alone c.finish_delete.result) (sym c.in-Delete.is)
    (subst (λ (x : Bool). Finishes (gs.map c.args.pages.now) (gs.map c.finish_delete.new.pages) size (listed_in c.args.catalog.now) change c.args.table.now c.args.act.now c.args.item.now (begin.Delete c.in-Delete.old) x c.finish_delete.result) (search rules)
    (c.finish_delete.ensures.finished told (listed_in c.args.catalog.now) change c.args.act.now c.args.item.now)))
