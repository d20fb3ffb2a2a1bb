use Rattle.catalog.specs.Listed.{listed_in}
use Rattle.sql_syntax.specs.declared.create.TriggerTime.TheVariants.{Before}
use Rattle.trigger.specs.Effects.{given_rows}
use Rattle.trigger_names.specs.Resolved.{bound_given}
use Rattle.trigger.specs.Binding.{aim_of}
use Rattle.executor_programs.proofs.Going.{none_there}
use Rattle.executor_programs.proofs.Works.{fails_as, insert_refused, inserted, set_at, with_places}
use Rattle.executor_programs.proofs.KnownGiven.{given_known}
use Rattle.executor_programs.proofs.work.insert_rows.Goals as goal

pub returns-in_err-found-clause-found : goal.returns-in_err-found-clause-found
returns-in_err-found-clause-found g c = λ change told tabled counted db seen stored shows known.
    (let l = listed_in c.args.catalog.now in
    let f = c.in_err-found.field-0.0 in
    fails_as l seen change db (given_rows db seen (bound_given c.args.rows)) c.from_residual-in_err-found.result f c.from_residual-in_err-found.ensures.1
    (c.in_err-found.ensures.given db seen told stored shows (given_known db seen change _ _ c.args.rows known))
    (λ run running met. insert_refused c.listed_tables_are_found.ensures.finds l seen change db _ _ stored c.args.table.now (record c.args.act { places = c.args.places; by_column = c.args.act.by_column }) (with_places l change Before c.args.act c.args.places c.args.act.by_column tabled.around) tabled.named c.args.rows known f met run running))

pub returns-clause-found : goal.returns-clause-found
returns-clause-found g c = λ change told tabled counted db seen stored shows known.
    (let l = listed_in c.args.catalog.now in
    let gives = c.in_ok-found.ensures.given db seen told stored shows (given_known db seen change _ _ c.args.rows known) in
    let h = inserted c.listed_tables_are_found.ensures.finds l seen change db _ _ stored c.args.table.now (record c.args.act { places = c.args.places; by_column = c.in_ok-act.field-0 }) (with_places l change Before c.args.act c.args.places c.in_ok-act.field-0 tabled.around) tabled.named c.args.rows known c.in_ok-found.found.items c.in_ok-items.items.items gives c.in_ok-items.ensures (set_at c.args.table.now c.in_ok-act.field-0.items c.deref.result.now c.args.places.items c.deref.ensures.value c.in_ok-act.ensures) (c.in_ok-found.ensures.wide _ counted) in
    record { work = h.work; first = none_there db (aim_of change).target; done = h.done })
