use Rattle.catalog.specs.Listed.{listed_in}
use Rattle.sql_syntax.specs.declared.create.TriggerTime.TheVariants.{InsteadOf}
use Rattle.trigger.specs.Effects.{given_rows}
use Rattle.trigger_names.specs.Resolved.{bound_given}
use Rattle.executor_programs.proofs.WorksOfViews.{put_in, put_refused}
use Rattle.executor_programs.proofs.Works.{fails_as, with_places}
use Rattle.executor_programs.proofs.KnownGiven.{given_known}
use Rattle.executor_programs.proofs.work.insert_seen.Goals as goal

pub returns-in_err-found-clause-found : goal.returns-in_err-found-clause-found
returns-in_err-found-clause-found g c = λ change told view some db seen stored shows known.
    (let l = listed_in c.args.catalog.now in
    let f = c.in_err-found.field-0.0 in
    fails_as l seen change db (given_rows db seen (bound_given c.args.rows)) c.from_residual.result f c.from_residual.ensures.1
    (c.in_err-found.ensures.given db seen told stored shows (given_known db seen change _ _ c.args.rows known))
    (λ run running met. put_refused c.listed_tables_are_found.ensures.finds c.listed_tables_are_known.ensures l seen change db _ _ stored c.args.width (record c.args.act { places = c.args.places; by_column = c.args.act.by_column }) (record { around = (with_places l change InsteadOf c.args.act c.args.places c.args.act.by_column view.around); named = view.named; wide = view.wide }) some c.args.rows known f met run running))

pub returns-clause-found : goal.returns-clause-found
returns-clause-found g c = λ change told view some db seen stored shows known.
    (let l = listed_in c.args.catalog.now in
    let gives = c.in_ok-found.ensures.given db seen told stored shows (given_known db seen change _ _ c.args.rows known) in
    let h = put_in c.listed_tables_are_found.ensures.finds c.listed_tables_are_known.ensures l seen change db _ _ stored c.args.width (record c.args.act { places = c.args.places; by_column = c.args.act.by_column }) (record { around = (with_places l change InsteadOf c.args.act c.args.places c.args.act.by_column view.around); named = view.named; wide = view.wide }) some c.args.rows known c.in_ok-found.found.items c.in_ok-items.items.items gives c.in_ok-items.ensures in
    record { work = h.work; first = tt; done = h.done })
