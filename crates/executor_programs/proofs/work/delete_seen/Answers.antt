use Rattle.std.proofs.Common.{ap}
use Rattle.catalog.specs.Listed.{listed_in}
use Rattle.query_names.specs.Checked.{faults}
use Rattle.trigger.specs.Binding.{aim_of}
use Rattle.trigger.specs.Effects.{chosen_rows}
use Rattle.executor_programs.proofs.WorksOfViews.{out_done, out_refused}
use Rattle.executor_programs.proofs.Works.{chosen_at, fails_as, refused_at}
use Rattle.executor_programs.proofs.KnownGiven.{name_known}
use Rattle.executor_programs.proofs.work.delete_seen.Goals as goal

pub returns-in_err-found-clause-found : goal.returns-in_err-found-clause-found
returns-in_err-found-clause-found g c = λ told view some db seen stored shows known.
    (let l = listed_in c.args.catalog.now in
    let f = c.in_err-found.field-0.0 in
    let name = c.target_of-name.result.now in
    fails_as l seen c.args.change.now db (chosen_rows db seen (aim_of c.args.change.now).target c.args.condition) c.from_residual.result f c.from_residual.ensures.1
    (refused_at db seen c.args.change.now name c.target_of-name.ensures c.args.condition f (c.in_err-found.ensures.chosen db seen told stored shows (name_known db seen c.args.change.now name c.target_of-name.ensures (ap faults known))))
    (λ run running met. out_refused c.listed_tables_are_found.ensures.finds c.listed_tables_are_known.ensures l seen c.args.change.now db _ _ stored c.args.width c.args.act (record { around = view.around; named = view.named; wide = view.wide }) some c.args.condition known f met run running))

pub returns-clause-found : goal.returns-clause-found
returns-clause-found g c = λ told view some db seen stored shows known.
    (let l = listed_in c.args.catalog.now in
    let name = c.target_of-name.result.now in
    let gives = chosen_at db seen c.args.change.now name c.target_of-name.ensures c.args.condition c.in_ok-found.found.items (c.in_ok-found.ensures.chosen db seen told stored shows (name_known db seen c.args.change.now name c.target_of-name.ensures (ap faults known))) in
    let h = out_done c.listed_tables_are_found.ensures.finds c.listed_tables_are_known.ensures l seen c.args.change.now db _ _ stored c.args.width c.args.act (record { around = view.around; named = view.named; wide = view.wide }) some c.args.condition known c.in_ok-found.found.items c.in_ok-items.items.items gives c.in_ok-items.ensures in
    record { work = h.work; first = tt; done = h.done })
