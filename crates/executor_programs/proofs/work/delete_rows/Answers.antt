use Rattle.std.proofs.Common.{ap, ◌∙◌}
use Rattle.std.proofs.Common.{List, map}
use Rattle.std.specs.Prelude.{option_map, slice_get}
use Rattle.query_terms.specs.Values.{Row}
use Rattle.trigger.specs.Effects.{id_of}
use Rattle.executor_programs.specs.declared.acts.TableItem.TheVariants as item
use Rattle.catalog.specs.Listed.{listed_in}
use Rattle.query_names.specs.Checked.{faults}
use Rattle.trigger.specs.Binding.{aim_of}
use Rattle.trigger.specs.Effects.{chosen_rows}
use Rattle.executor_programs.proofs.Works.{chosen_at, fails_as, refused_at, delete_refused, deleted}
use Rattle.executor_programs.proofs.FirstRows.{first_there}
use Rattle.executor_programs.proofs.KnownGiven.{name_known}
use Rattle.executor_programs.proofs.work.delete_rows.Goals as goal

pub returns-in_err-found-clause-found : goal.returns-in_err-found-clause-found
returns-in_err-found-clause-found g c = λ told tabled db seen stored shows known.
    (let l = listed_in c.args.catalog.now in
    let f = c.in_err-found.field-0.0 in
    let name = c.target_of-name.result.now in
    fails_as l seen c.args.change.now db (chosen_rows db seen (aim_of c.args.change.now).target c.args.condition) c.from_residual.result f c.from_residual.ensures.1
    (refused_at db seen c.args.change.now name c.target_of-name.ensures c.args.condition f (c.in_err-found.ensures.chosen db seen told stored shows (name_known db seen c.args.change.now name c.target_of-name.ensures (ap faults known))))
    (λ run running met. delete_refused c.listed_tables_are_found.ensures.finds l seen c.args.change.now db _ _ stored c.args.table.now c.args.act tabled.around tabled.named c.args.condition known f met run running))

pub returns-clause-found : goal.returns-clause-found
returns-clause-found g c = λ told tabled db seen stored shows known.
    (let l = listed_in c.args.catalog.now in
    let name = c.target_of-name.result.now in
    let gives = chosen_at db seen c.args.change.now name c.target_of-name.ensures c.args.condition c.in_ok-found.found.items (c.in_ok-found.ensures.chosen db seen told stored shows (name_known db seen c.args.change.now name c.target_of-name.ensures (ap faults known))) in
    let h = deleted c.listed_tables_are_found.ensures.finds l seen c.args.change.now db _ _ stored c.args.table.now c.args.act tabled.around tabled.named c.args.condition known c.in_ok-found.found.items c.in_ok-items.items.items gives (c.in_ok-items.ensures ∙ ap (λ (rs : List Row). map (λ r. item.Delete (id_of r)) rs) c.deref.ensures.value) in
    record {
      work = h.work;
      first = first_there c.listed_tables_are_found.ensures.finds _ _ l c.args.change.now db c.args.table.now stored tabled.named seen c.args.condition c.in_ok-found.found.items gives c.in_ok-first.first
          (c.in_ok-first.ensures ∙ ap (λ (rs : List Row). option_map (λ r. (id_of r, r.values)) (slice_get rs 0)) c.deref-2.ensures.value);
      done = h.done;
    })
