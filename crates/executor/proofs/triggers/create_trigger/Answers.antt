use Rattle.std.proofs.lemmas.Int.{to_z-of_z}
use Rattle.std.proofs.Common.{rules, SFits, w64, ◌≡◌, ◌∙◌, ap, ap₂, ℤ, ◌<ℤ◌, refl, sym, subst, inl, codes, true, Ok, Err, Some, List}
use Rattle.sql_syntax.specs.declared.create.NewObject.TheVariants as object
use Rattle.sql_syntax.specs.declared.create.TriggerDefinition.{TriggerDefinition}
use Rattle.catalog.specs.Database.{Name}
use Rattle.catalog.specs.Listed.{listed_in}
use Rattle.catalog.specs.NewViews.{with_trigger}
use Rattle.db_pages.specs.Schema.{schema_row}
use Rattle.executor.specs.Listing.{AddsRow, AreAfter, target_row}
use Rattle.executor.proofs.AfterRows.{ok_still, stands_after, trigger_after}
use Rattle.executor.proofs.Calm.{calm_causes, calm_rowid}
use Rattle.executor.proofs.Creations.{handed_on, taken}
use Rattle.executor.proofs.TriggerCreations.{Laws, creates_it, none_at, refused_row, refused_rowid, refused_names, schema_stand}
use Rattle.executor.proofs.triggers.create_trigger.Goals as goal

pub returns-in_err-bind_trigger-clause-made : goal.returns-in_err-bind_trigger-clause-made
returns-in_err-bind_trigger-clause-made g c told text db held =
    let laws : Laws = record {
      lists = c.triggers_come_and_go.ensures.new;
      makes = c.triggers_are_created_as_defined.ensures.makes;
      refuses = c.triggers_are_created_as_defined.ensures.refuses;
      stand = c.table_trees_stand.ensures;
      give_way = c.trees_give_way.ensures;
    } in
    handed_on _ _ c.from_residual.result c.in_err-bind_trigger.field-0.0 c.from_residual.ensures.1
    (refused_names laws _ _ (listed_in c.args.catalog.now) db held c.args.sql.now c.args.definition.now c.in_err-bind_trigger.field-0.0 (c.in_err-bind_trigger.ensures.refused held.once))

pub returns-in_err-rowid-clause-made : goal.returns-in_err-rowid-clause-made
returns-in_err-rowid-clause-made g c told text db held =
    let laws : Laws = record {
      lists = c.triggers_come_and_go.ensures.new;
      makes = c.triggers_are_created_as_defined.ensures.makes;
      refuses = c.triggers_are_created_as_defined.ensures.refuses;
      stand = c.table_trees_stand.ensures;
      give_way = c.trees_give_way.ensures;
    } in
    handed_on _ _ c.from_residual-in_err-rowid.result c.in_err-rowid.field-0.0 c.from_residual-in_err-rowid.ensures.1
    (refused_rowid laws _ _ (listed_in c.args.catalog.now) db held c.args.sql.now c.args.definition.now c.in_err-rowid.field-0.0 c.in_err-rowid.ensures.refused)

pub returns-in_err-rowid-clause-causes : goal.returns-in_err-rowid-clause-causes
returns-in_err-rowid-clause-causes g c =
    calm_causes c.from_residual-in_err-rowid.result c.in_err-rowid.field-0.0 _ _ c.from_residual-in_err-rowid.ensures.1 (calm_rowid c.in_err-rowid.field-0.0 c.in_err-rowid.ensures.refused)

pub returns-clause-after : goal.returns-clause-after
returns-clause-after g c =
    let l = listed_in c.args.catalog.now in
    let d = c.args.definition.now in
    let rowid = c.in_ok-rowid.rowid in
    let fits : SFits w64 rowid = search rules in
    let first : SFits w64 c.row_of_target-first.result = search rules in
    let found = subst (λ (n : Name). (z : ℤ) → target_row l n ≡ Some z → c.row_of_target-first.result ≡ z) c.as_str.ensures c.row_of_target-first.ensures in
    let after : c.row_of_target-first.result <ℤ rowid = subst (λ (z : ℤ). z <ℤ rowid) (to_z-of_z w64 c.row_of_target-first.result first) c.in_ok-rowid.ensures.after in
    ok_still _ _ c.with_trigger.result c.with_trigger.ensures.added
    (λ catalog listed text once are.
    let is : c.in_ok-kept_trigger.field-0 ≡ d = c.in_ok-kept_trigger.ensures.kept d text in
    let there = listed ∙ ap₂ (λ (x : TriggerDefinition) (z : ℤ). with_trigger (record { definition = x; rowid = z }) l) is (to_z-of_z w64 rowid fits) in
    subst AreAfter (sym there) (trigger_after l (record { definition = d; rowid = rowid }) (stands_after l d c.row_of_target-first.result rowid (c.in_ok-bind_trigger.ensures.made once).fits found after) are))

pub returns-in_err-kept_trigger-clause-made : goal.returns-in_err-kept_trigger-clause-made
returns-in_err-kept_trigger-clause-made g c told text db held =
    handed_on _ _ c.from_residual-in_err-kept_trigger.result c.in_err-kept_trigger.field-0.0 c.from_residual-in_err-kept_trigger.ensures.1 (inl (inl (inl (c.in_err-kept_trigger.ensures.kept c.args.definition.now text))))

pub returns-in_err-kept_trigger-clause-causes : goal.returns-in_err-kept_trigger-clause-causes
returns-in_err-kept_trigger-clause-causes g c =
    calm_causes c.from_residual-in_err-kept_trigger.result c.in_err-kept_trigger.field-0.0 _ _ c.from_residual-in_err-kept_trigger.ensures.1 c.in_err-kept_trigger.ensures.not_disk

pub returns-in_err-add_treeless_row-clause-made : goal.returns-in_err-add_treeless_row-clause-made
returns-in_err-add_treeless_row-clause-made g c told text db held =
    let laws : Laws = record {
      lists = c.triggers_come_and_go.ensures.new;
      makes = c.triggers_are_created_as_defined.ensures.makes;
      refuses = c.triggers_are_created_as_defined.ensures.refuses;
      stand = c.table_trees_stand.ensures;
      give_way = c.trees_give_way.ensures;
    } in
    let l = listed_in c.args.catalog.now in
    let sql = c.args.sql.now in
    let d = c.args.definition.now in
    let rowid = c.in_ok-rowid.rowid in
    let pages = g.P.Pages in
    let old = pages.map c.args.pages.now in
    let new = pages.map c.add_treeless_row.new.pages in
    let size = (pages.limits (pages.below c.args.pages.now)).page in
    let fits : SFits w64 rowid = search rules in
    let f = c.in_err-add_treeless_row.field-0.0 in
    let adds : AddsRow old new size rowid (schema_row (codes "trigger") d.name d.target 0 (Some sql)) (Err f) =
    subst (λ z. AddsRow old new size z (schema_row (codes "trigger") d.name d.target 0 (Some sql)) (Err f)) (to_z-of_z w64 rowid fits) (c.in_err-add_treeless_row.ensures.added told) in
    handed_on _ _ c.from_residual-in_err-add_treeless_row.result f c.from_residual-in_err-add_treeless_row.ensures.1
    (refused_row laws old size l db held sql d (c.in_ok-bind_trigger.ensures.made held.once) f (adds held.schema held.schema_used held.free (schema_stand laws old size l db held sql d) (none_at laws old size l db held sql d rowid c.in_ok-rowid.ensures.free)))

pub returns-clause-made : goal.returns-clause-made
returns-clause-made g c told text db held =
    let laws : Laws = record {
      lists = c.triggers_come_and_go.ensures.new;
      makes = c.triggers_are_created_as_defined.ensures.makes;
      refuses = c.triggers_are_created_as_defined.ensures.refuses;
      stand = c.table_trees_stand.ensures;
      give_way = c.trees_give_way.ensures;
    } in
    let l = listed_in c.args.catalog.now in
    let sql = c.args.sql.now in
    let d = c.args.definition.now in
    let rowid = c.in_ok-rowid.rowid in
    let pages = g.P.Pages in
    let old = pages.map c.args.pages.now in
    let new = pages.map c.add_treeless_row.new.pages in
    let size = (pages.limits (pages.below c.args.pages.now)).page in
    let fits : SFits w64 rowid = search rules in
    let none = none_at laws old size l db held sql d rowid c.in_ok-rowid.ensures.free in
    let adds : AddsRow old new size rowid (schema_row (codes "trigger") d.name d.target 0 (Some sql)) (Ok tt) =
    subst (λ z. AddsRow old new size z (schema_row (codes "trigger") d.name d.target 0 (Some sql)) (Ok tt)) (to_z-of_z w64 rowid fits) (c.in_ok-add_treeless_row.ensures.added told) in
    let added = adds held.schema held.schema_used held.free (schema_stand laws old size l db held sql d) none in
    let is : c.in_ok-kept_trigger.field-0 ≡ d = c.in_ok-kept_trigger.ensures.kept d text in
    taken _ _ _ c.with_trigger.result c.with_trigger.ensures.added c.with_trigger.ensures.refused
    (λ catalog listed.
    creates_it laws old size l db held sql d (c.in_ok-bind_trigger.ensures.made held.once) text new rowid c.in_ok-rowid.ensures.free added (listed_in catalog)
    (listed ∙ ap₂ (λ (x : TriggerDefinition) (z : ℤ). with_trigger (record { definition = x; rowid = z }) l) is (to_z-of_z w64 rowid fits)))
    (inl (inl (inl refl)))
