use Rattle.std.proofs.lemmas.Int.{to_z-of_z}
use Rattle.std.proofs.Common.{rules, SFits, w64, ◌∙◌, ◌<ℤ◌, ℤ, refl, sym, subst, ap, inl, codes, Ok, Err, IsTrue, List, Option, option_map}
use Rattle.sqlval.specs.declared.text.Text.{Text}
use Rattle.sqlval.specs.declared.value.Value.{Value}
use Rattle.catalog.specs.Listed.{listed_in}
use Rattle.catalog.specs.NewIndexes.{with_index, replacing}
use Rattle.catalog.specs.declared.tables.Index.{Index}
use Rattle.catalog.specs.declared.tables.Table.{Table}
use Rattle.db_pages.specs.Schema.{schema_row}
use Rattle.executor.specs.Listing.{AddsRow, AreAfter}
use Rattle.executor.proofs.AfterRows.{index_after, ok_still}
use Rattle.executor.proofs.Calm.{calm_causes, calm_rowid}
use Rattle.executor.proofs.Creations.{handed_on, taken}
use Rattle.executor.proofs.IndexListings.{Laws, refused_rowid, refused_tree, row_added, row_refused}
use Rattle.executor.proofs.creating.list_index.Goals as goal

pub returns-in_err-rowid-clause-listed : goal.returns-in_err-rowid-clause-listed
returns-in_err-rowid-clause-listed g c told db held named new_name said =
    let laws : Laws = record { lists = c.indexes_come_and_go.ensures.new; stand = c.table_trees_stand.ensures; give_way = c.trees_give_way.ensures } in
    let f = c.in_err-rowid.field-0.0 in
    handed_on _ _ c.from_residual.result f c.from_residual.ensures.1
    (refused_rowid laws _ _ (listed_in c.args.catalog.now) db held c.args.table.now named c.args.index new_name c.args.name.now _ said f c.in_err-rowid.ensures.refused)

pub returns-in_err-rowid-clause-causes : goal.returns-in_err-rowid-clause-causes
returns-in_err-rowid-clause-causes g c =
    calm_causes c.from_residual.result c.in_err-rowid.field-0.0 _ _ c.from_residual.ensures.1 (calm_rowid c.in_err-rowid.field-0.0 c.in_err-rowid.ensures.refused)

pub returns-clause-after : goal.returns-clause-after
returns-clause-after g c =
    let l = listed_in c.args.catalog.now in
    let t = c.args.table.now in
    let root = c.in_ok-index.field-0 in
    let rowid = c.in_ok-rowid.rowid in
    let fits : SFits w64 rowid = search rules in
    let first : SFits w64 c.row_of.result = search rules in
    let after : t.rowid <ℤ rowid = subst (λ (z : ℤ). z <ℤ rowid) (to_z-of_z w64 c.row_of.result first ∙ c.row_of.ensures) c.in_ok-rowid.ensures.after in
    ok_still _ _ c.replacing.result c.replacing.ensures.replaced
    (λ catalog listed named are.
    let there = listed ∙ (ap (λ (u : Table). replacing u l) c.in_ok-with_index.ensures
    ∙ ap (λ z. replacing (with_index (record c.args.index { root = root; rowid = z }) t) l) (to_z-of_z w64 rowid fits)) in
    subst AreAfter (sym there) (index_after l t (record c.args.index { root = root; rowid = rowid }) named after are))

pub returns-in_err-index-clause-listed : goal.returns-in_err-index-clause-listed
returns-in_err-index-clause-listed g c told db held named new_name said =
    let laws : Laws = record { lists = c.indexes_come_and_go.ensures.new; stand = c.table_trees_stand.ensures; give_way = c.trees_give_way.ensures } in
    let f = c.in_err-index.field-0.0 in
    let adds = rw (c.as_slice.ensures) at (c.in_err-index.ensures.added told) in
    handed_on _ _ c.from_residual-in_err-index.result f c.from_residual-in_err-index.ensures.1
    (refused_tree laws _ _ (listed_in c.args.catalog.now) db held c.args.table.now named c.args.index new_name c.args.name.now _ said (g.P.Pages.map c.add_index.new.pages) f adds)

pub returns-in_err-add_row-clause-listed : goal.returns-in_err-add_row-clause-listed
returns-in_err-add_row-clause-listed g c told db held named new_name said =
    let laws : Laws = record { lists = c.indexes_come_and_go.ensures.new; stand = c.table_trees_stand.ensures; give_way = c.trees_give_way.ensures } in
    let root = c.in_ok-index.field-0 in
    let rowid = c.in_ok-rowid.rowid in
    let pages = g.P.Pages in
    let mid = pages.map c.add_index.new.pages in
    let new = pages.map c.add_row.new.pages in
    let told_then = subst (λ k. IsTrue (pages.tells k)) (sym c.add_index.ensures.kept) told in
    let fits : SFits w64 rowid = search rules in
    let f = c.in_err-add_row.field-0.0 in
    let sql = option_map (λ text. text.now) c.args.sql in
    let adds : AddsRow mid new (pages.limits (pages.below c.args.pages.now)).page rowid (schema_row (codes "index") c.args.name.now c.args.table.now.name root sql) (Err f) =
    subst (λ (vs : List Value). AddsRow mid new (pages.limits (pages.below c.args.pages.now)).page rowid vs (Err f)) (c.deref.ensures.value ∙ c.in_ok-values.ensures.values)
    (subst (λ k. AddsRow mid new (pages.limits k).page rowid c.deref.result.now (Err f)) c.add_index.ensures.kept
    (subst (λ z. AddsRow mid new (pages.limits (pages.below c.add_index.new.pages)).page z c.deref.result.now (Err f)) (to_z-of_z w64 rowid fits) (c.in_err-add_row.ensures.added told_then))) in
    handed_on _ _ c.from_residual-in_err-add_row.result f c.from_residual-in_err-add_row.ensures.1
    (row_refused laws _ _ (listed_in c.args.catalog.now) db held c.args.table.now named c.args.index new_name c.args.name.now _ said root rowid mid new (rw (c.as_slice.ensures) at (c.in_ok-index.ensures.added told)) c.in_ok-rowid.ensures.free f adds)

pub returns-clause-listed : goal.returns-clause-listed
returns-clause-listed g c told db held named new_name said =
    let laws : Laws = record { lists = c.indexes_come_and_go.ensures.new; stand = c.table_trees_stand.ensures; give_way = c.trees_give_way.ensures } in
    let root = c.in_ok-index.field-0 in
    let rowid = c.in_ok-rowid.rowid in
    let pages = g.P.Pages in
    let mid = pages.map c.add_index.new.pages in
    let new = pages.map c.add_row.new.pages in
    let told_then = subst (λ k. IsTrue (pages.tells k)) (sym c.add_index.ensures.kept) told in
    let fits : SFits w64 rowid = search rules in
    let sql = option_map (λ text. text.now) c.args.sql in
    let adds : AddsRow mid new (pages.limits (pages.below c.args.pages.now)).page rowid (schema_row (codes "index") c.args.name.now c.args.table.now.name root sql) (Ok tt) =
    subst (λ (vs : List Value). AddsRow mid new (pages.limits (pages.below c.args.pages.now)).page rowid vs (Ok tt)) (c.deref.ensures.value ∙ c.in_ok-values.ensures.values)
    (subst (λ k. AddsRow mid new (pages.limits k).page rowid c.deref.result.now (Ok tt)) c.add_index.ensures.kept
    (subst (λ z. AddsRow mid new (pages.limits (pages.below c.add_index.new.pages)).page z c.deref.result.now (Ok tt)) (to_z-of_z w64 rowid fits) (c.in_ok-add_row.ensures.added told_then))) in
    taken _ _ _ c.replacing.result c.replacing.ensures.replaced c.replacing.ensures.refused
    (λ catalog listed.
    row_added laws _ _ (listed_in c.args.catalog.now) db held c.args.table.now named c.args.index new_name c.args.name.now _ said root rowid mid new (rw (c.as_slice.ensures) at (c.in_ok-index.ensures.added told)) c.in_ok-rowid.ensures.free adds (listed_in catalog)
    (listed ∙ (ap (λ (u : Table). replacing u (listed_in c.args.catalog.now)) c.in_ok-with_index.ensures
    ∙ ap (λ z. replacing (with_index (record c.args.index { root = root; rowid = z }) c.args.table.now) (listed_in c.args.catalog.now)) (to_z-of_z w64 rowid fits))))
    (inl (inl (inl refl)))
