use Rattle.std.proofs.lemmas.Int.{to_z-of_z}
use Rattle.std.proofs.Common.{rules, SFits, w64, ◌≡◌, ◌∙◌, refl, sym, subst, inl, codes, false, Ok, Err, Some, IsTrue, List, ◌∷◌}
use Rattle.sqlval.specs.declared.value.Value.{Value}
use Rattle.catalog.specs.Database.{Name}
use Rattle.catalog.specs.Listed.{is_name_of, listed_in}
use Rattle.catalog.specs.declared.tables.Table.{Table}
use Rattle.db_pages.specs.Schema.{schema_row}
use Rattle.executor.specs.Holding.{ListsKeys}
use Rattle.executor.specs.Listing.{AddsRow, AreAfter, IsNewTable}
use Rattle.executor.proofs.AfterRows.{ok_still, table_after}
use Rattle.executor.proofs.Creations.{Laws, are_free, creates, handed_on, lists_keys, more, none_at, refused_definition, refused_keys, refused_row, schema_then, size_is, turned_result}
use Rattle.executor.proofs.creating.create_table.Goals as goal

pub returns-in_err-table-clause-made : goal.returns-in_err-table-clause-made
returns-in_err-table-clause-made g c told text db held =
    let laws : Laws = record {
      lists = c.new_tables_are_listed.ensures;
      named = c.named_databases_are_one.ensures.named;
      stand = c.table_trees_stand.ensures;
      give_way = c.trees_give_way.ensures;
    } in
    handed_on _ _ c.from_residual.result c.in_err-table.field-0.0 c.from_residual.ensures.1
    (refused_definition laws _ _ (listed_in c.args.catalog.now) db held c.args.sql.now c.args.definition.now c.in_err-table.field-0.0 c.in_err-table.ensures.why)

pub returns-in_err-table-2-clause-made : goal.returns-in_err-table-2-clause-made
returns-in_err-table-2-clause-made g c told text db held =
    let laws : Laws = record {
      lists = c.new_tables_are_listed.ensures;
      named = c.named_databases_are_one.ensures.named;
      stand = c.table_trees_stand.ensures;
      give_way = c.trees_give_way.ensures;
    } in
    let l = listed_in c.args.catalog.now in
    handed_on _ _ c.from_residual-in_err-table-2.result c.in_err-table-2.field-0.0 c.from_residual-in_err-table-2.ensures.1
    (inl (c.in_err-table-2.ensures.made told held.free (are_free laws _ _ l db held c.args.sql.now c.args.definition.now) (size_is laws _ _ l db held c.args.sql.now c.args.definition.now)))

pub returns-in_err-add_row-clause-made : goal.returns-in_err-add_row-clause-made
returns-in_err-add_row-clause-made g c told text db held =
    let laws : Laws = record {
      lists = c.new_tables_are_listed.ensures;
      named = c.named_databases_are_one.ensures.named;
      stand = c.table_trees_stand.ensures;
      give_way = c.trees_give_way.ensures;
    } in
    let l = listed_in c.args.catalog.now in
    let sql = c.args.sql.now in
    let d = c.args.definition.now in
    let rowid = c.in_ok-rowid.rowid in
    let root = c.in_ok-table-2.field-0 in
    let t : Table = record c.in_ok-table.table { root = root; rowid = rowid } in
    let made : IsNewTable l d c.in_ok-table.table = c.in_ok-table.ensures.made in
    let is : IsNewTable l d t =
    record { makes = record { free = made.makes.free; once = made.makes.once; name_is = made.makes.name_is; columns = made.makes.columns; checks = made.makes.checks; keys = made.makes.keys }; new = made.new; bare = made.bare } in
    let pages = g.P.Pages in
    let old = pages.map c.args.pages.now in
    let mid = pages.map c.new_tree.new.pages in
    let new = pages.map c.add_row.new.pages in
    let size = (pages.limits (pages.below c.args.pages.now)).page in
    let tree = c.in_ok-table-2.ensures.made told held.free (are_free laws old size l db held sql d) (size_is laws old size l db held sql d) in
    let told_then = subst (λ k. IsTrue (pages.tells k)) (sym c.new_tree.ensures.kept) told in
    let fits : SFits w64 rowid = search rules in
    let none = none_at laws old size l db held sql d rowid c.in_ok-rowid.ensures.free in
    let f = c.in_err-add_row.field-0.0 in
    let adds : AddsRow mid new size rowid (schema_row (codes "table") d.name d.name root (Some sql)) (Err f) =
    subst (λ (vs : List Value). AddsRow mid new size rowid vs (Err f)) (c.deref.ensures.value ∙ c.in_ok-values.ensures.values)
    (subst (λ k. AddsRow mid new (pages.limits k).page rowid c.deref.result.now (Err f)) c.new_tree.ensures.kept
    (subst (λ z. AddsRow mid new (pages.limits (pages.below c.new_tree.new.pages)).page z c.deref.result.now (Err f)) (to_z-of_z w64 rowid fits) (c.in_err-add_row.ensures.added told_then))) in
    handed_on _ _ c.from_residual-in_err-add_row.result f c.from_residual-in_err-add_row.ensures.1
    (refused_row laws old size l db held sql d t is mid root refl tree f (adds held.schema held.schema_used tree.now_free (schema_then laws old size l db held sql d t is mid root refl tree) none))

pub returns-clause-after : goal.returns-clause-after
returns-clause-after g c =
    let l = listed_in c.args.catalog.now in
    let d = c.args.definition.now in
    let rowid = c.in_ok-rowid.rowid in
    let t : Table = record c.in_ok-table.table { root = c.in_ok-table-2.field-0; rowid = rowid } in
    let made : IsNewTable l d c.in_ok-table.table = c.in_ok-table.ensures.made in
    let fits : SFits w64 rowid = search rules in
    let listed = listed_in c.in_ok-listed.listed in
    let there : listed ≡ more l t = subst (λ z. listed ≡ more l (record t { rowid = z })) (to_z-of_z w64 rowid fits) c.in_ok-listed.ensures.added in
    let new : is_name_of l t.name ≡ false = subst (λ (n : Name). is_name_of l n ≡ false) (sym made.makes.name_is) made.new in
    ok_still _ _ c.list_keys.result c.list_keys.ensures.after (λ next still are. still (subst AreAfter (sym there) (table_after l t made.bare new are)))

pub returns-clause-made : goal.returns-clause-made
returns-clause-made g c told text db held =
    let laws : Laws = record {
      lists = c.new_tables_are_listed.ensures;
      named = c.named_databases_are_one.ensures.named;
      stand = c.table_trees_stand.ensures;
      give_way = c.trees_give_way.ensures;
    } in
    let l = listed_in c.args.catalog.now in
    let sql = c.args.sql.now in
    let d = c.args.definition.now in
    let rowid = c.in_ok-rowid.rowid in
    let root = c.in_ok-table-2.field-0 in
    let t : Table = record c.in_ok-table.table { root = root; rowid = rowid } in
    let made : IsNewTable l d c.in_ok-table.table = c.in_ok-table.ensures.made in
    let is : IsNewTable l d t =
    record { makes = record { free = made.makes.free; once = made.makes.once; name_is = made.makes.name_is; columns = made.makes.columns; checks = made.makes.checks; keys = made.makes.keys }; new = made.new; bare = made.bare } in
    let pages = g.P.Pages in
    let old = pages.map c.args.pages.now in
    let mid = pages.map c.new_tree.new.pages in
    let new = pages.map c.add_row.new.pages in
    let size = (pages.limits (pages.below c.args.pages.now)).page in
    let tree = c.in_ok-table-2.ensures.made told held.free (are_free laws old size l db held sql d) (size_is laws old size l db held sql d) in
    let told_then = subst (λ k. IsTrue (pages.tells k)) (sym c.new_tree.ensures.kept) told in
    let fits : SFits w64 rowid = search rules in
    let none = none_at laws old size l db held sql d rowid c.in_ok-rowid.ensures.free in
    let adds : AddsRow mid new size rowid (schema_row (codes "table") d.name d.name root (Some sql)) (Ok tt) =
    subst (λ (vs : List Value). AddsRow mid new size rowid vs (Ok tt)) (c.deref.ensures.value ∙ c.in_ok-values.ensures.values)
    (subst (λ k. AddsRow mid new (pages.limits k).page rowid c.deref.result.now (Ok tt)) c.new_tree.ensures.kept
    (subst (λ z. AddsRow mid new (pages.limits (pages.below c.new_tree.new.pages)).page z c.deref.result.now (Ok tt)) (to_z-of_z w64 rowid fits) (c.in_ok-add_row.ensures.added told_then))) in
    let added = adds held.schema held.schema_used tree.now_free (schema_then laws old size l db held sql d t is mid root refl tree) none in
    let last = pages.map c.list_keys.new.pages in
    let listed = listed_in c.in_ok-listed.listed in
    let there : listed ≡ more l t = subst (λ z. listed ≡ more l (record t { rowid = z })) (to_z-of_z w64 rowid fits) c.in_ok-listed.ensures.added in
    let kept = c.add_row.ensures.kept ∙ c.new_tree.ensures.kept in
    let lists = subst (λ k. ListsKeys new last (pages.limits k).page listed d.name c.list_keys.result) kept (c.list_keys.ensures.listed (subst (λ k. IsTrue (pages.tells k)) (sym kept) told)) in
    turned_result c.list_keys.result
    (lists_keys laws old size l db held sql d t is mid root refl tree text new c.in_ok-rowid.ensures.free added listed_in last listed there c.list_keys.result lists)
    (λ catalog. creates old size l db held sql d t is last (listed_in catalog)) (refused_keys old size l db held sql d t is last)
