use Rattle.std.proofs.lemmas.Int.{to_z-of_z}
use Rattle.std.proofs.Common.{rules, SFits, w64, ◌∙◌, ap, sym, subst, inl, Ok, Err, IsTrue}
use Rattle.catalog.specs.Listed.{listed_in}
use Rattle.catalog.specs.NewIndexes.{without_index, replacing}
use Rattle.catalog.specs.declared.tables.Table.{Table}
use Rattle.db_write.specs.Changing.{FreesIndex}
use Rattle.executor.specs.Listing.{TakesSchemaRow}
use Rattle.executor.proofs.Answering.{handed_on}
use Rattle.executor.proofs.IndexDroppings.{Laws, drops, not_given, row_there, schema_stand}
use Rattle.executor.proofs.dropping.drop_listed_index.Goals as goal

pub returns-in_err-take_row-clause-made : goal.returns-in_err-take_row-clause-made
returns-in_err-take_row-clause-made g c told on found written db held =
    let laws : Laws = record { others = c.indexes_come_and_go.ensures.others; stand = c.table_trees_stand.ensures; give_way = c.trees_give_way.ensures } in
    let l = listed_in c.args.catalog.now in
    let n = c.args.name.now in
    let t = c.args.table.now in
    let i = c.args.index.now in
    let pages = g.P.Pages in
    let old = pages.map c.args.pages.now in
    let mid = pages.map c.take_row.new.pages in
    let size = (pages.limits (pages.below c.args.pages.now)).page in
    let f = c.in_err-take_row.field-0.0 in
    let fits : SFits w64 i.rowid = search rules in
    let takes = subst (λ z. TakesSchemaRow old mid size z (Err f)) (to_z-of_z w64 i.rowid fits) (c.in_err-take_row.ensures.taken told) in
    handed_on _ _ c.from_residual-in_err-take_row.result f c.from_residual-in_err-take_row.ensures.1
    (inl (takes held.schema held.schema_used held.free (schema_stand old size l db held n t i on found laws) (row_there old size l db held n t i on found)))

pub returns-in_err-free_index-clause-made : goal.returns-in_err-free_index-clause-made
returns-in_err-free_index-clause-made g c told on found written db held =
    let laws : Laws = record { others = c.indexes_come_and_go.ensures.others; stand = c.table_trees_stand.ensures; give_way = c.trees_give_way.ensures } in
    let l = listed_in c.args.catalog.now in
    let n = c.args.name.now in
    let t = c.args.table.now in
    let i = c.args.index.now in
    let pages = g.P.Pages in
    let old = pages.map c.args.pages.now in
    let mid = pages.map c.take_row.new.pages in
    let new = pages.map c.free_index.new.pages in
    let size = (pages.limits (pages.below c.args.pages.now)).page in
    let f = c.in_err-free_index.field-0.0 in
    let fits : SFits w64 i.rowid = search rules in
    let takes = subst (λ z. TakesSchemaRow old mid size z (Ok tt)) (to_z-of_z w64 i.rowid fits) (c.in_ok-take_row.ensures.taken told) in
    let becomes = takes held.schema held.schema_used held.free (schema_stand old size l db held n t i on found laws) (row_there old size l db held n t i on found) in
    let told_then = subst (λ k. IsTrue (pages.tells k)) (sym c.take_row.ensures.kept) told in
    let frees = subst (λ k. FreesIndex mid new (pages.limits k).page i.root (Err f)) c.take_row.ensures.kept (c.in_err-free_index.ensures.freed told_then) in
    handed_on _ _ c.from_residual-in_err-free_index.result f c.from_residual-in_err-free_index.ensures.1
    (not_given old size l db held n t i on found laws mid becomes new f frees)

pub returns-clause-made : goal.returns-clause-made
returns-clause-made g c told on found written db held =
    let laws : Laws = record { others = c.indexes_come_and_go.ensures.others; stand = c.table_trees_stand.ensures; give_way = c.trees_give_way.ensures } in
    let l = listed_in c.args.catalog.now in
    let n = c.args.name.now in
    let t = c.args.table.now in
    let i = c.args.index.now in
    let pages = g.P.Pages in
    let old = pages.map c.args.pages.now in
    let mid = pages.map c.take_row.new.pages in
    let new = pages.map c.free_index.new.pages in
    let size = (pages.limits (pages.below c.args.pages.now)).page in
    let fits : SFits w64 i.rowid = search rules in
    let takes = subst (λ z. TakesSchemaRow old mid size z (Ok tt)) (to_z-of_z w64 i.rowid fits) (c.in_ok-take_row.ensures.taken told) in
    let becomes = takes held.schema held.schema_used held.free (schema_stand old size l db held n t i on found laws) (row_there old size l db held n t i on found) in
    let told_then = subst (λ k. IsTrue (pages.tells k)) (sym c.take_row.ensures.kept) told in
    let frees = subst (λ k. FreesIndex mid new (pages.limits k).page i.root (Ok tt)) c.take_row.ensures.kept (c.in_ok-free_index.ensures.freed told_then) in
    drops old size l db held n t i on found laws mid becomes written new frees (listed_in c.in_ok-others.others)
    (c.in_ok-others.ensures.replaced ∙ ap (λ (u : Table). replacing u l) (c.in_ok-left.ensures ∙ ap (λ name. without_index name t) c.as_str.ensures))
