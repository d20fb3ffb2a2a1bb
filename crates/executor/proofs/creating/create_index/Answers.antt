use Rattle.std.proofs.Common.{◌≡◌, sym, subst, pos, false, Some, List}
use Rattle.catalog.specs.Database.{Name}
use Rattle.catalog.specs.Listed.{listed_in}
use Rattle.executor.specs.Holding.{ListsIndex}
use Rattle.executor.proofs.AfterRows.{ok_still}
use Rattle.executor.proofs.Creations.{handed_on, turned_result}
use Rattle.executor.proofs.HeldTrees.{listed_held}
use Rattle.executor.proofs.IndexCreations.{Laws, creates, named, refused, refused_names, told as told_by}
use Rattle.executor.proofs.KeyCreations.{named_itself}
use Rattle.executor.proofs.creating.create_index.Goals as goal

pub returns-in_err-bound-clause-made : goal.returns-in_err-bound-clause-made
returns-in_err-bound-clause-made g c told text db held =
    let laws : Laws = record { lists = c.indexes_come_and_go.ensures.new; makes = c.indexes_are_created_as_defined.ensures.makes; refuses = c.indexes_are_created_as_defined.ensures.refuses } in
    handed_on _ _ c.from_residual.result c.in_err-bound.field-0.0 c.from_residual.ensures.1
    (refused_names laws _ _ (listed_in c.args.catalog.now) db held c.args.sql.now c.args.definition.now c.in_err-bound.field-0.0 (c.in_err-bound.ensures.refused held.once))

pub returns-clause-after : goal.returns-clause-after
returns-clause-after g c =
    let l = listed_in c.args.catalog.now in
    ok_still _ _ c.list_index.result c.list_index.ensures.after
    (λ next still once are. still (named_itself l.tables c.args.definition.now.table c.in_ok-bound.bound.table.now (c.in_ok-bound.ensures.made once).on) are)

pub returns-clause-made : goal.returns-clause-made
returns-clause-made g c told text db held =
    let laws : Laws = record { lists = c.indexes_come_and_go.ensures.new; makes = c.indexes_are_created_as_defined.ensures.makes; refuses = c.indexes_are_created_as_defined.ensures.refuses } in
    let pages = g.P.Pages in
    let old = pages.map c.args.pages.now in
    let new = pages.map c.list_index.new.pages in
    let size = (pages.limits (pages.below c.args.pages.now)).page in
    let l = listed_in c.args.catalog.now in
    let sql = c.args.sql.now in
    let d = c.args.definition.now in
    let bound = c.in_ok-bound.bound in
    let t = bound.table.now in
    let is = c.in_ok-bound.ensures.made held.once in
    let lists : ListsIndex old new size l t (record { name = d.name; columns = bound.columns; is_unique = d.is_unique; is_automatic = false; root = 0; rowid = pos 0 }) d.name (Some sql) c.list_index.result =
    subst (λ (n : Name). ListsIndex old new size l t (record { name = n; columns = bound.columns; is_unique = d.is_unique; is_automatic = false; root = 0; rowid = pos 0 }) d.name (Some sql) c.list_index.result)
    c.in_ok-copy.ensures (c.list_index.ensures.listed told) in
    turned_result c.list_index.result
    (lists db (listed_held old size l db held) (named laws old size l db held sql d t bound.columns is) is.new (told_by laws old size l db held sql d t bound.columns is text))
    (λ catalog. creates laws old size l db held sql d t bound.columns is new (listed_in catalog)) (refused laws old size l db held sql d t bound.columns is)
