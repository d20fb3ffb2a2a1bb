use Rattle.std.proofs.Common.{List, Ok, Err, subst}
use Rattle.sqlval.specs.Faults.{IsOutside}
use Rattle.tree_page.specs.Cells.{Pairwise}
use Rattle.catalog.specs.declared.tables.Table.{Table}
use Rattle.tree_check.specs.Checks.{CanMark, IsChecked, IsCheckedList, IsUnmarked, IsUnmarkedList, MarksList, MarksTree}
use Rattle.tree_check.specs.Exact.{Checks}
use Rattle.tree_check.proofs.Parting.{can_after, told_after}
use Rattle.db_load.specs.Reading.{LoadsTree, TellsTree}
use Rattle.db_load.specs.Uses.{HasTrees, pages_held}
use Rattle.db_load.proofs.LoadedUses.{list_refused, schema_refused, schema_tree_refused, tables_refused, uses_loaded}
use Rattle.db_load.proofs.TableChecks.{told_as}
use Rattle.db_load.proofs.loading.load_uses.Goals as goal

pub returns-in_err-check_tree-clause-loaded : goal.returns-in_err-check_tree-clause-loaded
returns-in_err-check_tree-clause-loaded g c = λ map page told can sized.
    (let p = g.P.Pages in
    let old = c.args.marks.now.items in
    let fault = c.in_err-check_tree.field-0.0 in
    schema_tree_refused map page c.args.size c.args.header can.whole sized old c.check_tree.new.marks.items c.check_tree.new.marks.items fault c.from_residual.result c.from_residual.ensures.1
    (told_as p.below p.tells p.limits p.map c.args.pages.now map page (λ m n. CanMark m n old → IsUnmarked m n 1 old → IsOutside fault) told c.in_err-check_tree.ensures.only can))

pub returns-in_err-catalog-clause-loaded : goal.returns-in_err-catalog-clause-loaded
returns-in_err-catalog-clause-loaded g c = λ map page told can sized.
    (let p = g.P.Pages in
    let old = c.args.marks.now.items in
    let mid = c.check_tree.new.marks.items in
    let fault = c.in_err-catalog.field-0.0 in
    let stays = c.in_ok-check_tree.ensures.stays in
    let now = told_after p.below p.tells p.limits p.map c.args.pages.now c.check_tree.new.pages map page stays.kept stays.same told in
    schema_refused map page c.args.size c.args.header can.whole sized old mid mid fault c.from_residual-in_err-catalog.result c.from_residual-in_err-catalog.ensures.1
    (told_as p.below p.tells p.limits p.map c.check_tree.new.pages map page (λ m n. LoadsTree m n c.args.size (Err fault)) now c.in_err-catalog.ensures.loaded))

pub returns-in_err-check_tables-clause-loaded : goal.returns-in_err-check_tables-clause-loaded
returns-in_err-check_tables-clause-loaded g c = λ map page told can sized.
    (let p = g.P.Pages in
    let old = c.args.marks.now.items in
    let mid = c.check_tree.new.marks.items in
    let fault = c.in_err-check_tables.field-0.0 in
    let catalog = c.in_ok-catalog.catalog in
    let stays = c.in_ok-check_tree.ensures.stays in
    let later = c.in_ok-catalog.ensures.stays in
    let now = told_after p.below p.tells p.limits p.map c.args.pages.now c.check_tree.new.pages map page stays.kept stays.same told in
    let then = told_after p.below p.tells p.limits p.map c.check_tree.new.pages c.load_schema.new.pages map page later.kept later.same now in
    let still = can_after map page old mid c.in_ok-check_tree.ensures.long can in
    tables_refused map page c.args.size c.args.header can.whole sized old mid catalog
    (told_as p.below p.tells p.limits p.map c.args.pages.now map page (λ m n. CanMark m n old → MarksTree m n 1 old mid) told c.in_ok-check_tree.ensures.same can)
    (told_as p.below p.tells p.limits p.map c.check_tree.new.pages map page (λ m n. LoadsTree m n c.args.size (Ok catalog)) now c.in_ok-catalog.ensures.loaded)
    c.check_tables.new.marks.items c.check_tables.new.marks.items fault c.from_residual-in_err-check_tables.result c.from_residual-in_err-check_tables.ensures.1
    (subst (λ (ts : List Table). Checks (Pairwise (HasTrees map page) ts) pages_held mid c.check_tables.new.marks.items (Err fault)) c.tables.ensures (c.in_err-check_tables.ensures.checked map page then still)))

pub returns-in_err-check_freelist-clause-loaded : goal.returns-in_err-check_freelist-clause-loaded
returns-in_err-check_freelist-clause-loaded g c = λ map page told can sized.
    (let p = g.P.Pages in
    let old = c.args.marks.now.items in
    let mid = c.check_tree.new.marks.items in
    let late = c.check_tables.new.marks.items in
    let fault = c.in_err-check_freelist.field-0.0 in
    let catalog = c.in_ok-catalog.catalog in
    let first = c.args.header.freelist_trunk in
    let many = c.args.header.freelist_count in
    let stays = c.in_ok-check_tree.ensures.stays in
    let later = c.in_ok-catalog.ensures.stays in
    let last = c.in_ok-check_tables.ensures.stays in
    let now = told_after p.below p.tells p.limits p.map c.args.pages.now c.check_tree.new.pages map page stays.kept stays.same told in
    let then = told_after p.below p.tells p.limits p.map c.check_tree.new.pages c.load_schema.new.pages map page later.kept later.same now in
    let done = told_after p.below p.tells p.limits p.map c.load_schema.new.pages c.check_tables.new.pages map page last.kept last.same then in
    let still = can_after map page old mid c.in_ok-check_tree.ensures.long can in
    let yet = can_after map page mid late c.in_ok-check_tables.ensures.long still in
    list_refused map page c.args.size c.args.header can.whole sized old mid catalog
    (told_as p.below p.tells p.limits p.map c.args.pages.now map page (λ m n. CanMark m n old → MarksTree m n 1 old mid) told c.in_ok-check_tree.ensures.same can)
    (told_as p.below p.tells p.limits p.map c.check_tree.new.pages map page (λ m n. LoadsTree m n c.args.size (Ok catalog)) now c.in_ok-catalog.ensures.loaded)
    late
    (subst (λ (ts : List Table). Checks (Pairwise (HasTrees map page) ts) pages_held mid late (Ok tt)) c.tables.ensures (c.in_ok-check_tables.ensures.checked map page then still))
    c.check_freelist.new.marks.items fault c.from_residual-in_err-check_freelist.result c.from_residual-in_err-check_freelist.ensures.1
    (told_as p.below p.tells p.limits p.map c.check_tables.new.pages map page (λ m n. CanMark m n late → IsUnmarkedList m n first many late → IsOutside fault) done c.in_err-check_freelist.ensures.only yet))

pub returns-clause-loaded : goal.returns-clause-loaded
returns-clause-loaded g c = λ map page told can sized.
    (let p = g.P.Pages in
    let old = c.args.marks.now.items in
    let mid = c.check_tree.new.marks.items in
    let late = c.check_tables.new.marks.items in
    let new = c.check_freelist.new.marks.items in
    let catalog = c.in_ok-catalog.catalog in
    let first = c.args.header.freelist_trunk in
    let many = c.args.header.freelist_count in
    let stays = c.in_ok-check_tree.ensures.stays in
    let later = c.in_ok-catalog.ensures.stays in
    let last = c.in_ok-check_tables.ensures.stays in
    let now = told_after p.below p.tells p.limits p.map c.args.pages.now c.check_tree.new.pages map page stays.kept stays.same told in
    let then = told_after p.below p.tells p.limits p.map c.check_tree.new.pages c.load_schema.new.pages map page later.kept later.same now in
    let done = told_after p.below p.tells p.limits p.map c.load_schema.new.pages c.check_tables.new.pages map page last.kept last.same then in
    let still = can_after map page old mid c.in_ok-check_tree.ensures.long can in
    let yet = can_after map page mid late c.in_ok-check_tables.ensures.long still in
    uses_loaded map page c.args.size c.args.header can.whole sized old mid catalog
    (told_as p.below p.tells p.limits p.map c.args.pages.now map page (λ m n. CanMark m n old → MarksTree m n 1 old mid) told c.in_ok-check_tree.ensures.same can)
    (told_as p.below p.tells p.limits p.map c.check_tree.new.pages map page (λ m n. LoadsTree m n c.args.size (Ok catalog)) now c.in_ok-catalog.ensures.loaded)
    late
    (subst (λ (ts : List Table). Checks (Pairwise (HasTrees map page) ts) pages_held mid late (Ok tt)) c.tables.ensures (c.in_ok-check_tables.ensures.checked map page then still))
    new
    (told_as p.below p.tells p.limits p.map c.args.pages.now map page (λ m n. CanMark m n old → IsChecked m n 1 old mid) told c.in_ok-check_tree.ensures.found can)
    (told_as p.below p.tells p.limits p.map c.check_tree.new.pages map page (λ m n. TellsTree m n c.args.size (Ok catalog)) now c.in_ok-catalog.ensures.told)
    (told_as p.below p.tells p.limits p.map c.check_tables.new.pages map page (λ m n. CanMark m n late → IsCheckedList m n first many late new) done c.in_ok-check_freelist.ensures.found yet)
    (told_as p.below p.tells p.limits p.map c.check_tables.new.pages map page (λ m n. CanMark m n late → MarksList m n first many late new) done c.in_ok-check_freelist.ensures.same yet))
