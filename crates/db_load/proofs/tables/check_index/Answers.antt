use Rattle.std.proofs.Common.{◌≡◌, ◌∙◌, ap, List, map, subst}
use Rattle.sqlval.specs.Faults.{IsOutside}
use Rattle.catalog.specs.declared.tables.IndexColumn.{IndexColumn}
use Rattle.index_build.specs.Calls.{ChecksEntries}
use Rattle.tree_check.specs.Checks.{CanMark, IsCheckedIndex, IsUnmarkedIndex, MarksIndex}
use Rattle.tree_check.proofs.Parting.{told_after}
use Rattle.db_load.proofs.TableChecks.{entries_checked, index_refused, orders_of, told_as}
use Rattle.db_load.proofs.tables.check_index.Goals as goal

pub returns-in_err-check_index_tree-clause-checked : goal.returns-in_err-check_index_tree-clause-checked
returns-in_err-check_index_tree-clause-checked g c = λ pages size told can rows has.
    (let p = g.P.Pages in
    let i = c.args.index.now in
    let old = c.args.marks.now.items in
    let columns = c.deref.result.now in
    let same : columns ≡ orders_of i = c.deref.ensures.value ∙ (c.in_ok-collations.ensures.found ∙ ap (λ (cs : List IndexColumn). map (λ (column : IndexColumn). column.collation) cs) c.as_slice-columns.ensures) in
    index_refused pages size rows i columns old c.check_index_tree.new.marks.items c.in_err-check_index_tree.field-0.0 c.from_residual-in_err-check_index_tree.result same
    (told_as p.below p.tells p.limits p.map c.args.pages.now pages size (λ m n. CanMark m n old → IsUnmarkedIndex m n i.root columns old → IsOutside c.in_err-check_index_tree.field-0.0) told c.in_err-check_index_tree.ensures.only can)
    c.from_residual-in_err-check_index_tree.ensures.1)

pub returns-clause-checked : goal.returns-clause-checked
returns-clause-checked g c = λ pages size told can rows has.
    (let p = g.P.Pages in
    let i = c.args.index.now in
    let old = c.args.marks.now.items in
    let new = c.check_index_tree.new.marks.items in
    let columns = c.deref.result.now in
    let same : columns ≡ orders_of i = c.deref.ensures.value ∙ (c.in_ok-collations.ensures.found ∙ ap (λ (cs : List IndexColumn). map (λ (column : IndexColumn). column.collation) cs) c.as_slice-columns.ensures) in
    let stays = c.in_ok-check_index_tree.ensures.stays in
    let now = told_after p.below p.tells p.limits p.map c.args.pages.now c.check_index_tree.new.pages pages size stays.kept stays.same told in
    entries_checked pages size _ _ c.source_of.result rows i columns old new c.check_entries.result can.whole same c.source_of.ensures.root c.source_of.ensures.shape
    (told_as p.below p.tells p.limits p.map c.args.pages.now pages size (λ m n. CanMark m n old → IsCheckedIndex m n i.root columns old new) told c.in_ok-check_index_tree.ensures.found can)
    (told_as p.below p.tells p.limits p.map c.args.pages.now pages size (λ m n. CanMark m n old → MarksIndex m n i.root columns old new) told c.in_ok-check_index_tree.ensures.same can)
    (subst (λ (cs : List IndexColumn). ChecksEntries pages size i.root c.source_of.result cs c.check_entries.result) c.as_slice-columns.ensures
    (told_as p.below p.tells p.limits p.map c.check_index_tree.new.pages pages size (λ m n. ChecksEntries m n i.root c.source_of.result c.as_slice-columns.result.now c.check_entries.result) now c.check_entries.ensures.checked))
    has)
