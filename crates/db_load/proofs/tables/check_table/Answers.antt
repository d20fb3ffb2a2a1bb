use Rattle.std.proofs.Common.{ℕ, List, subst, Ok, Err}
use Rattle.sqlval.specs.Faults.{IsOutside}
use Rattle.tree_page.specs.Cells.{Pairwise}
use Rattle.db_layout.specs.Layout.{used_by}
use Rattle.catalog.specs.Listed.{shape_of}
use Rattle.catalog.specs.declared.tables.Index.{Index}
use Rattle.catalog.specs.declared.tables.RowShape.{RowShape}
use Rattle.row_scan.specs.Trees.{FindsFit, PassesFit}
use Rattle.tree_check.specs.Checks.{CanMark, IsChecked, IsUnmarked, MarksTree}
use Rattle.tree_check.specs.Exact.{Checks}
use Rattle.tree_check.proofs.Parting.{can_after, told_after}
use Rattle.db_load.specs.Uses.{HasEntries}
use Rattle.db_load.proofs.TableChecks.{indexes_checked, rows_refused, told_as, tree_refused}
use Rattle.db_load.proofs.tables.check_table.Goals as goal

pub returns-in_err-check_tree-clause-checked : goal.returns-in_err-check_tree-clause-checked
returns-in_err-check_tree-clause-checked g c = λ map size told can.
    (let p = g.P.Pages in
    let marks = c.args.marks.now.items in
    tree_refused map size c.args.table.now marks c.check_tree.new.marks.items c.in_err-check_tree.field-0.0 c.from_residual.result
    (told_as p.below p.tells p.limits p.map c.args.pages.now map size (λ m n. CanMark m n marks → IsUnmarked m n c.args.table.now.root marks → IsOutside c.in_err-check_tree.field-0.0) told c.in_err-check_tree.ensures.only can)
    c.from_residual.ensures.1)

pub returns-in_err-check_tree_rows-clause-checked : goal.returns-in_err-check_tree_rows-clause-checked
returns-in_err-check_tree_rows-clause-checked g c = λ map size told can.
    (let p = g.P.Pages in
    let t = c.args.table.now in
    let old = c.args.marks.now.items in
    let fault = c.in_err-check_tree_rows.field-0.0 in
    let stays = c.in_ok-check_tree.ensures.stays in
    let now = told_after p.below p.tells p.limits p.map c.args.pages.now c.check_tree.new.pages map size stays.kept stays.same told in
    let here : (Q : ℕ → RowShape → Type 0) → Q c.source_of.result.root c.source_of.result.shape → Q t.root (shape_of t) = λ Q q.
    subst (λ (s : RowShape). Q t.root s) c.source_of.ensures.shape (subst (λ (n : ℕ). Q n c.source_of.result.shape) c.source_of.ensures.root q) in
    rows_refused map size t old c.check_tree.new.marks.items fault c.from_residual-in_err-check_tree_rows.result can.whole
    (here (λ root shape. PassesFit map size root shape (Err fault))
    (told_as p.below p.tells p.limits p.map c.check_tree.new.pages map size (λ m n. PassesFit m n c.source_of.result.root c.source_of.result.shape (Err fault)) now c.in_err-check_tree_rows.ensures.only))
    c.from_residual-in_err-check_tree_rows.ensures.1)

pub returns-clause-checked : goal.returns-clause-checked
returns-clause-checked g c = λ map size told can.
    (let p = g.P.Pages in
    let t = c.args.table.now in
    let old = c.args.marks.now.items in
    let mid = c.check_tree.new.marks.items in
    let stays = c.in_ok-check_tree.ensures.stays in
    let later = c.in_ok-check_tree_rows.ensures.stays in
    let now = told_after p.below p.tells p.limits p.map c.args.pages.now c.check_tree.new.pages map size stays.kept stays.same told in
    let then = told_after p.below p.tells p.limits p.map c.check_tree.new.pages c.check_tree_rows.new.pages map size later.kept later.same now in
    let here : (Q : ℕ → RowShape → Type 0) → Q c.source_of.result.root c.source_of.result.shape → Q t.root (shape_of t) = λ Q q.
    subst (λ (s : RowShape). Q t.root s) c.source_of.ensures.shape (subst (λ (n : ℕ). Q n c.source_of.result.shape) c.source_of.ensures.root q) in
    indexes_checked map size t old mid c.check_indexes.new.marks.items c.check_indexes.result can.whole
    (told_as p.below p.tells p.limits p.map c.args.pages.now map size (λ m n. CanMark m n old → IsChecked m n t.root old mid) told c.in_ok-check_tree.ensures.found can)
    (told_as p.below p.tells p.limits p.map c.args.pages.now map size (λ m n. CanMark m n old → MarksTree m n t.root old mid) told c.in_ok-check_tree.ensures.same can)
    (here (λ root shape. FindsFit map size root shape (Ok tt))
    (told_as p.below p.tells p.limits p.map c.check_tree.new.pages map size (λ m n. FindsFit m n c.source_of.result.root c.source_of.result.shape (Ok tt)) now c.in_ok-check_tree_rows.ensures.found))
    (λ rows has.
    subst (λ (is : List Index). Checks (Pairwise (HasEntries map size rows) is) used_by mid c.check_indexes.new.marks.items c.check_indexes.result) c.as_slice.ensures
    (c.check_indexes.ensures.checked map size then (can_after map size old mid c.in_ok-check_tree.ensures.long can) rows has)))
