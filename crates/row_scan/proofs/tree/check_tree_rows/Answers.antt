use Rattle.std.proofs.Common.{rules, ◌≡◌, Ok, None}
use Rattle.std.specs.Prelude.{⊤}
use Rattle.sqlval.specs.Faults.{IsOutside}
use Rattle.pages.specs.Calls.{Stays}
use Rattle.row_scan.proofs.FitTrees.{all_checked, batch_fails, batch_has, checked_on, none_checked}
use Rattle.row_scan.proofs.RowLemmas.{not_done}
use Rattle.row_scan.proofs.tree.check_tree_rows.Goals as goal

pub batches-init : goal.batches-init
batches-init g c =
    let gs = g.P.Pages in
    none_checked gs.below gs.tells gs.limits gs.map gs.count gs.failures c.args.pages.now c.args.table.root c.new-cursor.result.root c.new-cursor.result.next c.args.table.shape c.new-cursor.ensures.root c.new-cursor.ensures.first

pub returns-in_err-next_batch-clause-only : goal.returns-in_err-next_batch-clause-only
returns-in_err-next_batch-clause-only g c = λ told rows whole tree fit.
    (let gs = g.P.Pages in
    let h : IsOutside c.in_err-next_batch.field-0.0 =
    batch_fails gs.below gs.tells gs.limits gs.map gs.count gs.failures c.args.pages.now c.batches.pages c.args.table.root c.batches.cursor.root c.batches.cursor.next c.next_batch.new.self.next c.args.table.shape
    c.next_batch.new.batch c.batches.invariant c.in_err-next_batch.field-0.0 c.in_err-next_batch.ensures.given told rows whole tree in
    search rules)

pub batches-preserved : goal.batches-preserved
batches-preserved g c =
    let gs = g.P.Pages in
    let stays : Stays gs.below gs.map gs.count gs.failures {T = ⊤} (Ok tt) c.args.pages.now c.next_batch.new.pages = search rules in
    checked_on gs.below gs.tells gs.limits gs.map gs.count gs.failures c.args.pages.now c.batches.pages c.args.table.root c.batches.cursor.root c.batches.cursor.next c.next_batch.new.self.next c.args.table.shape
    c.next_batch.new.batch c.batches.invariant c.next_batch.new.pages c.next_batch.new.self.root c.in_ok-next_batch.ensures.root stays c.in_ok-next_batch.ensures.given c.in_ok-check_batch.ensures.found

pub returns-in_err-check_batch-clause-only : goal.returns-in_err-check_batch-clause-only
returns-in_err-check_batch-clause-only g c = λ told rows whole tree fit.
    (let gs = g.P.Pages in
    let have = batch_has gs.below gs.tells gs.limits gs.map gs.count gs.failures c.args.pages.now c.batches.pages c.args.table.root c.batches.cursor.root c.batches.cursor.next c.next_batch.new.self.next c.args.table.shape
    c.next_batch.new.batch c.batches.invariant c.in_ok-next_batch.ensures.given told rows whole tree fit in
    absurd (not_done c.in_err-check_batch.field-0.0 (c.in_err-check_batch.ensures.only have.0 have.1)))

pub returns-clause-found : goal.returns-clause-found
returns-clause-found g c = λ told.
    (let gs = g.P.Pages in
    let none : c.batches.cursor.next ≡ None = search rules in
    all_checked gs.below gs.tells gs.limits gs.map gs.count gs.failures c.args.pages.now c.batches.pages c.args.table.root c.batches.cursor.root c.batches.cursor.next c.batches.cursor.next c.args.table.shape
    c.batches.batch c.batches.invariant none told)
