use Rattle.std.proofs.Common.{rules, ◌≡◌, Ok, None, inl}
use Rattle.std.specs.Prelude.{⊤}
use Rattle.sqlval.specs.Faults.{IsNotDiskFault}
use Rattle.pages.specs.Calls.{Stays}
use Rattle.row_scan.specs.Sources.{places_shown, shown_at}
use Rattle.row_scan.proofs.SourceRows.{left_calm, tree_loaded, tree_unread}
use Rattle.row_scan.proofs.TreeAnswers.{at_start, batch_refused, read_all, reads_on, stops_there}
use Rattle.row_scan.proofs.sources.shown_rows.Goals as goal

pub batches-init : goal.batches-init
batches-init g c =
    let gs = g.P.Pages in
    rw (c.new-rows.ensures)
    (at_start gs.below gs.tells gs.limits gs.map gs.count gs.failures (shown_at (places_shown c.args.shown) c.args.table.shape.own) c.args.pages.now c.args.table.root c.new-cursor.result.root c.new-cursor.result.next
    c.new-cursor.ensures.root c.new-cursor.ensures.first)

pub returns-in_err-next_batch-clause-loaded : goal.returns-in_err-next_batch-clause-loaded
returns-in_err-next_batch-clause-loaded g c = λ told.
    (let gs = g.P.Pages in
    let f = shown_at (places_shown c.args.shown) c.args.table.shape.own in
    tree_unread (gs.map c.args.pages.now) (gs.limits (gs.below c.args.pages.now)).page (places_shown c.args.shown) c.args.table c.in_err-next_batch.field-0.0 c.from_residual.result c.from_residual.ensures.1
    (λ rows used whole tree. inl (batch_refused gs.below gs.tells gs.limits gs.map gs.count gs.failures f c.args.pages.now c.batches.pages c.args.table.root c.batches.cursor.root c.batches.cursor.next c.next_batch.new.self.next
    c.batches.rows c.next_batch.new.batch c.batches.invariant c.in_err-next_batch.field-0.0 c.in_err-next_batch.ensures.given told rows used whole tree)))

pub batches-preserved : goal.batches-preserved
batches-preserved g c =
    let gs = g.P.Pages in
    let f = shown_at (places_shown c.args.shown) c.args.table.shape.own in
    let stays : Stays gs.below gs.map gs.count gs.failures {T = ⊤} (Ok tt) c.args.pages.now c.next_batch.new.pages = search rules in
    reads_on gs.below gs.tells gs.limits gs.map gs.count gs.failures f c.args.pages.now c.batches.pages c.args.table.root c.batches.cursor.root c.batches.cursor.next c.next_batch.new.self.next
    c.batches.rows c.next_batch.new.batch c.batches.invariant c.next_batch.new.pages c.next_batch.new.self.root c.add_source_rows.new.rows c.in_ok-next_batch.ensures.root stays
    c.in_ok-next_batch.ensures.given c.in_ok-add_source_rows.ensures

pub returns-in_err-add_source_rows-clause-loaded : goal.returns-in_err-add_source_rows-clause-loaded
returns-in_err-add_source_rows-clause-loaded g c = λ told.
    (let gs = g.P.Pages in
    let f = shown_at (places_shown c.args.shown) c.args.table.shape.own in
    tree_unread (gs.map c.args.pages.now) (gs.limits (gs.below c.args.pages.now)).page (places_shown c.args.shown) c.args.table c.in_err-add_source_rows.field-0.0 c.from_residual-in_err-add_source_rows.result
    c.from_residual-in_err-add_source_rows.ensures.1
    (stops_there gs.below gs.tells gs.limits gs.map gs.count gs.failures f c.args.pages.now c.batches.pages c.args.table.root c.batches.cursor.root c.batches.cursor.next c.next_batch.new.self.next
    c.batches.rows c.next_batch.new.batch c.batches.invariant c.in_err-add_source_rows.field-0.0 c.in_ok-next_batch.ensures.given c.in_err-add_source_rows.ensures told))

pub returns-in_err-add_source_rows-clause-stays : goal.returns-in_err-add_source_rows-clause-stays
returns-in_err-add_source_rows-clause-stays g c =
    let calm : IsNotDiskFault c.in_err-add_source_rows.field-0.0 =
    left_calm (places_shown c.args.shown) c.args.table.shape.own c.next_batch.new.batch c.batches.rows c.in_err-add_source_rows.field-0.0 c.in_err-add_source_rows.ensures in
    search rules

pub returns-clause-loaded : goal.returns-clause-loaded
returns-clause-loaded g c = λ told.
    (let gs = g.P.Pages in
    let f = shown_at (places_shown c.args.shown) c.args.table.shape.own in
    let none : c.batches.cursor.next ≡ None = search rules in
    tree_loaded c.records_hold_their_values.ensures (gs.map c.args.pages.now) (gs.limits (gs.below c.args.pages.now)).page (places_shown c.args.shown) c.args.table c.batches.rows
    (read_all gs.below gs.tells gs.limits gs.map gs.count gs.failures f c.args.pages.now c.batches.pages c.args.table.root c.batches.cursor.root c.batches.cursor.next c.batches.cursor.next
    c.batches.rows c.batches.batch c.batches.invariant none told))
