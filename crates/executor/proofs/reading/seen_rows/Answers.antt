use Rattle.std.proofs.Common.{rules, ◌≡◌, Ok, None, map}
use Rattle.std.specs.Prelude.{⊤, IfErr}
use Rattle.sqlval.specs.Faults.{IsNotDiskFault}
use Rattle.pages.specs.Calls.{Stays}
use Rattle.query_view.specs.Seen.{HasSeen, answer_through}
use Rattle.row_scan.specs.Rows.{values_of}
use Rattle.row_scan.specs.Sources.{places_shown}
use Rattle.executor.proofs.StreamedRows.{all_streamed, leaf_refused, leaf_streamed, leaf_unread, none_streamed}
use Rattle.executor.proofs.reading.seen_rows.Goals as goal

pub leaves-init : goal.leaves-init
leaves-init g c =
    let gs = g.P.Pages in
    none_streamed gs.below gs.tells gs.limits gs.map gs.count gs.failures (λ rows. HasSeen c.args.view.now c.args.reading.now rows c.in_ok-seen.seen) c.args.pages.now c.args.table (places_shown c.args.shown) c.new-cursor.result.root c.new-cursor.result.next
    (c.in_ok-seen.ensures c.requires.row_by_row c.args.view.now c.requires.in_order) c.new-cursor.ensures.root c.new-cursor.ensures.first

pub returns-in_err-rows-clause-answered : goal.returns-in_err-rows-clause-answered
returns-in_err-rows-clause-answered g c = λ told.
    (let gs = g.P.Pages in
    leaf_unread gs.below gs.tells gs.limits gs.map gs.count gs.failures (answer_through c.args.view.now c.args.reading.now) (λ rows. HasSeen c.args.view.now c.args.reading.now rows c.leaves.seen) c.args.pages.now c.leaves.pages c.args.table (places_shown c.args.shown)
    c.leaves.cursor.root c.leaves.cursor.next c.next_shown_rows.new.cursor.next c.leaves.invariant (λ rows. map values_of rows.items) c.in_err-rows.field-0.0 c.from_residual-in_err-rows.result c.rows_are_held.ensures c.from_residual-in_err-rows.ensures.1
    c.in_err-rows.ensures.given told)

pub leaves-preserved : goal.leaves-preserved
leaves-preserved g c =
    let gs = g.P.Pages in
    let stays : Stays gs.below gs.map gs.count gs.failures {T = ⊤} (Ok tt) c.args.pages.now c.next_shown_rows.new.pages = search rules in
    leaf_streamed gs.below gs.tells gs.limits gs.map gs.count gs.failures (answer_through c.args.view.now c.args.reading.now) (λ rows. HasSeen c.args.view.now c.args.reading.now rows c.leaves.seen) c.args.pages.now c.leaves.pages c.args.table (places_shown c.args.shown)
    c.leaves.cursor.root c.leaves.cursor.next c.next_shown_rows.new.cursor.next c.leaves.invariant c.in_ok-rows.rows c.in_ok-rows.ensures.given (λ rows. HasSeen c.args.view.now c.args.reading.now rows c.see_rows.new.seen) c.next_shown_rows.new.pages
    c.next_shown_rows.new.cursor.root c.in_ok-rows.ensures.root stays (c.in_ok-see_rows.ensures.seen c.requires.in_order c.requires.row_by_row c.in_ok-inner.ensures.prepared c.in_ok-filter.ensures.prepared)

pub returns-in_err-see_rows-clause-answered : goal.returns-in_err-see_rows-clause-answered
returns-in_err-see_rows-clause-answered g c = λ told.
    (let gs = g.P.Pages in
    leaf_refused gs.below gs.tells gs.limits gs.map gs.count gs.failures (answer_through c.args.view.now c.args.reading.now) (λ rows. HasSeen c.args.view.now c.args.reading.now rows c.leaves.seen) c.args.pages.now c.leaves.pages c.args.table (places_shown c.args.shown)
    c.leaves.cursor.root c.leaves.cursor.next c.next_shown_rows.new.cursor.next c.leaves.invariant c.in_ok-rows.rows c.in_ok-rows.ensures.given (λ rows. map values_of rows.items) c.in_err-see_rows.field-0.0 c.from_residual-in_err-see_rows.result
    c.rows_are_held.ensures c.from_residual-in_err-see_rows.ensures.1 (c.in_err-see_rows.ensures.seen c.requires.in_order c.requires.row_by_row c.in_ok-inner.ensures.prepared c.in_ok-filter.ensures.prepared) told)

pub returns-clause-answered : goal.returns-clause-answered
returns-clause-answered g c = λ told.
    (let gs = g.P.Pages in
    let none : c.leaves.cursor.next ≡ None = search rules in
    all_streamed gs.below gs.tells gs.limits gs.map gs.count gs.failures (λ rows. map values_of rows.items) (answer_through c.args.view.now c.args.reading.now) (λ rows. HasSeen c.args.view.now c.args.reading.now rows c.leaves.seen) c.args.pages.now c.leaves.pages c.args.table
    (places_shown c.args.shown) c.leaves.cursor.root c.leaves.cursor.next c.finish_seen.result c.leaves.invariant none c.rows_are_held.ensures (λ rows given. c.finish_seen.ensures.answered c.args.view.now rows c.requires.row_by_row given) told)

pub returns-clause-wide : goal.returns-clause-wide
returns-clause-wide g c = c.finish_seen.ensures.wide c.args.view.now c.leaves.invariant.before c.requires.row_by_row c.leaves.invariant.given

pub returns-clause-stays : goal.returns-clause-stays
returns-clause-stays g c =
    let quiet : IfErr c.finish_seen.result IsNotDiskFault = c.finish_seen.ensures.not_disk c.args.view.now c.leaves.invariant.before c.leaves.invariant.given in
    search rules
