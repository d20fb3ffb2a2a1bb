use Rattle.std.proofs.Common.{rules, ◌≡◌, ◌++◌, Ok, None, List, map}
use Rattle.std.specs.Prelude.{⊤}
use Rattle.pages.specs.Calls.{Stays}
use Rattle.query_terms.specs.Values.{Row}
use Rattle.query_answer.specs.Parts.{Kept, answer_on, part_of}
use Rattle.row_scan.specs.Rows.{values_of}
use Rattle.row_scan.specs.Sources.{places_shown}
use Rattle.executor.proofs.StreamedRows.{all_streamed, leaf_refused, leaf_streamed, leaf_unread, none_streamed, refused_from}
use Rattle.executor.proofs.reading.streamed_rows.Goals as goal

pub leaves-init : goal.leaves-init
leaves-init g c =
    let gs = g.P.Pages in
    none_streamed gs.below gs.tells gs.limits gs.map gs.count gs.failures (λ rows. part_of c.args.reading.now rows ≡ Ok c.in_ok-found.found) c.args.pages.now c.args.table (places_shown c.args.shown) c.new-cursor.result.root c.new-cursor.result.next
    (c.in_ok-found.ensures c.requires) c.new-cursor.ensures.root c.new-cursor.ensures.first

pub returns-in_err-rows-clause-answered : goal.returns-in_err-rows-clause-answered
returns-in_err-rows-clause-answered g c = λ told.
    (let gs = g.P.Pages in
    leaf_unread gs.below gs.tells gs.limits gs.map gs.count gs.failures (answer_on c.args.reading.now) (λ rows. part_of c.args.reading.now rows ≡ Ok c.leaves.found) c.args.pages.now c.leaves.pages c.args.table (places_shown c.args.shown) c.leaves.cursor.root
    c.leaves.cursor.next c.next_shown_rows.new.cursor.next c.leaves.invariant (λ rows. map values_of rows.items) c.in_err-rows.field-0.0 c.from_residual-in_err-rows.result c.rows_are_held.ensures c.from_residual-in_err-rows.ensures.1 c.in_err-rows.ensures.given told)

pub leaves-preserved : goal.leaves-preserved
leaves-preserved g c =
    let gs = g.P.Pages in
    let stays : Stays gs.below gs.map gs.count gs.failures {T = ⊤} (Ok tt) c.args.pages.now c.next_shown_rows.new.pages = search rules in
    leaf_streamed gs.below gs.tells gs.limits gs.map gs.count gs.failures (answer_on c.args.reading.now) (λ rows. part_of c.args.reading.now rows ≡ Ok c.leaves.found) c.args.pages.now c.leaves.pages c.args.table (places_shown c.args.shown) c.leaves.cursor.root
    c.leaves.cursor.next c.next_shown_rows.new.cursor.next c.leaves.invariant c.in_ok-rows.rows c.in_ok-rows.ensures.given (λ rows. part_of c.args.reading.now rows ≡ Ok c.give_rows.new.found) c.next_shown_rows.new.pages c.next_shown_rows.new.cursor.root
    c.in_ok-rows.ensures.root stays (c.in_ok-give_rows.ensures.given c.requires c.in_ok-filter.ensures.prepared)

pub returns-in_err-give_rows-clause-answered : goal.returns-in_err-give_rows-clause-answered
returns-in_err-give_rows-clause-answered g c = λ told.
    (let gs = g.P.Pages in
    let q = c.args.reading.now in
    leaf_refused gs.below gs.tells gs.limits gs.map gs.count gs.failures (answer_on q) (λ rows. part_of q rows ≡ Ok c.leaves.found) c.args.pages.now c.leaves.pages c.args.table (places_shown c.args.shown) c.leaves.cursor.root
    c.leaves.cursor.next c.next_shown_rows.new.cursor.next c.leaves.invariant c.in_ok-rows.rows c.in_ok-rows.ensures.given (λ rows. map values_of rows.items) c.in_err-give_rows.field-0.0 c.from_residual-in_err-give_rows.result c.rows_are_held.ensures
    c.from_residual-in_err-give_rows.ensures.1
    (λ before given.
    refused_from c.rows_are_given_in_parts.ensures q c.requires (before ++ c.in_ok-rows.rows) c.in_err-give_rows.field-0.0 (c.in_err-give_rows.ensures.given c.requires c.in_ok-filter.ensures.prepared before given)) told)

pub returns-clause-answered : goal.returns-clause-answered
returns-clause-answered g c = λ told.
    (let gs = g.P.Pages in
    let none : c.leaves.cursor.next ≡ None = search rules in
    all_streamed gs.below gs.tells gs.limits gs.map gs.count gs.failures (λ rows. map values_of rows.items) (answer_on c.args.reading.now) (λ rows. part_of c.args.reading.now rows ≡ Ok c.leaves.found) c.args.pages.now c.leaves.pages c.args.table (places_shown c.args.shown)
    c.leaves.cursor.root c.leaves.cursor.next c.finish.result c.leaves.invariant none c.rows_are_held.ensures (λ rows given. c.finish.ensures.answered rows c.requires given) told)

pub returns-clause-wide : goal.returns-clause-wide
returns-clause-wide g c = c.finish.ensures.wide c.leaves.invariant.before c.requires c.leaves.invariant.given
