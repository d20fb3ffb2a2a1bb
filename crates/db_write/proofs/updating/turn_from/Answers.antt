use Rattle.std.proofs.Common.{rules, subst, ◌∙◌, ◌-◌, ℕ, List, length, map, take, drop, slice_index_or, Ok, Err}
use Rattle.query_terms.specs.Rows.{row_at}
use Rattle.query_terms.specs.Values.{Row}
use Rattle.db_write.specs.OneRow.{TurnsFrom, TurnsRow}
use Rattle.db_write.proofs.Looping.{since}
use Rattle.db_write.proofs.TurnedRows.{first_source, none_sourced, turns_more, turns_none, turns_stop}
use Rattle.db_write.proofs.updating.turn_from.Goals as goal

pub returns-in_err-turn_row-clause-turned : goal.returns-in_err-turn_row-clause-turned
returns-in_err-turn_row-clause-turned g c = λ told.
    (let pages = g.P.Pages in
    let old = c.args.pages.now in
    let mid = c.places.pages in
    let new = pages.map c.turn_row.new.pages in
    let size = (pages.limits (pages.below old)).page in
    let table = c.args.table.now in
    let sets = c.args.sets.now in
    let rows = c.args.rows.now in
    let left = c.places.left.now in
    let place = slice_index_or left 0 0 in
    let fault = c.in_err-turn_row.field-0.0 in
    let result = c.from_residual.result in
    let does = since pages.below pages.tells pages.limits old mid (λ (n : ℕ). TurnsRow (pages.map mid) new n table sets (row_at rows place) (Err fault)) c.places.invariant.kept c.in_err-turn_row.ensures.turned told in
    c.places.invariant.decides told new result
    (subst (λ (them : List Row). TurnsFrom (pages.map mid) new size table sets them result) (first_source rows left c.in-len1-up.len_at_least)
    (turns_stop (pages.map mid) new size table sets (row_at rows place) (map (row_at rows) (take (length left - 1) (drop 1 left))) fault result c.from_residual.ensures.1 does)))

pub places-preserved : goal.places-preserved
places-preserved g c =
    let pages = g.P.Pages in
    let old = c.args.pages.now in
    let mid = c.places.pages in
    let size = (pages.limits (pages.below old)).page in
    let table = c.args.table.now in
    let sets = c.args.sets.now in
    let rows = c.args.rows.now in
    let left = c.places.left.now in
    let place = slice_index_or left 0 0 in
    let came = c.in_ok-turn_row.field-0 in
    record {
      kept = c.in_ok-turn_row.ensures.kept ∙ c.places.invariant.kept;
      causes = search rules;
      decides = λ told end result rest.
          (let new = pages.map c.turn_row.new.pages in
          let does = since pages.below pages.tells pages.limits old mid (λ (n : ℕ). TurnsRow (pages.map mid) new n table sets (row_at rows place) (Ok came)) c.places.invariant.kept c.in_ok-turn_row.ensures.turned told in
          c.places.invariant.decides told end result
          (subst (λ (them : List Row). TurnsFrom (pages.map mid) end size table sets them result) (first_source rows left c.in-len1-up.len_at_least)
          (turns_more (pages.map mid) new size table sets (row_at rows place) (map (row_at rows) (take (length left - 1) (drop 1 left))) end came result does rest)));
    }

pub returns-clause-turned : goal.returns-clause-turned
returns-clause-turned g c = λ told.
    (let pages = g.P.Pages in
    let old = c.args.pages.now in
    let now = pages.map c.places.pages in
    let size = (pages.limits (pages.below old)).page in
    let table = c.args.table.now in
    let sets = c.args.sets.now in
    c.places.invariant.decides told now (Ok tt)
    (subst (λ (them : List Row). TurnsFrom now now size table sets them (Ok tt)) (none_sourced c.args.rows.now c.places.left.now c.in_default.len_below) (turns_none now size table sets)))
