use Rattle.std.proofs.Common.{ℕ}
use Rattle.index_entries.specs.Keeping.{row_in}
use Rattle.db_write.specs.Turning.{AddsRowToIndexes}
use Rattle.db_write.proofs.Looping.{since}
use Rattle.db_write.proofs.OneRows.{moves_more, moves_stop}
use Rattle.db_write.proofs.row_entries.move_row_in_indexes.Goals as goal

pub returns-in_err-take_row_from_indexes-clause-moved : goal.returns-in_err-take_row_from_indexes-clause-moved
returns-in_err-take_row_from_indexes-clause-moved g c = λ told.
    (let pages = g.P.Pages in
    let old = pages.map c.args.pages.now in
    let new = pages.map c.take_row_from_indexes.new.pages in
    let size = (pages.limits (pages.below c.args.pages.now)).page in
    let indexes = c.args.indexes.now in
    let fault = c.in_err-take_row_from_indexes.field-0.0 in
    moves_stop old new size indexes (row_in c.args.gone.now) (row_in c.args.come.now) fault c.from_residual.result c.from_residual.ensures.1
    (c.in_err-take_row_from_indexes.ensures.taken told))

pub returns-clause-moved : goal.returns-clause-moved
returns-clause-moved g c = λ told.
    (let pages = g.P.Pages in
    let start = c.args.pages.now in
    let old = pages.map start in
    let mid = c.take_row_from_indexes.new.pages in
    let new = pages.map c.add_row_to_indexes.new.pages in
    let size = (pages.limits (pages.below start)).page in
    let indexes = c.args.indexes.now in
    let come = row_in c.args.come.now in
    let result = c.add_row_to_indexes.result in
    let adds = since pages.below pages.tells pages.limits start mid (λ (n : ℕ). AddsRowToIndexes (pages.map mid) new n indexes come result) c.in_ok-take_row_from_indexes.ensures.kept c.add_row_to_indexes.ensures.added told in
    moves_more old (pages.map mid) size indexes (row_in c.args.gone.now) come new result
    (c.in_ok-take_row_from_indexes.ensures.taken told) adds)
