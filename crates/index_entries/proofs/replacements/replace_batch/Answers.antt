use Rattle.std.proofs.Common.{ℕ, map}
use Rattle.index_entries.specs.Keeping.{AddsEntries, columns_in, row_in}
use Rattle.index_entries.proofs.Batches.{batch_replaced, batch_stays}
use Rattle.index_entries.proofs.Looping.{since}
use Rattle.index_entries.proofs.replacements.replace_batch.Goals as goal

-- the old entries aren't taken out
pub returns-in_err-take_batch-clause-replaced : goal.returns-in_err-take_batch-clause-replaced
returns-in_err-take_batch-clause-replaced g c = λ told.
    (let pages = g.P.Pages in
    let old = c.args.pages.now in
    batch_stays (pages.limits (pages.below old)).page c.args.root (columns_in c.args.columns.now) (pages.map old) (pages.map c.take_batch.new.pages) (map row_in c.args.gone.now) (map row_in c.args.come.now)
    c.in_err-take_batch.field-0.0 c.from_residual.result c.from_residual.ensures.1 (c.in_err-take_batch.ensures.taken told))

-- they are out, and the new ones are in or refused
pub returns-clause-replaced : goal.returns-clause-replaced
returns-clause-replaced g c = λ told.
    (let pages = g.P.Pages in
    let old = c.args.pages.now in
    let mid = c.take_batch.new.pages in
    let new = pages.map c.add_batch.new.pages in
    let columns = columns_in c.args.columns.now in
    let come = map row_in c.args.come.now in
    let adds = since pages.below pages.tells pages.limits old mid (λ (n : ℕ). AddsEntries (pages.map mid) new n c.args.root columns come c.add_batch.result) c.in_ok-take_batch.ensures.kept c.add_batch.ensures.added told in
    batch_replaced (pages.limits (pages.below old)).page c.args.root columns (pages.map old) (pages.map mid) new (map row_in c.args.gone.now) come c.add_batch.result (c.in_ok-take_batch.ensures.taken told) adds)
