use Rattle.std.proofs.Common.{rules, ◌≡◌, subst, sym, ◌∙◌, ℕ, List, length, map, Ok, Err, arith}
use Rattle.query_terms.specs.Rows.{row_at}
use Rattle.catalog.specs.Rows.{as_row}
use Rattle.index_entries.specs.Entries.{Row}
use Rattle.index_entries.specs.Keeping.{TakesEntries, columns_in}
use Rattle.index_entries.specs.Taking.{TakesBatch}
use Rattle.index_entries.proofs.Gone.{batch_stops, rows_parted, then_rest}
use Rattle.index_entries.proofs.Looping.{none_left, since}
use Rattle.index_entries.proofs.Turning.{takes_none}
use Rattle.index_entries.proofs.keeping.take_entries.Goals as goal

pub returns-in_err-take_batch_at-clause-taken : goal.returns-in_err-take_batch_at-clause-taken
returns-in_err-take_batch_at-clause-taken g c = λ told.
    (let pages = g.P.Pages in
    let old = c.args.pages.now in
    let mid = c.batches.pages in
    let new = pages.map c.take_batch_at.new.pages in
    let size = (pages.limits (pages.below old)).page in
    let columns = columns_in c.args.columns.now in
    let row = λ (place : ℕ). as_row (row_at c.args.rows.now place) in
    let batch = c.split_at.result.0.now in
    let rest = c.split_at.result.1.now in
    let fault = c.in_err-take_batch_at.field-0.0 in
    let result = c.from_residual-in_err-take_batch_at.result in
    let does = since pages.below pages.tells pages.limits old mid (λ (n : ℕ). TakesBatch (pages.map mid) new n c.args.root columns (map row batch) (Err fault)) c.batches.invariant.kept c.in_err-take_batch_at.ensures.taken told in
    let parts = rows_parted row c.min.result c.batches.left.now batch rest c.split_at.ensures.front c.split_at.ensures.back in
    c.batches.invariant.decides told new result
    (subst (λ (rs : List Row). TakesEntries (pages.map mid) new size c.args.root columns rs result) (sym parts)
    (batch_stops size c.args.root columns (pages.map mid) new (map row batch) (map row rest) fault result c.from_residual-in_err-take_batch_at.ensures.1 does)))

pub batches-preserved : goal.batches-preserved
batches-preserved g c =
    let pages = g.P.Pages in
    let old = c.args.pages.now in
    let mid = c.batches.pages in
    let next = pages.map c.take_batch_at.new.pages in
    let size = (pages.limits (pages.below old)).page in
    let columns = columns_in c.args.columns.now in
    let row = λ (place : ℕ). as_row (row_at c.args.rows.now place) in
    let batch = c.split_at.result.0.now in
    let rest = c.split_at.result.1.now in
    record {
      kept = c.in_ok-take_batch_at.ensures.kept ∙ c.batches.invariant.kept;
      causes = search rules;
      decides = λ told new result left.
          (let does = since pages.below pages.tells pages.limits old mid (λ (n : ℕ). TakesBatch (pages.map mid) next n c.args.root columns (map row batch) (Ok tt)) c.batches.invariant.kept c.in_ok-take_batch_at.ensures.taken told in
          let parts = rows_parted row c.min.result c.batches.left.now batch rest c.split_at.ensures.front c.split_at.ensures.back in
          c.batches.invariant.decides told new result
          (subst (λ (rs : List Row). TakesEntries (pages.map mid) new size c.args.root columns rs result) (sym parts)
          (then_rest size c.args.root columns (pages.map mid) next new (map row batch) (map row rest) result does left)));
    }

pub returns-clause-taken : goal.returns-clause-taken
returns-clause-taken g c = λ told.
    (let pages = g.P.Pages in
    let old = c.args.pages.now in
    let size = (pages.limits (pages.below old)).page in
    let columns = columns_in c.args.columns.now in
    let row = λ (place : ℕ). as_row (row_at c.args.rows.now place) in
    c.batches.invariant.decides told (pages.map c.batches.pages) (Ok tt)
    (subst (λ (rs : List Row). TakesEntries (pages.map c.batches.pages) (pages.map c.batches.pages) size c.args.root columns rs (Ok tt)) (sym (none_left row c.batches.left.now (let none : length c.batches.left.now ≡ 0 = grind (arith, c.is_empty.ensures, c.batches-test.false) in omega (arith, none)))) (takes_none size c.args.root columns (pages.map c.batches.pages))))
