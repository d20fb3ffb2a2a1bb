use Rattle.std.proofs.Common.{◌∙◌, map}
use Rattle.index_entries.specs.Keeping.{columns_in, row_in}
use Rattle.index_entries.proofs.Come.{batch_added}
use Rattle.index_entries.proofs.Gone.{entries_by_rows}
use Rattle.index_entries.proofs.Turning.{same_collations}
use Rattle.index_entries.proofs.adding.add_batch.Goals as goal

pub returns-clause-added : goal.returns-clause-added
returns-clause-added g c = λ told.
    (let pages = g.P.Pages in
    let old = c.args.pages.now in
    let columns = columns_in c.args.columns.now in
    let entries = c.as_slice.ensures.value ∙ c.in_ok-entries.ensures.made ∙ entries_by_rows columns row_in c.args.rows.now in
    batch_added (pages.limits (pages.below old)).page c.args.root columns (pages.map old) (pages.map c.put_come.new.pages) (map row_in c.args.rows.now) c.as_slice.result.now c.args.under.now entries
    (c.requires ∙ same_collations c.args.columns.now) c.put_come.result (c.put_come.ensures.put told))
