use Rattle.std.proofs.Common.{subst, ◌∙◌}
use Rattle.index_entries.specs.Keeping.{columns_in, row_in}
use Rattle.index_entries.proofs.Gone.{takes_one}
use Rattle.index_entries.proofs.keeping.take_row.Goals as goal

pub returns-clause-taken : goal.returns-clause-taken
returns-clause-taken g c = λ told.
    (let pages = g.P.Pages in
    let old = c.args.pages.now in
    takes_one (pages.limits (pages.below old)).page c.args.root (columns_in c.args.columns.now) (pages.map old) (pages.map c.take_entry.new.pages) (row_in c.args.row.now) c.take_entry.result
    (c.take_entry.ensures.taken told))
