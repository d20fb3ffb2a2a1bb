use Rattle.std.proofs.Common.{[], rules}
use Rattle.catalog.specs.Listed.{listed_in}
use Rattle.query_names.specs.Checked.{known_map}
use Rattle.query_names.specs.Known.{columns_in}
use Rattle.query_names.specs.Views.{look_up}
use Rattle.query_names.proofs.QuietNames.{not_disk}
use Rattle.query_bind.proofs.Chains.{handed_on}
use Rattle.query_bind.proofs.Quiet.{of_names}
use Rattle.query_bind.proofs.ViewColumns.{as_source, source_on, source_refused_on}
use Rattle.query_bind.proofs.changing.bind_source.Goals as goal

pub returns-in_err-found-clause-named : goal.returns-in_err-found-clause-named
returns-in_err-found-clause-named c = λ rows_at db lists.
    handed_on (λ source. source) (known_map (as_source c.args.name.now) (look_up db c.args.name.now)) c.in_err-found.field-0.0 c.from_residual.result c.from_residual.ensures.1
    (source_refused_on c.listed_tables_are_known.ensures 64 rows_at (listed_in c.args.catalog.now) db lists [] c.args.name.now c.in_err-found.field-0.0 c.in_err-found.ensures.named)

pub returns-in_err-found-clause-not_disk : goal.returns-in_err-found-clause-not_disk
returns-in_err-found-clause-not_disk c =
    let h = not_disk (columns_in 64 (listed_in c.args.catalog.now) [] c.args.name.now) c.in_err-found.field-0.0 (of_names 64 (listed_in c.args.catalog.now) [] c.args.name.now) c.in_err-found.ensures.named in
    search rules

pub returns-clause-named : goal.returns-clause-named
returns-clause-named c = λ rows_at db lists.
    source_on c.listed_tables_are_known.ensures 64 rows_at (listed_in c.args.catalog.now) db lists [] c.args.name.now (c.in_ok-found.found.columns, c.in_ok-found.found.has_rowid) c.source_found.result
    c.in_ok-found.ensures.named c.source_found.ensures
