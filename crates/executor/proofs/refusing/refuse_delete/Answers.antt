use Rattle.std.proofs.Common.{refl}
use Rattle.sql_syntax.specs.declared.change.Change.TheVariants as kind
use Rattle.catalog.specs.Listed.{listed_in}
use Rattle.executor.proofs.RefusedViews.{refused_as_named, refused_as_view}
use Rattle.executor.proofs.refusing.refuse_delete.Goals as goal

pub returns-in-Ok-clause-refused : goal.returns-in-Ok-clause-refused
returns-in-Ok-clause-refused c rows_at db is still named =
    let change = c.args.delete.now in
    refused_as_view c.only_tables_set_nothing_off.ensures.binds c.listed_tables_are_found.ensures.finds rows_at (listed_in c.args.catalog.now) db is (kind.Delete change) still c.views_are_read_only.ensures change.table refl named
    (c.in-Ok.ensures.known rows_at db is.lists)

pub returns-in-Err-clause-refused : goal.returns-in-Err-clause-refused
returns-in-Err-clause-refused c rows_at db is still named =
    let change = c.args.delete.now in
    refused_as_named c.only_tables_set_nothing_off.ensures.binds c.listed_tables_are_found.ensures.finds rows_at (listed_in c.args.catalog.now) db is (kind.Delete change) still c.in-Err.fault
    (c.in-Err.ensures.known rows_at db is.lists)
