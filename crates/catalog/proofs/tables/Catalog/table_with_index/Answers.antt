use Rattle.std.proofs.Common.{◌∙◌, ap}
use Rattle.std.specs.Prelude.{Some, option_map}
use Rattle.catalog.specs.Listed.{has_index, table_with_index}
use Rattle.catalog.proofs.Sharing.{handle_value, shared_found}
use Rattle.catalog.proofs.tables.Catalog.table_with_index.Goals as goal

pub returns-in-Some : goal.returns-in-Some
returns-in-Some c =
    ap Some c.deref.ensures ∙ ap (option_map handle_value) c.in-Some.ensures ∙ shared_found (has_index c.args.name.now) c.as_slice.result.now
    ∙ ap (table_with_index c.args.name.now) c.as_slice.ensures

pub returns-in-None : goal.returns-in-None
returns-in-None c =
    ap (option_map handle_value) c.in-None.ensures ∙ shared_found (has_index c.args.name.now) c.as_slice.result.now
    ∙ ap (table_with_index c.args.name.now) c.as_slice.ensures
