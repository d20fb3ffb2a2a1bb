use Rattle.sqlval.specs.declared.fault.Misuse.TheVariants.{Autoindex}
use Rattle.catalog.specs.Listed.{listed_in}
use Rattle.executor.proofs.Answering.{handed_on}
use Rattle.executor.proofs.Droppings.{no_index}
use Rattle.executor.proofs.IndexDroppings.{refused_automatic}
use Rattle.executor.proofs.dropping.drop_index.Goals as goal

pub returns-in_err-table-clause-made : goal.returns-in_err-table-clause-made
returns-in_err-table-clause-made g c told db held =
    handed_on _ _ c.from_residual.result c.in_err-table.field-0.0 c.from_residual.ensures.1
    (no_index c.listed_tables_are_found.ensures.finds _ _ (listed_in c.args.catalog.now) db held c.args.name.now c.listed_tables_are_found.ensures.names c.in_err-table.field-0.0 c.in_err-table.ensures.refused)

pub returns-then-index-clause-made : goal.returns-then-index-clause-made
returns-then-index-clause-made g c told db held =
    refused_automatic _ _ (listed_in c.args.catalog.now) db held c.args.name.now c.in_ok-table.table.now c.in_ok-table.index.now c.in_ok-table.ensures.found.0 c.in_ok-table.ensures.found.1 c.if-index.true Autoindex
