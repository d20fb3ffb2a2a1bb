use Rattle.std.proofs.Common.{◌≡◌, refl}
use Rattle.sql_syntax.specs.declared.create.Create.{Create}
use Rattle.sql_syntax.specs.declared.create.NewObject.TheVariants as new
use Rattle.sql_syntax.specs.declared.statement.Statement.TheVariants as parsed
use Rattle.catalog.specs.declared.tables.Table.{Table}
use Rattle.db_load.specs.Loading.{bare}
use Rattle.db_load.proofs.SchemaTables.{passed_on, within_text}
use Rattle.db_load.proofs.schema.table_of.Goals as goal

pub returns-in_err-statement-clause-tells : goal.returns-in_err-statement-clause-tells
returns-in_err-statement-clause-tells c = λ table tells.
    let made : Create = record { sql = tells.creates.sql; object = new.Table tells.definition } in
    passed_on (λ (found : Table). found ≡ bare table) c.from_residual.result c.in_err-statement.field-0.0 c.from_residual.ensures.1
    (c.in_err-statement.ensures.tells (parsed.Create made) (within_text c.args.row.now tells.text (new.Table tells.definition) tells.text_is tells.creates))

pub returns-clause-tells : goal.returns-clause-tells
returns-clause-tells c = λ table tells.
    let made : Create = record { sql = tells.creates.sql; object = new.Table tells.definition } in
    c.table_made-table.ensures.tells table tells made
    (c.in_ok-statement.ensures.tells (parsed.Create made) (within_text c.args.row.now tells.text (new.Table tells.definition) tells.text_is tells.creates)) refl
