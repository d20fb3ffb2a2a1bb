use Rattle.std.proofs.lemmas.Int.{to_z-of_z}
use Rattle.std.proofs.Common.{◌≡◌, rules, ◌∙◌, ap, sym, SFits, w64, refl}
use Rattle.sql_syntax.specs.declared.create.NewObject.TheVariants as new
use Rattle.query_names.specs.Bound.{is_twice_named}
use Rattle.query_names.specs.Creating.{checks_known, table_keys_known}
use Rattle.catalog.specs.declared.tables.Table.{Table}
use Rattle.db_load.specs.Loading.{bare}
use Rattle.db_load.proofs.SchemaTables.{checks_premise, columns_differ, columns_premise, keys_of, keys_premise, passed_on, table_is, text_creates}
use Rattle.db_load.proofs.schema.table_made.Goals as goal

pub returns-clause-found : goal.returns-clause-found
returns-clause-found c = λ is.
    let d = c.in_ok-definition.definition.now in
    let columns = c.in_ok-columns.ensures.found in
    let found = c.in_ok-definition.ensures.found in
    let fits : SFits w64 c.args.row.now.rowid = search rules in
    let names = c.in_ok-is_of_row.ensures.found in (
      record {
        text = is.text;
        text_is = is.text_is;
        definition = d;
        creates = text_creates c.args.row.now c.args.statement.now found.0 (new.Table d) is found.1 found.2;
        names = names;
        makes = record {
          free = names.free;
          once = columns.0;
          name_is = c.in_ok-name.ensures;
          columns = columns.1;
          checks = ap (checks_known d) (sym c.as_slice.ensures) ∙ c.in_ok-checks.ensures.found;
          keys = ap (table_keys_known d) (sym c.as_slice-2.ensures)
              ∙ c.in_ok-keys.ensures.found (ap is_twice_named c.as_slice-2.ensures ∙ columns_differ d.columns c.in_ok-columns.columns columns.0 columns.1);
        };
        root_is = refl;
        rowid_is = to_z-of_z w64 c.args.row.now.rowid fits;
      },
      c.new.ensures,
    )

pub returns-in_err-keys-clause-tells : goal.returns-in_err-keys-clause-tells
returns-in_err-keys-clause-tells c = λ table tells made is of.
    (let row = c.args.row.now in
    let d = c.in_ok-definition.definition.now in
    let same : d ≡ tells.definition = c.in_ok-definition.ensures.tells made tells.definition is of in
    let twice = columns_premise table row tells d same in
    let columns = c.in_ok-columns.ensures.tells table.columns twice.0 twice.1 in
    let keys = keys_premise table row tells d c.as_slice-2.result.now same (c.as_slice-2.ensures ∙ columns) in
    passed_on (λ (found : Table). found ≡ bare table) c.from_residual-in_err-keys.result c.in_err-keys.field-0.0 c.from_residual-in_err-keys.ensures.1 (c.in_err-keys.ensures.tells (keys_of table row tells) keys.0 keys.1))

pub returns-clause-tells : goal.returns-clause-tells
returns-clause-tells c = λ table tells made is of.
    (let row = c.args.row.now in
    let fits : SFits w64 row.rowid = search rules in
    let d = c.in_ok-definition.definition.now in
    let same : d ≡ tells.definition = c.in_ok-definition.ensures.tells made tells.definition is of in
    let twice = columns_premise table row tells d same in
    let columns = c.in_ok-columns.ensures.tells table.columns twice.0 twice.1 in
    let keys = keys_premise table row tells d c.as_slice-2.result.now same (c.as_slice-2.ensures ∙ columns) in
    table_is table row tells d _ c.in_ok-keys.keys same c.in_ok-name.ensures columns
    (c.in_ok-checks.ensures.tells table.checks (checks_premise table row tells d c.as_slice.result.now same (c.as_slice.ensures ∙ columns)))
    (c.in_ok-keys.ensures.tells (keys_of table row tells) keys.0 keys.1) refl refl c.new.ensures refl (to_z-of_z w64 row.rowid fits))
