use Rattle.std.proofs.Common.{rules, ◌≡◌, false, map, List}
use Rattle.catalog.specs.Listed.{is_name_of, is_reserved, key_columns, listed_in}
use Rattle.catalog.specs.declared.tables.IndexColumn.{IndexColumn}
use Rattle.query_names.specs.Checked.{good}
use Rattle.query_names.specs.Creating.{checks_known, table_keys_known}
use Rattle.executor.proofs.Creations.{columns_alone, refused_by, why_checks, why_keys}
use Rattle.executor.proofs.creating.table_of.Goals as goal

pub returns-in_err-checks-clause-why : goal.returns-in_err-checks-clause-why
returns-in_err-checks-clause-why c =
    let d = c.args.definition.now in
    let columns = c.in_ok-columns.columns in
    let names = rw (c.as_slice.ensures) at c.in_err-checks.ensures.names in
    refused_by _ c.from_residual-in_err-checks.result c.in_err-checks.field-0.0 c.from_residual-in_err-checks.ensures.1
    (why_checks (listed_in c.args.catalog.now) d columns c.in_err-checks.field-0.0 c.in_ok-columns.ensures.columns names)

pub returns-in_err-keys-clause-why : goal.returns-in_err-keys-clause-why
returns-in_err-keys-clause-why c =
    let d = c.args.definition.now in
    let columns = c.in_ok-columns.columns in
    let same = c.in_ok-columns.ensures.columns in
    let names = rw (c.as_slice-2.ensures) at c.in_err-keys.ensures.names in
    refused_by _ c.from_residual-in_err-keys.result c.in_err-keys.field-0.0 c.from_residual-in_err-keys.ensures.1
    (why_keys (listed_in c.args.catalog.now) d columns c.in_err-keys.field-0.0 same (names (columns_alone d columns same c.in_ok-columns.ensures.once)))

pub returns-clause-made : goal.returns-clause-made
returns-clause-made c =
    let d = c.args.definition.now in
    let columns = c.in_ok-columns.columns in
    let same = c.in_ok-columns.ensures.columns in
    let names = rw (c.as_slice-2.ensures) at c.in_ok-keys.ensures.names in
    let free : is_reserved d.name ≡ false = search rules in
    let new : is_name_of (listed_in c.args.catalog.now) d.name ≡ false = search rules in
    let checks : checks_known d columns ≡ good c.in_ok-checks.checks = rw (c.as_slice.ensures) at c.in_ok-checks.ensures.names in
    record {
      makes = record {
        free = free;
        once = c.in_ok-columns.ensures.once;
        name_is = c.in_ok-copy-2.ensures;
        columns = same;
        checks = checks;
        keys = names (columns_alone d columns same c.in_ok-columns.ensures.once);
      };
      new = new;
      bare = c.new.ensures;
    }
