use Rattle.std.proofs.Common.{◌≡◌, get_or, true, false, take, rules}
use Rattle.std.specs.List.{list_any}
use Rattle.catalog.specs.Listed.{is_column}
use Rattle.query_names.proofs.FirstColumns.{shown_new, shown_old}
use Rattle.query_names.proofs.checks.first_columns.Goals.{then-not-has_column+in_ok-scope_column+in_ok-push, else-not-has_column}
use Rattle.query_names.proofs.checks.first_columns.Goals as goal

pub columns-preserved : goal.columns-preserved
columns-preserved c =
    let column = c.index-columns-place.result in
    let cs = c.args.columns.now in
    let there : column ≡ get_or cs c.columns.place column = search rules in
    elim c.if-not-has_column.branch [
      | then-not-has_column+in_ok-scope_column+in_ok-push w ↦
          let new : list_any (is_column column.name) (take c.columns.place cs) ≡ false = search rules in
          let more = shown_new cs c.columns.place column c.columns-test.true there new in
          search rules
      | else-not-has_column w ↦
          let old : list_any (is_column column.name) (take c.columns.place cs) ≡ true = search rules in
          let same = shown_old cs c.columns.place column c.columns-test.true there old in
          search rules
    ]
