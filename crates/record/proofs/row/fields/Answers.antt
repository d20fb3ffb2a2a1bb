use Rattle.std.proofs.Common.{map}
use Rattle.std.proofs.lemmas.List.{map_push}
use Rattle.sqlval.specs.Fields.{value_of}
use Rattle.record.proofs.ColumnLemmas.{column_shorter, columns_go_on}
use Rattle.record.proofs.row.fields.Goals as goal

pub columns-smaller : goal.columns-smaller
columns-smaller c =
    column_shorter c.columns.types_left.now c.columns.bodies_left.now (value_of c.in_ok-field.field) c.in_ok-field.types_after.now c.in_ok-field.bodies_after.now c.in_ok-field.ensures

pub columns-preserved : goal.columns-preserved
columns-preserved c =
    rw (c.in_ok-push.ensures.ok, map_push value_of c.columns.found.items c.in_ok-field.field) (columns_go_on (map value_of c.columns.found.items) (value_of c.in_ok-field.field) c.columns.types_left.now c.columns.bodies_left.now c.in_ok-field.types_after.now c.in_ok-field.bodies_after.now _ c.in_ok-field.ensures c.columns.invariant)
