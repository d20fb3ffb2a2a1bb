use Rattle.std.proofs.Common.{rules, arith}
use Rattle.sqlval.specs.Fields.{value_of}
use Rattle.index_build.proofs.RowPlaces.{not_within, tells_there}
use Rattle.index_build.proofs.checking.has_rowid.Goals as goal

pub returns-then-place-rows : goal.returns-then-place-rows
returns-then-place-rows c = not_within c.args.rows.now (value_of c.args.rowid) c.args.place (omega (arith, c.if-place-rows.true))

pub returns : goal.returns
returns c =
    tells_there c.args.rows.now (value_of c.args.rowid) c.args.place c.is_same.result (omega (arith, c.if-place-rows.false)) c.index-rows-place.result c.index-rows-place.result (value_of c.rowid_field.result) (search rules) c.rowid_field.ensures c.is_same.ensures
