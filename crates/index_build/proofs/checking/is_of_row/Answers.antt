use Rattle.std.proofs.Common.{rules, arith}
use Rattle.sqlval.specs.Fields.{value_of}
use Rattle.index_build.proofs.RowSearches.{as_there, none_there, not_long}
use Rattle.index_build.proofs.checking.is_of_row.Goals as goal

pub returns-then-len-columns : goal.returns-then-len-columns
returns-then-len-columns c = λ rises. not_long c.args.columns.now c.args.rows.now c.args.entry.now (search rules)

pub returns-then-place-rows : goal.returns-then-place-rows
returns-then-place-rows c = λ rises.
    none_there c.args.columns.now c.args.rows.now c.args.entry.now (value_of c.column.result) c.place_of-place.result c.column.ensures c.place_of-place.ensures rises (omega (arith, c.if-place-rows.true))

pub returns : goal.returns
returns c = λ rises.
    as_there c.args.columns.now c.args.rows.now c.args.entry.now (value_of c.column.result) c.place_of-place.result c.column.ensures c.place_of-place.ensures rises c.is_entry_of.result c.index-rows-place.result
    c.index-rows-place.result (omega (arith, c.if-place-rows.false)) (search rules) c.is_entry_of.ensures
