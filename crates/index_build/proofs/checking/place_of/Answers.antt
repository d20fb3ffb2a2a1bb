use Rattle.std.proofs.Common.{rules, of_calls}
use Rattle.std.proofs.lemmas.Fn.{always_returns_same}
use Rattle.sqlval.specs.Fields.{value_of}
use Rattle.index_build.proofs.RowPlaces.{found_there, is_less, seen_there}
use Rattle.index_build.proofs.checking.place_of.Goals as goal

pub returns-then-has_rowid : goal.returns-then-has_rowid
returns-then-has_rowid c = seen_there c.args.rows.now (value_of c.args.rowid) c.unwrap_or-near.result (c.has_rowid.ensures.yes (search rules))

pub returns : goal.returns
returns c =
    found_there c.args.rows.now (value_of c.args.rowid) c.partition_point.result
    (c.partition_point.ensures.partitioned (is_less c.args.rows.now (value_of c.args.rowid)) (always_returns_same _ _ _ (λ a r f k. search (rules, of_calls))))
