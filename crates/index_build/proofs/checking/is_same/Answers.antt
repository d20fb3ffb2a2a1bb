use Rattle.sqlval.specs.Fields.{value_of}
use Rattle.index_build.proofs.Comparing.{tells_one}
use Rattle.index_build.proofs.checking.is_same.Goals as goal

pub returns : goal.returns
returns c = tells_one (value_of c.args.a) (value_of c.args.b) c.compare_fields.result c.is_eq.result c.compare_fields.ensures c.is_eq.ensures
