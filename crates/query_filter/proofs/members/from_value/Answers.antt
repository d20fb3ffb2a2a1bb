use Rattle.std.proofs.Common.{Bool, rules, of_calls}
use Rattle.std.proofs.lemmas.Fn.{always_returns_same}
use Rattle.sqlval.specs.Fields.{value_of}
use Rattle.sqlval.specs.declared.value.Value.{Value}
use Rattle.query_filter.proofs.Halves.{back_is, before}
use Rattle.query_filter.proofs.members.from_value.Goals as goal

pub returns : goal.returns
returns c =
    let p : Value → Bool = before c.args.collation (λ v. v) (value_of c.args.value) in
    back_is p c.args.values.now c.partition_point-start.result (c.partition_point-start.ensures.partitioned p (always_returns_same _ _ _ (λ a r f k. search (rules, of_calls))) c.requires)
