use Rattle.sqlval.specs.Fields.{value_of}
use Rattle.query_terms.specs.Rows.{datum, seen}
use Rattle.query_answer.proofs.Checking.{argument_checked}
use Rattle.query_answer.proofs.arguments.check_argument.Goals as goal

pub returns-in_ok-value-in_default : goal.returns-in_ok-value-in_default
returns-in_ok-value-in_default c =
    argument_checked c.args.aggregate c.args.argument.now (seen c.args.env) (datum c.in_ok-value-in_default.value) (value_of c.as_field.result) c.check_value.result
    c.in_default.not-CountAll c.in_ok-value-in_default.ensures c.as_field.ensures c.check_value.ensures
