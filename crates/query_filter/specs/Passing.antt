-- Whether WHERE keeps a row.
use Rattle.std.specs.Prelude.{Bool, true, false, Option, Some, None, Ok, unwrap_or}
use Rattle.sqlval.specs.Refusals.{Answer, ◌then◌}
use Rattle.query_terms.specs.Terms.{Term}
use Rattle.query_terms.specs.Values.{Environment, truth, value}

-- whether a condition is true
abbrev pub told : Answer (Option Bool) → Answer Bool
told a = a then λ t. Ok (unwrap_or t false)

-- whether WHERE keeps what is seen
abbrev pub passing : Option Term → Environment → Answer Bool
passing None env = Ok true
passing (Some t) env = told (value t env then truth)
