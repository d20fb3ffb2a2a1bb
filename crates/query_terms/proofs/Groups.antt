-- The values of a term at the rows of a group, one row after another.
use Rattle.std.specs.Prelude.{List, ◌++◌, Ok}
use Rattle.sqlval.specs.Refusals.{Answer, ◌then◌}
use Rattle.sqlval.specs.declared.value.Value.{Value}

-- the values that are found, and those of the rows that are left
abbrev pub onto : List Value → Answer (List Value) → Answer (List Value)
onto found rest = rest then λ vs. Ok (found ++ vs)
