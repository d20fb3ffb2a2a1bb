-- What holds of the names of parameters, and of statements without parameters or with enough values.
use Rattle.std.specs.Prelude.{◌≡◌, ◌≤◌, ℕ, List, ◌∷◌, length, Some}
use Rattle.std.specs.Fmt.{decimal}
use Rattle.sqlval.specs.declared.value.Value.{Value}
use Rattle.sql_syntax.specs.declared.statement.Statement.{Statement}
use Rattle.sql_bound.specs.Bound.{bound_statement, parameter_of}
use Rattle.sql_bound.specs.Greatest.{greatest_parameter}

-- the name of this parameter: `?` and its number in decimal, from 1 to 32766
abbrev pub NamesParameter : List ℕ → ℕ → Type 0
NamesParameter name n = (name ≡ 63 ∷ decimal n) × (1 ≤ n) × (n ≤ 32766)

-- each such name is its parameter's, and no other name is a parameter's
abbrev pub ParametersAreDecimal : Type 0
ParametersAreDecimal = (name : List ℕ) (n : ℕ) → (parameter_of name ≡ Some n → NamesParameter name n) × (NamesParameter name n → parameter_of name ≡ Some n)

-- with a value for each number up to the greatest no parameter is left
abbrev pub LeavesNoParameter : Type 0
LeavesNoParameter = (values : List Value) (statement copy : Statement) → greatest_parameter statement ≤ length values
    → bound_statement values statement ≡ Some copy → greatest_parameter copy ≡ 0

-- without parameters the copy is the same
abbrev pub CopiesWithoutParameters : Type 0
CopiesWithoutParameters = (values : List Value) (statement copy : Statement) → greatest_parameter statement ≡ 0
    → bound_statement values statement ≡ Some copy → copy ≡ statement
