-- Statements that are read once, and run with values (SQL As Understood By SQLite, "Parameters").
use Rattle.std.specs.Prelude.{◌≡◌, ◌≤◌, ◌⊎◌, ℕ, true, List, [], length, Some}
use Rattle.disk.specs.declared.device.Disk.{Ghosts}
use Rattle.session.specs.Machine.{Reply, Refused}
use Rattle.session.specs.Representation.{Steps}
use Rattle.sql_bound.specs.Bound.{bound_statement}
use Rattle.sql_bound.specs.Greatest.{greatest_parameter}
use Rattle.sql_grammar.specs.Statements.{is_statement_within}
use Rattle.sql_grammar.specs.Texts.{IsStatementText}
use Rattle.sql_syntax.specs.declared.statement.Statement.{Statement}
use Rattle.sqlval.specs.Refusals.{Memory}
use Rattle.sqlval.specs.declared.value.Value.{Value}
use Rattle.engine.specs.declared.opening.Engine.{Engine}
use Rattle.engine.specs.declared.prepared.Prepared.{Prepared}

-- what was read
abbrev pub statement_in : Prepared → Statement
statement_in prepared = prepared.statement

-- how many values it takes
abbrev pub parameters_in : Prepared → ℕ
parameters_in prepared = prepared.count

-- a query or a change of rows: values can be put into it
abbrev pub TakesValues : Statement → Type 0
TakesValues statement = (bound : Statement) × (bound_statement [] statement ≡ Some bound)

-- The text is this query or change, within the limits, and it takes as many values as its greatest place says.
pub record IsPrepared (text : List ℕ) (prepared : Prepared) : Type 0 where
  pub is : IsStatementText text (statement_in prepared)
  pub within : is_statement_within (statement_in prepared) ≡ true
  pub short : length text ≤ 65536
  pub places : parameters_in prepared ≡ greatest_parameter (statement_in prepared)

module _ {D : Type 0} {g : Ghosts D} where
  -- The reply is that to the statement with these values in their places; or memory was short, and nothing has changed.
  abbrev pub StepsBound : Engine D g → ℕ → Statement → List Value → Reply → Engine D g → Type 0
  StepsBound old connection statement values reply new =
      (bound : Statement) → bound_statement values statement ≡ Some bound
      → (reply ≡ Refused Memory) × (new ≡ old) ⊎ Steps old.connections connection bound reply new.connections
