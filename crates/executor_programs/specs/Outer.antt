-- What a program sees of the row at which its trigger runs, and terms beside it (SQL As Understood By SQLite, "CREATE TRIGGER").
use Rattle.std.specs.Prelude.{◌≡◌, Bool, true, false, List, [], ◌∷◌, length, map, Option, Some, None, Ok, unwrap_or}
use Rattle.sqlval.specs.Refusals.{Answer, ◌then◌}
use Rattle.query_names.specs.Readings.{holds}
use Rattle.query_terms.specs.Terms.{Term}
use Rattle.query_terms.specs.Values.{Row}
use Rattle.query_bind.specs.Named.{AreOuter}
use Rattle.row_change.specs.Changes.{Outer}
use Rattle.executor_programs.specs.declared.outer.OuterRows.{OuterRows}

-- a list of one row
abbrev pub only : Row → List Row
only r = r ∷ []

-- these are NEW and OLD as the program sees them, each with its row
pub record Shows (o : OuterRows) (outer : Outer) : Type 0 where
  pub scope : o.scope.now ≡ outer.scope
  pub rows : o.rows.now ≡ map only outer.rows
  pub known : AreOuter outer.scope
  pub as_many : length outer.scope ≡ length outer.rows

-- whether a condition is true over these rows, or there is none
abbrev pub is_true : Option Term → List Row → Answer Bool
is_true None rows = Ok true
is_true (Some term) rows = holds term rows then λ test. Ok (unwrap_or test false)
