-- A row of a view that is updated: what its triggers see (SQL As Understood By SQLite, "CREATE TRIGGER", "INSTEAD OF triggers").
use Rattle.std.specs.Prelude.{ℕ, List, Some, Ok}
use Rattle.sqlval.specs.Refusals.{Answer, ◌then◌}
use Rattle.query_terms.specs.Terms.{Term}
use Rattle.query_terms.specs.Values.{Row}
use Rattle.row_change.specs.Changes.{Outer}
use Rattle.trigger.specs.Effects.{view_row}
use Rattle.executor_programs.specs.Begun.{both_rows}
use Rattle.executor_programs.specs.Rows.{set_beside}

-- the row with what SET gives, and as it was
abbrev pub updated : Outer → List (ℕ × Term) → Row → Answer (List (List Row))
updated outer sets r = set_beside outer sets r then λ vs. Ok (both_rows (Some (view_row vs)) (Some r))
