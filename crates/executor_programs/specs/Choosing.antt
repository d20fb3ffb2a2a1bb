-- The rows that WHERE keeps beside NEW and OLD (SQL As Understood By SQLite, "DELETE", "UPDATE", "CREATE TRIGGER").
use Rattle.std.specs.Prelude.{List, [], ◌∷◌, ◌++◌, flat_map, map, Option, Ok, if◌then◌else◌}
use Rattle.sqlval.specs.Refusals.{Answer, ◌then◌, all_answers}
use Rattle.query_terms.specs.Terms.{Term}
use Rattle.query_terms.specs.Values.{Row}
use Rattle.executor_programs.specs.Outer.{is_true}

-- the row, where the condition is true of it beside these
abbrev pub row_chosen : List Row → Option Term → Row → Answer (List Row)
row_chosen beside condition r = is_true condition (beside ++ r ∷ []) then λ test. Ok (if test then r ∷ [] else [])

-- the rows for which the condition is true, in order, or the first refusal
abbrev pub rows_chosen : List Row → Option Term → List Row → Answer (List Row)
rows_chosen beside condition rows = all_answers (map (row_chosen beside condition) rows) then λ found. Ok (flat_map (λ r. r) found)
