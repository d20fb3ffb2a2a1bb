-- The columns that SET names, among those of a table, and what it gives them (SQL As Understood By SQLite, "UPDATE").
use Rattle.std.specs.Prelude.{ℕ, false, List, map, unwrap_or}
use Rattle.sql_syntax.specs.declared.change.Assignment.{Assignment}
use Rattle.catalog.specs.Database.{Name}
use Rattle.catalog.specs.Listed.{place_named}
use Rattle.catalog.specs.declared.tables.Column.{Column}
use Rattle.query_names.specs.Checked.{Checked, known_all, known_map}
use Rattle.query_names.specs.Expressions.{resolve}
use Rattle.query_names.specs.declared.scope.ScopeSource.{ScopeSource}
use Rattle.query_terms.specs.Terms.{Term}

-- the names of the columns
abbrev pub columns_set : List Assignment → List Name
columns_set assignments = map (λ a. a.column) assignments

-- the place of a column with what its expression stands for
abbrev pub set_known : List Column → List ScopeSource → Assignment → Checked (ℕ × Term)
set_known columns scope a = known_map (λ t. (unwrap_or (place_named a.column columns) 0, t)) (resolve false scope a.value)

-- each with its place
abbrev pub sets_known : List Column → List ScopeSource → List Assignment → Checked (List (ℕ × Term))
sets_known columns scope assignments = known_all (map (set_known columns scope) assignments)
