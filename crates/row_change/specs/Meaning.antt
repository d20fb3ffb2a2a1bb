-- The rows of a table that a statement means (SQL As Understood By SQLite, "DELETE", "UPDATE").
use Rattle.std.specs.Prelude.{◌≡◌, List, map, Option}
use Rattle.query_terms.specs.Terms.{Term}
use Rattle.query_terms.specs.Values.{Row}
use Rattle.row_scan.specs.Rows.{TableRow}
use Rattle.row_scan.specs.Sources.{as_source}
use Rattle.row_change.specs.Choosing.{chosen_or_all}

-- Of all rows it's enough to read some: the condition chooses the same of them, or is refused as for all (The SQLite Query Optimizer
-- Overview, "WHERE Clause Analysis").
pub record AreEnough (condition : Option Term) (found : List Row) (all : List TableRow) : Type 0 where
  pub some : List TableRow
  pub are : found ≡ map as_source some
  pub same : chosen_or_all condition some ≡ chosen_or_all condition all
