-- Where the values of an INSERT stand in a new row (SQL As Understood By SQLite, "INSERT").
use Rattle.std.specs.Prelude.{ℕ, List, [], zip}
use Rattle.sqlval.specs.declared.value.Value.{Value}
use Rattle.catalog.specs.Listed.{with_rows}
use Rattle.catalog.specs.declared.tables.Table.{Table}
use Rattle.row_change.specs.Constraints.{default_values, set_values}

-- a new row of the table with these values at the columns of their places, and their defaults elsewhere
abbrev pub row_with : Table → List ℕ → List Value → List Value
row_with t at vs = set_values (default_values (with_rows t [])) (zip at vs)
