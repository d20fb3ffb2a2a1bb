-- The statement that puts a row into a table (SQL As Understood By SQLite, "INSERT").
use Rattle.std.specs.Prelude.{ℕ, List, [], ◌∷◌, ◌++◌, codes}
use Rattle.sqlval.specs.declared.value.Value.{Value}
use Rattle.shell.specs.Cells.{sql_literal}
use Rattle.shell.specs.Fields.{with_marks}
use Rattle.shell.specs.Names.{name_text}

-- values as literals with commas between
abbrev pub values_text : List Value → List ℕ
values_text row = with_marks 44 sql_literal row

unfoldable pub insert_head : List ℕ → List ℕ
insert_head table = codes "INSERT INTO " ++ name_text table ++ codes " VALUES("

-- the INSERT of a row, as a line
abbrev pub insert_text : List ℕ → List Value → List ℕ
insert_text table row = insert_head table ++ values_text row ++ codes ");" ++ 10 ∷ []
