-- The text of rows in each mode (Command Line Shell For SQLite, "Changing Output Formats").
use Rattle.std.specs.Prelude.{ℕ, Bool, List, [], ◌∷◌}
use Rattle.sqlval.specs.declared.value.Value.{Value}
use Rattle.shell.specs.Boxes.{boxed}
use Rattle.shell.specs.Fields.{separated}
use Rattle.shell.specs.Pairs.{paired}
use Rattle.shell.specs.declared.fields.Style.TheVariants as style
use Rattle.shell.specs.declared.output.Mode.{Mode}
use Rattle.shell.specs.declared.output.Mode.TheVariants as mode

abbrev pub some_rows_text : Mode → Bool → List (List ℕ) → List (List Value) → List ℕ
some_rows_text mode.List headers names rows = separated style.Plain headers names rows
some_rows_text mode.Csv headers names rows = separated style.Csv headers names rows
some_rows_text mode.Table headers names rows = boxed names rows
some_rows_text mode.Line headers names rows = paired names rows
some_rows_text mode.Quote headers names rows = separated style.Quoted headers names rows

-- the text of rows, with the names of their columns; nothing of no rows
abbrev pub rows_text : Mode → Bool → List (List ℕ) → List (List Value) → List ℕ
rows_text m headers names [] = []
rows_text m headers names (row ∷ rows) = some_rows_text m headers names (row ∷ rows)
