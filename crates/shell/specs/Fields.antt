-- Rows as fields with a mark between them (Command Line Shell For SQLite, "Changing Output Formats").
use Rattle.std.specs.Prelude.{ℕ, Bool, List, [], ◌∷◌, ◌++◌, if◌then◌else◌}
use Rattle.std.specs.List.{flat_map}
use Rattle.smallvec.specs.SmallVec.{SmallVec}
use Rattle.sqlval.specs.declared.value.Value.{Value}
use Rattle.shell.specs.Cells.{plain, csv_field, csv_text, sql_literal, in_quotes}
use Rattle.shell.specs.declared.fields.Style.{Style}
use Rattle.shell.specs.declared.fields.Style.TheVariants as style

-- the values of a row
abbrev pub row_values : SmallVec Value → List Value
row_values row = row.items

-- a value as a field
abbrev pub field : Style → Value → List ℕ
field style.Plain v = plain v
field style.Csv v = csv_field v
field style.Quoted v = sql_literal v

-- a column's name as a field
abbrev pub title : Style → List ℕ → List ℕ
title style.Plain name = name
title style.Csv name = csv_text name
title style.Quoted name = in_quotes 39 name

-- a bar, or a comma
abbrev pub field_mark : Style → ℕ
field_mark style.Plain = 124
field_mark style.Csv = 44
field_mark style.Quoted = 44

abbrev pub line_end : Style → List ℕ
line_end style.Plain = 10 ∷ []
line_end style.Csv = 13 ∷ 10 ∷ []
line_end style.Quoted = 10 ∷ []

-- texts with a mark between them
abbrev pub with_marks : {X : Type 0} → ℕ → (X → List ℕ) → List X → List ℕ
with_marks mark text [] = []
with_marks mark text (x ∷ xs) = text x ++ flat_map (λ next. mark ∷ text next) xs

-- a row as a line
abbrev pub row_fields : Style → List Value → List ℕ
row_fields s row = with_marks (field_mark s) (field s) row ++ line_end s

-- the names of columns as a line
abbrev pub title_fields : Style → List (List ℕ) → List ℕ
title_fields s names = with_marks (field_mark s) (title s) names ++ line_end s

-- a line for each row, after one of names where they are asked for
abbrev pub separated : Style → Bool → List (List ℕ) → List (List Value) → List ℕ
separated s headers names rows = (if headers then title_fields s names else []) ++ flat_map (row_fields s) rows
