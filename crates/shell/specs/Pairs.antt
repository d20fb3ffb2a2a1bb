-- Rows as lines of a name and a value (Command Line Shell For SQLite, "Changing Output Formats").
use Rattle.std.specs.Prelude.{ℕ, ◌-◌, max, List, [], ◌∷◌, ◌++◌, replicate, codes}
use Rattle.std.specs.List.{flat_map}
use Rattle.sqlval.specs.declared.value.Value.{Value}
use Rattle.shell.specs.Bytes.{character_count}
use Rattle.shell.specs.Cells.{plain}

-- the width of the longest name, at least so much
abbrev pub widest : ℕ → List (List ℕ) → ℕ
widest most [] = most
widest most (name ∷ names) = widest (max most (character_count name)) names

-- a name, after the spaces that it leaves of a width
abbrev pub right : ℕ → List ℕ → List ℕ
right most name = replicate (most - character_count name) 32 ++ name

-- a name and a value as a line
abbrev pub named_value : ℕ → List ℕ → Value → List ℕ
named_value most name v = right most name ++ codes " = " ++ plain v ++ 10 ∷ []

-- a line for each name and the value beside it
abbrev pub named_values : ℕ → List (List ℕ) → List Value → List ℕ
named_values most [] values = []
named_values most (name ∷ names) [] = []
named_values most (name ∷ names) (v ∷ values) = named_value most name v ++ named_values most names values

-- rows, with an empty line between two
abbrev pub paired : List (List ℕ) → List (List Value) → List ℕ
paired names [] = []
paired names (row ∷ rows) =
    named_values (widest 5 names) names row ++ flat_map (λ next. 10 ∷ named_values (widest 5 names) names next) rows
