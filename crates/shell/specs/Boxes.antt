-- Rows in a box (Command Line Shell For SQLite, "Changing Output Formats").
use Rattle.std.specs.Prelude.{ℕ, ◌-◌, ◌/◌, max, List, [], ◌∷◌, ◌++◌, map, replicate, codes}
use Rattle.std.specs.List.{flat_map}
use Rattle.sqlval.specs.declared.value.Value.{Value}
use Rattle.shell.specs.Bytes.{character_count}
use Rattle.shell.specs.Cells.{cell_text, heading_text}

-- ---- widths

abbrev pub name_width : List ℕ → ℕ
name_width name = character_count (heading_text name)

-- widths that a row has room in too
abbrev pub widened : List ℕ → List Value → List ℕ
widened [] row = []
widened (w ∷ ws) [] = []
widened (w ∷ ws) (v ∷ vs) = max (character_count (cell_text v)) w ∷ widened ws vs

abbrev pub all_widened : List ℕ → List (List Value) → List ℕ
all_widened ws [] = ws
all_widened ws (row ∷ rows) = all_widened (widened ws row) rows

-- ---- lines

-- the line between parts of the box
abbrev pub rule : List ℕ → List ℕ
rule ws = 43 ∷ flat_map (λ w. codes "--" ++ replicate w 45 ++ 43 ∷ []) ws ++ 10 ∷ []

-- a text at the left of a width
abbrev pub left_cell : ℕ → List ℕ → List ℕ
left_cell most text = 32 ∷ text ++ replicate (most - character_count text) 32 ++ codes " |"

-- a text in the middle of a width; an odd space comes after it
abbrev pub middle_cell : ℕ → List ℕ → List ℕ
middle_cell most text =
    let room = most - character_count text in 32 ∷ replicate (room / 2) 32 ++ text ++ replicate (room - room / 2) 32 ++ codes " |"

-- values, each at the left of its column
abbrev pub cells : List ℕ → List Value → List ℕ
cells [] row = []
cells (w ∷ ws) [] = []
cells (w ∷ ws) (v ∷ vs) = left_cell w (cell_text v) ++ cells ws vs

-- names, each in the middle of its column
abbrev pub titles : List ℕ → List (List ℕ) → List ℕ
titles [] names = []
titles (w ∷ ws) [] = []
titles (w ∷ ws) (name ∷ names) = middle_cell w (heading_text name) ++ titles ws names

abbrev pub box_row : List ℕ → List Value → List ℕ
box_row ws row = 124 ∷ cells ws row ++ 10 ∷ []

abbrev pub box_head : List ℕ → List (List ℕ) → List ℕ
box_head ws names = 124 ∷ titles ws names ++ 10 ∷ []

-- ---- the box

abbrev pub box_of : List ℕ → List (List ℕ) → List (List Value) → List ℕ
box_of ws names rows = rule ws ++ box_head ws names ++ rule ws ++ flat_map (box_row ws) rows ++ rule ws

-- names and rows, each column as wide as its widest text
abbrev pub boxed : List (List ℕ) → List (List Value) → List ℕ
boxed names rows = box_of (all_widened (map name_width names) rows) names rows
