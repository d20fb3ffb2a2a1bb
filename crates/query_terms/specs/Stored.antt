-- The rowid of a row of a source, and its values, one of which the rowid may be (SQL As Understood By SQLite, "ROWIDs and the INTEGER PRIMARY KEY").
use Rattle.std.specs.Prelude.{ℕ, zero, suc, List, [], ◌∷◌, map, ℤ, Option, Some, None}
use Rattle.sqlval.specs.declared.value.Value.{Value}
use Rattle.sqlval.specs.declared.value.Value.TheVariants.{Null, Int}
use Rattle.query_terms.specs.Values.{Row, at_row}
use Rattle.query_terms.specs.declared.tree.Place.{Place}

-- a rowid as a value, NULL where there is none
abbrev pub rowid_value : Option ℤ → Value
rowid_value None = Null
rowid_value (Some rowid) = Int rowid

-- the integer that a value is, if it is one
abbrev pub integer_in : Value → Option ℤ
integer_in (Int rowid) = Some rowid
integer_in _ = None

-- the values with this one at a place; where there are fewer, after as many NULLs as that takes
abbrev pub with_at : ℕ → Value → List Value → List Value
with_at zero value [] = value ∷ []
with_at zero value (other ∷ values) = value ∷ values
with_at (suc place) value [] = Null ∷ with_at place value []
with_at (suc place) value (other ∷ values) = other ∷ with_at place value values

-- the values as they are read, with the rowid at the place of its own column, where there is one
abbrev pub with_own : Option ℕ → Value → List Value → List Value
with_own None rowid values = values
with_own (Some place) rowid values = with_at place rowid values

-- what a view shows of a row, of which it has the values at these places: no rowid, and these values in their order
abbrev pub shown_row : List Place → Row → Row
shown_row places row = record { rowid = Null; values = map (at_row (Some row)) places }
