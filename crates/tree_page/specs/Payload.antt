-- How much of a payload lies in its cell, and how much on overflow pages (Database File Format, "B-tree Pages" and 1.7 "Cell
-- Payload Overflow Pages").
use Rattle.std.specs.Prelude.{◌+◌, ◌-◌, ◌*◌, ◌/◌, ◌%◌, ℕ, nat_le, if◌then◌else◌}

-- the longest payload that lies whole in a table leaf's cell (X of a table leaf)
abbrev pub table_most : ℕ → ℕ
table_most usable = usable - 35

-- the longest payload that lies whole in an index page's cell (X of an index page)
abbrev pub index_most : ℕ → ℕ
index_most usable = (usable - 12) * 64 / 255 - 23

-- the least part of a longer payload that lies in its cell (M)
abbrev pub least : ℕ → ℕ
least usable = (usable - 12) * 32 / 255 - 23

-- the part that leaves only full overflow pages (K)
abbrev pub fitted : ℕ → ℕ → ℕ
fitted usable size = least usable + (size - least usable) % (usable - 4)

-- how many bytes of a payload of so many lie in its cell, where at most `most` may
abbrev pub local_size : ℕ → ℕ → ℕ → ℕ
local_size usable most size =
    if nat_le size most then size else (if nat_le (fitted usable size) most then fitted usable size else least usable)

-- how many overflow pages the others take
abbrev pub overflow_count : ℕ → ℕ → ℕ → ℕ
overflow_count usable most size = (size - local_size usable most size + (usable - 5)) / (usable - 4)

-- how many bytes of a cell are for a payload of so many: those that lie there, and the number of the first overflow page, where
-- there is one
abbrev pub held_size : ℕ → ℕ → ℕ → ℕ
held_size usable most size = if nat_le size most then size else local_size usable most size + 4
