-- What counts make of a list of items, in the forms that trees take.
use Rattle.std.specs.Prelude.{◌+◌, ℕ, List, [], ◌∷◌, ◌++◌, take, drop}

-- what stands in each part, where `up` items go to the page above after each part but the last
abbrev pub parts_of : {A : Type 0} → ℕ → List ℕ → List A → List (List A)
parts_of up [] items = items ∷ []
parts_of up (count ∷ counts) items = take count items ∷ parts_of up counts (drop (count + up) items)

-- with one more in front
abbrev pub put_first : {X Y : Type 0} → X → List X × Y → List X × Y
put_first x more = (x ∷ more.0, more.1)

-- the parts of a list of parts with keys, and the last part
abbrev pub pieces : {A K : Type 0} → List (List A × K) → List A → List (List A)
pieces [] last = last ∷ []
pieces (part ∷ parts) last = part.0 ∷ pieces parts last

-- ---- rows of a table: nothing goes up, and the part itself tells the key after it

-- the parts of rows, each with its key, and the last part
abbrev pub row_parts : {A K : Type 0} → (List A → K) → List ℕ → List A → List (List A × K) × List A
row_parts key [] rows = ([], rows)
row_parts key (count ∷ counts) rows = put_first (take count rows, key (take count rows)) (row_parts key counts (drop count rows))

-- the lists of all children, one after the other
abbrev pub fan : {T K X : Type 0} → (T → List X) → List (T × K) → T → List X
fan f [] last = f last
fan f (kid ∷ kids) last = f kid.0 ++ fan f kids last

-- ---- entries of an index: the one after a part goes up

-- The items before a cut, with the one after it; if there is none, all are the last part.
abbrev pub with_key : {A : Type 0} → List A → List A → List A → (List A → List (List A × A) × List A) → List (List A × A) × List A
with_key whole front [] more = ([], whole)
with_key whole front (item ∷ rest) more = put_first (front, item) (more rest)

-- the parts of entries, each with the entry that goes up after it, and the last part
abbrev pub entry_parts : {A : Type 0} → List ℕ → List A → List (List A × A) × List A
entry_parts [] items = ([], items)
entry_parts (count ∷ counts) items = with_key items (take count items) (drop count items) (λ rest. entry_parts counts rest)

-- the parts with what stands between them, in one list
abbrev pub between : {A : Type 0} → List (List A × A) → List A → List A
between [] last = last
between (part ∷ parts) last = part.0 ++ part.1 ∷ between parts last

-- ---- interior pages: the child of the cell that goes up is the last child of its part

-- children with keys, and the last child
abbrev pub Side : Type 0 → Type 0 → Type 0
Side T K = List (T × K) × T

-- the children of a page after these
abbrev pub behind : {T K : Type 0} → List (T × K) → Side T K → Side T K
behind kids side = (kids ++ side.0, side.1)

-- the children of several pages as those of one: the last child of each takes the key after its page
abbrev pub joined : {T K : Type 0} → List (Side T K × K) → Side T K → Side T K
joined [] last = last
joined (part ∷ parts) last = behind (part.0.0 ++ (part.0.1, part.1) ∷ []) (joined parts last)

-- each part with the child that goes up as its last one, and the key that goes up
abbrev pub sides_of : {T K : Type 0} → List (List (T × K) × (T × K)) → List (Side T K × K)
sides_of [] = []
sides_of (part ∷ parts) = ((part.0, part.1.0), part.1.1) ∷ sides_of parts

-- the parts of children with keys, each with the key that goes up after it, and the last part
abbrev pub side_parts : {T K : Type 0} → List ℕ → Side T K → List (Side T K × K) × Side T K
side_parts counts side = (sides_of (entry_parts counts side.0).0, ((entry_parts counts side.0).1, side.1))

-- the children with keys of each part
abbrev pub side_pieces : {T K : Type 0} → List (Side T K × K) → Side T K → List (List (T × K))
side_pieces [] last = last.0 ∷ []
side_pieces (part ∷ parts) last = part.0.0 ∷ side_pieces parts last

-- the parts, and the last part, without the keys that go up
abbrev pub all_sides : {T K : Type 0} → List (Side T K × K) → Side T K → List (Side T K)
all_sides [] last = last ∷ []
all_sides (part ∷ parts) last = part.0 ∷ all_sides parts last
