-- Reading a page from left to right, as far as it is there.
use Rattle.std.specs.Prelude.{◌≡◌, ◌<◌, ◌+◌, ◌-◌, ◌*◌, ℕ, ℤ, List, [], ◌∷◌, length, take, drop, slice_index_or, Option, Some, None, Result, Ok, ◌==◌, nat_lt, if◌then◌else◌}
use Rattle.std.specs.Int.{w16, w32, w64, from_be_bytes, cast_signed}
use Rattle.sqlval.specs.declared.fault.Fault.{Fault}
use Rattle.record.specs.Varint.{varint_at}
use Rattle.tree_page.specs.Payload.{table_most, index_most, held_size}
use Rattle.tree_page.specs.Node.{Local, Node, IsNode}
use Rattle.tree_page.specs.Reading.{Place, numbers_of}
use Rattle.tree_page.specs.declared.header.Header.{Header}
use Rattle.tree_page.specs.declared.items.Kind.{Kind}
use Rattle.tree_page.specs.declared.items.Kind.TheVariants.{TableLeaf, TableInterior, IndexLeaf, IndexInterior}

-- a step, and what goes on from what it gave
infixl 10 ◌>>=◌
abbrev pub ◌>>=◌ : {A B : Type 0} → Option A → (A → Option B) → Option B
None >>= f = None
(Some x) >>= f = f x

-- the bytes from an offset on
unfoldable pub bytes_from : ℕ → List ℕ → Option (List ℕ)
bytes_from offset bytes = if nat_lt (length bytes) offset then None else Some (drop offset bytes)

-- the number in two bytes
abbrev pub two_bytes : ℕ → ℕ → ℕ
two_bytes high low = from_be_bytes w16 (high ∷ low ∷ [])

-- the number in the first two bytes
unfoldable pub leading_pair : List ℕ → Option ℕ
leading_pair (high ∷ low ∷ rest) = Some (two_bytes high low)
leading_pair bytes = None

-- the number in the first four bytes, and the bytes after it
unfoldable pub leading_child : List ℕ → Option (ℕ × List ℕ)
leading_child (a ∷ b ∷ c ∷ d ∷ rest) = Some (from_be_bytes w32 (a ∷ b ∷ c ∷ d ∷ []), rest)
leading_child bytes = None

-- what was read, without the bytes after it
abbrev pub item_of : {X : Type 0} → Option (X × List ℕ) → Option X
item_of found = found >>= λ x. Some x.0

-- the bytes after what was read
abbrev pub rest_of : {X : Type 0} → Option (X × List ℕ) → Option (List ℕ)
rest_of found = found >>= λ x. Some x.1

-- ---- the header

-- a header of the code: its kind, and how many cells it counts
abbrev pub header_parts : Header → Kind × ℕ
header_parts header = (header.kind, header.len)

-- the kind of a page of this type
unfoldable pub kind_of_type : ℕ → Option Kind
kind_of_type byte =
    if byte == 13 then Some TableLeaf
    else (if byte == 5 then Some TableInterior else (if byte == 10 then Some IndexLeaf else (if byte == 2 then Some IndexInterior else None)))

-- how many bytes the last child's number takes
unfoldable pub right_size : Kind → ℕ
right_size TableLeaf = 0
right_size TableInterior = 4
right_size IndexLeaf = 0
right_size IndexInterior = 4

-- the kind of a page, and how many cells it has, where the bytes after the header have room for their pointers
unfoldable pub node_header : List ℕ → Option (Kind × ℕ)
node_header (byte ∷ free_high ∷ free_low ∷ high ∷ low ∷ content_high ∷ content_low ∷ fragments ∷ rest) = do
  kind ← kind_of_type byte
  if nat_lt (length rest) (right_size kind + 2 * two_bytes high low) then None else Some (kind, two_bytes high low)
node_header bytes = None

-- the same of the page whose header begins at an offset
abbrev pub header_on : List ℕ → ℕ → Option (Kind × ℕ)
header_on page start = bytes_from start page >>= node_header

-- the last child's number of an interior page
unfoldable pub last_on : List ℕ → ℕ → Kind → Option ℕ
last_on page start kind =
    if right_size kind == 0 then None else bytes_from start page >>= λ node. bytes_from 8 node >>= λ rest. item_of (leading_child rest)

-- the bytes from the pointer to a cell on
abbrev pub pointer_from : List ℕ → ℕ → Kind → ℕ → Option (List ℕ)
pointer_from page start kind index = bytes_from start page >>= λ node. bytes_from (8 + right_size kind + 2 * index) node

-- the page from a cell on
unfoldable pub tail_on : List ℕ → ℕ → Kind × ℕ → ℕ → Option (List ℕ)
tail_on page start header index =
    if nat_lt index header.1 then (pointer_from page start header.0 index >>= leading_pair >>= λ offset. bytes_from offset page) else None

-- ---- cells at the front of bytes, with the bytes after them

-- what a cell has of a payload of so many bytes, of which at most `most` may lie there
unfoldable pub leading_local : ℕ → ℕ → ℕ → List ℕ → Option (Local × List ℕ)
leading_local usable most size bytes =
    if nat_lt (length bytes) (held_size usable most size) then None
    else Some (record { size = size; bytes = take (held_size usable most size) bytes }, drop (held_size usable most size) bytes)

-- a row: the payload's length, the rowid, the payload
unfoldable pub leading_row : ℕ → List ℕ → Option ((ℤ × Local) × List ℕ)
leading_row usable bytes = do
  size ← varint_at bytes
  rowid ← varint_at size.1
  payload ← leading_local usable (table_most usable) size.0 rowid.1
  Some ((cast_signed w64 rowid.0, payload.0), payload.1)

-- a child and its key
unfoldable pub leading_key : List ℕ → Option ((ℕ × ℤ) × List ℕ)
leading_key bytes = do
  child ← leading_child bytes
  key ← varint_at child.1
  Some ((child.0, cast_signed w64 key.0), key.1)

-- an entry: the payload's length, the payload
unfoldable pub leading_entry : ℕ → List ℕ → Option (Local × List ℕ)
leading_entry usable bytes = do
  size ← varint_at bytes
  leading_local usable (index_most usable) size.0 size.1

-- a child and the entry after it
unfoldable pub leading_between : ℕ → List ℕ → Option ((ℕ × Local) × List ℕ)
leading_between usable bytes = do
  child ← leading_child bytes
  entry ← leading_entry usable child.1
  Some ((child.0, entry.0), entry.1)

-- the bytes after the cell of a page of this kind
unfoldable pub after_cell : Kind → ℕ → List ℕ → Option (List ℕ)
after_cell TableLeaf usable bytes = rest_of (leading_row usable bytes)
after_cell TableInterior usable bytes = rest_of (leading_key bytes)
after_cell IndexLeaf usable bytes = rest_of (leading_entry usable bytes)
after_cell IndexInterior usable bytes = rest_of (leading_between usable bytes)

-- ---- the cells of a page whose header begins at an offset

-- what is read of a cell, given how long the page is
abbrev pub item_on : {X : Type 0} → (ℕ → List ℕ → Option (X × List ℕ)) → List ℕ → ℕ → Kind × ℕ → ℕ → Option X
item_on reader page start header index = tail_on page start header index >>= λ tail. item_of (reader (length page) tail)

-- the bytes of a cell
abbrev pub cell_on : List ℕ → ℕ → Kind × ℕ → ℕ → Option (List ℕ)
cell_on page start header index =
    tail_on page start header index >>= λ tail. after_cell header.0 (length page) tail >>= λ rest. Some (take (length tail - length rest) tail)

-- the rowid of a row, whatever lies after it
unfoldable pub leading_rowid : List ℕ → Option ℤ
leading_rowid bytes = do
  size ← varint_at bytes
  rowid ← varint_at size.1
  Some (cast_signed w64 rowid.0)

-- the rowid of a row, or the key of a child
unfoldable pub number_on : Kind → List ℕ → ℕ → Kind × ℕ → ℕ → Option ℤ
number_on TableLeaf page start header index = tail_on page start header index >>= leading_rowid
number_on TableInterior page start header index = item_on (λ usable. leading_key) page start header index >>= λ kid. Some kid.1
number_on IndexLeaf page start header index = None
number_on IndexInterior page start header index = None

-- where a page of a table says something, this is the rowid or the key at a place
abbrev pub IsNumberAt : Place → ℕ → Result ℤ Fault → Type 0
IsNumberAt page index number =
    (node : Node) (numbers : List ℤ) (d : ℤ) → IsNode page.bytes page.start node → numbers_of node ≡ Some numbers → index < length numbers
    → number ≡ Ok (slice_index_or numbers index d)
