-- What bytes are a table leaf of which cells (Database File Format, "B-tree Pages").
use Rattle.std.specs.Prelude.{◌≡◌, ◌≤◌, ◌<◌, ◌+◌, ◌*◌, ◌^◌, ℕ, ℤ, List, [], ◌∷◌, ◌++◌, length, ⊤}
use Rattle.std.specs.List.{flat_map}
use Rattle.std.specs.Int.{w16, w64, to_be_bytes, cast_signed}
use Rattle.record.specs.Varint.{IsVarint}
use Rattle.tree_page.specs.Cells.{Span, pointer, AreApart}
use Rattle.tree_leaf.specs.declared.cell.Cell.{Cell}

-- a row of a table: its number, and the bytes of its record
pub record Entry : Type 0 where
  pub rowid : ℤ
  pub payload : List ℕ

-- the row that a cell is
abbrev pub entry_of : Cell → Entry
entry_of cell = record { rowid = cell.rowid; payload = cell.payload.now }

-- A cell of this row stands there: the payload's length, the row's number in two's complement of 64 bits, and the payload,
-- which is whole where at most 35 bytes less than the page (Database File Format, "B-tree Pages", table leaf cells).
pub record IsCell (page : List ℕ) (span : Span) (entry : Entry) : Type 0 where
  pub before : List ℕ
  pub size : List ℕ
  pub rowid : List ℕ
  pub after : List ℕ
  pub number : ℕ
  pub parts : page ≡ before ++ (size ++ (rowid ++ (entry.payload ++ after)))
  pub from_is : span.from ≡ length before
  pub to_is : span.to + length after ≡ length page
  pub size_is : IsVarint size (length entry.payload)
  pub rowid_is : IsVarint rowid number
  pub signed : entry.rowid ≡ cast_signed w64 number
  pub whole : length entry.payload + 35 ≤ length page
  pub near : span.from < 2 ^ 16

-- the cells of these rows stand there, in order
abbrev pub AreCells : List ℕ → List Span → List Entry → Type 0
AreCells page [] [] = ⊤
AreCells page [] (entry ∷ entries) = ⊥
AreCells page (span ∷ spans) [] = ⊥
AreCells page (span ∷ spans) (entry ∷ entries) = IsCell page span entry × AreCells page spans entries

-- The type 13, the first freeblock, the number of cells, the start of the cells and the number of fragmented bytes
-- (Database File Format, "B-tree Pages", the page header).
abbrev pub leaf_header : List ℕ → ℕ → List ℕ → ℕ → List ℕ
leaf_header freeblock count content fragments = 13 ∷ freeblock ++ (to_be_bytes w16 count ++ (content ++ fragments ∷ []))

-- everything from the page's start up to the end of the pointers
abbrev pub front_span : ℕ → List Entry → Span
front_span start entries = record { from = 0; to = start + 8 + 2 * length entries }

-- The page is a table leaf of these rows whose header begins at `start`: the header, the pointers, and cells that overlap
-- neither each other nor what stands before them. Freeblocks, fragments and the start of the cells may be any.
pub record IsTableLeaf (page : List ℕ) (start : ℕ) (entries : List Entry) : Type 0 where
  pub before : List ℕ
  pub freeblock : List ℕ
  pub content : List ℕ
  pub fragments : ℕ
  pub spans : List Span
  pub rest : List ℕ
  pub parts : page ≡ before ++ (leaf_header freeblock (length entries) content fragments ++ (flat_map pointer spans ++ rest))
  pub start_is : length before ≡ start
  pub freeblock_is : length freeblock ≡ 2
  pub content_is : length content ≡ 2
  pub few : length entries < 2 ^ 16
  pub cells : AreCells page spans entries
  pub apart : AreApart (front_span start entries ∷ []) spans
