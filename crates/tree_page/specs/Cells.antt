-- The cells of a page of a tree, as bytes (Database File Format, "B-tree Pages").
use Rattle.std.specs.Prelude.{◌≡◌, ◌⊎◌, ◌≤◌, ◌<◌, ◌^◌, ◌+◌, ◌*◌, ℕ, List, [], ◌∷◌, ◌++◌, length, ⊤}
use Rattle.std.specs.List.{AllByRecursion, flat_map}
use Rattle.std.specs.Int.{w16, to_be_bytes}

-- the bytes of a page from one offset up to another
pub record Span : Type 0 where
  pub from : ℕ
  pub to : ℕ

-- the pointer to a cell: the offset where it begins, big-endian
abbrev pub pointer : Span → List ℕ
pointer span = to_be_bytes w16 span.from

-- no byte is in both
abbrev pub IsApart : Span → Span → Type 0
IsApart a b = (a.to ≤ b.from) ⊎ (b.to ≤ a.from)

-- each shares no byte with those before it
abbrev pub AreApart : List Span → List Span → Type 0
AreApart before [] = ⊤
AreApart before (span ∷ spans) = AllByRecursion (IsApart span) before × AreApart (span ∷ before) spans

-- two lists are of one length, and this holds of the items at each place
abbrev pub Pairwise : {A B : Type 0} → (A → B → Type 0) → List A → List B → Type 0
Pairwise P [] [] = ⊤
Pairwise P [] (y ∷ ys) = ⊥
Pairwise P (x ∷ xs) [] = ⊥
Pairwise P (x ∷ xs) (y ∷ ys) = P x y × Pairwise P xs ys

-- these bytes stand there
pub record IsAt (page : List ℕ) (span : Span) (bytes : List ℕ) : Type 0 where
  pub before : List ℕ
  pub after : List ℕ
  pub parts : page ≡ before ++ (bytes ++ after)
  pub from_is : span.from ≡ length before
  pub to_is : span.to ≡ length before + length bytes
  pub near : span.from < 2 ^ 16

-- The type, the first freeblock, the number of cells, the start of the cells and the number of fragmented bytes.
abbrev pub page_header : ℕ → List ℕ → ℕ → List ℕ → ℕ → List ℕ
page_header kind freeblock count content fragments = kind ∷ freeblock ++ (to_be_bytes w16 count ++ (content ++ fragments ∷ []))

-- everything from the page's start up to the end of the pointers, where so many bytes stand between header and pointers
abbrev pub front : ℕ → ℕ → ℕ → Span
front start right count = record { from = 0; to = start + 8 + right + 2 * count }

-- The page is of this type and has these cells, in order: a header that begins at `start`, the right child where the page is
-- an interior one, the pointers, and the cells, which overlap neither each other nor what stands before them. Freeblocks,
-- fragments and the start of the cells may be any (Database File Format, "B-tree Pages", the page header).
pub record IsTreePage (kind : ℕ) (page : List ℕ) (start : ℕ) (right : List ℕ) (cells : List (List ℕ)) : Type 0 where
  pub before : List ℕ
  pub freeblock : List ℕ
  pub content : List ℕ
  pub fragments : ℕ
  pub spans : List Span
  pub rest : List ℕ
  pub parts : page ≡ before ++ (page_header kind freeblock (length cells) content fragments ++ (right ++ (flat_map pointer spans ++ rest)))
  pub start_is : length before ≡ start
  pub freeblock_is : length freeblock ≡ 2
  pub content_is : length content ≡ 2
  pub few : length cells < 2 ^ 16
  pub cells_are : Pairwise (IsAt page) spans cells
  pub apart : AreApart (front start (length right) (length cells) ∷ []) spans
