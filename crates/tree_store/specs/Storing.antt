-- Where the pages of a tree are stored, and what the page above gets for them.
use Rattle.std.specs.Prelude.{◌≡◌, ◌⊎◌, ◌≤◌, ◌<◌, ◌^◌, ◌+◌, ℕ, ℤ, Bool, false, true, List, [], ◌∷◌, ◌++◌, length, take, map, ⊤, Result, MatchResult}
use Rattle.std.specs.List.{AllByRecursion, insert}
use Rattle.std.specs.Int.{w32, to_be_bytes}
use Rattle.sqlval.specs.Faults.{IsOutside}
use Rattle.sqlval.specs.declared.fault.Fault.{Fault}
use Rattle.sqlval.specs.declared.fault.Fault.TheVariants.{Full}
use Rattle.pages.specs.Calls.{IsOutsideOrFull}
use Rattle.pages.specs.Counting.{occurs, start_of, IsOnce, Moves}
use Rattle.pages.specs.Map.{PageMap, page_at, with_page, Has}
use Rattle.freelist.specs.Calls.{AreFree, HasFree, KeepsHeader}
use Rattle.tree_page.specs.Cells.{Pairwise, IsTreePage}
use Rattle.tree_page.specs.Reading.{type_of}
use Rattle.tree_page.specs.declared.items.Kind.{Kind}
use Rattle.tree_page.specs.Node.{Local, Node, Rows, IsNode, Say, code_of, right_of}
use Rattle.tree_pack.specs.Building.{right_room}
use Rattle.tree_pack.specs.Parts.{total}
use Rattle.tree_pack.specs.Placing.{IsPlaced}
use Rattle.tree_pack.specs.Packing.{images, divider_bytes}
use Rattle.tree_pack.specs.Rewriting as rewriting
use Rattle.tree_pack.specs.Splicing.{spliced}
use Rattle.tree_pack.specs.declared.spreading.Packed.{Packed}
use Rattle.tree_store.specs.declared.storing.Fan.{Fan}

-- ---- one page

-- A page has these bytes now, and what is used and free is so still.
pub record IsRewritten (old new : PageMap) (size : ℕ) (free : List ℕ) (number : ℕ) (bytes : List ℕ) : Type 0 where
  pub is : new ≡ with_page old number bytes
  pub has : HasFree new size free
  pub moves : Moves old new (number ∷ []) free (number ∷ []) free
  pub header : KeepsHeader old new

-- these bytes can be a page's: as many as a page has, and on page 1 with the database's header
pub record CanStand (map : PageMap) (size number : ℕ) (bytes : List ℕ) : Type 0 where
  pub sized : length bytes ≡ size
  pub front : take (start_of number) bytes ≡ take (start_of number) (page_at map number)

-- Where the page isn't free, it has the bytes then; or memory was short, or a disk's call failed.
abbrev pub Rewrites : PageMap → PageMap → ℕ → ℕ → List ℕ → Result ⊤ Fault → Type 0
Rewrites old new size number bytes result = (free : List ℕ) → AreFree old size free → Has old number → occurs number free ≡ 0
    → CanStand old size number bytes → MatchResult result (λ done. IsRewritten old new size free number bytes) IsOutside

-- At `true` the page says the node with these cells then, and what is used and free is so still; at `false` nothing has changed.
abbrev pub IsPlacedOn : PageMap → PageMap → ℕ → List ℕ → ℕ → List (List ℕ) → Node → Bool → Type 0
IsPlacedOn old new size free number cells node false = new ≡ old
IsPlacedOn old new size free number cells node true =
    (image : List ℕ) × IsPlaced (page_at old number) (start_of number) cells node image × IsRewritten old new size free number image

-- Where a page that isn't free says a node, and its cells with this one more say another of the same type and with the same last child, the page
-- says that one then, or has no room for the cell; or memory was short, or a disk's call failed.
abbrev pub PlacesOn : PageMap → PageMap → ℕ → ℕ → ℕ → List ℕ → Result Bool Fault → Type 0
PlacesOn old new size number place cell result = (free : List ℕ) → AreFree old size free → Has old number → occurs number free ≡ 0
    → (was now : Node) (is : IsNode (page_at old number) (start_of number) was) → size ≤ 2 ^ 16 → place ≤ length is.cells
    → code_of now ≡ code_of was → right_of now ≡ right_of was → Say size (insert is.cells place cell) now
    → MatchResult result (IsPlacedOn old new size free number (insert is.cells place cell) now) IsOutside

-- Where a page that isn't free says a node, and its cells without the one at a place say another of the same type and with the same last child, the
-- page says that one then, and a cell is left on it; or its bytes can't be told as free where they lie; or memory was short, or a disk's call failed.
abbrev pub TakesOff : PageMap → PageMap → ℕ → ℕ → ℕ → Result Bool Fault → Type 0
TakesOff old new size number place result = (free : List ℕ) → AreFree old size free → Has old number → occurs number free ≡ 0
    → (was now : Node) (is : IsNode (page_at old number) (start_of number) was) → 512 ≤ size → size ≤ 2 ^ 16 → place < length is.cells
    → code_of now ≡ code_of was → right_of now ≡ right_of was → Say size (spliced place 1 [] is.cells) now
    → MatchResult result
    (λ taken. IsPlacedOn old new size free number (spliced place 1 [] is.cells) now taken × (taken ≡ true → 2 ≤ length is.cells)) IsOutside

-- At `true` the leaf's row at a place has the payload then, which lies whole in its cell, and what is used and free is so still; at `false` nothing
-- has changed.
abbrev pub IsRewrittenOn : (old new : PageMap) (size : ℕ) (free : List ℕ) (number : ℕ) (said : List (ℤ × Local)) → IsNode (page_at old number) (start_of number) (Rows said) → ℕ → List ℕ → Bool → Type 0
IsRewrittenOn old new size free number said is place payload false = new ≡ old
IsRewrittenOn old new size free number said is place payload true =
    (image : List ℕ) × rewriting.IsRewritten (page_at old number) (start_of number) said is place payload image × IsRewritten old new size free number image

-- Where a page that isn't free is a table's leaf, the row at a place has the payload then, where the one before was as long; or nothing has changed;
-- or memory was short, or a disk's call failed.
abbrev pub RewritesOn : PageMap → PageMap → ℕ → ℕ → ℕ → List ℕ → Result Bool Fault → Type 0
RewritesOn old new size number place payload result = (free : List ℕ) → AreFree old size free → Has old number → occurs number free ≡ 0
    → (said : List (ℤ × Local)) (is : IsNode (page_at old number) (start_of number) (Rows said)) → place < length is.cells
    → MatchResult result (IsRewrittenOn old new size free number said is place payload) IsOutside

-- ---- pages side by side

-- the page of this number, not page 1, has these bytes
pub record IsOn (map : PageMap) (number : ℕ) (bytes : List ℕ) : Type 0 where
  pub has : Has map number
  pub after : 1 < number
  pub near : number < 2 ^ 32
  pub is : page_at map number ≡ bytes

-- the cells of the page above: each number but the last, with what divides its page from the next
abbrev pub cells_over : List ℕ → List (List ℕ) → List (List ℕ)
cells_over [] dividers = []
cells_over (number ∷ numbers) [] = []
cells_over (number ∷ numbers) (divider ∷ dividers) = (to_be_bytes w32 number ++ divider) ∷ cells_over numbers dividers

-- the cells that a fan has
abbrev pub cells_of : Fan → List (List ℕ)
cells_of fan = map (λ cell. cell.items) fan.cells.items

-- the numbers begin as these do, as far as there are both
abbrev pub BeginsAs : List ℕ → List ℕ → Type 0
BeginsAs numbers olds = take (length olds) numbers ≡ take (length numbers) olds

-- Packed pages are stored: on the old pages in order, and on pages that were taken where these are too few. Old pages that are left over are
-- free. The file grows only if no page is free.
pub record AreStored (old new : PageMap) (size : ℕ) (olds free : List ℕ) (packed : Packed) (numbers : List ℕ) : Type 0 where
  pub now_free : List ℕ
  pub on : Pairwise (IsOn new) numbers (images packed)
  pub begins : BeginsAs numbers olds
  pub has : HasFree new size now_free
  pub moves : Moves old new olds free numbers now_free
  pub header : KeepsHeader old new
  pub rule : (length new ≡ length old) ⊎ (now_free ≡ [])

-- The same, with the cells and the last child that the page above gets.
pub record IsStored (old new : PageMap) (size : ℕ) (olds free : List ℕ) (packed : Packed) (fan : Fan) : Type 0 where
  pub fronts : List ℕ
  pub cells_are : cells_of fan ≡ cells_over fronts (divider_bytes packed)
  pub stored : AreStored old new size olds free packed (fronts ++ fan.last ∷ [])

-- these pages can be written: each is there, is not page 1, and is neither free nor another of them
pub record AreOlds (map : PageMap) (free olds : List ℕ) : Type 0 where
  pub there : AllByRecursion (Has map) olds
  pub after : AllByRecursion (λ number. 1 < number) olds
  pub once : IsOnce (olds ++ free)

-- Where the old pages can be written, the packed ones are stored; or memory was short, a disk's call failed, or pages had to be taken and
-- there are as many as there may be.
abbrev pub Stores : PageMap → PageMap → ℕ → List ℕ → Packed → Result Fan Fault → Type 0
Stores old new size olds packed result = (free : List ℕ) → AreFree old size free → AreOlds old free olds
    → AllByRecursion (λ image. length image ≡ size) (images packed)
    → MatchResult result (IsStored old new size olds free packed) (λ fault. IsOutside fault ⊎ ((fault ≡ Full) × (length olds < length (images packed))))

-- ---- a tree's root

-- The root is an interior page over the packed pages, which were taken.
pub record IsLifted (old new : PageMap) (size root : ℕ) (kind : Kind) (free : List ℕ) (packed : Packed) : Type 0 where
  pub fronts : List ℕ
  pub last : ℕ
  pub now_free : List ℕ
  pub has_root : Has new root
  pub root_is : IsTreePage (type_of kind) (page_at new root) (start_of root) (to_be_bytes w32 last) (cells_over fronts (divider_bytes packed))
  pub on : Pairwise (IsOn new) (fronts ++ last ∷ []) (images packed)
  pub has : HasFree new size now_free
  pub moves : Moves old new (root ∷ []) free (root ∷ (fronts ++ last ∷ [])) now_free
  pub header : KeepsHeader old new
  pub rule : (length new ≡ length old) ⊎ (now_free ≡ [])

-- a packed page alone is the root's, and several are below it
abbrev pub IsRooted : PageMap → PageMap → ℕ → ℕ → Kind → List ℕ → Packed → Type 0
IsRooted old new size root kind free packed =
    ((packed.pieces.items ≡ []) × IsRewritten old new size free root packed.last.items)
    ⊎ ((packed.pieces.items ≡ [] → ⊥) × IsLifted old new size root kind free packed)

-- the pages can stand below or at a root: one alone in its place, and several where their dividers fit a page
pub record CanRoot (old : PageMap) (size root : ℕ) (packed : Packed) : Type 0 where
  pub sized : AllByRecursion (λ image. length image ≡ size) (images packed)
  pub front : packed.pieces.items ≡ [] → CanStand old size root packed.last.items
  pub addressed : size ≤ 2 ^ 16
  pub room : start_of root + 12 + total (map (λ divider. length divider + 6) (divider_bytes packed)) ≤ size

-- Where the root isn't free, the packed pages are its tree's top; or memory was short, a disk's call failed, or there are as many pages as
-- there may be.
abbrev pub Roots : PageMap → PageMap → ℕ → ℕ → Kind → Packed → Result ⊤ Fault → Type 0
Roots old new size root kind packed result = (free : List ℕ) → AreFree old size free → Has old root → occurs root free ≡ 0
    → right_room kind ≡ 4 → CanRoot old size root packed
    → MatchResult result (λ done. IsRooted old new size root kind free packed) IsOutsideOrFull
