-- What a page of an index's tree says of its entries, and how they compare with a key.
use Rattle.std.specs.Prelude.{◌≡◌, ◌<◌, ℕ, zero, suc, Bool, false, List, [], ◌∷◌, length, map, slice_index_or, if◌then◌else◌, ⊤, Option, Some, None, Result, MatchResult}
use Rattle.std.specs.List.{AllByRecursion}
use Rattle.std.specs.declared.cmp.Ordering.{Ordering}
use Rattle.sqlval.specs.Faults.{IsOutside}
use Rattle.sqlval.specs.declared.collation.Collation.{Collation}
use Rattle.sqlval.specs.declared.collation.Collation.TheVariants.{Binary}
use Rattle.sqlval.specs.declared.fault.Fault.{Fault}
use Rattle.sqlval.specs.declared.fault.Fault.TheVariants.{Damaged}
use Rattle.sqlval.specs.declared.value.Value.{Value}
use Rattle.pages.specs.Counting.{start_of}
use Rattle.pages.specs.Map.{PageMap, AreWhole, page_at}
use Rattle.tree_page.specs.Cells.{Pairwise}
use Rattle.tree_page.specs.Node.{Local, Node, Rows, Keys, Entries, Between}
use Rattle.tree_page.specs.Reading.{Place}
use Rattle.tree_store.specs.Saying.{Says}
use Rattle.tree_index.specs.Entries.{entry_cmp, is_passed}
use Rattle.tree_index.specs.Tree.{Held, IsHeldAs}

-- the fault with this page's number, where it has none yet
abbrev pub placed : ℕ → Fault → Fault
placed number (Damaged damage zero) = Damaged damage number
placed number fault = fault

-- ---- what a page says

-- a page says entries of an index, or children with entries between them
abbrev pub IsOfIndex : Node → Type 0
IsOfIndex (Rows rows) = ⊥
IsOfIndex (Keys kids last) = ⊥
IsOfIndex (Entries entries) = ⊤
IsOfIndex (Between kids last) = ⊤

-- it says children with entries between them
abbrev pub IsBetween : Node → Type 0
IsBetween (Rows rows) = ⊥
IsBetween (Keys kids last) = ⊥
IsBetween (Entries entries) = ⊥
IsBetween (Between kids last) = ⊤

-- what it says of each entry
abbrev pub locals_of : Node → List Local
locals_of (Rows rows) = []
locals_of (Keys kids last) = []
locals_of (Entries entries) = entries
locals_of (Between kids last) = map (λ kid. kid.1) kids

-- the child at a place, or the last one after all cells
abbrev pub child_at : {K : Type 0} → ℕ → List (ℕ × K) → ℕ → ℕ
child_at place [] last = last
child_at zero (kid ∷ kids) last = kid.0
child_at (suc place) (kid ∷ kids) last = child_at place kids last

-- the child at a place, and none on a leaf
abbrev pub child_of : ℕ → Node → Option ℕ
child_of place (Rows rows) = None
child_of place (Keys kids last) = None
child_of place (Entries entries) = None
child_of place (Between kids last) = Some (child_at place kids last)

-- these are the bytes of the page of this number, and where the tree's part of them begins
abbrev pub IsPageOf : PageMap → ℕ → Place → Type 0
IsPageOf pages number page = (page.bytes ≡ page_at pages number) × (page.start ≡ start_of number)

-- The page of this number says these entries, on a leaf or between children.
pub record HasEntries (map : PageMap) (size number : ℕ) (node : Node) (entries : List Held) : Type 0 where
  pub says : Says map number node
  pub ours : IsOfIndex node
  pub held : Pairwise (IsHeldAs map size) (locals_of node) entries

-- ---- how its entries compare

-- an entry comes before those from a key on, or before those after it
abbrev pub is_before : Bool → List Collation → List Value → Held → Bool
is_before after columns key held = is_passed after (entry_cmp columns key held.entry)

-- an entry is less than a key
abbrev pub is_less : List Collation → List Value → Held → Bool
is_less = is_before false

-- how many at the front are so
abbrev pub front_count : {A : Type 0} → (A → Bool) → List A → ℕ
front_count test [] = 0
front_count test (x ∷ xs) = if test x then suc (front_count test xs) else 0

-- those that are so come before all others
abbrev pub ComeFirst : {A : Type 0} → (A → Bool) → List A → Type 0
ComeFirst test [] = ⊤
ComeFirst test (x ∷ xs) = (test x ≡ false → AllByRecursion (λ y. test y ≡ false) xs) × ComeFirst test xs

-- the collation of the value at a place of an entry, the rowid's after those of the columns
abbrev pub collation_for : ℕ → List Collation → Collation
collation_for place [] = Binary
collation_for zero (collation ∷ columns) = collation
collation_for (suc place) (collation ∷ columns) = collation_for place columns

-- The key was compared with the entry at a place of a page; or memory was short, or a disk's call failed.
abbrev pub ComparesEntry : PageMap → ℕ → ℕ → ℕ → List Collation → List Value → Result Ordering Fault → Type 0
ComparesEntry pages size number place columns key result = (node : Node) (entries : List Held) (d : Held) → AreWhole size pages
    → HasEntries pages size number node entries → place < length entries
    → MatchResult result (λ order. order ≡ entry_cmp columns key (slice_index_or entries place d).entry) IsOutside

-- the entry at a place of a page goes on in no overflow pages
abbrev pub LiesWhole : PageMap → ℕ → ℕ → ℕ → Type 0
LiesWhole pages size number place = (node : Node) (entries : List Held) (d : Held) → HasEntries pages size number node entries → place < length entries
    → (slice_index_or entries place d).pages ≡ []

-- Where the entries that are passed come first, the first place was found whose entry isn't; or memory was short, or a disk's call failed.
abbrev pub FindsPlace : PageMap → ℕ → ℕ → Bool → List Collation → List Value → Result ℕ Fault → Type 0
FindsPlace pages size number after columns key result = (node : Node) (entries : List Held) → AreWhole size pages
    → HasEntries pages size number node entries → ComeFirst (is_before after columns key) entries
    → MatchResult result (λ place. place ≡ front_count (is_before after columns key) entries) IsOutside

-- how many entries a page has was found; or memory was short, or a disk's call failed
abbrev pub CountsEntries : PageMap → ℕ → ℕ → Result ℕ Fault → Type 0
CountsEntries pages size number result = (node : Node) (entries : List Held) → AreWhole size pages → HasEntries pages size number node entries
    → MatchResult result (λ count. count ≡ length entries) IsOutside

-- the child at a place of a page was found, or that it is a leaf; or memory was short, or a disk's call failed
abbrev pub FindsChild : PageMap → ℕ → ℕ → ℕ → Result (Option ℕ) Fault → Type 0
FindsChild pages size number place result = (node : Node) → AreWhole size pages → Says pages number node → IsOfIndex node
    → MatchResult result (λ child. child ≡ child_of place node) IsOutside
