-- What is read of a page that says something.
use Rattle.std.specs.Prelude.{◌≡◌, ◌≤ℤ◌, ℕ, suc, ℤ, List, [], ◌∷◌, length, map, Option, Some, None, Result, Ok, Err, int_lt, if◌then◌else◌, ⊤}
use Rattle.sqlval.specs.declared.fault.Fault.{Fault}
use Rattle.tree_page.specs.Node.{Local, Node, Rows, Keys, Entries, Between}
use Rattle.tree_page.specs.declared.items.Kind.{Kind}
use Rattle.tree_page.specs.declared.items.Kind.TheVariants.{TableLeaf, TableInterior, IndexLeaf, IndexInterior}
use Rattle.tree_page.specs.declared.items.Local.{Local as Held}
use Rattle.tree_page.specs.declared.items.Row.{Row}
use Rattle.tree_page.specs.declared.items.Key.{Key}
use Rattle.tree_page.specs.declared.items.Between.{Between as Child}

-- the bytes of a page, and the offset where the tree's header begins
pub record Place : Type 0 where
  pub bytes : List ℕ
  pub start : ℕ

-- the call answered this, seen by `view`
abbrev pub Answers : {X Y : Type 0} → (X → Y) → Result X Fault → Y → Type 0
Answers view (Ok x) y = view x ≡ y
Answers view (Err fault) y = ⊥

-- how many items the page has, its last child not counted
abbrev pub count_of : Node → ℕ
count_of (Rows rows) = length rows
count_of (Keys kids last) = length kids
count_of (Entries entries) = length entries
count_of (Between kids last) = length kids

-- the last child of an interior page
abbrev pub last_of : Node → Option ℕ
last_of (Rows rows) = None
last_of (Keys kids last) = Some last
last_of (Entries entries) = None
last_of (Between kids last) = Some last

-- the rowids of a table's leaf, and the keys of its interior page
abbrev pub numbers_of : Node → Option (List ℤ)
numbers_of (Rows rows) = Some (map (λ row. row.0) rows)
numbers_of (Keys kids last) = Some (map (λ kid. kid.1) kids)
numbers_of (Entries entries) = None
numbers_of (Between kids last) = None

-- none is less than the one before it
abbrev pub NeverFall : List ℤ → Type 0
NeverFall [] = ⊤
NeverFall (a ∷ []) = ⊤
NeverFall (a ∷ b ∷ numbers) = (a ≤ℤ b) × NeverFall (b ∷ numbers)

-- how many at the front are less than this
abbrev pub below : ℤ → List ℤ → ℕ
below rowid [] = 0
below rowid (number ∷ numbers) = if int_lt number rowid then suc (below rowid numbers) else 0

-- ---- as values of the code

-- the type of a page of this kind
abbrev pub type_of : Kind → ℕ
type_of TableLeaf = 13
type_of TableInterior = 5
type_of IndexLeaf = 10
type_of IndexInterior = 2

abbrev pub local_of : Held → Local
local_of held = record { size = held.size; bytes = held.bytes.now }

abbrev pub row_of : Row → ℤ × Local
row_of row = (row.rowid, local_of row.payload)

abbrev pub key_of : Key → ℕ × ℤ
key_of key = (key.child, key.rowid)

abbrev pub between_of : Child → ℕ × Local
between_of between = (between.child, local_of between.entry)
