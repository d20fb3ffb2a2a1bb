-- The cells of the format are small.
use Rattle.std.proofs.Common.{◌≡◌, inl, inr, ◌≤◌, ◌<◌, ◌+◌, ◌-◌, ◌^◌, ℕ, ℤ, Bool, true, false, nat_le, if◌then◌else◌, List, [], ◌∷◌, ◌++◌, length, refl, ap, arith}
use Rattle.std.specs.List.{AllByRecursion}
use Rattle.std.specs.Int.{w32, to_be_bytes}
use Rattle.std.proofs.lemmas.Bool.{leb-true}
use Rattle.std.proofs.lemmas.List.{length-append, length-map}
use Rattle.record.specs.Varint.{IsVarint, Ends, marked, base128}
use Rattle.tree_page.specs.Cells.{Pairwise}
use Rattle.tree_page.specs.Node.{Local, Node, Rows, Keys, Entries, Between, IsRowCell, IsKeyCell, IsEntryCell, IsBetweenCell, Say}
use Rattle.tree_page.specs.Payload.{table_most, index_most, least, fitted, held_size}
use Rattle.tree_page.specs.declared.items.Kind.{Kind}
use Rattle.tree_page.specs.declared.items.Kind.TheVariants.{TableLeaf, TableInterior, IndexLeaf, IndexInterior}
use Rattle.tree_pack.specs.Building.{right_room}
use Rattle.tree_pack.specs.Packing.{IsSmall, CanPack, AreOf}
use Rattle.tree_pack.proofs.BuildingLemmas.{AreSome}

-- a varint of any spelling has at most nine bytes
pub varint_len : (bytes : List ℕ) (n : ℕ) → IsVarint bytes n → length bytes ≤ 9
varint_len bytes n is = by_end is.ends
  where
    len : length bytes ≡ length is.high + 1
    len = omega (arith, ap length is.spelled, length-append (marked is.high) (is.last ∷ []), length-map is.high (λ (digit : ℕ). 128 + digit))

    by_end : Ends 8 (length is.high) (base128 is.high) is.last n → length bytes ≤ 9
    by_end (inl short) = let lt = short.0 in omega (arith, lt, len)
    by_end (inr full) = let e = full.0 in omega (arith, e, len)

-- what a cell holds is at most so long, with the number of an overflow page
held_le : (n most size : ℕ) → least n ≤ most → held_size n most size ≤ most + 4
held_le n most size low = by_size (nat_le size most) refl
  where
    by_fit : (b : Bool) → nat_le (fitted n size) most ≡ b → (if nat_le (fitted n size) most then fitted n size else least n) ≤ most
    by_fit true e = rw e (leb-true _ _ e)
    by_fit false e = rw e low

    by_size : (b : Bool) → nat_le size most ≡ b → held_size n most size ≤ most + 4
    by_size true e = rw e (omega (arith, leb-true size most e))
    by_size false e = rw e (omega (arith, by_fit (nat_le (fitted n size) most) refl))

pub row_small : (n : ℕ) (cell : List ℕ) (row : ℤ × Local) → 512 ≤ n → IsRowCell n cell row → IsSmall TableLeaf n cell
row_small n cell row big is =
    omega (
      arith,
      ap length is.parts,
      length-append is.size (is.rowid ++ row.1.bytes),
      length-append is.rowid row.1.bytes,
      varint_len is.size row.1.size is.size_is,
      varint_len is.rowid is.number is.rowid_is,
      is.held,
      held_le n (table_most n) row.1.size (omega arith),
    )

pub key_small : (n start : ℕ) (cell : List ℕ) (kid : ℕ × ℤ) → 512 ≤ n → start ≤ 100 → IsKeyCell cell kid → IsSmall TableInterior (n - start) cell
key_small n start cell kid big near is =
    omega (arith, ap length is.parts, length-append (to_be_bytes w32 kid.0) is.key, child_len kid.0, varint_len is.key is.number is.key_is)
  where
    child_len : (child : ℕ) → length (to_be_bytes w32 child) ≡ 4
    child_len child = refl

pub entry_len : (n : ℕ) (cell : List ℕ) (entry : Local) → 512 ≤ n → IsEntryCell n cell entry → length cell ≤ index_most n + 13
entry_len n cell entry big is =
    omega (arith, ap length is.parts, length-append is.size entry.bytes, varint_len is.size entry.size is.size_is, is.held, held_le n (index_most n) entry.size (omega arith))

pub entry_small : (n : ℕ) (cell : List ℕ) (entry : Local) → 512 ≤ n → IsEntryCell n cell entry → IsSmall IndexLeaf n cell
entry_small n cell entry big is = omega (arith, entry_len n cell entry big is)

pub between_small : (n : ℕ) (cell : List ℕ) (kid : ℕ × Local) → 512 ≤ n → IsBetweenCell n cell kid → IsSmall IndexInterior n cell
between_small n cell kid big is =
    omega (arith, ap length is.parts, length-append (to_be_bytes w32 kid.0) is.rest, child_len kid.0, entry_len n is.rest kid.1 big is.entry)
  where
    child_len : (child : ℕ) → length (to_be_bytes w32 child) ≡ 4
    child_len child = refl

-- what holds of each pair holds of each first
pub all_first : {A B : Type 0} (P : A → B → Type 0) (Q : A → Type 0) → ((x : A) (y : B) → P x y → Q x) → (xs : List A) (ys : List B) → Pairwise P xs ys → AllByRecursion Q xs
all_first P Q go [] ys h = tt
all_first P Q go (x ∷ xs) [] h = absurd h
all_first P Q go (x ∷ xs) (y ∷ ys) h = (go x y h.0, all_first P Q go xs ys h.1)

all_small : (kind : Kind) (n : ℕ) (right : List ℕ) (cells : List (List ℕ)) (node : Node) → 512 ≤ n → AreOf kind n right cells node → AllByRecursion (IsSmall kind n) cells
all_small TableLeaf n right cells (Rows rows) big is = all_first (IsRowCell n) (IsSmall TableLeaf n) (λ cell row h. row_small n cell row big h) cells rows is.say
all_small TableInterior n right cells (Keys kids last) big is = all_first IsKeyCell (IsSmall TableInterior n) (λ cell kid h. let small = key_small n 0 cell kid big (omega arith) h in omega (arith, small)) cells kids is.say.0
all_small IndexLeaf n right cells (Entries entries) big is = all_first (IsEntryCell n) (IsSmall IndexLeaf n) (λ cell entry h. entry_small n cell entry big h) cells entries is.say
all_small IndexInterior n right cells (Between kids last) big is = all_first (IsBetweenCell n) (IsSmall IndexInterior n) (λ cell kid h. between_small n cell kid big h) cells kids is.say.0
all_small kind n right cells node big is = let clash = is.kind_is in absurd (omega (arith, clash))

-- ---- each cell has a byte

-- a varint has a byte
varint_some : (bytes : List ℕ) (n : ℕ) → IsVarint bytes n → 0 < length bytes
varint_some bytes n is = omega (arith, ap length is.spelled, length-append (marked is.high) (is.last ∷ []))

row_some : (n : ℕ) (cell : List ℕ) (row : ℤ × Local) → IsRowCell n cell row → 0 < length cell
row_some n cell row is = omega (arith, ap length is.parts, length-append is.size (is.rowid ++ row.1.bytes), varint_some is.size row.1.size is.size_is)

key_some : (cell : List ℕ) (kid : ℕ × ℤ) → IsKeyCell cell kid → 0 < length cell
key_some cell kid is = omega (arith, ap length is.parts, length-append (to_be_bytes w32 kid.0) is.key, varint_some is.key is.number is.key_is)

entry_some : (n : ℕ) (cell : List ℕ) (entry : Local) → IsEntryCell n cell entry → 0 < length cell
entry_some n cell entry is = omega (arith, ap length is.parts, length-append is.size entry.bytes, varint_some is.size entry.size is.size_is)

between_some : (n : ℕ) (cell : List ℕ) (kid : ℕ × Local) → IsBetweenCell n cell kid → 0 < length cell
between_some n cell kid is = omega (arith, ap length is.parts, length-append (to_be_bytes w32 kid.0) is.rest, entry_some n is.rest kid.1 is.entry)

-- what says something has a byte in each cell
pub say_some : (n : ℕ) (cells : List (List ℕ)) (node : Node) → Say n cells node → AreSome cells
say_some n cells (Rows rows) say = all_first (IsRowCell n) (λ (cell : List ℕ). 0 < length cell) (row_some n) cells rows say
say_some n cells (Keys kids last) say = all_first IsKeyCell (λ (cell : List ℕ). 0 < length cell) key_some cells kids say.0
say_some n cells (Entries entries) say = all_first (IsEntryCell n) (λ (cell : List ℕ). 0 < length cell) (entry_some n) cells entries say
say_some n cells (Between kids last) say = all_first (IsBetweenCell n) (λ (cell : List ℕ). 0 < length cell) (between_some n) cells kids say.0

right_le : (kind : Kind) → right_room kind ≤ 4
right_le TableLeaf = omega arith
right_le TableInterior = omega arith
right_le IndexLeaf = omega arith
right_le IndexInterior = omega arith

-- the cells of a node can be packed
pub node_packs : (kind : Kind) (n start : ℕ) (right : List ℕ) (cells : List (List ℕ)) (node : Node) → 512 ≤ n → n ≤ 2 ^ 16 → start ≤ 100 → AreOf kind n right cells node → CanPack n start kind cells
node_packs kind n start right cells node big near first is =
    record { addressed = near; header = omega (arith, big, first, right_le kind); some = say_some n cells node is.say; small = all_small kind n right cells node big is }
