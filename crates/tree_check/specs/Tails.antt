-- Payloads that go on over overflow pages.
use Rattle.std.specs.Prelude.{◌≡◌, ◌≤◌, ◌<◌, ◌-◌, ◌^◌, ℕ, ℤ, Bool, List, [], ◌∷◌, ◌++◌, length, ⊤, MatchResult, Option, Some, None, Result, Ok, Err, Vec}
use Rattle.std.specs.declared.alloc.Global.{Global}
use Rattle.std.specs.Int.{w32, to_be_bytes}
use Rattle.sqlval.specs.declared.fault.Fault.{Fault}
use Rattle.sqlval.specs.declared.fault.Fault.TheVariants.{Memory}
use Rattle.sqlval.specs.Faults.{IsOutside}
use Rattle.pages.specs.Map.{PageMap, page_at, Has}
use Rattle.tree_page.specs.Node.{Local}
use Rattle.tree_page.specs.Payload.{table_most, index_most, local_size}
use Rattle.tree_overflow.specs.Chains.{IsChain, IsPayload, next_of}
use Rattle.tree_check.specs.Exact.{Checks, alone}
use Rattle.tree_check.specs.Marks.{Marks, AreUnmarked}
use Rattle.tree_check.specs.declared.chains.Tail.{Tail}

-- bytes, and the pages of their chain
pub record Chain : Type 0 where
  pub bytes : List ℕ
  pub pages : List ℕ

-- The chain begins with the first page of the tail, and has as many bytes.
pub record IsChainFrom (map : PageMap) (size first left : ℕ) (chain : Chain) : Type 0 where
  pub is : IsChain map size chain.bytes chain.pages
  pub first_is : next_of chain.pages ≡ first
  pub long : length chain.bytes ≡ left

-- the chain is that of a tail
abbrev pub IsTailOn : PageMap → ℕ → Tail → Chain → Type 0
IsTailOn map size tail chain = IsChainFrom map size tail.first tail.size chain

-- ---- tails of cells

-- A payload lies whole in its cell, where at most so many bytes may.
pub record IsShort (usable most : ℕ) (local : Local) : Type 0 where
  pub fits : local.size ≤ most
  pub whole : length local.bytes ≡ local.size

-- A payload begins in its cell, and goes on over a chain of overflow pages.
pub record IsLong (usable most : ℕ) (local : Local) (tail : Tail) : Type 0 where
  pub long : most < local.size
  pub near : tail.first < 2 ^ 32
  pub here : List ℕ
  pub parts : local.bytes ≡ here ++ to_be_bytes w32 tail.first
  pub here_is : length here ≡ local_size usable most local.size
  pub left : tail.size ≡ local.size - local_size usable most local.size

-- what goes on of a payload: nothing, or one tail
abbrev pub IsTail : ℕ → ℕ → Local → List Tail → Type 0
IsTail usable most local [] = IsShort usable most local
IsTail usable most local (tail ∷ []) = IsLong usable most local tail
IsTail usable most local (tail ∷ more ∷ tails) = ⊥

-- These tails are those of the rows, in order.
abbrev pub AreTails : ℕ → List (ℤ × Local) → List Tail → Type 0
AreTails usable [] tails = tails ≡ []
AreTails usable (row ∷ rows) tails =
    (first : List Tail) × (rest : List Tail) × (tails ≡ first ++ rest) × IsTail usable (table_most usable) row.1 first × AreTails usable rows rest

-- the tail of a payload stands behind others; or memory was short
abbrev pub AddsTail : ℕ → ℕ → Local → List Tail → List Tail → Result ⊤ Fault → Type 0
AddsTail usable most local old new result =
    MatchResult result (λ done. (tails : List Tail) × (new ≡ old ++ tails) × IsTail usable most local tails) (λ fault. fault ≡ Memory)

-- ---- payloads

-- the bytes of a payload: those of a copy or, where there is none, those that lie in its cell
abbrev pub payload_in : List ℕ → Option (Vec ℕ Global) → List ℕ
payload_in held None = held
payload_in held (Some copy) = copy.items

-- A cell tells how long a payload is, and begins it; it goes on over these pages.
pub record IsCellOf (map : PageMap) (size most : ℕ) (said : Local) (payload pages : List ℕ) : Type 0 where
  pub long : said.size ≡ length payload
  pub is : IsPayload map size most said.bytes payload pages

-- a payload of an index's entry, and the pages over which it goes on
abbrev pub IsEntryOf : PageMap → ℕ → Local → Chain → Type 0
IsEntryOf map size said whole = IsCellOf map size (index_most size) said whole.bytes whole.pages

-- A check of the payload of an index's entry, as `Checks` is. Where it passes, it answers the payload.
abbrev pub ChecksPayload : {X : Type 0} → (X → List ℕ) → PageMap → ℕ → Local → List Bool → List Bool → Result X Fault → Type 0
ChecksPayload view map size said old new (Ok x) =
    Checks (IsEntryOf map size said) (λ whole. whole.pages) old new (Ok tt) × ((whole : Chain) → IsEntryOf map size said whole → view x ≡ whole.bytes)
ChecksPayload view map size said old new (Err fault) =
    (whole : Chain) → IsEntryOf map size said whole → AreUnmarked old whole.pages → IsOutside fault

-- ---- one page of a chain

-- The page is an overflow page: the next one, and room for bytes.
pub record IsLinked (map : PageMap) (size page next : ℕ) : Type 0 where
  pub has : Has map page
  pub behind : 1 < page
  pub page_near : page < 2 ^ 32
  pub near : next < 2 ^ 32
  pub rest : List ℕ
  pub parts : page_at map page ≡ to_be_bytes w32 next ++ rest

-- The page was marked, and tells the next one; or it is none, or is marked, or memory was short, or a disk's call failed.
abbrev pub ChecksLink : PageMap → ℕ → ℕ → List Bool → List Bool → Result ℕ Fault → Type 0
ChecksLink map size page old new (Ok next) = IsLinked map size page next × Marks old new (alone page)
ChecksLink map size page old new (Err fault) = Has map page → 1 < page → AreUnmarked old (alone page) → IsOutside fault
