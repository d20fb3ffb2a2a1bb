-- What the calls that write a chain of overflow pages do.
use Rattle.std.specs.Prelude.{◌≡◌, ◌⊎◌, ◌≤◌, ◌<◌, ◌+◌, ◌^◌, ℕ, List, [], ◌∷◌, ◌++◌, length, ⊤, Result, MatchResult}
use Rattle.std.specs.Int.{w32, to_be_bytes}
use Rattle.sqlval.specs.declared.fault.Fault.{Fault}
use Rattle.sqlval.specs.Faults.{IsOutside}
use Rattle.pages.specs.Calls.{IsOutsideOrFull}
use Rattle.pages.specs.Counting.{occurs, Moves}
use Rattle.pages.specs.Map.{PageMap, AreWhole, Has, page_at, with_page}
use Rattle.freelist.specs.Calls.{AreFree, HasFree, KeepsHeader}
use Rattle.tree_overflow.specs.Chains.{IsChain}

-- a page was written, which tells the next page and has these bytes behind
abbrev pub IsPut : PageMap → PageMap → ℕ → ℕ → List ℕ → Type 0
IsPut old new page next bytes = (rest : List ℕ) × (length (to_be_bytes w32 next ++ (bytes ++ rest)) ≡ length (page_at old page))
    × (new ≡ with_page old page (to_be_bytes w32 next ++ (bytes ++ rest)))

-- where there is room for these bytes behind the number of the next page, both were written; or memory was short, or a disk's call failed
abbrev pub PutsLink : PageMap → PageMap → ℕ → List ℕ → ℕ → ℕ → List ℕ → Result ⊤ Fault → Type 0
PutsLink old new usable link page next bytes result = AreWhole usable old → Has old page → length link ≡ usable → 4 + length bytes ≤ usable
    → MatchResult result (λ done. IsPut old new page next bytes) IsOutside

-- Bytes lie on a chain that begins with a page, and whose other pages were taken. The file grew only if no page is free.
pub record IsLaid (old new : PageMap) (usable : ℕ) (free bytes : List ℕ) (page : ℕ) : Type 0 where
  pub others : List ℕ
  pub now_free : List ℕ
  pub is : IsChain new usable bytes (page ∷ others)
  pub has : HasFree new usable now_free
  pub moves : Moves old new (page ∷ []) free (page ∷ others) now_free
  pub header : KeepsHeader old new
  pub rule : (length new ≡ length old) ⊎ (now_free ≡ [])

-- where a page was taken, bytes lie on a chain that begins with it; or memory was short, a disk's call failed, or the file is full
abbrev pub Lays : PageMap → PageMap → ℕ → ℕ → List ℕ → Result ⊤ Fault → Type 0
Lays old new usable page bytes result = (free : List ℕ) → AreFree old usable free → 1 < page → page < 2 ^ 32 → Has old page
    → occurs page free ≡ 0 → 1 ≤ length bytes
    → MatchResult result (λ done. IsLaid old new usable free bytes page) IsOutsideOrFull

-- Bytes lie on a chain of pages that were taken, which begins with this page. The file grew only if no page is free.
pub record IsLaidAnew (old new : PageMap) (usable : ℕ) (free bytes : List ℕ) (first : ℕ) : Type 0 where
  pub others : List ℕ
  pub now_free : List ℕ
  pub is : IsChain new usable bytes (first ∷ others)
  pub has : HasFree new usable now_free
  pub moves : Moves old new [] free (first ∷ others) now_free
  pub header : KeepsHeader old new
  pub rule : (length new ≡ length old) ⊎ (now_free ≡ [])

-- where these pages are free, bytes lie on a chain of pages that were taken; or memory was short, a disk's call failed, or the file is full
abbrev pub LaysAnew : PageMap → PageMap → ℕ → List ℕ → Result ℕ Fault → Type 0
LaysAnew old new usable bytes result = (free : List ℕ) → AreFree old usable free → 1 ≤ length bytes
    → MatchResult result (IsLaidAnew old new usable free bytes) IsOutsideOrFull
