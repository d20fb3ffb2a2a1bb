-- What reading a payload, writing one, and giving its pages back do.
use Rattle.std.specs.Prelude.{◌≡◌, ◌⊎◌, ℕ, List, [], ◌++◌, length, ⊤, Result, MatchResult}
use Rattle.sqlval.specs.declared.fault.Fault.{Fault}
use Rattle.sqlval.specs.Faults.{IsOutside}
use Rattle.pages.specs.Calls.{IsOutsideOrFull}
use Rattle.pages.specs.Counting.{IsOnce, Moves}
use Rattle.pages.specs.Map.{PageMap, AreWhole}
use Rattle.freelist.specs.Calls.{AreFree, HasFree, KeepsHeader}
use Rattle.tree_overflow.specs.Chains.{IsPayload}

-- Where a payload of so many bytes begins in these bytes of a cell, it stands behind what stood there before; or memory was short, or a
-- disk's call failed.
abbrev pub Reads : PageMap → ℕ → ℕ → List ℕ → ℕ → List ℕ → List ℕ → Result ⊤ Fault → Type 0
Reads map page most held size before after result = (payload chain : List ℕ) → AreWhole page map → IsPayload map page most held payload chain
    → length payload ≡ size → MatchResult result (λ done. after ≡ before ++ payload) IsOutside

-- A payload begins in these bytes of a cell and goes on over pages that were taken, each once. The file grew only if no page is free.
pub record IsWritten (old new : PageMap) (page most : ℕ) (free payload held : List ℕ) : Type 0 where
  pub chain : List ℕ
  pub now_free : List ℕ
  pub is : IsPayload new page most held payload chain
  pub has : HasFree new page now_free
  pub moves : Moves old new [] free chain now_free
  pub header : KeepsHeader old new
  pub rule : (length new ≡ length old) ⊎ (now_free ≡ [])

-- Where these pages are free, a payload was written; or memory was short, a disk's call failed, or there are as many pages as there may be.
abbrev pub Writes : {T : Type 0} → (T → List ℕ) → PageMap → PageMap → ℕ → ℕ → List ℕ → Result T Fault → Type 0
Writes bytes_of old new page most payload result = (free : List ℕ) → AreFree old page free
    → MatchResult result (λ held. IsWritten old new page most free payload (bytes_of held)) IsOutsideOrFull

-- The pages of a chain are free now.
pub record IsFreed (old new : PageMap) (page : ℕ) (chain free : List ℕ) : Type 0 where
  pub now_free : List ℕ
  pub has : HasFree new page now_free
  pub moves : Moves old new chain free [] now_free
  pub header : KeepsHeader old new
  pub same : length new ≡ length old

-- Where a payload of so many bytes goes on over pages of which each stands there once and none is free, these are free now; or memory
-- was short, or a disk's call failed.
abbrev pub Frees : PageMap → PageMap → ℕ → ℕ → List ℕ → ℕ → Result ⊤ Fault → Type 0
Frees old new page most held size result = (payload chain free : List ℕ) → AreFree old page free → IsOnce (chain ++ free)
    → IsPayload old page most held payload chain → length payload ≡ size → MatchResult result (λ done. IsFreed old new page chain free) IsOutside
