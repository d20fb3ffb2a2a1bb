-- What the calls that give a chain of overflow pages back do.
use Rattle.std.specs.Prelude.{◌≡◌, ◌<◌, ◌^◌, ℕ, List, ◌++◌, length, ⊤, Result, MatchResult}
use Rattle.sqlval.specs.declared.fault.Fault.{Fault}
use Rattle.sqlval.specs.Faults.{IsOutside}
use Rattle.pages.specs.Counting.{IsOnce}
use Rattle.pages.specs.Map.{PageMap}
use Rattle.freelist.specs.Calls.{AreFree}
use Rattle.tree_overflow.specs.Calls.{IsFreed}
use Rattle.tree_overflow.specs.Chains.{IsLink, IsChain, next_of}

-- where a page is one of a chain, the next was found; or memory was short, or a disk's call failed
abbrev pub FindsNext : PageMap → ℕ → ℕ → Result ℕ Fault → Type 0
FindsNext map usable page result = (bytes : List ℕ) (next : ℕ) → next < 2 ^ 32 → IsLink map usable page bytes next → MatchResult result (λ n. n ≡ next) IsOutside

-- where so many bytes lie on a chain that begins with this page, its pages are free now; or memory was short, or a disk's call failed
abbrev pub FreesChain : PageMap → PageMap → ℕ → ℕ → ℕ → Result ⊤ Fault → Type 0
FreesChain old new usable first size result = (bytes chain free : List ℕ) → AreFree old usable free → IsOnce (chain ++ free) → IsChain old usable bytes chain
    → next_of chain ≡ first → length bytes ≡ size → MatchResult result (λ done. IsFreed old new usable chain free) IsOutside
