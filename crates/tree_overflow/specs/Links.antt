-- What the calls that read a chain of overflow pages do.
use Rattle.std.specs.Prelude.{◌≡◌, ◌<◌, ◌-◌, ◌^◌, ℕ, List, ◌++◌, length, take, ⊤, Option, Some, Result, MatchResult}
use Rattle.std.specs.Int.{w32, to_be_bytes}
use Rattle.sqlval.specs.declared.fault.Fault.{Fault}
use Rattle.sqlval.specs.Faults.{IsOutside}
use Rattle.pages.specs.Map.{PageMap, AreWhole}
use Rattle.tree_overflow.specs.Chains.{IsLink, IsChain, next_of}

-- where the bytes of an overflow page tell the next page and so many bytes, these were found
abbrev pub FindsLink : List ℕ → ℕ → Option (ℕ × List ℕ) → Type 0
FindsLink page left result = (next : ℕ) (bytes rest : List ℕ) → next < 2 ^ 32 → page ≡ to_be_bytes w32 next ++ (take (length page - 4) bytes ++ rest) → length bytes ≡ left
    → result ≡ Some (next, take (length page - 4) bytes)

-- Where an overflow page has the first of so many bytes, these stand behind what stood there before, and the next page was found.
abbrev pub ReadsLink : PageMap → ℕ → ℕ → ℕ → List ℕ → List ℕ → Result ℕ Fault → Type 0
ReadsLink map usable page left before after result = (bytes : List ℕ) (next : ℕ) → AreWhole usable map → next < 2 ^ 32 → IsLink map usable page bytes next → length bytes ≡ left
    → MatchResult result (λ n. (n ≡ next) × (after ≡ before ++ take (usable - 4) bytes)) IsOutside

-- Where so many bytes lie on a chain that begins with this page, they stand behind what stood there before.
abbrev pub ReadsChain : PageMap → ℕ → ℕ → ℕ → List ℕ → List ℕ → Result ⊤ Fault → Type 0
ReadsChain map usable first size before after result = (bytes chain : List ℕ) → AreWhole usable map → IsChain map usable bytes chain → next_of chain ≡ first → length bytes ≡ size
    → MatchResult result (λ done. after ≡ before ++ bytes) IsOutside
