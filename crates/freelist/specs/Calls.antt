-- What taking a page, and giving one back, do to the pages (Database File Format, "The Freelist").
use Rattle.std.specs.Prelude.{◌≡◌, ◌⊎◌, ◌<◌, ℕ, List, [], ◌∷◌, length, ⊤, Result, MatchResult}
use Rattle.sqlval.specs.declared.fault.Fault.{Fault}
use Rattle.sqlval.specs.Faults.{IsOutside}
use Rattle.db_header.specs.Header.{IsHeader}
use Rattle.db_header.specs.declared.fields.Header.{Header}
use Rattle.pages.specs.Calls.{IsOutsideOrFull}
use Rattle.pages.specs.Counting.{occurs, IsOnce, Moves}
use Rattle.pages.specs.Map.{PageMap, page_at, AreWhole, Has}
use Rattle.freelist.specs.Freelist.{Trunk, IsFreelist, pages_of}

-- The header on page 1 tells a list of these free pages, in some order.
pub record HasFree (map : PageMap) (size : ℕ) (free : List ℕ) : Type 0 where
  pub header : Header
  pub header_is : IsHeader (page_at map 1) header
  pub trunks : List Trunk
  pub listed : IsFreelist map size header.freelist_trunk header.freelist_count trunks
  pub free_is : (n : ℕ) → occurs n (pages_of trunks) ≡ occurs n free

-- These pages are free, each once and page 1 not among them, in a file of whole pages.
pub record AreFree (map : PageMap) (size : ℕ) (free : List ℕ) : Type 0 where
  pub has : HasFree map size free
  pub once : IsOnce free
  pub behind : occurs 1 free ≡ 0
  pub whole : AreWhole size map

-- the header on page 1 says what it said, except for the freelist
abbrev pub KeepsHeader : PageMap → PageMap → Type 0
KeepsHeader old new = (header : Header) → IsHeader (page_at old 1) header
    → (trunk : ℕ) × (count : ℕ) × IsHeader (page_at new 1) (record header { freelist_trunk = trunk; freelist_count = count })

-- A page was taken: one of the freelist, or if that was empty, one more at the end; then nothing is free.
pub record IsTaken (old new : PageMap) (size : ℕ) (free : List ℕ) (page : ℕ) : Type 0 where
  pub now_free : List ℕ
  pub has : HasFree new size now_free
  pub moves : Moves old new [] free (page ∷ []) now_free
  pub header : KeepsHeader old new
  pub behind : 1 < page
  pub rule : (length new ≡ length old) ⊎ ((free ≡ []) × (now_free ≡ []))

-- Where these pages are free, one was taken; or memory was short, a disk's call failed, or there are as many pages as there may be.
abbrev pub Takes : PageMap → PageMap → ℕ → Result ℕ Fault → Type 0
Takes old new size result = (free : List ℕ) → AreFree old size free → MatchResult result (IsTaken old new size free) IsOutsideOrFull

-- A page that nothing uses is free now.
pub record IsGiven (old new : PageMap) (size : ℕ) (free : List ℕ) (page : ℕ) : Type 0 where
  pub now_free : List ℕ
  pub has : HasFree new size now_free
  pub moves : Moves old new (page ∷ []) free [] now_free
  pub header : KeepsHeader old new
  pub same : length new ≡ length old

-- Where other pages are free, this one is free too then; or memory was short, or a disk's call failed.
abbrev pub Gives : PageMap → PageMap → ℕ → ℕ → Result ⊤ Fault → Type 0
Gives old new size page result = (free : List ℕ) → AreFree old size free → 1 < page → Has old page → occurs page free ≡ 0
    → MatchResult result (λ done. IsGiven old new size free page) IsOutside
