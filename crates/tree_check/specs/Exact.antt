-- Checks that are exact in both directions, and the pages that they are made of.
use Rattle.std.specs.Prelude.{◌≡◌, ℕ, Bool, List, [], ◌∷◌, ⊤, Result, Ok, Err, IsTrue}
use Rattle.sqlval.specs.declared.fault.Fault.{Fault}
use Rattle.sqlval.specs.Faults.{IsOutside}
use Rattle.pages.specs.Calls.{Limits}
use Rattle.pages.specs.Map.{PageMap, Has}
use Rattle.tree_check.specs.Marks.{Marks, AreUnmarked}

-- The pages tell their bytes: these, of this size.
pub record AreTold {P K : Type 0} (below : P → K) (tells : K → Bool) (limits : K → Limits) (bytes : P → PageMap)
    (pages : P) (map : PageMap) (size : ℕ) : Type 0 where
  pub told : IsTrue (tells (below pages))
  pub map_is : bytes pages ≡ map
  pub size_is : (limits (below pages)).page ≡ size

-- There is something of this kind, and its pages were marked.
pub record HasMarked {X : Type 0} (Is : X → Type 0) (pages : X → List ℕ) (old new : List Bool) : Type 0 where
  pub it : X
  pub is : Is it
  pub marks : Marks old new (pages it)

-- A check marks the pages of something of this kind. Where it passes, there is one, and of any one of which no page was marked these are
-- the pages. Where it is refused and there is one of which no page is marked, memory was short, or a disk's call failed.
abbrev pub Checks : {X : Type 0} → (X → Type 0) → (X → List ℕ) → List Bool → List Bool → Result ⊤ Fault → Type 0
Checks {X} Is pages old new (Ok done) = HasMarked Is pages old new
    × ((x : X) → Is x → AreUnmarked old (pages x) → Marks old new (pages x))
Checks {X} Is pages old new (Err fault) = (x : X) → Is x → AreUnmarked old (pages x) → IsOutside fault

-- this page, which is there
pub record IsThisPage (map : PageMap) (page number : ℕ) : Type 0 where
  pub is : number ≡ page
  pub has : Has map number

-- one page
abbrev pub alone : ℕ → List ℕ
alone number = number ∷ []
