-- What follows for pages that moved.
use Rattle.std.specs.Prelude.{◌≡◌, ◌+◌, ◌++◌, ℕ, List}
use Rattle.pages.specs.Map.{PageMap}
use Rattle.pages.specs.Counting.{occurs, Moves}

-- two lists have their pages together
abbrev pub PagesAdd : Type 0
PagesAdd = (n : ℕ) (pages more : List ℕ) → occurs n (pages ++ more) ≡ occurs n pages + occurs n more

-- two moves, one after the other, are one
abbrev pub MovesFollow : Type 0
MovesFollow = (old mid new : PageMap) (used free mid_used mid_free now_used now_free : List ℕ)
    → Moves old mid used free mid_used mid_free → Moves mid new mid_used mid_free now_used now_free → Moves old new used free now_used now_free

-- a list has the pages of these two, each as often as both together
abbrev pub IsJoined : List ℕ → List ℕ → List ℕ → Type 0
IsJoined part others all = (n : ℕ) → occurs n all ≡ occurs n part + occurs n others

-- pages that moved move beside others too, which are used before and after
abbrev pub MovesBesideUsed : Type 0
MovesBesideUsed = (old new : PageMap) (used free now_used now_free others all now_all : List ℕ)
    → Moves old new used free now_used now_free → IsJoined used others all → IsJoined now_used others now_all → Moves old new all free now_all now_free

-- and beside others that are free before and after
abbrev pub MovesBesideFree : Type 0
MovesBesideFree = (old new : PageMap) (used free now_used now_free others all now_all : List ℕ)
    → Moves old new used free now_used now_free → IsJoined free others all → IsJoined now_free others now_all → Moves old new used all now_used now_all
