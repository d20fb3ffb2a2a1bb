-- Cutting cells into parts, told by the room that each cell takes.
use Rattle.std.specs.Prelude.{◌≡◌, ◌⊎◌, ◌≤◌, ◌<◌, ◌+◌, ◌-◌, ◌/◌, ℕ, Bool, List, [], ◌∷◌, length, take, drop, if◌then◌else◌}

-- the sum of these numbers
abbrev pub total : List ℕ → ℕ
total [] = 0
total (size ∷ sizes) = size + total sizes

-- Of these sizes the first `count` make a part. After it `up` go to the page above, and at least one is left.
pub record IsPart (up room goal : ℕ) (sizes : List ℕ) (count : ℕ) : Type 0 where
  pub some : 1 ≤ count
  pub behind : count + up < length sizes
  pub fits : (count ≡ 1) ⊎ (total (take count sizes) ≤ room)
  -- it reaches the goal, or is full, or leaves no more than has to stand after it
  pub enough : (goal ≤ total (take count sizes)) ⊎ ((room < total (take (count + 1) sizes)) ⊎ (count + up + 1 ≡ length sizes))
  -- and without its last one it doesn't reach the goal
  pub least : (count ≡ 1) ⊎ (total (take (count - 1) sizes) < goal)

-- the counts of the parts that have another after them; the last part is what is left
abbrev pub AreParts : (up room goal : ℕ) → List ℕ → List ℕ → Type 0
AreParts up room goal [] sizes = (length sizes ≤ up + 1) ⊎ (total sizes ≤ room)
AreParts up room goal (count ∷ counts) sizes =
    IsPart up room goal sizes count × (room < total sizes) × AreParts up room goal counts (drop (count + up) sizes)

-- how much a part is to have: more than there is room for, or half of all
abbrev pub goal_of : Bool → ℕ → List ℕ → ℕ
goal_of rises room sizes = if rises then room + 1 else total sizes - total sizes / 2

-- What fits is one part. If a single cell (with the one that goes up) doesn't fit, an empty part comes after it, so that the
-- page can be one above others.
pub record IsCut (up room : ℕ) (rises : Bool) (sizes counts : List ℕ) : Type 0 where
  pub one : total sizes ≤ room → counts ≡ []
  pub lone : room < total sizes → length sizes ≡ up + 1 → counts ≡ 1 ∷ []
  pub parts : room < total sizes → (length sizes ≡ up + 1 → ⊥) → AreParts up room (goal_of rises room sizes) counts sizes
