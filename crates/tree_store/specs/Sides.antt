-- Subtrees that stand side by side, with something between them (Database File Format, "B-tree Pages": the children of an
-- interior page).
use Rattle.std.specs.Prelude.{ℕ, ℤ, List, [], ◌∷◌, ◌++◌}

-- each subtree but the last with what stands behind it, and the last one
abbrev pub Side : Type 0 → Type 0 → Type 0
Side T K = List (T × K) × T

-- an interior page over subtrees
pub record Branch (T K : Type 0) : Type 0 where
  pub page : ℕ
  pub kids : List (T × K)
  pub last : T

-- nothing stands between
abbrev pub nothing : {K X : Type 0} → K → List X
nothing k = []

-- with these subtrees in front
abbrev pub behind : {T K : Type 0} → List (T × K) → Side T K → Side T K
behind kids side = (kids ++ side.0, side.1)

-- what each subtree gives and what stands between, one after the other
abbrev pub each_of : {T K X : Type 0} → (T → List X) → (K → List X) → List (T × K) → T → List X
each_of f between [] last = f last
each_of f between (kid ∷ kids) last = f kid.0 ++ (between kid.1 ++ each_of f between kids last)

-- this holds of each subtree
abbrev pub Each : {T K : Type 0} → (T → Type 0) → List (T × K) → T → Type 0
Each P [] last = P last
Each P (kid ∷ kids) last = P kid.0 × Each P kids last

-- the subtrees' pages, except for the last one's, each with what stands behind it
abbrev pub children : {T K : Type 0} → (T → ℕ) → List (T × K) → List (ℕ × K)
children page [] = []
children page (kid ∷ kids) = (page kid.0, kid.1) ∷ children page kids

-- this holds of each subtree between the keys beside it
abbrev pub Parted : {T : Type 0} → (ℤ → T → ℤ → Type 0) → ℤ → List (T × ℤ) → T → ℤ → Type 0
Parted P low [] last high = P low last high
Parted P low (kid ∷ kids) last high = P low kid.0 kid.1 × Parted P kid.1 kids last high
