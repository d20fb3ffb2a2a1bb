-- Windows in a row of subtrees: those of one subtree, which is changed, or of two, which are joined.
use Rattle.std.specs.Prelude.{ℤ, List, [], ◌∷◌, ◌++◌}
use Rattle.tree_store.specs.Sides.{Side, behind, each_of, Parted}

-- A row of subtrees with a window in it: what stands in front of the window, and what stands behind it, where something does.
pub data Frame (T K : Type 0) : Type 0 where
  -- up to the last subtree
  ends : List (T × K) → Frame T K
  -- up to what stands behind the window
  goes : List (T × K) → K → Side T K → Frame T K

-- the row where these subtrees are in the window
abbrev pub framed : {T K : Type 0} → Frame T K → Side T K → Side T K
framed (ends front) window = behind front window
framed (goes front key rest) window = behind front (window.0 ++ (window.1, key) ∷ rest.0, rest.1)

-- what the subtrees give that have others behind them, and what stands between
abbrev pub fronts : {T K X : Type 0} → (T → List X) → (K → List X) → List (T × K) → List X
fronts f between [] = []
fronts f between (kid ∷ kids) = f kid.0 ++ (between kid.1 ++ fronts f between kids)

-- what the row gives in front of the window
abbrev pub left_of : {T K X : Type 0} → (T → List X) → (K → List X) → Frame T K → List X
left_of f between (ends front) = fronts f between front
left_of f between (goes front key rest) = fronts f between front

-- what it gives behind the window
abbrev pub right_of : {T K X : Type 0} → (T → List X) → (K → List X) → Frame T K → List X
right_of f between (ends front) = []
right_of f between (goes front key rest) = between key ++ each_of f between rest.0 rest.1

-- Rows within these bounds can stand in the window.
pub record IsOpening {T : Type 0} (P : ℤ → T → ℤ → Type 0) (low : ℤ) (frame : Frame T ℤ) (high : ℤ) (from to : ℤ) : Type 1 where
  pub fill : (window : Side T ℤ) → Parted P from window.0 window.1 to → Parted P low (framed frame window).0 (framed frame window).1 high

-- What is in the window lies within some bounds, and other rows within these can stand there.
pub record Opens {T : Type 0} (P : ℤ → T → ℤ → Type 0) (low : ℤ) (frame : Frame T ℤ) (window : Side T ℤ) (high : ℤ) : Type 1 where
  pub from : ℤ
  pub to : ℤ
  pub parted : Parted P from window.0 window.1 to
  pub opening : IsOpening P low frame high from to
