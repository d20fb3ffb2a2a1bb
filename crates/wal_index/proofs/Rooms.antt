-- What the lists of an index have room for.
use Rattle.std.proofs.Common.{◌≡◌, inl, inr, ◌<◌, ◌≤◌, ℕ, List, [], ◌∷◌, ◌++◌, Vec, length, map, set, get_or, sym, ◌∙◌, ap, arith}
use Rattle.std.specs.declared.alloc.Global.{Global}
use Rattle.std.proofs.lemmas.List.{length-map, map-append, map-set, get_or-map, get_or-set_same, get_or-set_other, get_or_append_left, get_or_past}
use Rattle.std.proofs.lemmas.Bool.{cases_eq, cases_lt}
use Rattle.wal_index.specs.Index.{room_in}

abbrev Row : Type 0
Row = Vec ℕ Global

abbrev pub room_at : List Row → ℕ → ℕ
room_at rows i = get_or (map room_in rows) i 0

-- one list more
pub room_pushed : (rows : List Row) (v : Row) (j : ℕ) → room_at rows j ≤ room_at (rows ++ v ∷ []) j
room_pushed rows v j = elim (cases_lt j (length rows)) [
  | inl before ↦ omega (arith, ap (λ (l : List ℕ). get_or l j 0) (map-append room_in rows (v ∷ [])), get_or_append_left (map room_in rows) (room_in v ∷ []) 0 j (omega (arith, before, length-map rows room_in)))
  | inr past ↦ omega (arith, get_or_past (map room_in rows) j 0 (omega (arith, past, length-map rows room_in)))
]

-- a list that was changed
pub room_changed : (rows : List Row) (i : ℕ) (v : Row) → i < length rows → room_at (set rows i v) i ≡ room_in v
room_changed rows i v lt = ap (λ (l : List ℕ). get_or l i 0) (map-set room_in rows i v) ∙ get_or-set_same (map room_in rows) i (room_in v) 0 (omega (arith, lt, length-map rows room_in))

pub room_elsewhere : (rows : List Row) (i : ℕ) (v : Row) (j : ℕ) → (j ≡ i → ⊥) → room_at (set rows i v) j ≡ room_at rows j
room_elsewhere rows i v j other = ap (λ (l : List ℕ). get_or l j 0) (map-set room_in rows i v) ∙ get_or-set_other (map room_in rows) i j (room_in v) 0 other

pub room_was : (rows : List Row) (i : ℕ) (w : Row) → i < length rows → w ≡ get_or rows i w → room_at rows i ≡ room_in w
room_was rows i w lt is = get_or-map room_in rows i w 0 lt ∙ ap room_in (sym is)

pub room_kept : (rows : List Row) (i : ℕ) (v w : Row) → i < length rows → w ≡ get_or rows i w → room_in w ≤ room_in v → (j : ℕ) → room_at rows j ≤ room_at (set rows i v) j
room_kept rows i v w lt is more j = elim (cases_eq j i) [
  | inl same ↦ omega (arith, more, ap (room_at rows) same, ap (room_at (set rows i v)) same, room_changed rows i v lt, room_was rows i w lt is)
  | inr other ↦ omega (arith, room_elsewhere rows i v j other)
]
