-- An item of a list is set.
use Rattle.std.proofs.Common.{◌≡◌, ◌<◌, inl, inr, ℕ, nat_eq, cond, List, length, map, set, get_or, ◌∙◌, arith}
use Rattle.std.proofs.lemmas.Bool.{cases_eq}
use Rattle.std.proofs.lemmas.Bool.Decides.{nat_tests}
use Rattle.std.proofs.lemmas.List.{map-set, length-map, get_or-set_same, get_or-set_other}

-- what is made of the item that was set is made of the new one, and of the others as before
pub set_at : {X Y : Type 0} (f : X → Y) (items : List X) (slot : ℕ) (item : X) (none : Y) (other : ℕ) → slot < length items → get_or (map f (set items slot item)) other none ≡ cond (nat_eq other slot) (f item) (get_or (map f items) other none)
set_at f items slot item none other within =
    rw (map-set f items slot item)
    (elim (cases_eq other slot) [
      | inl same ↦ rw same (get_or-set_same (map f items) slot (f item) none (omega (arith, length-map items f)) ∙ grind (arith, nat_tests))
      | inr apart ↦ get_or-set_other (map f items) slot other (f item) none apart ∙ grind (arith, nat_tests, apart)
    ])
