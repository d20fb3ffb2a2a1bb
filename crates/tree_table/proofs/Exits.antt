-- What a refusal says where a call below was refused.
use Rattle.std.proofs.Common.{◌≡◌, ℕ, ℤ, Bool, true, false, List, [], ◌∷◌, length, map, Option, inl, refl, sym, subst, arith}
use Rattle.std.specs.Global.{Vec}
use Rattle.std.specs.Prelude.{Result, Ok, Err, MatchResult, IsErrAnd}
use Rattle.sqlval.specs.declared.fault.Fault.{Fault}
use Rattle.sqlval.specs.Faults.{IsOutside}
use Rattle.tree_leaf.specs.Leaf.{Entry}
use Rattle.pages.specs.Calls.{IsOutsideOrFull}
use Rattle.pages.specs.Map.{PageMap}
use Rattle.tree_pack.specs.declared.spreading.Packed.{Packed}
use Rattle.tree_store.specs.Storing.{cells_of}
use Rattle.tree_store.specs.declared.storing.Fan.{Fan}
use Rattle.tree_table.specs.Growing.{IsPlanned, IsChanged, IsEdited, IsWidened}
use Rattle.tree_table.specs.Tree.{Tree}
use Rattle.tree_table.specs.declared.growing.Change.{Change}
use Rattle.tree_table.specs.declared.growing.Change.TheVariants.{Still, Same, Spread}

pub full_err : {T : Type 0} (I : T → Type 0) (result : Result T Fault) (fault : Fault) → IsErrAnd result (λ e. e ≡ fault) → IsOutsideOrFull fault → MatchResult result I IsOutsideOrFull
full_err I (Ok x) fault is refused = absurd is
full_err I (Err e) fault is refused = subst IsOutsideOrFull (sym is) refused

pub outside_full : {T : Type 0} (I : T → Type 0) (result : Result T Fault) (fault : Fault) → IsErrAnd result (λ e. e ≡ fault) → IsOutside fault → MatchResult result I IsOutsideOrFull
outside_full I result fault is refused = full_err I result fault is (inl refused)

-- pages that were only read are as they were
pub planned_since : (old mid new : PageMap) (size number depth : ℕ) (low high : ℤ) (rows : List Entry) (used free : List ℕ) (result : Result Packed Fault) → new ≡ mid
    → MatchResult result (IsPlanned old mid size number depth low high rows used free) IsOutsideOrFull → MatchResult result (IsPlanned old new size number depth low high rows used free) IsOutsideOrFull
planned_since old mid new size number depth low high rows used free result same is =
    subst (λ (m : PageMap). MatchResult result (IsPlanned old m size number depth low high rows used free) IsOutsideOrFull) (sym same) is

pub widened_since : (old mid new : PageMap) (size number ways : ℕ) (edit : List Entry → List Entry) (depth : ℕ) (low : ℤ) (t : Tree depth) (high : ℤ) (free : List ℕ) (change : Change) → new ≡ mid
    → IsWidened old mid size number ways edit depth low t high free change → IsWidened old new size number ways edit depth low t high free change
widened_since old mid new size number ways edit depth low t high free change same is =
    subst (λ (m : PageMap). IsWidened old m size number ways edit depth low t high free change) (sym same) is

-- a fan without cells
pub no_cells : (fan : Fan) → length fan.cells.items ≡ 0 → cells_of fan ≡ []
no_cells fan none = none_in fan.cells.items none
  where
    none_in : (cells : List (Vec ℕ)) → length cells ≡ 0 → map (λ cell. cell.items) cells ≡ []
    none_in [] none = refl
    none_in (cell ∷ cells) none = absurd (omega (arith, none))

-- ---- what a change isn't

pub not_still : (packed : Packed) (deep : Bool) → Still ≡ Spread packed deep → ⊥
not_still packed deep e = cc

pub not_same : (packed : Packed) (deep : Bool) → Same ≡ Spread packed deep → ⊥
not_same packed deep e = cc

-- ---- another name for how many pages may follow

pub changed_ways : (old new : PageMap) (size number ways other : ℕ) (row : Entry) (depth : ℕ) (low : ℤ) (t : Tree depth) (high : ℤ) (free : List ℕ) (change : Change) → ways ≡ other
    → IsChanged old new size number ways row depth low t high free change → IsChanged old new size number other row depth low t high free change
changed_ways old new size number ways other row depth low t high free change same is = subst (λ (n : ℕ). IsChanged old new size number n row depth low t high free change) same is

pub changed_or_ways : (old new : PageMap) (size number ways other : ℕ) (row : Entry) (depth : ℕ) (low : ℤ) (t : Tree depth) (high : ℤ) (free : List ℕ) (result : Result Change Fault) → ways ≡ other
    → MatchResult result (IsChanged old new size number ways row depth low t high free) IsOutsideOrFull → MatchResult result (IsChanged old new size number other row depth low t high free) IsOutsideOrFull
changed_or_ways old new size number ways other row depth low t high free result same is =
    subst (λ (n : ℕ). MatchResult result (IsChanged old new size number n row depth low t high free) IsOutsideOrFull) same is

pub edited_ways : (Skips Acts : Option (List ℕ) → Type 0) (old new : PageMap) (size number ways other : ℕ) (rowid : ℤ) (edit : List Entry → List Entry) (depth : ℕ) (low : ℤ) (t : Tree depth) (high : ℤ) (free : List ℕ) (change : Change) → ways ≡ other
    → IsEdited Skips Acts old new size number ways rowid edit depth low t high free change → IsEdited Skips Acts old new size number other rowid edit depth low t high free change
edited_ways Skips Acts old new size number ways other rowid edit depth low t high free change same is = subst (λ (n : ℕ). IsEdited Skips Acts old new size number n rowid edit depth low t high free change) same is

pub edited_or_ways : (Skips Acts : Option (List ℕ) → Type 0) (old new : PageMap) (size number ways other : ℕ) (rowid : ℤ) (edit : List Entry → List Entry) (depth : ℕ) (low : ℤ) (t : Tree depth) (high : ℤ) (free : List ℕ) (result : Result Change Fault) → ways ≡ other
    → MatchResult result (IsEdited Skips Acts old new size number ways rowid edit depth low t high free) IsOutsideOrFull → MatchResult result (IsEdited Skips Acts old new size number other rowid edit depth low t high free) IsOutsideOrFull
edited_or_ways Skips Acts old new size number ways other rowid edit depth low t high free result same is =
    subst (λ (n : ℕ). MatchResult result (IsEdited Skips Acts old new size number n rowid edit depth low t high free) IsOutsideOrFull) same is

-- ---- at the root

pub none_left : {A : Type 0} (xs : List A) → length xs ≡ 0 → xs ≡ []
none_left [] none = refl
none_left (x ∷ xs) none = absurd (omega (arith, none))

pub not_true : {b : Bool} → b ≡ true → b ≡ false → ⊥
not_true yes_is no_is = cc
