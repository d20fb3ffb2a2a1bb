-- The columns that SET names.
use Rattle.std.proofs.Common.{◌≡◌, ◌⊎◌, inl, inr, Result, Ok, Err, OnOk, refl, ap, Bool, true, false, ◌||◌, List, [], ◌∷◌, Some, None, is_none, if◌then◌else◌}
use Rattle.std.specs.List.{find, list_any}
use Rattle.sqlval.specs.Refusals.{NoSuch, refusal_of}
use Rattle.sqlval.specs.declared.fault.Fault.{Fault}
use Rattle.sqlval.specs.declared.fault.Fault.TheVariants as fault
use Rattle.sql_syntax.specs.declared.change.Assignment.{Assignment}
use Rattle.catalog.specs.Database.{Name}
use Rattle.catalog.specs.Listed.{place_named}
use Rattle.catalog.specs.declared.tables.Column.{Column}
use Rattle.query_names.specs.Inserts.{has_unknown}
use Rattle.query_bind.specs.Assigned.{columns_set}

pub any_column : (f : Name → Bool) (sets : List Assignment) → list_any (λ a. f a.column) sets ≡ list_any f (columns_set sets)
any_column f [] = refl
any_column f (a ∷ sets) = ap (λ b. f a.column || b) (any_column f sets)

abbrev is_unknown : List Column → Assignment → Bool
is_unknown columns a = is_none (place_named a.column columns)

pub some_unknown : (columns : List Column) (sets : List Assignment) (a : Assignment) → Some a ≡ find (λ a. is_none (place_named a.column columns)) sets → has_unknown columns (columns_set sets) ≡ true
some_unknown columns [] a e = absurd cc
some_unknown columns (x ∷ sets) a e = by (some_unknown columns sets a) (is_unknown columns x) e
  where
    by : (Some a ≡ find (is_unknown columns) sets → has_unknown columns (columns_set sets) ≡ true) → (b : Bool) → Some a ≡ (if b then Some x else find (is_unknown columns) sets) → (b || has_unknown columns (columns_set sets)) ≡ true
    by on true e = refl
    by on false e = on e

pub none_unknown : (columns : List Column) (sets : List Assignment) → None ≡ find (λ a. is_none (place_named a.column columns)) sets → has_unknown columns (columns_set sets) ≡ false
none_unknown columns [] e = refl
none_unknown columns (x ∷ sets) e = by (none_unknown columns sets) (is_unknown columns x) e
  where
    by : (None ≡ find (is_unknown columns) sets → has_unknown columns (columns_set sets) ≡ false) → (b : Bool) → None ≡ (if b then Some x else find (is_unknown columns) sets) → (b || has_unknown columns (columns_set sets)) ≡ false
    by on true e = absurd cc
    by on false e = on e

pub listed_so : (w : Fault) (A B C : Type 0) → (w ≡ fault.Memory) ⊎ (refusal_of w ≡ NoSuch) → A → (w ≡ fault.Memory) ⊎ ((refusal_of w ≡ NoSuch) × A ⊎ B) ⊎ C
listed_so w A B C (inl memory) a = inl memory
listed_so w A B C (inr is) a = inr (inl (inl (is, a)))

pub all_so : {X E P : Type 0} (result : Result X E) → P → OnOk result P
all_so (Ok x) p = p
all_so (Err e) p = tt
