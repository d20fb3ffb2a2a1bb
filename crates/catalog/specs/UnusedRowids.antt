-- Rowids of the schema table that no row has (Database File Format, "Storage Of The SQL Database Schema").
use Rattle.std.specs.Prelude.{◌≡◌, ℤ, pos, ◌<ℤ◌, ◌≤ℤ◌, Bool, true, List}
use Rattle.std.specs.List.{AllByRecursion, list_any}
use Rattle.std.specs.Ordering.{int_cmp, eq_by_cmp}

-- none is greater
abbrev pub AreUpTo : ℤ → List ℤ → Type 0
AreUpTo most rowids = AllByRecursion (λ (rowid : ℤ). rowid ≤ℤ most) rowids

-- whether a rowid is one of these
abbrev pub is_among : ℤ → List ℤ → Bool
is_among rowid rowids = list_any (λ other. eq_by_cmp int_cmp other rowid) rowids

-- each rowid after this one is one of these, up to the greatest of all
abbrev pub AreTakenAfter : ℤ → List ℤ → Type 0
AreTakenAfter rowid rowids = (later : ℤ) → rowid <ℤ later → later ≤ℤ pos 9223372036854775807 → is_among later rowids ≡ true
