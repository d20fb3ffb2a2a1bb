-- The values that the record of a table's row has.
use Rattle.std.specs.Prelude.{◌≡◌, ◌⊎◌, ⊤, Bool, true, false, ℕ, List, length, All, Option, Some, None, Result, Err, slice_get}
use Rattle.sqlval.specs.Sameness.{is_same_value}
use Rattle.sqlval.specs.declared.value.Value.{Value}
use Rattle.sqlval.specs.declared.value.Value.TheVariants.{Null}
use Rattle.sqlval.specs.declared.fault.Fault.{Fault}
use Rattle.sqlval.specs.declared.fault.Fault.TheVariants.{Unsupported, Damaged}
use Rattle.sqlval.specs.declared.fault.Feature.TheVariants as Feature
use Rattle.sqlval.specs.declared.fault.Damage.TheVariants as Damage
use Rattle.record.specs.Writing.{IsStorable}

-- the values of a record have NULL at the place of the rowid's own column, if there is one
abbrev pub has_null_at : Option ℕ → List Value → Bool
has_null_at None values = true
has_null_at (Some place) values = elim (slice_get values place) [ None ↦ false | Some value ↦ is_same_value value Null ]

-- These are as many values as a row has columns, each of them can be stored, and NULL stands at the place of the rowid's own column, if there is one.
pub record AreOfRow (width : ℕ) (own : Option ℕ) (values : List Value) : Type 0 where
  pub full : length values ≡ width
  pub storable : All IsStorable values
  pub null : has_null_at own values ≡ true

-- Why bytes are no record of a row: a float, bytes that are no record or a value in the place of NULL, another number of values, or one that is too long.
abbrev pub IsRowFault : Fault → Type 0
IsRowFault fault =
    (fault ≡ Unsupported Feature.Float) ⊎ ((fault ≡ Damaged Damage.Record 0) ⊎ ((fault ≡ Unsupported Feature.ColumnCount) ⊎ (fault ≡ Unsupported Feature.Limit)))

-- Which refusal the record of values gets that are no row's: of the first of these that is wrong.
pub record IsRefusedInOrder (width : ℕ) (own : Option ℕ) (values : List Value) (result : Result ⊤ Fault) : Type 0 where
  pub count : (length values ≡ width → ⊥) → result ≡ Err (Unsupported Feature.ColumnCount)
  pub place : length values ≡ width → has_null_at own values ≡ false → result ≡ Err (Damaged Damage.Record 0)
  pub limit : length values ≡ width → has_null_at own values ≡ true → (All IsStorable values → ⊥) → result ≡ Err (Unsupported Feature.Limit)
