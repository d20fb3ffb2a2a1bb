-- Values of rows that were read.
use Rattle.std.proofs.Common.{◌≡◌, refl, ℕ, zero, suc, List, [], ◌∷◌, slice_get, slice_index_or}
use Rattle.std.specs.Prelude.{unwrap_or}
use Rattle.sqlval.specs.declared.value.Value.{Value}
use Rattle.sqlval.specs.declared.value.Value.TheVariants.{Null}
use Rattle.query_terms.specs.Values.{Row}

-- what stands past the last row
abbrev pub no_row : Row
no_row = record { rowid = Null; values = [] }

pub value_is : (values : List Value) (place : ℕ) → slice_index_or values place Null ≡ unwrap_or (slice_get values place) Null
value_is [] place = refl
value_is (value ∷ values) zero = refl
value_is (value ∷ values) (suc place) = value_is values place
