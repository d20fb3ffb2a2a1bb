-- The row that is picked of a source.
use Rattle.std.proofs.Common.{◌≡◌, refl, ℕ, zero, suc, List, [], ◌∷◌, Option, Some, None}
use Rattle.std.specs.Prelude.{slice_get, option_and_then, unwrap_or}
use Rattle.sqlval.specs.declared.value.Value.TheVariants.{Null}
use Rattle.query_terms.specs.Rows.{picked_rows, row_of}
use Rattle.query_terms.specs.declared.tree.Place.{Place}
use Rattle.query_terms.specs.declared.tree.Place.TheVariants.{RowId, At}
use Rattle.query_terms.specs.Values.{Row, at_row}

no_row : (o : Option (List Row)) (p : Place) → at_row (option_and_then (λ rows. None) o) p ≡ Null
no_row None p = refl
no_row (Some rows) p = refl

or_nulls : (o : Option Row) (p : Place) → at_row o p ≡ at_row (Some (unwrap_or o (record { rowid = Null; values = [] }))) p
or_nulls (Some r) p = refl
or_nulls None RowId = refl
or_nulls None (At i) = refl

pub picked_cell : (sources : List (List Row)) (picked : List ℕ) (s : ℕ) (p : Place) → at_row (row_of sources picked s) p ≡ at_row (slice_get (picked_rows sources picked) s) p
picked_cell [] is s p = refl
picked_cell (x ∷ ss) [] s p = no_row (slice_get (x ∷ ss) s) p
picked_cell (x ∷ ss) (i ∷ is) zero p = or_nulls (slice_get x i) p
picked_cell (x ∷ ss) (i ∷ is) (suc s) p = picked_cell ss is s p
