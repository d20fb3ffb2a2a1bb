-- A row given with an integer for the rowid's own column needs no last rowid.
use Rattle.std.proofs.Common.{◌≡◌, refl, ap, ◌∙◌, ℕ, zero, suc, ℤ, true, false, List, [], ◌∷◌, slice_index_or, Option, Some, None, Ok, Err}
use Rattle.std.proofs.lemmas.Bool.{false≢true}
use Rattle.std.specs.Prelude.{slice_get, unwrap_or}
use Rattle.sqlval.specs.Refusals.{Answer, ◌then◌}
use Rattle.sqlval.specs.declared.value.Value.{Value}
use Rattle.sqlval.specs.declared.value.Value.TheVariants.{Null, Int, Text, Blob}
use Rattle.catalog.specs.Listed.{own_column}
use Rattle.catalog.specs.declared.tables.Column.{Column}
use Rattle.catalog.specs.declared.tables.Table.{Table}
use Rattle.row_scan.specs.Rows.{TableRow}
use Rattle.row_change.specs.Demands.{demanded}
use Rattle.row_change.specs.Giving.{NeedsNoLast, is_integer_given}
use Rattle.row_change.specs.Inserting.{own_value, row_added, row_stored, rowid_given, values_given, with_own_value}
use Rattle.row_change.specs.Setting.{is_integer_at}
use Rattle.row_change.proofs.KeptRowids.{stored_stays}

-- an integer stands at the place
record HasInteger (values : List Value) (place : ℕ) : Type 0 where
  number : ℤ
  at : slice_get values place ≡ Some (Int number)

first_given : (v : Value) (more : List Value) → (elim v [ Int rowid ↦ true | _ ↦ false ]) ≡ true → HasInteger (v ∷ more) zero
first_given (Int n) more is = record { number = n; at = refl }
first_given Null more is = absurd (false≢true is)
first_given (Text t) more is = absurd (false≢true is)
first_given (Blob b) more is = absurd (false≢true is)

-- the integer given for a column is its value
integer_given : (columns : List Column) (places : List (Option ℕ)) (given : List Value) (own : ℕ) → is_integer_at columns own ≡ true → is_integer_given given (slice_index_or places own None) ≡ true
    → HasInteger (values_given columns places given) own
integer_given [] places given own it is = absurd (false≢true it)
integer_given (c ∷ columns) [] given own it is = absurd (false≢true is)
integer_given (c ∷ columns) (None ∷ places) given zero it is = absurd (false≢true is)
integer_given (c ∷ columns) (Some place ∷ places) given zero it is = first_given (slice_index_or given place Null) (values_given columns places given) is
integer_given (c ∷ columns) (place ∷ places) given (suc own) it is =
    let has = integer_given columns places given own it is in
    record { number = has.number; at = has.at }

-- what a table makes of the values that its columns store, after a last rowid
abbrev Made : Table → Option ℤ → List Value → Answer TableRow
Made table last values =
    rowid_given last (own_value (own_column table) values) then λ rowid. demanded table (rowid, with_own_value (own_column table) (Int rowid) values)

module _ (table : Table) (places : List (Option ℕ)) (given : List Value) (one other : Option ℤ) where
  -- where the value of the rowid's own column is an integer, the last rowid says nothing
  rowid_same : (v : Value) (n : ℤ) → v ≡ Int n → rowid_given one v ≡ rowid_given other v
  rowid_same v n is = rw is refl

  same_made : (own : ℕ) (values : List Value) → own_column table ≡ Some own → is_integer_at table.columns own ≡ true → is_integer_given given (slice_index_or places own None) ≡ true
      → row_stored table.columns places given ≡ Ok values → Made table one values ≡ Made table other values
  same_made own values own_is it is stored =
      let has = integer_given table.columns places given own it is in
      let at = stored_stays table.columns (values_given table.columns places given) values own has.number it has.at stored in
      let value_is : own_value (own_column table) values ≡ Int has.number = ap (λ (o : Option ℕ). own_value o values) own_is ∙ ap (λ (v : Option Value). unwrap_or v Null) at in
      ap (λ (a : Answer ℤ). a then λ rowid. demanded table (rowid, with_own_value (own_column table) (Int rowid) values))
      (rowid_same (own_value (own_column table) values) has.number value_is)

  same_row : (own : ℕ) → own_column table ≡ Some own → is_integer_at table.columns own ≡ true → is_integer_given given (slice_index_or places own None) ≡ true
      → row_added table places one given ≡ row_added table places other given
  same_row own own_is it is = by (row_stored table.columns places given) refl
    where
      by : (a : Answer (List Value)) → row_stored table.columns places given ≡ a → (a then Made table one) ≡ (a then Made table other)
      by (Ok values) stored = same_made own values own_is it is stored
      by (Err r) stored = refl

-- where a row given brings its rowid, it needs no last one
pub needs_no_last : (table : Table) (places : List (Option ℕ)) (given : List Value) (own : ℕ) → own_column table ≡ Some own → is_integer_at table.columns own ≡ true
    → is_integer_given given (slice_index_or places own None) ≡ true → NeedsNoLast table places given
needs_no_last table places given own own_is it is one other = same_row table places given one other own own_is it is
