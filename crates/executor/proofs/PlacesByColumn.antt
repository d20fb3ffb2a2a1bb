-- The places of values by the columns that they are for.
use Rattle.std.proofs.Common.{◌≡◌, refl, sym, ap, ◌∙◌, ◌<◌, ◌≤◌, ◌+◌, ℕ, zero, suc, List, [], ◌∷◌, ◌++◌, length, map, drop, take, slice_index_or, Option, None, Some, arith}
use Rattle.std.specs.Prelude.{slice_set, zip}
use Rattle.std.proofs.lemmas.List.{drop_more, length-map, length-set, take_all}
use Rattle.sqlval.specs.declared.value.Value.{Value}
use Rattle.sqlval.specs.declared.value.Value.TheVariants.{Null}
use Rattle.catalog.specs.Listed.{as_column}
use Rattle.catalog.specs.declared.tables.Column.{Column}
use Rattle.catalog.specs.declared.tables.Table.{Table}
use Rattle.row_change.specs.Agreement.{IsSetFor}
use Rattle.row_change.specs.Constraints.{set_values}
use Rattle.row_change.specs.Inserting.{given_for, values_given}

-- what columns have where nothing is given
abbrev defaults : List Column → List Value
defaults columns = map (λ c. c.default) columns

none_given : (columns : List Column) (given : List Value) → values_given columns (map (λ c. None) columns) given ≡ defaults columns
none_given [] given = refl
none_given (c ∷ columns) given = ap (λ (vs : List Value). c.default ∷ vs) (none_given columns given)

as_columns : (columns : List Column) → map (λ c. c.default) (map as_column columns) ≡ defaults columns
as_columns [] = refl
as_columns (c ∷ columns) = ap (λ (vs : List Value). c.default ∷ vs) (as_columns columns)

-- one column more without a value
pub none_more : (columns : List Column) (i : ℕ) (made : List (Option ℕ)) → i < length columns → made ≡ map (λ (c : Column). None) (take i columns) → made ++ None ∷ [] ≡ map (λ (c : Column). None) (take (i + 1) columns)
none_more columns i made lt so =
    let next : suc i ≡ i + 1 = omega arith in
    ap (λ (ms : List (Option ℕ)). ms ++ None ∷ []) so ∙ (by columns i lt ∙ ap (λ (k : ℕ). map {A = Column} {B = Option ℕ} (λ c. None) (take k columns)) next)
  where
    by : (cs : List Column) (n : ℕ) → n < length cs → map {A = Column} {B = Option ℕ} (λ c. None) (take n cs) ++ None ∷ [] ≡ map (λ (c : Column). None) (take (suc n) cs)
    by [] n lt = absurd (omega (arith, lt))
    by (c ∷ cs) zero lt = refl
    by (c ∷ cs) (suc n) lt = ap (λ (ms : List (Option ℕ)). None ∷ ms) (by cs n (omega (arith, lt)))

pub none_all : (columns : List Column) (i : ℕ) (made : List (Option ℕ)) → length columns ≤ i → made ≡ map (λ (c : Column). None) (take i columns) → made ≡ map (λ (c : Column). None) columns
none_all columns i made le so = so ∙ ap (map (λ (c : Column). None)) (take_all i columns le)

-- a value that is put at its column's place
one_given : (columns : List Column) (made : List (Option ℕ)) (given : List Value) (column place : ℕ) → length made ≡ length columns
    → slice_set (values_given columns made given) column (slice_index_or given place Null) ≡ values_given columns (slice_set made column (Some place)) given
one_given [] made given column place long = refl
one_given (c ∷ columns) [] given column place long = absurd (omega (arith, long))
one_given (c ∷ columns) (m ∷ made) given zero place long = refl
one_given (c ∷ columns) (m ∷ made) given (suc column) place long = ap (λ (vs : List Value). given_for c given m ∷ vs) (one_given columns made given column place (omega (arith, long)))

-- With the values from a place on at the places of their columns, what is given so far comes to what all come to.
pub record ArePlaced (columns : List Column) (places : List ℕ) (from : ℕ) (made : List (Option ℕ)) : Type 0 where
  pub long : length made ≡ length columns
  pub so : (given : List Value) → length given ≡ length places → set_values (values_given columns made given) (zip (drop from places) (drop from given)) ≡ set_values (defaults columns) (zip places given)

pub none_placed : (columns : List Column) (places : List ℕ) (made : List (Option ℕ)) → made ≡ map (λ c. None) columns → ArePlaced columns places 0 made
none_placed columns places made is = record {
  long = ap length is ∙ length-map columns (λ (c : Column). None);
  so = λ given same. ap (λ (vs : List Value). set_values vs (zip places given)) (ap (λ (ms : List (Option ℕ)). values_given columns ms given) is ∙ none_given columns given);
}

pub one_placed : (columns : List Column) (places : List ℕ) (at : ℕ) (made now : List (Option ℕ)) → at < length places → ArePlaced columns places at made → now ≡ slice_set made (slice_index_or places at 0) (Some at)
    → ArePlaced columns places (at + 1) now
one_placed columns places at made now lt placed is = record {
  long = ap length is ∙ (length-set made (slice_index_or places at 0) (Some at) ∙ placed.long);
  so = λ given same. (
      let here : at < length given = omega (arith, lt, same) in
      ap (λ (ms : List (Option ℕ)). set_values (values_given columns ms given) (zip (drop (at + 1) places) (drop (at + 1) given))) is
      ∙ (ap (λ (vs : List Value). set_values vs (zip (drop (at + 1) places) (drop (at + 1) given))) (sym (one_given columns made given (slice_index_or places at 0) at placed.long))
      ∙ (sym (ap (λ (ps : List ℕ). set_values (values_given columns made given) (zip ps (slice_index_or given at Null ∷ drop (at + 1) given))) (drop_more places at 0 lt))
      ∙ (sym (ap (λ (vs : List Value). set_values (values_given columns made given) (zip (drop at places) vs)) (drop_more given at Null here))
      ∙ placed.so given same))));
}

pub all_placed : (table : Table) (places : List ℕ) (at : ℕ) (made : List (Option ℕ)) → length places ≤ at → ArePlaced table.columns places at made → (given : List Value) → length given ≡ length places → IsSetFor table made places given
all_placed table places at made le placed given same =
    ap (λ (vs : List Value). set_values vs (zip places given)) (as_columns table.columns)
    ∙ (sym (placed.so given same) ∙ ap (λ (ps : List ℕ). set_values (values_given table.columns made given) (zip ps (drop at given))) (none_from places at le))
  where
    none_from : (ps : List ℕ) (n : ℕ) → length ps ≤ n → drop n ps ≡ []
    none_from [] zero le = refl
    none_from [] (suc n) le = refl
    none_from (p ∷ ps) zero le = absurd (omega (arith, le))
    none_from (p ∷ ps) (suc n) le = none_from ps n (omega (arith, le))
