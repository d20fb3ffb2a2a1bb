-- SET that doesn't name the rowid's own column leaves what stands there.
use Rattle.std.proofs.Common.{◌≡◌, refl, sym, ap, ◌∙◌, ◌&&◌, ◌||◌, ◌==◌, ℕ, zero, suc, ℤ, Bool, true, false, not, List, [], ◌∷◌, map, zip, slice_set, Option, Some, None, Ok, Err, arith}
use Rattle.std.specs.Prelude.{slice_get}
use Rattle.std.proofs.lemmas.Bool.{false≢true}
use Rattle.std.proofs.lemmas.Bool.Decides.{nat_tests}
use Rattle.std.specs.List.{list_all}
use Rattle.sqlval.specs.Conversion.{converted}
use Rattle.sqlval.specs.Refusals.{Answer, ◌then◌}
use Rattle.sqlval.specs.declared.affinity.Affinity.{Affinity}
use Rattle.sqlval.specs.declared.affinity.Affinity.TheVariants as to
use Rattle.sqlval.specs.declared.value.Value.{Value}
use Rattle.sqlval.specs.declared.value.Value.TheVariants.{Int}
use Rattle.catalog.specs.Listed.{as_column, own_column, with_rows}
use Rattle.catalog.specs.Rows.{holds_rowid, is_row}
use Rattle.catalog.specs.declared.tables.Column.{Column}
use Rattle.catalog.specs.declared.tables.Table.{Table}
use Rattle.query_names.specs.Readings.{env_of, values}
use Rattle.query_terms.specs.Terms.{Term}
use Rattle.row_scan.specs.Rows.{TableRow}
use Rattle.row_scan.specs.Sources.{as_source}
use Rattle.row_scan.proofs.RowOrder.{both_true}
use Rattle.row_change.specs.Constraints.{set_values, with_affinity}
use Rattle.row_change.specs.NewRows.{all_hold}
use Rattle.row_change.specs.Setting.{is_integer_at, keeps_rowids, names_place, rowid_left, values_set}
use Rattle.row_change.proofs.OwnPlaces.{held_at, left_as_held, left_same}
use Rattle.row_change.proofs.Rising.{both}

-- ---- what isn't named stays

neither : (a b : Bool) → (a || b) ≡ false → (a ≡ false) × (b ≡ false)
neither true b h = absurd (false≢true (sym h))
neither false b h = (refl, h)

no_suc : (i k : ℕ) → (suc i == suc k) ≡ false → (i == k) ≡ false
no_suc i k e = grind (arith, nat_tests)

get_other : (values : List Value) (i : ℕ) (v : Value) (place : ℕ) → (i == place) ≡ false → slice_get (slice_set values i v) place ≡ slice_get values place
get_other [] i v place e = refl
get_other (w ∷ ws) zero v zero e = absurd (false≢true (sym e))
get_other (w ∷ ws) zero v (suc k) e = refl
get_other (w ∷ ws) (suc i) v zero e = refl
get_other (w ∷ ws) (suc i) v (suc k) e = get_other ws i v k (no_suc i k e)

pub others_stay : (sets : List (ℕ × Term)) (given before : List Value) (place : ℕ) → names_place sets place ≡ false
    → slice_get (set_values before (zip (map (λ s. s.0) sets) given)) place ≡ slice_get before place
others_stay [] given before place none = refl
others_stay (s ∷ sets) [] before place none = refl
others_stay (s ∷ sets) (v ∷ given) before place none =
    let parts = neither (s.0 == place) (names_place sets place) none in
    others_stay sets given (slice_set before s.0 v) place parts.1 ∙ get_other before s.0 v place parts.0

-- ---- an integer stays where the affinity is INTEGER

abbrev given_value : Value → Answer Value
given_value value = Ok value

abbrev given_values : List Value → Answer (List Value)
given_values values = Ok values

same_value : (a b : Value) → given_value a ≡ given_value b → a ≡ b
same_value a b e = cc

same_values : (a b : List Value) → given_values a ≡ given_values b → a ≡ b
same_values a b e = cc

abbrev some_value : Value → Option Value
some_value v = Some v

same_some : (a b : Value) → some_value a ≡ some_value b → a ≡ b
same_some a b e = cc

-- the first value and those after it
record Parts (a : Answer Value) (b : Answer (List Value)) (all : List Value) : Type 0 where
  value : Value
  more : List Value
  first_is : a ≡ Ok value
  more_is : b ≡ Ok more
  are : value ∷ more ≡ all

parts_of : (a : Answer Value) (b : Answer (List Value)) (all : List Value) → (a then λ x. b then λ xs. Ok (x ∷ xs)) ≡ Ok all → Parts a b all
parts_of (Ok x) (Ok xs) all e = record { value = x; more = xs; first_is = refl; more_is = refl; are = same_values (x ∷ xs) all e }
parts_of (Ok x) (Err r) all e = absurd cc
parts_of (Err r) b all e = absurd cc

int_stays : (affinity : Affinity) (n : ℤ) → (elim affinity [ to.Integer ↦ true | _ ↦ false ]) ≡ true → converted affinity (Int n) ≡ Ok (Int n)
int_stays to.Integer n e = refl
int_stays to.Numeric n e = refl
int_stays to.Blob n e = refl
int_stays to.Text n e = absurd (false≢true e)

pub stored_stays : (columns : List Column) (values stored : List Value) (place : ℕ) (n : ℤ) → is_integer_at columns place ≡ true → slice_get values place ≡ Some (Int n)
    → with_affinity (map as_column columns) values ≡ Ok stored → slice_get stored place ≡ Some (Int n)
stored_stays [] values stored place n it at e = absurd (false≢true it)
stored_stays (c ∷ columns) [] stored place n it at e = absurd cc
stored_stays (c ∷ columns) (v ∷ values) stored zero n it at e =
    let p = parts_of (converted c.affinity v) (with_affinity (map as_column columns) values) stored e in
    let v_is : v ≡ Int n = same_some v (Int n) at in
    let stays : converted c.affinity v ≡ Ok (Int n) = ap (converted c.affinity) v_is ∙ int_stays c.affinity n it in
    ap (λ (vs : List Value). slice_get vs zero) (sym p.are) ∙ ap some_value (same_value p.value (Int n) (sym p.first_is ∙ stays))
stored_stays (c ∷ columns) (v ∷ values) stored (suc place) n it at e =
    let p = parts_of (converted c.affinity v) (with_affinity (map as_column columns) values) stored e in
    ap (λ (vs : List Value). slice_get vs (suc place)) (sym p.are) ∙ stored_stays columns values p.more place n it at p.more_is

-- ---- a row

not_true : (b : Bool) → not b ≡ true → b ≡ false
not_true true e = absurd (false≢true e)
not_true false e = refl

module _ (table : Table) (sets : List (ℕ × Term)) where
  -- what is stored in a place that SET doesn't name, where an integer is
  place_stays : (row : TableRow) (stored : List Value) (place : ℕ) (n : ℤ) → is_integer_at table.columns place ≡ true → names_place sets place ≡ false → slice_get row.1 place ≡ Some (Int n)
      → values_set table.columns sets (as_source row) ≡ Ok stored → slice_get stored place ≡ Some (Int n)
  place_stays row stored place n it none at e = by (values (env_of (as_source row ∷ [])) (map (λ s. s.1) sets)) e
    where
      by : (a : Answer (List Value)) → ((a then λ given. given_values (set_values row.1 (zip (map (λ s. s.0) sets) given))) then λ vs. with_affinity (map as_column table.columns) vs) ≡ Ok stored → slice_get stored place ≡ Some (Int n)
      by (Ok given) h = stored_stays table.columns (set_values row.1 (zip (map (λ s. s.0) sets) given)) stored place n it (others_stay sets given row.1 place none ∙ at) h
      by (Err r) h = absurd cc

  -- where SET leaves the rowids, a row that holds its rowid keeps it
  pub rowid_kept : keeps_rowids table sets ≡ true → (row now : TableRow) → holds_rowid (own_column table) row ≡ true → rowid_left (own_column table) row.0 now.1 ≡ Ok now.0
      → values_set table.columns sets (as_source row) ≡ Ok now.1 → now.0 ≡ row.0
  rowid_kept kept row now holds left e = by (own_column table) kept holds left
    where
      by : (own : Option ℕ) → (elim own [ None ↦ true | Some place ↦ is_integer_at table.columns place && not (names_place sets place) ]) ≡ true → holds_rowid own row ≡ true
          → rowid_left own row.0 now.1 ≡ Ok now.0 → now.0 ≡ row.0
      by None k h l = left_same row.0 now.0 now.1 l
      by (Some place) k h l =
          let parts = both (is_integer_at table.columns place) (not (names_place sets place)) k in
          left_as_held place row.0 now.0 now.1 (place_stays row now.1 place row.0 parts.0 (not_true (names_place sets place) parts.1) (held_at place row.0 row.1 h) e) l

-- ---- rows

row_holds : (table : Table) (held : List TableRow) (row : TableRow) → is_row (with_rows table held) row ≡ true → holds_rowid (own_column table) row ≡ true
row_holds table held row fit = (both _ (holds_rowid (own_column table) row) fit).1

-- the rows that a table may hold hold their rowids
pub all_held : (table : Table) (held rows : List TableRow) → list_all (is_row (with_rows table held)) rows ≡ true → all_hold (own_column table) rows ≡ true
all_held table held [] fit = refl
all_held table held (row ∷ rows) fit =
    let parts = both (is_row (with_rows table held) row) (list_all (is_row (with_rows table held)) rows) fit in
    both_true (holds_rowid (own_column table) row) (all_hold (own_column table) rows) (row_holds table held row parts.0) (all_held table held rows parts.1)
