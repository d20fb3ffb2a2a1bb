-- What a table demands of a row: what is so then, and column by column.
use Rattle.std.proofs.Common.{◌≡◌, refl, subst, ◌≤◌, ◌&&◌, ℕ, zero, suc, Bool, true, false, List, [], ◌∷◌, length, map, drop, min, Ok, Err, if◌then◌else◌, nat_le, arith}
use Rattle.std.proofs.lemmas.Bool.{false≢true}
use Rattle.std.specs.List.{list_all}
use Rattle.std.specs.Prelude.{All, unwrap_or}
use Rattle.sqlval.specs.Refusals.{Answer, ◌then◌, Check, NotNull, TooLong}
use Rattle.sqlval.specs.declared.value.Value.{Value}
use Rattle.sqlval.specs.declared.value.Value.TheVariants.{Null, Int, Text, Blob}
use Rattle.record.specs.Writing.{AreStorable, IsStorable}
use Rattle.catalog.specs.Database.{TableColumn}
use Rattle.catalog.specs.Listed.{as_column}
use Rattle.catalog.specs.declared.tables.Column.{Column}
use Rattle.catalog.specs.declared.tables.Table.{Table}
use Rattle.query_names.specs.Readings.{holds}
use Rattle.query_names.proofs.QuietValues.{of_holds}
use Rattle.query_terms.specs.Terms.{Term}
use Rattle.query_terms.specs.Values.{Row}
use Rattle.query_terms.proofs.Quiet.{IsQuiet, next}
use Rattle.row_scan.specs.Rows.{TableRow}
use Rattle.row_scan.specs.Sources.{as_source}
use Rattle.row_change.specs.Constraints.{can_be_stored, check_holds, checks_hold, demand, is_short, not_null_holds}
use Rattle.row_change.specs.Demands.{demanded}

abbrev given_row : TableRow → Answer TableRow
given_row row = Ok row

same_row : (a b : TableRow) → given_row a ≡ given_row b → a ≡ b
same_row a b e = cc

-- a row that is as it is demanded stays as it is, and a record can hold it
record IsAsDemanded (row now : TableRow) : Type 0 where
  pub same : row ≡ now
  pub fits : can_be_stored row.1 ≡ true

as_demanded : (table : Table) (row now : TableRow) → demanded table row ≡ Ok now → IsAsDemanded row now
as_demanded table row now e = by (not_null_holds (map as_column table.columns) row.1) (can_be_stored row.1) refl (checks_hold (as_source row) table.checks) e
  where
    by : (b c : Bool) → can_be_stored row.1 ≡ c → (d : Answer (Unit {0}))
        → (demand b NotNull then λ _. demand c TooLong then λ _. d then λ _. given_row row) ≡ Ok now → IsAsDemanded row now
    by true true k (Ok u) h = record { same = same_row row now h; fits = k }
    by true true k (Err r) h = absurd cc
    by true false k d h = absurd cc
    by false c k d h = absurd cc

pub is_demanded : (table : Table) (row now : TableRow) → demanded table row ≡ Ok now → row ≡ now
is_demanded table row now e = (as_demanded table row now e).same

-- ---- a record can hold it

short_fits : (v : Value) → is_short v ≡ true → IsStorable v
short_fits Null h = tt
short_fits (Int n) h = tt
short_fits (Text t) h = le_of (length t) h
  where
    le_of : (n : ℕ) → nat_le n 1000000 ≡ true → n ≤ 1000000
    le_of n h = grind (arith)
short_fits (Blob b) h = le_of (length b) h
  where
    le_of : (n : ℕ) → nat_le n 1000000 ≡ true → n ≤ 1000000
    le_of n h = grind (arith)

both_parts : (b c : Bool) → (b && c) ≡ true → (b ≡ true) × (c ≡ true)
both_parts true c h = (refl, h)
both_parts false c h = absurd (false≢true h)

all_short : (vs : List Value) → list_all is_short vs ≡ true → All IsStorable vs
all_short [] h k d lt = absurd (omega (arith, lt))
all_short (v ∷ vs) h zero d lt = short_fits v (both_parts (is_short v) (list_all is_short vs) h).0
all_short (v ∷ vs) h (suc k) d lt = all_short vs (both_parts (is_short v) (list_all is_short vs) h).1 k d (omega (arith, lt))

pub can_store : (vs : List Value) → can_be_stored vs ≡ true → AreStorable vs
can_store vs h = (let both = both_parts (nat_le (length vs) 1000) (list_all is_short vs) h in (le_of (length vs) both.0, all_short vs both.1))
  where
    le_of : (n : ℕ) → nat_le n 1000 ≡ true → n ≤ 1000
    le_of n h = grind (arith)

pub demanded_fits : (table : Table) (row now : TableRow) → demanded table row ≡ Ok now → AreStorable now.1
demanded_fits table row now e = (let is = as_demanded table row now e in subst (λ (r : TableRow). AreStorable r.1) is.same (can_store row.1 is.fits))

-- ---- no disk refuses it

abbrev passed : Bool → Answer (Unit {0})
passed b = if b then Ok tt else Err Check

of_check : (row : Row) (c : Term) → IsQuiet (check_holds row c then passed)
of_check row c = next (check_holds row c) passed (next (holds c (row ∷ [])) (λ test. Ok (unwrap_or test true)) (of_holds c (row ∷ [])) (λ test. tt)) by
  where
    by : (b : Bool) → IsQuiet (passed b)
    by true = tt
    by false = tt

pub of_checks : (row : Row) (cs : List Term) → IsQuiet (checks_hold row cs)
of_checks row [] = tt
of_checks row (c ∷ cs) = next (check_holds row c then passed) (λ u. checks_hold row cs) (of_check row c) (λ u. of_checks row cs)

pub of_demanded : (table : Table) (row : TableRow) → IsQuiet (demanded table row)
of_demanded table row = by (not_null_holds (map as_column table.columns) row.1) (can_be_stored row.1) (checks_hold (as_source row) table.checks) (of_checks (as_source row) table.checks)
  where
    by : (b c : Bool) (d : Answer (Unit {0})) → IsQuiet d → IsQuiet (demand b NotNull then λ _. demand c TooLong then λ _. d then λ _. given_row row)
    by true true (Ok u) h = tt
    by true true (Err r) h = h
    by true false d h = tt
    by false c d h = tt

-- ---- column by column

none_to_take : (columns : List TableColumn) → not_null_holds columns [] ≡ true
none_to_take [] = refl
none_to_take (c ∷ columns) = refl

-- past the columns or the values each is taken
pub all_taken : (columns : List Column) (values : List Value) (i : ℕ) → min (length columns) (length values) ≤ i → not_null_holds (map as_column (drop i columns)) (drop i values) ≡ true
all_taken [] values zero le = refl
all_taken [] values (suc i) le = refl
all_taken (c ∷ columns) [] zero le = refl
all_taken (c ∷ columns) [] (suc i) le = none_to_take (map as_column (drop i columns))
all_taken (c ∷ columns) (v ∷ values) zero le = absurd (omega (arith, le))
all_taken (c ∷ columns) (v ∷ values) (suc i) le = all_taken columns values i (omega (arith, le))
