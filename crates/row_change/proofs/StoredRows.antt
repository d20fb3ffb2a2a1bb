-- What the rows given become, column by column and row by row.
use Rattle.std.proofs.Common.{◌≡◌, ◌⊎◌, inl, inr, ℕ, suc, ℤ, ◌<◌, List, [], ◌∷◌, Option, None, Result, Ok, Err, length, slice_index_or, refl, sym, ap, subst, ◌∙◌, arith}
use Rattle.std.specs.Prelude.{IfOk, IfErr}
use Rattle.sqlval.specs.Affinity.{Converts, IsReal, IsConversionFault, WantsNumbers}
use Rattle.sqlval.specs.Conversion.{converted}
use Rattle.sqlval.specs.Refusals.{Answer, ◌then◌, Refusal, RealRefused}
use Rattle.sqlval.specs.declared.affinity.Affinity.{Affinity}
use Rattle.sqlval.specs.declared.affinity.Affinity.TheVariants as to
use Rattle.sqlval.specs.declared.fault.Fault.{Fault}
use Rattle.sqlval.specs.declared.fault.Fault.TheVariants as f
use Rattle.sqlval.specs.declared.value.Value.{Value}
use Rattle.sqlval.specs.declared.value.Value.TheVariants.{Null, Int}
use Rattle.record.specs.Writing.{AreStorable}
use Rattle.catalog.specs.Listed.{own_column}
use Rattle.catalog.specs.declared.tables.Column.{Column}
use Rattle.catalog.specs.declared.tables.Table.{Table}
use Rattle.row_scan.specs.Rows.{TableRow}
use Rattle.query_terms.specs.Laws.{ConvertsAsRelated, RefusesReals}
use Rattle.row_change.specs.Demands.{demanded}
use Rattle.row_change.specs.Inserting.{given_for, own_value, row_added, row_stored, rowid_given, with_own_value}
use Rattle.row_change.proofs.Demanded.{demanded_fits, is_demanded}

-- ---- one value

pub value_stored : (affinity : Affinity) (old : Value) (r : Result Value Fault) → ConvertsAsRelated → IfOk r (λ new. Converts affinity old new) → IfOk r (λ new. converted affinity old ≡ Ok new)
value_stored affinity old (Ok new) gives h = gives affinity old new h
value_stored affinity old (Err fault) gives h = tt

real_refused : (affinity : Affinity) (old : Value) → RefusesReals → IsReal old → WantsNumbers affinity → converted affinity old ≡ Err RealRefused
real_refused to.Blob old refuses real wants = absurd wants
real_refused to.Text old refuses real wants = absurd wants
real_refused to.Numeric old refuses real wants = (refuses old real).1
real_refused to.Integer old refuses real wants = (refuses old real).0

abbrev Why : Affinity → Value → Fault → Type 0
Why affinity old fault = (fault ≡ f.Memory) ⊎ ((fault ≡ f.RealRefused) × (converted affinity old ≡ Err RealRefused))

wanted : (affinity : Affinity) (old : Value) → RefusesReals → IsReal old → (f.RealRefused ≡ f.Memory) ⊎ WantsNumbers affinity → Why affinity old f.RealRefused
wanted affinity old refuses real (inl e) = absurd cc
wanted affinity old refuses real (inr wants) = inr (refl, real_refused affinity old refuses real wants)

why_of : (affinity : Affinity) (old : Value) (fault : Fault) → RefusesReals → IsConversionFault old fault → (fault ≡ f.Memory) ⊎ WantsNumbers affinity → Why affinity old fault
why_of affinity old f.Memory refuses h wants = inl refl
why_of affinity old f.RealRefused refuses h wants = wanted affinity old refuses h wants
why_of affinity old _ refuses h wants = absurd h

pub value_refused : (affinity : Affinity) (old : Value) (r : Result Value Fault) → RefusesReals → IfErr r (λ fault. IsConversionFault old fault) → IfErr r (λ fault. (fault ≡ f.Memory) ⊎ WantsNumbers affinity)
    → IfErr r (λ fault. (fault ≡ f.Memory) ⊎ ((fault ≡ f.RealRefused) × (converted affinity old ≡ Err RealRefused)))
value_refused affinity old (Ok new) refuses h wants = tt
value_refused affinity old (Err fault) refuses h wants = why_of affinity old fault refuses h wants

-- ---- one row

-- the column at a place stores this value
abbrev pub Stores : List Column → List (Option ℕ) → List Value → ℕ → Column → Value → Type 0
Stores columns places given i column value = converted (slice_index_or columns i column).affinity (given_for (slice_index_or columns i column) given (slice_index_or places i None)) ≡ Ok value

pub all_stored : (columns : List Column) (places : List (Option ℕ)) (given values : List Value) → length values ≡ length columns
    → ((i : ℕ) (c : Column) → i < length columns → Stores columns places given i c (slice_index_or values i Null)) → row_stored columns places given ≡ Ok values
all_stored [] places given [] long each = refl
all_stored [] places given (v ∷ values) long each = absurd (omega (arith, long))
all_stored (c ∷ columns) places given [] long each = absurd (omega (arith, long))
all_stored (c ∷ columns) [] given (v ∷ values) long each = rw (each 0 c (omega arith), all_stored columns [] given values (omega (arith, long)) (λ i d lt. each (suc i) d (omega (arith, lt)))) refl
all_stored (c ∷ columns) (p ∷ places) given (v ∷ values) long each = rw (each 0 c (omega arith), all_stored columns places given values (omega (arith, long)) (λ i d lt. each (suc i) d (omega (arith, lt)))) refl

pub one_refused : (columns : List Column) (places : List (Option ℕ)) (given values : List Value) (r : Refusal) (c : Column) → length values < length columns
    → ((i : ℕ) (c : Column) → i < length values → Stores columns places given i c (slice_index_or values i Null))
    → converted (slice_index_or columns (length values) c).affinity (given_for (slice_index_or columns (length values) c) given (slice_index_or places (length values) None)) ≡ Err r → row_stored columns places given ≡ Err r
one_refused [] places given values r c lt each e = absurd (omega (arith, lt))
one_refused (d ∷ columns) [] given [] r c lt each e = rw e refl
one_refused (d ∷ columns) (p ∷ places) given [] r c lt each e = rw e refl
one_refused (d ∷ columns) [] given (v ∷ values) r c lt each e = rw (each 0 d (omega arith), one_refused columns [] given values r c (omega (arith, lt)) (λ i x less. each (suc i) x (omega (arith, less))) e) refl
one_refused (d ∷ columns) (p ∷ places) given (v ∷ values) r c lt each e = rw (each 0 d (omega arith), one_refused columns places given values r c (omega (arith, lt)) (λ i x less. each (suc i) x (omega (arith, less))) e) refl

-- a column's refusal is that of the row
pub column_refused : (columns : List Column) (places : List (Option ℕ)) (given values : List Value) (index : ℕ) (column : Column) (place : Option ℕ) (fault : Fault) → length values ≡ index
    → ((i : ℕ) (c : Column) → i < index → Stores columns places given i c (slice_index_or values i Null)) → index < length columns → column ≡ slice_index_or columns index column → place ≡ slice_index_or places index None
    → (fault ≡ f.Memory) ⊎ ((fault ≡ f.RealRefused) × (converted column.affinity (given_for column given place) ≡ Err RealRefused)) → (fault ≡ f.Memory) ⊎ ((fault ≡ f.RealRefused) × (row_stored columns places given ≡ Err RealRefused))
column_refused columns places given values index column place fault long each lt is place_is (inl e) = inl e
column_refused columns places given values index column place fault long each lt is place_is (inr (e, h)) =
    let here : converted (slice_index_or columns index column).affinity (given_for (slice_index_or columns index column) given (slice_index_or places index None)) ≡ Err RealRefused =
    subst (λ (x : Column). converted x.affinity (given_for x given (slice_index_or places index None)) ≡ Err RealRefused) is (subst (λ p. converted column.affinity (given_for column given p) ≡ Err RealRefused) place_is h) in
    inr (
      e,
      one_refused columns places given values RealRefused column (omega (arith, long, lt)) (λ i c less. each i c (omega (arith, long, less)))
          (subst (λ k. converted (slice_index_or columns k column).affinity (given_for (slice_index_or columns k column) given (slice_index_or places k None)) ≡ Err RealRefused) (sym long) here),
    )

-- ---- the parts of an answer

abbrev given_values : List Value → Answer (List Value)
given_values values = Ok values

same_values : (a b : List Value) → given_values a ≡ given_values b → a ≡ b
same_values a b e = cc

-- what a row is made of: the values that the columns store, its rowid, and this in its own column
pub record RowParts (table : Table) (places : List (Option ℕ)) (last : Option ℤ) (given : List Value) (row : TableRow) : Type 0 where
  pub values : List Value
  pub stored : row_stored table.columns places given ≡ Ok values
  pub rowid : rowid_given last (own_value (own_column table) values) ≡ Ok row.0
  pub are : with_own_value (own_column table) (Int row.0) values ≡ row.1
  pub fits : AreStorable row.1

module _ (table : Table) (places : List (Option ℕ)) (last : Option ℤ) (given : List Value) (row : TableRow) where
  -- the row of these values and this rowid, as it is demanded
  abbrev made : List Value → ℤ → Answer TableRow
  made values rowid = demanded table (rowid, with_own_value (own_column table) (Int rowid) values)

  parts_of : (values : List Value) (b : Answer ℤ) → row_stored table.columns places given ≡ Ok values → rowid_given last (own_value (own_column table) values) ≡ b → (b then made values) ≡ Ok row → RowParts table places last given row
  parts_of values (Ok rowid) is it h =
      let same : (rowid, with_own_value (own_column table) (Int rowid) values) ≡ row = is_demanded table (rowid, with_own_value (own_column table) (Int rowid) values) row h in
      record {
        values = values;
        stored = is;
        rowid = it ∙ ap (λ (r : TableRow). Ok r.0) same;
        are = ap (λ (n : ℤ). with_own_value (own_column table) (Int n) values) (sym (ap (λ (r : TableRow). r.0) same)) ∙ ap (λ (r : TableRow). r.1) same;
        fits = demanded_fits table (rowid, with_own_value (own_column table) (Int rowid) values) row h;
      }
  parts_of values (Err r) is it h = absurd cc

  pub row_parts : row_added table places last given ≡ Ok row → RowParts table places last given row
  row_parts e = by (row_stored table.columns places given) refl e
    where
      by : (a : Answer (List Value)) → row_stored table.columns places given ≡ a → (a then λ values. rowid_given last (own_value (own_column table) values) then made values) ≡ Ok row → RowParts table places last given row
      by (Ok values) is h = parts_of values (rowid_given last (own_value (own_column table) values)) is refl h
      by (Err r) is h = absurd cc

-- ---- as many values as columns

long_list : (a : Answer Value) (b : Answer (List Value)) (n : ℕ) (values : List Value) → (a then λ w. b then λ ws. Ok (w ∷ ws)) ≡ Ok values → ((ws : List Value) → b ≡ Ok ws → length ws ≡ n) → length values ≡ suc n
long_list (Ok w) (Ok ws) n values e long = ap length (sym (same_values (w ∷ ws) values e)) ∙ ap suc (long ws refl)
long_list (Ok w) (Err r) n values e long = absurd cc
long_list (Err r) b n values e long = absurd cc

pub long_values : (columns : List Column) (places : List (Option ℕ)) (given values : List Value) → row_stored columns places given ≡ Ok values → length values ≡ length columns
long_values [] places given values e = ap length (sym (same_values [] values e))
long_values (c ∷ columns) [] given values e = long_list (converted c.affinity c.default) (row_stored columns [] given) (length columns) values e (long_values columns [] given)
long_values (c ∷ columns) (p ∷ places) given values e = long_list (converted c.affinity (given_for c given p)) (row_stored columns places given) (length columns) values e (long_values columns places given)
