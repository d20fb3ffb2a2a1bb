-- What SET makes of rows, one after another.
use Rattle.std.proofs.Common.{◌≡◌, refl, sym, ap, subst, ◌∙◌, inl, inr, ◌<◌, ◌≤◌, ◌+◌, ℕ, zero, suc, ℤ, Bool, true, false, List, [], ◌∷◌, ◌++◌, length, map, drop, min, Option, Some, None, Result, Ok, Err, arith}
use Rattle.std.specs.Prelude.{IfErr, IsErrAnd, if◌then◌else◌, slice_get, unwrap_or, zip}
use Rattle.std.proofs.lemmas.List.{append-nil, map_push}
use Rattle.sqlval.specs.Conversion.{converted}
use Rattle.sqlval.specs.Faults.{IsNotDiskFault}
use Rattle.sqlval.specs.Refusals.{Answer, ◌then◌, RowidMismatch, all_answers}
use Rattle.sqlval.specs.declared.fault.Fault.{Fault}
use Rattle.sqlval.specs.declared.value.Value.{Value}
use Rattle.sqlval.specs.declared.value.Value.TheVariants.{Null, Int, Text, Blob}
use Rattle.catalog.specs.Rows.{rowid_number}
use Rattle.catalog.specs.Database.{TableColumn}
use Rattle.catalog.specs.Listed.{as_column, own_column}
use Rattle.catalog.specs.declared.tables.Column.{Column}
use Rattle.catalog.specs.declared.tables.Table.{Table}
use Rattle.query_names.specs.Readings.{env_of, holds, values}
use Rattle.query_terms.specs.Outcome.{AnswersBy, IsRefusedBy}
use Rattle.query_terms.specs.Rows.{row_at}
use Rattle.query_terms.specs.Terms.{Term}
use Rattle.query_terms.specs.Values.{Environment, Row}
use Rattle.query_terms.proofs.InOrder.{with_front}
use Rattle.query_terms.proofs.Quiet.{IsQuiet, memory_is_quiet, next, of_converted, quiet_fault}
use Rattle.query_names.proofs.QuietValues.{of_holds, of_values}
use Rattle.row_scan.specs.Rows.{TableRow}
use Rattle.row_change.specs.Constraints.{set_values, with_affinity}
use Rattle.row_change.specs.Demands.{demanded}
use Rattle.row_change.specs.Setting.{is_meant_for, rowid_left, rows_changed, rows_meant, set_over, source_set, values_set}
use Rattle.row_change.proofs.Demanded.{of_demanded}

-- ---- values

no_values : (columns : List TableColumn) → with_affinity columns [] ≡ Ok []
no_values [] = refl
no_values (c ∷ columns) = refl

-- past the columns or the values there is nothing to store
none_left : (columns : List Column) (values : List Value) (i : ℕ) → min (length columns) (length values) ≤ i → with_affinity (map as_column (drop i columns)) (drop i values) ≡ Ok []
none_left [] values zero le = refl
none_left [] values (suc i) le = refl
none_left (c ∷ columns) [] zero le = refl
none_left (c ∷ columns) [] (suc i) le = no_values (map as_column (drop i columns))
none_left (c ∷ columns) (v ∷ values) zero le = absurd (omega (arith, le))
none_left (c ∷ columns) (v ∷ values) (suc i) le = none_left columns values i (omega (arith, le))

pub all_stored : (columns : List Column) (values new : List Value) (i : ℕ) (all : Answer (List Value)) → min (length columns) (length values) ≤ i
    → with_front new (with_affinity (map as_column (drop i columns)) (drop i values)) ≡ all → all ≡ Ok new
all_stored columns values new i all le so_far =
    sym so_far ∙ (ap (with_front new) (none_left columns values i le) ∙ ap (λ (vs : List Value). Ok vs) (append-nil new))

-- ---- the rows that are meant

drop_step : (rows : List Row) (i : ℕ) → i < length rows → drop i rows ≡ row_at rows i ∷ drop (i + 1) rows
drop_step [] i lt = absurd (omega (arith, lt))
drop_step (row ∷ rows) zero lt = refl
drop_step (row ∷ rows) (suc i) lt = (let on : suc i + 1 ≡ suc (i + 1) = omega arith in drop_step rows i (omega (arith, lt)) ∙ ap (λ n. row_at rows i ∷ drop n (row ∷ rows)) (sym on))

module _ (c : Option Term) (rows : List Row) (all : Answer (List Row)) (i : ℕ) (places : List ℕ) (so_far : rows_meant c (map (row_at rows) places) (drop i rows) ≡ all) where
  abbrev with_test : Bool → List Row
  with_test test = if test then map (row_at rows) places ++ row_at rows i ∷ [] else map (row_at rows) places

  step_is : i < length rows → rows_meant c (map (row_at rows) places) (drop i rows) ≡ (is_meant_for c (row_at rows i) then λ test. rows_meant c (with_test test) (drop (i + 1) rows))
  step_is lt = ap (rows_meant c (map (row_at rows) places)) (drop_step rows i lt)

  pub one_refused : {X : Type 0} (view : X → List Row) (result : Result X Fault) (f : Fault) → i < length rows → IsErrAnd result (λ e. e ≡ f) → IsRefusedBy (is_meant_for c (row_at rows i)) f → AnswersBy view all result
  one_refused view (Ok x) f lt same why = absurd same
  one_refused view (Err e) f lt same why = subst (λ (g : Fault). IsRefusedBy all g) (sym same) (by why)
    where
      by : IsRefusedBy (is_meant_for c (row_at rows i)) f → IsRefusedBy all f
      by (inl memory) = inl memory
      by (inr is) = inr (sym so_far ∙ (step_is lt ∙ ap (λ (a : Answer Bool). a then λ test. rows_meant c (with_test test) (drop (i + 1) rows)) is))

  pub one_more : (test : Bool) (next : List ℕ) → i < length rows → is_meant_for c (row_at rows i) ≡ Ok test → next ≡ (if test then places ++ i ∷ [] else places) → rows_meant c (map (row_at rows) next) (drop (i + 1) rows) ≡ all
  one_more test next lt is pushed =
      ap (λ (ps : List ℕ). rows_meant c (map (row_at rows) ps) (drop (i + 1) rows)) pushed
      ∙ (ap (λ (them : List Row). rows_meant c them (drop (i + 1) rows)) (as_rows test)
      ∙ (sym (step_is lt ∙ ap (λ (a : Answer Bool). a then λ test. rows_meant c (with_test test) (drop (i + 1) rows)) is) ∙ so_far))
    where
      as_rows : (test : Bool) → map (row_at rows) (if test then places ++ i ∷ [] else places) ≡ with_test test
      as_rows true = map_push (row_at rows) places i
      as_rows false = refl

-- ---- what they become

pub map_twice : {A B C : Type 0} (g : B → C) (f : A → B) (xs : List A) → map (λ x. g (f x)) xs ≡ map g (map f xs)
map_twice g f [] = refl
map_twice g f (x ∷ xs) = ap (λ ys. g (f x) ∷ ys) (map_twice g f xs)

-- where a condition means the rows at these places, what those that are meant become is what these become
pub these_changed : (table : Table) (sets : List (ℕ × Term)) (c : Option Term) (rows : List Row) (places : List ℕ) → rows_meant c [] rows ≡ Ok (map (row_at rows) places)
    → rows_changed table sets c rows ≡ all_answers (map (λ place. source_set table sets (row_at rows place)) places)
these_changed table sets c rows places meant =
    ap (λ (a : Answer (List Row)). a then λ them. all_answers (map (source_set table sets) them)) meant
    ∙ ap all_answers (sym (map_twice (source_set table sets) (row_at rows) places))

-- ---- no disk refuses

of_meant_for : (c : Option Term) (row : Row) → IsQuiet (is_meant_for c row)
of_meant_for None row = tt
of_meant_for (Some t) row = next (holds t (row ∷ [])) (λ test. Ok (unwrap_or test false)) (of_holds t (row ∷ [])) (λ test. tt)

pub of_meant : (c : Option Term) (before rows : List Row) → IsQuiet (rows_meant c before rows)
of_meant c before [] = tt
of_meant c before (row ∷ rows) =
    next (is_meant_for c row) (λ test. rows_meant c (if test then before ++ row ∷ [] else before) rows) (of_meant_for c row) (λ test. of_meant c (if test then before ++ row ∷ [] else before) rows)

of_stored : (columns : List TableColumn) (values : List Value) → IsQuiet (with_affinity columns values)
of_stored [] values = tt
of_stored (c ∷ columns) [] = tt
of_stored (c ∷ columns) (v ∷ values) =
    next (converted c.affinity v) (λ w. with_affinity columns values then λ ws. Ok (w ∷ ws)) (of_converted c.affinity v)
    (λ w. next (with_affinity columns values) (λ ws. Ok (w ∷ ws)) (of_stored columns values) (λ ws. tt))

abbrev integer_in : Value → Answer ℤ
integer_in v = elim v [ Int n ↦ Ok n | _ ↦ Err RowidMismatch ]

of_over : (sets : List (ℕ × Term)) (seen : Environment) (before : List Value) → IsQuiet (set_over sets seen before)
of_over sets seen before = by (values seen (map (λ s. s.1) sets)) (of_values seen (map (λ s. s.1) sets))
  where
    by : (a : Answer (List Value)) → IsQuiet a → IsQuiet (a then λ given. let l : Answer (List Value) = Ok (set_values before (zip (map (λ s. s.0) sets) given)) in l)
    by (Ok given) h = tt
    by (Err r) h = h

of_left : (own : Option ℕ) (rowid : ℤ) (values : List Value) → IsQuiet (rowid_left own rowid values)
of_left None rowid values = tt
of_left (Some place) rowid values = by (unwrap_or (slice_get values place) Null)
  where
    by : (v : Value) → IsQuiet (integer_in v)
    by Null = tt
    by (Int n) = tt
    by (Text t) = tt
    by (Blob b) = tt

of_set : (table : Table) (sets : List (ℕ × Term)) (row : Row) → IsQuiet (source_set table sets row)
of_set table sets row =
    next (values_set table.columns sets row) _
    (next (set_over sets (env_of (row ∷ [])) row.values) (with_affinity (map as_column table.columns)) (of_over sets (env_of (row ∷ [])) row.values) (λ values. of_stored (map as_column table.columns) values))
    (λ values. next (rowid_left (own_column table) (rowid_number row.rowid) values) (λ now. demanded table (now, values)) (of_left (own_column table) (rowid_number row.rowid) values) (λ now. of_demanded table (now, values)))

quietly : {A : Type 0} (a : Answer A) (f : Fault) → IsQuiet a → IsRefusedBy a f → IsNotDiskFault f
quietly a f quiet (inl memory) = memory_is_quiet f memory
quietly a f quiet (inr e) = quiet_fault f (subst IsQuiet e quiet)

-- by no disk are places refused
pub none_placed : (c : Option Term) (rows : List Row) (f : Fault) → IsRefusedBy (rows_meant c [] rows) f → IsNotDiskFault f
none_placed c rows f why = quietly (rows_meant c [] rows) f (of_meant c [] rows) why

pub not_placed : {X : Type 0} (view : X → List Row) (result : Result X Fault) (c : Option Term) (rows : List Row) → AnswersBy view (rows_meant c [] rows) result → IfErr result (λ fault. IsNotDiskFault fault)
not_placed view (Ok x) c rows answers = tt
not_placed view (Err e) c rows answers = none_placed c rows e answers

pub passed_fault : {X : Type 0} (result : Result X Fault) (f : Fault) → IsErrAnd result (λ e. e ≡ f) → IsNotDiskFault f → IfErr result (λ fault. IsNotDiskFault fault)
passed_fault (Ok x) f same why = absurd same
passed_fault (Err e) f same why = subst IsNotDiskFault (sym same) why

pub set_quietly : {X : Type 0} (view : X → TableRow) (result : Result X Fault) (table : Table) (sets : List (ℕ × Term)) (row : Row) → AnswersBy view (source_set table sets row) result → IfErr result (λ fault. IsNotDiskFault fault)
set_quietly view (Ok x) table sets row answers = tt
set_quietly view (Err e) table sets row answers = quietly (source_set table sets row) e (of_set table sets row) answers
