-- What the text of an INSERT stands for, by its table among those that are listed.
use Rattle.std.proofs.Common.{◌≡◌, refl, sym, ap, subst, ◌∙◌, inl, inr, ℕ, zero, suc, ◌+◌, Bool, false, if◌then◌else◌, List, [], ◌∷◌, ◌++◌, length, map, Option, Some, None, arith}
use Rattle.std.specs.List.{range_with_len, Contains}
use Rattle.std.proofs.lemmas.List.Elements.{Contains-append_left, Contains-append_right}
use Rattle.sqlval.specs.Names.{folded}
use Rattle.sqlval.specs.Refusals.{Refusal, ◌then◌, NoSuch}
use Rattle.sqlval.specs.declared.value.Value.{Value}
use Rattle.sql_syntax.specs.declared.change.Change.TheVariants as change
use Rattle.sql_syntax.specs.declared.change.Insert.{Insert}
use Rattle.sql_syntax.specs.declared.change.InsertSource.{InsertSource}
use Rattle.catalog.specs.Database.{Name, Database}
use Rattle.catalog.specs.Listed.{as_column, own_column}
use Rattle.catalog.specs.declared.tables.Column.{Column}
use Rattle.catalog.specs.declared.tables.Table.{Table}
use Rattle.query_names.specs.Bound.{columns_seen, count_wanted, is_twice_named, source_seen}
use Rattle.query_names.specs.Inserts.{AreColumns, IsListRefusal, places_in}
use Rattle.query_names.specs.Checked.{Checked, Meant, good, bad, faults, noted, also, both, ◌and_then◌}
use Rattle.query_names.specs.Scopes.{source_of, resolve_places, table_scope, with_rowid_at}
use Rattle.query_names.specs.declared.scope.ScopeColumn.{ScopeColumn}
use Rattle.query_names.specs.declared.scope.ScopeSource.{ScopeSource}
use Rattle.query_names.specs.Views.{look_up}
use Rattle.row_change.specs.Binding.{row_with}
use Rattle.row_change.specs.Changes.{Given, Inserts, Resolved, no_outer, resolve_change, resolve_given}
use Rattle.row_change.specs.Inserting.{values_given}
use Rattle.query_names.proofs.ColumnPlaces.{column_place}
use Rattle.row_change.proofs.PlacesByName.{list_places, listed_row, own_row, unknown_list, doubled_list}

-- ---- the target

abbrev targeted : Name → Checked (List ScopeColumn × Bool) → (ScopeSource → Checked Resolved) → Checked Resolved
targeted n k f = (noted k and_then λ found. good (source_of (folded n) found)) and_then f

also_none : {A : Type 0} (k : Checked A) → also [] k ≡ k
also_none (Meant x rs) = refl

target_known : (n : Name) (k : Checked (List ScopeColumn × Bool)) (t : Table) (f : ScopeSource → Checked Resolved) → k ≡ good (columns_seen t) → targeted n k f ≡ f (source_seen n t)
target_known n k t f e = ap (λ k. targeted n k f) e ∙ also_none (f (source_seen n t))

also_front : {A : Type 0} (r : Refusal) (k : Checked A) → Contains (faults (also (r ∷ []) k)) r
also_front r (Meant x rs) = (0, omega arith, refl)

target_missing : (n : Name) (k : Checked (List ScopeColumn × Bool)) (f : ScopeSource → Checked Resolved) → k ≡ bad ([], false) NoSuch → Contains (faults (targeted n k f)) NoSuch
target_missing n k f e = subst (λ k. Contains (faults (targeted n k f)) NoSuch) (sym e) (also_front NoSuch (f (source_of (folded n) (bad ([], false) NoSuch))))

-- ---- the insertion

abbrev all_from : ℕ → List ScopeColumn → List ℕ
all_from i [] = []
all_from i (c ∷ cs) = i ∷ all_from (suc i) cs

abbrev places_known : ScopeSource → Option (List Name) → Checked (List ℕ)
places_known s None = good (all_from 0 s.columns)
places_known s (Some ns) = resolve_places s ns

abbrev wanted : ScopeSource → Option (List Name) → Option ℕ
wanted s None = if s.is_known then Some (length s.columns) else None
wanted s (Some ns) = Some (length ns)

abbrev insertion : Name → Option (List Name) → InsertSource → Insert
insertion n columns source = record { table = n; columns = columns; source = source }

abbrev seen : List Column → List ScopeColumn
seen cs = table_scope (record { columns = map as_column cs; rowid_column = None; checks = []; rows = [] })

seen_count : (cs : List Column) → length (seen cs) ≡ length cs
seen_count [] = refl
seen_count (c ∷ cs) = ap suc (seen_count cs)

one_more : (i : ℕ) → suc i ≡ i + 1
one_more i = omega arith

all_is : (i : ℕ) (cs : List Column) → all_from i (seen cs) ≡ map (λ p. p) (range_with_len i (length cs))
all_is i [] = refl
all_is i (c ∷ cs) = ap (λ ps. i ∷ ps) (ap (λ j. all_from j (seen cs)) (one_more i) ∙ all_is (i + 1) cs)

-- a column has its place, whether or not it is another name of the rowid
same_all : (own : Option ℕ) (i : ℕ) (cs : List ScopeColumn) → all_from i (with_rowid_at own cs) ≡ all_from i cs
same_all None i cs = refl
same_all (Some place) i [] = refl
same_all (Some zero) i (c ∷ cs) = refl
same_all (Some (suc place)) i (c ∷ cs) = ap (λ ps. i ∷ ps) (same_all (Some place) (suc i) cs)

same_count : (own : Option ℕ) (cs : List ScopeColumn) → length (with_rowid_at own cs) ≡ length cs
same_count None cs = refl
same_count (Some place) [] = refl
same_count (Some zero) (c ∷ cs) = refl
same_count (Some (suc place)) (c ∷ cs) = ap suc (same_count (Some place) cs)

-- the places of the values' columns
abbrev pub value_places : Table → Option (List Name) → List ℕ
value_places t None = map (λ p. p) (range_with_len 0 (length t.columns))
value_places t (Some ns) = map (column_place t.columns) ns

both_faults : {A B C : Type 0} (f : A → B → C) (k : Checked A) (l : Checked B) → faults (both f k l) ≡ faults k ++ faults l
both_faults f (Meant x rs) (Meant y ss) = refl

abbrev rest_with : Database → Name → Option (List Name) → InsertSource → ScopeSource → Checked Resolved
rest_with db n columns source s = both (Inserts (folded n)) (places_known s columns) (resolve_given db no_outer (wanted s columns) source)

module _ (db : Database) (n : Name) (source : InsertSource) (t : Table) (found : look_up db n ≡ good (columns_seen t)) (once : is_twice_named t.columns ≡ false) where
  list_fault : (columns : Option (List Name)) (r : Refusal) → IsListRefusal t.columns columns r → Contains (faults (places_known (source_seen n t) columns)) r
  list_fault None r h = absurd h
  list_fault (Some ns) r (inl (e, u)) = subst (Contains (faults (resolve_places (source_seen n t) ns))) (sym e) (unknown_list n t once ns u)
  list_fault (Some ns) r (inr (e, u)) = subst (Contains (faults (resolve_places (source_seen n t) ns))) (sym e) (doubled_list n t once ns u)

  places_of_list : (columns : Option (List Name)) → AreColumns t.columns columns → places_known (source_seen n t) columns ≡ good (value_places t columns)
  places_of_list None l = ap good (same_all (own_column t) 0 (seen t.columns) ∙ all_is 0 t.columns)
  places_of_list (Some ns) l = list_places n t once ns l.0 l.1

  count_is : (columns : Option (List Name)) → wanted (source_seen n t) columns ≡ Some (count_wanted columns t)
  count_is None = ap Some (same_count (own_column t) (seen t.columns) ∙ seen_count t.columns)
  count_is (Some ns) = refl

  -- where the source isn't refused, the insertion isn't
  pub source_stands : (columns : Option (List Name)) (given_as : Given) → AreColumns t.columns columns → resolve_given db no_outer (Some (count_wanted columns t)) source ≡ good given_as
      → resolve_change db no_outer (change.Insert (insertion n columns source)) ≡ good (Inserts (folded n) (value_places t columns) given_as)
  source_stands columns given_as l stands_so =
      target_known n (look_up db n) t (rest_with db n columns source) found
      ∙ (ap (λ p. both (Inserts (folded n)) p (resolve_given db no_outer (wanted (source_seen n t) columns) source)) (places_of_list columns l)
      ∙ (ap (λ w. both (Inserts (folded n)) (good (value_places t columns)) (resolve_given db no_outer w source)) (count_is columns)
      ∙ ap (both (Inserts (folded n)) (good (value_places t columns))) stands_so))

  has_part : (columns : Option (List Name)) (r : Refusal) → Contains (faults (places_known (source_seen n t) columns) ++ faults (resolve_given db no_outer (wanted (source_seen n t) columns) source)) r
      → Contains (faults (resolve_change db no_outer (change.Insert (insertion n columns source)))) r
  has_part columns r h =
      subst (λ k. Contains (faults k) r) (sym (target_known n (look_up db n) t (rest_with db n columns source) found))
      (subst (λ rs. Contains rs r) (sym (both_faults (Inserts (folded n)) (places_known (source_seen n t) columns) (resolve_given db no_outer (wanted (source_seen n t) columns) source))) h)

  -- a refusal of the source is one of the insertion
  pub source_refused : (columns : Option (List Name)) (r : Refusal) → Contains (faults (resolve_given db no_outer (Some (count_wanted columns t)) source)) r
      → Contains (faults (resolve_change db no_outer (change.Insert (insertion n columns source)))) r
  source_refused columns r h = has_part columns r (Contains-append_right (faults (places_known (source_seen n t) columns)) (faults (resolve_given db no_outer (wanted (source_seen n t) columns) source)) r
      (subst (λ w. Contains (faults (resolve_given db no_outer w source)) r) (sym (count_is columns)) h))

  -- so is one of its list of columns
  pub columns_refused : (columns : Option (List Name)) (r : Refusal) → IsListRefusal t.columns columns r
      → Contains (faults (resolve_change db no_outer (change.Insert (insertion n columns source)))) r
  columns_refused columns r h = has_part columns r (Contains-append_left (faults (places_known (source_seen n t) columns)) (faults (resolve_given db no_outer (wanted (source_seen n t) columns) source)) r
      (list_fault columns r h))

  -- the values by their places
  pub row_placed : (columns : Option (List Name)) → AreColumns t.columns columns → (vs : List Value) → length vs ≡ count_wanted columns t
      → row_with t (value_places t columns) vs ≡ values_given t.columns (places_in t.columns columns) vs
  row_placed None l vs k = own_row t vs k
  row_placed (Some ns) l vs k = listed_row t ns vs once l.0 l.1 k

-- no table or view has the name
pub table_missing : (db : Database) (n : Name) (columns : Option (List Name)) (source : InsertSource) → look_up db n ≡ bad ([], false) NoSuch
    → Contains (faults (resolve_change db no_outer (change.Insert (insertion n columns source)))) NoSuch
table_missing db n columns source none = target_missing n (look_up db n) (rest_with db n columns source) none
