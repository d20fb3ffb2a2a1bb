-- A row of a listed table before its triggers run.
use Rattle.std.proofs.Common.{◌≡◌, ◌⊎◌, inl, inr, refl, sym, ap, subst, ◌∙◌, ℕ, ℤ, zero, suc, ◌==◌, ◌&&◌, Bool, true, false, cond, List, [], ◌∷◌, ◌++◌, length, map, Option, Some, None, Result, Ok, Err, arith}
use Rattle.std.proofs.lemmas.Bool.Decides.{nat_tests}
use Rattle.std.proofs.lemmas.List.{length-map, length-set}
use Rattle.std.specs.FinMap.Entries.{find}
use Rattle.std.specs.List as list
use Rattle.std.specs.List.{list_all}
use Rattle.std.specs.Ordering.{eq_by_cmp, int_cmp}
use Rattle.std.specs.Prelude.{IfErr, IsErrAnd, MatchOption, MatchResult, is_some, option_map, slice_set, zip}
use Rattle.sqlval.specs.Conversion.{converted, is_word}
use Rattle.sqlval.specs.Faults.{IsNotDiskFault, IsOutside}
use Rattle.sqlval.specs.Names.{folded}
use Rattle.sqlval.specs.Refusals.{Answer, ◌then◌, NoSuch, TooLong, refusal_of}
use Rattle.sqlval.specs.declared.fault.Fault.{Fault}
use Rattle.sqlval.specs.declared.value.Value.{Value}
use Rattle.sql_syntax.specs.declared.change.Change.{Change}
use Rattle.sql_syntax.specs.declared.change.Change.TheVariants as text
use Rattle.pages.specs.Map.{PageMap}
use Rattle.tree_page.specs.Cells.{Pairwise}
use Rattle.db_layout.specs.Layout.{Owner}
use Rattle.catalog.specs.Database as database
use Rattle.catalog.specs.Database.{ATable, Database, Name, Object, TableColumn, object, row}
use Rattle.catalog.specs.Laws.{FindsListed, IsNoTable}
use Rattle.catalog.specs.Listed.{Listed, as_column, as_view, is_table, own_column, table_named, view_named, with_rows}
use Rattle.catalog.specs.Rows.{are_rows, holds_rowid, is_row, is_value}
use Rattle.catalog.specs.declared.tables.Column.{Column}
use Rattle.catalog.specs.declared.tables.Table.{Table}
use Rattle.catalog.specs.declared.tables.TableRow as stored
use Rattle.catalog.specs.declared.tables.View.{View}
use Rattle.catalog.proofs.NamedDatabases.{folded_twice}
use Rattle.query_names.specs.Bound.{looked_up}
use Rattle.query_names.specs.Checked.{Checked, bad, meant}
use Rattle.query_names.specs.Known.{columns_in, columns_listed}
use Rattle.query_names.specs.Queries.{resolve_query}
use Rattle.query_names.specs.Readings.{env_of, values}
use Rattle.query_names.specs.Views.{unless_around, view_columns}
use Rattle.query_names.specs.declared.scope.ScopeColumn.{ScopeColumn}
use Rattle.query_terms.specs.Outcome.{IsRefusedBy}
use Rattle.query_terms.specs.Terms.{Term}
use Rattle.query_terms.specs.Values.{Row}
use Rattle.query_terms.proofs.Quiet.{IsQuiet, memory_is_quiet, next, of_converted, quiet_fault}
use Rattle.row_scan.specs.Rows.{TableRow}
use Rattle.row_change.specs.Binding.{row_with}
use Rattle.row_change.specs.Changes.{Outer}
use Rattle.row_change.specs.Constraints.{given_rowid, row_of, set_values, shown_rowid, table_of, with_affinity}
use Rattle.row_change.specs.Inserting.{own_value}
use Rattle.row_change.specs.NewRows.{row_of as pair_of}
use Rattle.row_change.specs.RowChanges.{Deleting, Event, Firing, Inserting, Updating, firing}
use Rattle.row_change.proofs.Rising.{both}
use Rattle.smallvec.specs.SmallVec.{SmallVec}
use Rattle.trigger.specs.Binding.{aim_of}
use Rattle.trigger_names.specs.Programs.{HasRowsOf, has_new, has_old}
use Rattle.trigger_names.specs.Resolved.{names_set}
use Rattle.db_pages.specs.Stored.{AreHeld, Stores}
use Rattle.executor.specs.Rows.{StoredStay, StoresTable}
use Rattle.executor_programs.specs.Acts.{IsRowIn}
use Rattle.executor_programs.specs.Begun.{BeginsAs, Values, shown}
use Rattle.executor_programs.specs.Rows.{begun, inserted_before, set_beside, updated_before}
use Rattle.executor_programs.specs.declared.acts.Act.{Act}
use Rattle.executor_programs.specs.declared.acts.TableItem.{TableItem}
use Rattle.executor_programs.specs.declared.acts.TableItem.TheVariants as item
use Rattle.executor_programs.specs.declared.rows.Begun.{Begun}
use Rattle.executor_programs.specs.declared.rows.Begun.TheVariants as begin

-- ---- the table

-- a change aims at a folded name
pub aim_folded : (c : Change) → folded (aim_of c).target ≡ (aim_of c).target
aim_folded (text.Insert i) = folded_twice i.table
aim_folded (text.Update u) = folded_twice u.table
aim_folded (text.Delete d) = folded_twice d.table

some_table : (t u : Table) → Some t ≡ Some u → t ≡ u
some_table t u e = cc

found_fit : (rows_at : ℕ → List TableRow) (p : Table → Bool) (tables : List Table) (held : List (List Owner)) (t : Table) → Pairwise (AreHeld rows_at) tables held → list.find p tables ≡ Some t
    → are_rows (with_rows t (rows_at t.root)) ≡ true
found_fit rows_at p [] held t each e = absurd cc
found_fit rows_at p (u ∷ us) [] t each e = absurd each
found_fit rows_at p (u ∷ us) (os ∷ held) t each e = by (p u) (found_fit rows_at p us held t each.1) e
  where
    by : (b : Bool) → (list.find p us ≡ Some t → are_rows (with_rows t (rows_at t.root)) ≡ true) → cond b (Some u) (list.find p us) ≡ Some t → are_rows (with_rows t (rows_at t.root)) ≡ true
    by true rest e = subst (λ (t : Table). are_rows (with_rows t (rows_at t.root)) ≡ true) (some_table u t e) each.0.fit
    by false rest e = rest e

-- the table of a change, with the rows that its tree holds
pub record IsHere (c : Change) (table : Table) (db : Database) : Type 0 where
  pub rows : List TableRow
  pub is : table_of db (aim_of c).target ≡ Ok (with_rows table rows)
  pub fit : are_rows (with_rows table rows) ≡ true

abbrev table_in : Option Object → Answer database.Table
table_in o = elim o [ Some (ATable t) ↦ Ok t | _ ↦ Err NoSuch ]

pub here : FindsListed → (pages : PageMap) (size : ℕ) (l : Listed) (db : Database) (c : Change) (table : Table) → Stores pages size l db → table_named (aim_of c).target l.tables ≡ Some table → IsHere c table db
here finds pages size l db c table held named = record {
  rows = held.rows_at table.root;
  is = ap table_in
      (subst
      (λ (o : Option Table). MatchOption o (IsNoTable l (aim_of c).target (object db (aim_of c).target)) (λ t. object db (aim_of c).target ≡ Some (ATable (with_rows t (held.rows_at t.root)))))
      named (finds held.rows_at l db (aim_of c).target held.of_listed.lists));
  fit = found_fit held.rows_at (is_table (aim_of c).target) l.tables held.held table held.each named;
}

pub stores_table : (pages : PageMap) (size : ℕ) (l : Listed) (db : Database) (c : Change) (table : Table) → Stores pages size l db → table_named (aim_of c).target l.tables ≡ Some table → (h : IsHere c table db)
    → StoresTable pages size l db (aim_of c).target table (with_rows table h.rows)
stores_table pages size l db c table held named h = record { stored = held; named = named; is_folded = aim_folded c; is = h.is }

-- a row that is there has a value for each column
some_values : (vs ws : List Value) → Some vs ≡ Some ws → vs ≡ ws
some_values vs ws e = cc

equal_counts : (n m : ℕ) → (n == m) ≡ true → n ≡ m
equal_counts n m e = grind (arith, nat_tests)

found_long : (t : database.Table) (id : ℤ) (vs : List Value) (rows : List TableRow) → list_all (is_row t) rows ≡ true → find int_cmp id rows ≡ Some vs → length vs ≡ length t.columns
found_long t id vs [] all e = absurd cc
found_long t id vs (r ∷ rows) all e =
    let parts = both (is_row t r) (list_all (is_row t) rows) all in
    by (eq_by_cmp int_cmp id r.0) parts.0 (found_long t id vs rows parts.1) e
  where
    long : is_row t r ≡ true → length r.1 ≡ length t.columns
    long h =
        equal_counts (length r.1) (length t.columns)
        ((both (is_word r.0) (length r.1 == length t.columns)
        ((both (is_word r.0 && length r.1 == length t.columns) (list_all is_value r.1)
        ((both (is_word r.0 && length r.1 == length t.columns && list_all is_value r.1) (holds_rowid t.rowid_column r) h).0)).0)).1)

    by : (b : Bool) → is_row t r ≡ true → (find int_cmp id rows ≡ Some vs → length vs ≡ length t.columns) → cond b (Some r.1) (find int_cmp id rows) ≡ Some vs → length vs ≡ length t.columns
    by true h rest e = ap length (sym (some_values r.1 vs e)) ∙ long h
    by false h rest e = rest e

pub row_long : (table : Table) (rows : List TableRow) (id : ℤ) (vs : List Value) → are_rows (with_rows table rows) ≡ true → row (with_rows table rows) id ≡ Some vs → length vs ≡ length table.columns
row_long table rows id vs fit there =
    found_long (with_rows table rows) id vs rows (both _ (list_all (is_row (with_rows table rows)) rows) fit).1 there ∙ length-map table.columns as_column

-- ---- the event

pub columns_known : (n : ℕ) (l : Listed) (around : List Name) (name : Name) (t : Table) → table_named name l.tables ≡ Some t → columns_in n l around name ≡ looked_up (Some t)
columns_known zero l around name t e = ap (λ (o : Option Table). columns_listed (λ (v : View). unless_around around name (bad ([], false) TooLong)) o (view_named name l.views)) e
columns_known (suc n) l around name t e =
    ap
    (λ (o : Option Table). columns_listed (λ (v : View). unless_around around name (view_columns (as_view v) (resolve_query (columns_in n l (folded name ∷ around)) [] v.definition.query))) o
    (view_named name l.views)) e

pub row_in : (l : Listed) (c : Change) (table : Table) (rows : List TableRow) (event : Event) (new old : Option Row) → table_named (aim_of c).target l.tables ≡ Some table → event ≡ (aim_of c).event
    → is_some new ≡ has_new event → is_some old ≡ has_old event → IsRowIn l (aim_of c) (firing (aim_of c).target event (with_rows table rows) new old)
row_in l c table rows event new old named kind has_n has_o = record {
  target = refl;
  event = kind;
  columns = sym (ap (λ (k : Checked (List ScopeColumn × Bool)). (meant k).0) (columns_known 64 l [] (aim_of c).target table named));
  has_rowid = sym (ap (λ (k : Checked (List ScopeColumn × Bool)). (meant k).1) (columns_known 64 l [] (aim_of c).target table named));
  has = subst (λ (e : Event). HasRowsOf e (firing (aim_of c).target event (with_rows table rows) new old)) kind (has_n, has_o);
}

-- ---- the rowid

abbrev table_with : Table → Option ℕ → List TableRow → database.Table
table_with t own rows = record { columns = map as_column t.columns; rowid_column = own; checks = t.checks; rows = rows }

own_as_given : (t : Table) (own : Option ℕ) (rows : List TableRow) (vs : List Value) → given_rowid (table_with t own rows) vs ≡ own_value own vs
own_as_given t None rows vs = refl
own_as_given t (Some i) rows vs = refl

own_as_shown : (t : Table) (own : Option ℕ) (rows : List TableRow) (id : ℤ) (vs : List Value) → shown_rowid (table_with t own rows) id vs ≡ shown own id vs
own_as_shown t None rows id vs = refl
own_as_shown t (Some i) rows id vs = refl

pub defaults_are : (columns : List Column) → map (λ (c : TableColumn). c.default) (map as_column columns) ≡ map (λ (c : Column). c.default) columns
defaults_are [] = refl
defaults_are (c ∷ columns) = ap (λ (vs : List Value). c.default ∷ vs) (defaults_are columns)

-- ---- refusals

of_stored : (columns : List TableColumn) (vs : List Value) → IsQuiet (with_affinity columns vs)
of_stored [] vs = tt
of_stored (c ∷ columns) [] = tt
of_stored (c ∷ columns) (v ∷ vs) =
    next (converted c.affinity v) (λ w. with_affinity columns vs then λ ws. Ok (w ∷ ws)) (of_converted c.affinity v) (λ w. next (with_affinity columns vs) (λ ws. Ok (w ∷ ws)) (of_stored columns vs) (λ ws. tt))

-- no conversion is refused for a disk
pub stored_quietly : (columns : List TableColumn) (vs : List Value) (f : Fault) → IsRefusedBy (with_affinity columns vs) f → IsNotDiskFault f
stored_quietly columns vs f (inl memory) = memory_is_quiet f memory
stored_quietly columns vs f (inr e) = quiet_fault f (subst IsQuiet e (of_stored columns vs))

-- a call that hands a refusal on
pub handed_on : {X : Type 0} (result : Result X Fault) (f : Fault) → IsErrAnd result (λ e. e ≡ f) → IsNotDiskFault f → IfErr result (λ fault. IsNotDiskFault fault)
handed_on (Ok x) f same why = tt
handed_on (Err e) f same why = subst IsNotDiskFault (sym same) why

pub passed_on : {X : Type 0} (P : X → Type 0) (Q : Fault → Type 0) (r : Result X Fault) (f : Fault) → IsErrAnd r (λ e. e ≡ f) → Q f → MatchResult r P Q
passed_on P Q (Ok x) f is why = absurd is
passed_on P Q (Err e) f is why = subst Q (sym is) why

-- ---- INSERT

module _ (l : Listed) (c : Change) (db : Database) (seen : Outer) (table : Table) (act : Act) (given : SmallVec Value) (h : IsHere c table db) (named : table_named (aim_of c).target l.tables ≡ Some table) (kind : Inserting ≡ (aim_of c).event) where
  abbrev now : database.Table
  now = with_rows table h.rows

  abbrev as_stored : Answer (List Value)
  as_stored = with_affinity (map as_column table.columns) (row_with table act.places.items given.items)

  abbrev inserting_event : List Value → Firing
  inserting_event vs = firing (aim_of c).target Inserting now (Some (record { rowid = given_rowid now vs; values = vs })) None

  abbrev inserting_answer : List Value → Answer (Option Firing)
  inserting_answer vs = Ok (Some (inserting_event vs))

  insert_is : begun seen c act (item.Insert given) db ≡ (as_stored then inserting_answer)
  insert_is = ap (λ (a : Answer database.Table). a then λ t. inserted_before (aim_of c).target act.places.items t given.items) h.is

  pub stored_same : (cols : List Column) (places : List ℕ) (more old new vals : List Value) → cols ≡ table.columns → places ≡ act.places.items → more ≡ given.items → old ≡ map (λ (c : Column). c.default) cols
      → new ≡ set_values old (zip places more) → vals ≡ new → with_affinity (map as_column cols) vals ≡ as_stored
  stored_same cols places more old new vals cols_are places_are more_is defaults put same =
      (λ j. with_affinity (map as_column (cols_are j)) (vals_are j))
    where
      olds : old ≡ map (λ (c : TableColumn). c.default) (map as_column table.columns)
      olds = defaults ∙ (ap (map (λ (c : Column). c.default)) cols_are ∙ sym (defaults_are table.columns))

      vals_are : vals ≡ row_with table act.places.items given.items
      vals_are = same ∙ (put ∙ (λ j. set_values (olds j) (zip (places_are j) (more_is j))))

  pub insert_refused : (result : Result (Option Begun) Fault) (f : Fault) → IsErrAnd result (λ e. e ≡ f) → IsRefusedBy as_stored f → BeginsAs l c table act (item.Insert given) (begun seen c act (item.Insert given) db) result
  insert_refused result f same why = passed_on _ (λ f. IsOutside f ⊎ (begun seen c act (item.Insert given) db ≡ Err (refusal_of f))) result f same (by why)
    where
      by : IsRefusedBy as_stored f → IsOutside f ⊎ (begun seen c act (item.Insert given) db ≡ Err (refusal_of f))
      by (inl memory) = inl (inl memory)
      by (inr refused) = inr (insert_is ∙ ap (λ (a : Answer (List Value)). a then inserting_answer) refused)

  pub insert_begun : (rowid : Value) (kept : Values) → as_stored ≡ Ok kept.items → rowid ≡ own_value (own_column table) kept.items
      → BeginsAs l c table act (item.Insert given) (begun seen c act (item.Insert given) db) (Ok (Some (begin.Insert rowid kept)))
  insert_begun rowid kept stores own = (
    inserting_event kept.items,
    insert_is ∙ ap (λ (a : Answer (List Value)). a then inserting_answer) stores,
    record {
      at = (ap (λ (v : Value). Some (record { rowid = v; values = kept.items })) (own_as_given table (own_column table) h.rows kept.items ∙ sym own), refl);
      for = stores;
      row = row_in l c table h.rows Inserting (Some (record { rowid = given_rowid now kept.items; values = kept.items })) None named kind refl refl;
    },
  )

-- ---- UPDATE

as_many : (before : List Value) (ps : List (ℕ × Value)) → length (set_values before ps) ≡ length before
as_many before [] = refl
as_many before (p ∷ ps) = as_many (slice_set before p.0 p.1) ps ∙ length-set before p.0 p.1

abbrev ok : List Value → Answer (List Value)
ok vs = Ok vs

same_ok : (a b : List Value) → ok a ≡ ok b → a ≡ b
same_ok a b e = cc

answer_long : (sets : List (ℕ × Term)) (old : List Value) (a : Answer (List Value)) (new : List Value) → (a then λ given. let l : Answer (List Value) = Ok (set_values old (zip (map (λ s. s.0) sets) given)) in l) ≡ Ok new
    → length new ≡ length old
answer_long sets old (Ok given) new e = ap length (sym (same_ok (set_values old (zip (map (λ s. s.0) sets) given)) new e)) ∙ as_many old (zip (map (λ s. s.0) sets) given)
answer_long sets old (Err r) new e = absurd cc

-- SET leaves as many values
pub set_long : (seen : Outer) (sets : List (ℕ × Term)) (r : Row) (new : List Value) → set_beside seen sets r ≡ Ok new → length new ≡ length r.values
set_long seen sets r new e = answer_long sets r.values (values (env_of (seen.rows ++ r ∷ [])) (map (λ s. s.1) sets)) new e

module _ (l : Listed) (c : Change) (db : Database) (seen : Outer) (table : Table) (act : Act) (old : stored.TableRow) (rows : List TableRow) (named : table_named (aim_of c).target l.tables ≡ Some table)
    (kind : Updating (names_set c) ≡ (aim_of c).event) (is : table_of db (aim_of c).target ≡ Ok (with_rows table rows)) (there : row (with_rows table rows) old.rowid ≡ Some old.values.items)
    (long : length old.values.items ≡ length table.columns) where
  abbrev here_now : database.Table
  here_now = with_rows table rows

  abbrev was : Row
  was = row_of old.rowid old.values.items

  abbrev columns : List TableColumn
  columns = map as_column table.columns

  abbrev updating_event : List Value → Firing
  updating_event vs = firing (aim_of c).target (Updating (names_set c)) here_now (Some (record { rowid = shown_rowid here_now old.rowid vs; values = vs })) (Some was)

  abbrev updating_answer : List Value → Answer (Option Firing)
  updating_answer vs = Ok (Some (updating_event vs))

  abbrev set_now : Answer (List Value)
  set_now = set_beside seen act.sets.items was

  abbrev then_stored : Answer (List Value) → Answer (Option Firing)
  then_stored a = a then λ new. with_affinity columns new then updating_answer

  update_is : begun seen c act (item.Update old.rowid) db ≡ then_stored set_now
  update_is =
      ap (λ (a : Answer database.Table). a then λ t. updated_before seen (aim_of c).target act.sets.items (names_set c) t old.rowid (row t old.rowid)) is
      ∙ ap (updated_before seen (aim_of c).target act.sets.items (names_set c) here_now old.rowid) there

  pub set_refused : (source : Row) (result : Result (Option Begun) Fault) (f : Fault) → source ≡ was → IsErrAnd result (λ e. e ≡ f) → IsRefusedBy (set_beside seen act.sets.items source) f
      → BeginsAs l c table act (item.Update old.rowid) (begun seen c act (item.Update old.rowid) db) result
  set_refused source result f same_source same why =
      passed_on _ (λ f. IsOutside f ⊎ (begun seen c act (item.Update old.rowid) db ≡ Err (refusal_of f))) result f same (by (subst (λ (r : Row). IsRefusedBy (set_beside seen act.sets.items r) f) same_source why))
    where
      by : IsRefusedBy set_now f → IsOutside f ⊎ (begun seen c act (item.Update old.rowid) db ≡ Err (refusal_of f))
      by (inl memory) = inl (inl memory)
      by (inr refused) = inr (update_is ∙ ap then_stored refused)

  pub stored_refused : (source : Row) (new : List Value) (result : Result (Option Begun) Fault) (f : Fault) → source ≡ was → set_beside seen act.sets.items source ≡ Ok new → IsErrAnd result (λ e. e ≡ f)
      → IsRefusedBy (with_affinity columns new) f → BeginsAs l c table act (item.Update old.rowid) (begun seen c act (item.Update old.rowid) db) result
  stored_refused source new result f same_source set same why =
      passed_on _ (λ f. IsOutside f ⊎ (begun seen c act (item.Update old.rowid) db ≡ Err (refusal_of f))) result f same (by why)
    where
      by : IsRefusedBy (with_affinity columns new) f → IsOutside f ⊎ (begun seen c act (item.Update old.rowid) db ≡ Err (refusal_of f))
      by (inl memory) = inl (inl memory)
      by (inr refused) = inr
          (update_is ∙ (ap then_stored (ap (set_beside seen act.sets.items) (sym same_source) ∙ set) ∙ ap (λ (a : Answer (List Value)). a then updating_answer) refused))

  pub update_begun : StoredStay → (source : Row) (new : List Value) (rowid : Value) (kept : Values) → source ≡ was → set_beside seen act.sets.items source ≡ Ok new → with_affinity columns new ≡ Ok kept.items
      → rowid ≡ shown (own_column table) old.rowid kept.items
      → BeginsAs l c table act (item.Update old.rowid) (begun seen c act (item.Update old.rowid) db) (Ok (Some (begin.Update old rowid kept)))
  update_begun stay source new rowid kept same_source set stores own = (
    updating_event kept.items,
    update_is ∙ (ap then_stored set_is ∙ ap (λ (a : Answer (List Value)). a then updating_answer) stores),
    record {
      at = (ap (λ (v : Value). Some (record { rowid = v; values = kept.items })) (own_as_shown table (own_column table) rows old.rowid kept.items ∙ sym own), refl);
      for = (refl, stay (with_rows table []) new kept.items (set_long seen act.sets.items was new set_is ∙ (long ∙ sym (length-map table.columns as_column))) stores);
      row = row_in l c table rows (Updating (names_set c)) (Some (record { rowid = shown_rowid here_now old.rowid kept.items; values = kept.items })) (Some was) named kind refl refl;
    },
  )
    where
      set_is : set_now ≡ Ok new
      set_is = ap (set_beside seen act.sets.items) (sym same_source) ∙ set

-- ---- the row that is there

abbrev ids : ℤ → List Value → TableRow
ids id vs = (id, vs)

some_pair : (a b : TableRow) → Some a ≡ Some b → a ≡ b
some_pair a b e = cc

pub there_is : (old : stored.TableRow) (o : Option (List Value)) (id : ℤ) → option_map pair_of (Some old) ≡ option_map (ids id) o → (o ≡ Some old.values.items) × (old.rowid ≡ id)
there_is old None id e = absurd cc
there_is old (Some vs) id e =
    let p = some_pair (old.rowid, old.values.items) (id, vs) e in
    (ap (λ (r : TableRow). Some r.1) (sym p), ap (λ (r : TableRow). r.0) p)

pub gone : (o : Option (List Value)) (id : ℤ) → option_map pair_of None ≡ option_map (ids id) o → o ≡ None
gone None id e = refl
gone (Some vs) id e = absurd cc

pub values_now : (found : Option stored.TableRow) (o : Option (List Value)) (id : ℤ) → option_map pair_of found ≡ option_map (ids id) o → option_map (λ (r : stored.TableRow). r.values.items) found ≡ o
values_now None o id e = sym (gone o id e)
values_now (Some old) o id e = sym (there_is old o id e).0

module _ (l : Listed) (c : Change) (db : Database) (seen : Outer) (table : Table) (act : Act) (h : IsHere c table db) (id : ℤ) where
  abbrev found_table : database.Table
  found_table = with_rows table h.rows

  pub update_gone : option_map pair_of None ≡ option_map (ids id) (row found_table id) → BeginsAs l c table act (item.Update id) (begun seen c act (item.Update id) db) (Ok None)
  update_gone none =
      ap (λ (a : Answer database.Table). a then λ t. updated_before seen (aim_of c).target act.sets.items (names_set c) t id (row t id)) h.is
      ∙ ap (updated_before seen (aim_of c).target act.sets.items (names_set c) found_table id) (gone (row found_table id) id none)

  abbrev deleting_event : List Value → Firing
  deleting_event old = firing (aim_of c).target Deleting found_table None (Some (row_of id old))

  delete_is : (o : Option (List Value)) → row found_table id ≡ o → begun seen c act (item.Delete id) db ≡ Ok (option_map deleting_event o)
  delete_is o e =
      ap (λ (a : Answer database.Table). a then λ t. let l : Answer (Option Firing) = Ok (option_map (λ old. firing (aim_of c).target Deleting t None (Some (row_of id old))) (row t id)) in l) h.is
      ∙ ap (λ (o : Option (List Value)). let l : Answer (Option Firing) = Ok (option_map deleting_event o) in l) e

  pub delete_gone : option_map pair_of None ≡ option_map (ids id) (row found_table id) → BeginsAs l c table act (item.Delete id) (begun seen c act (item.Delete id) db) (Ok None)
  delete_gone none = delete_is None (gone (row found_table id) id none)

  pub delete_begun : (old : stored.TableRow) → table_named (aim_of c).target l.tables ≡ Some table → Deleting ≡ (aim_of c).event → option_map pair_of (Some old) ≡ option_map (ids id) (row found_table id)
      → BeginsAs l c table act (item.Delete id) (begun seen c act (item.Delete id) db) (Ok (Some (begin.Delete old)))
  delete_begun old named kind found =
      let is = there_is old (row found_table id) id found in (
        deleting_event old.values.items,
        delete_is (Some old.values.items) is.0,
        record {
          at = (refl, ap (λ (n : ℤ). Some (row_of n old.values.items)) (sym is.1));
          for = is.1;
          row = row_in l c table h.rows Deleting None (Some (row_of id old.values.items)) named kind refl refl;
        },
      )

-- the same of a row under the rowid that it has
pub update_at : (l : Listed) (c : Change) (db : Database) (seen : Outer) (table : Table) (act : Act) (id other : ℤ) (result : Result (Option Begun) Fault) → other ≡ id
    → BeginsAs l c table act (item.Update other) (begun seen c act (item.Update other) db) result → BeginsAs l c table act (item.Update id) (begun seen c act (item.Update id) db) result
update_at l c db seen table act id other result same so = subst (λ (n : ℤ). BeginsAs l c table act (item.Update n) (begun seen c act (item.Update n) db) result) same so

-- a row isn't read
pub unread : (l : Listed) (c : Change) (db : Database) (seen : Outer) (table : Table) (act : Act) (i : TableItem) (result : Result (Option Begun) Fault) (f : Fault) → IsErrAnd result (λ e. e ≡ f) → IsOutside f
    → BeginsAs l c table act i (begun seen c act i db) result
unread l c db seen table act i result f same why = passed_on _ (λ f. IsOutside f ⊎ (begun seen c act i db ≡ Err (refusal_of f))) result f same (inl why)

-- a row that was read is begun as it is
pub update_of_row : (l : Listed) (c : Change) (db : Database) (seen : Outer) (table : Table) (act : Act) (h : IsHere c table db) (id : ℤ) (old : stored.TableRow) (result : Result (Option Begun) Fault)
    → option_map pair_of (Some old) ≡ option_map (ids id) (row (with_rows table h.rows) id)
    → (row (with_rows table h.rows) old.rowid ≡ Some old.values.items → length old.values.items ≡ length table.columns → BeginsAs l c table act (item.Update old.rowid) (begun seen c act (item.Update old.rowid) db) result)
    → BeginsAs l c table act (item.Update id) (begun seen c act (item.Update id) db) result
update_of_row l c db seen table act h id old result found go =
    let is = there_is old (row (with_rows table h.rows) id) id found in
    update_at l c db seen table act id old.rowid result is.1
    (go (ap (row (with_rows table h.rows)) is.1 ∙ is.0) (row_long table h.rows id old.values.items h.fit is.0))
