-- The change of a row of a listed table after the triggers before it ran.
use Rattle.std.proofs.Common.{◌≡◌, ◌⊎◌, inl, inr, refl, sym, ap, subst, ◌∙◌, ℕ, ℤ, Bool, true, false, cond, List, [], ◌∷◌, Option, Some, None, Result, Ok, Err}
use Rattle.std.specs.List as list
use Rattle.std.specs.List.{list_any}
use Rattle.std.specs.Prelude.{IsErrAnd, MatchResult, option_map, zip, ◌||◌}
use Rattle.sqlval.specs.Faults.{IsOutside}
use Rattle.sqlval.specs.Refusals.{Answer, ◌then◌, Refusal, NoSuch, RowChangedBefore, refusal_of}
use Rattle.sqlval.specs.declared.fault.Fault.{Fault}
use Rattle.sqlval.specs.declared.value.Value.{Value}
use Rattle.sql_syntax.specs.declared.change.Change.{Change}
use Rattle.pages.specs.Calls.{IsOutsideOrFull, Limits}
use Rattle.pages.specs.Map.{PageMap}
use Rattle.std.specs.Prelude.{IsTrue}
use Rattle.catalog.specs.Database as database
use Rattle.catalog.specs.Database.{ATable, Database, Name, row, with_object, without_row}
use Rattle.catalog.specs.Laws.{FindsListed}
use Rattle.catalog.specs.Listed.{Listed, is_table, table_named, with_rows}
use Rattle.catalog.specs.declared.tables.Table.{Table}
use Rattle.catalog.specs.declared.tables.TableRow as stored_row
use Rattle.query_terms.specs.Values.{Row}
use Rattle.row_change.specs.Agreement.{IsSetFor}
use Rattle.row_change.specs.Constraints.{default_values, demand, given_rowid, new_rowid, row_of, set_values, stored, table_of, updated_rowid, with_affinity, with_rowid}
use Rattle.row_change.specs.NewRows.{row_of as pair_of}
use Rattle.row_change.specs.RowChanges.{Deleting, Firing, Inserting, Updating, firing, insert_row, same_row, unchanged}
use Rattle.db_write.specs.Changing.{has_wide_index}
use Rattle.db_write.specs.OneRow.{IsRefusedAs}
use Rattle.smallvec.specs.SmallVec.{SmallVec}
use Rattle.trigger.specs.Binding.{aim_of}
use Rattle.trigger_names.specs.Resolved.{names_set}
use Rattle.db_pages.specs.Stored.{Stores}
use Rattle.executor.specs.Rows.{AreStoredBy, IsRowSet, IsRowStored, StoresTable, still, values_put}
use Rattle.executor_programs.specs.Acts.{IsItemOf, IsTableAct}
use Rattle.executor_programs.specs.Begun.{IsBetween, IsFinished, IsUntouched, Values, given_in}
use Rattle.executor_programs.specs.Rows.{finished, values_in}
use Rattle.executor_programs.specs.Running.{IsRunRefusal}
use Rattle.executor_programs.specs.declared.acts.Act.{Act}
use Rattle.executor_programs.specs.declared.acts.TableItem.{TableItem}
use Rattle.executor_programs.specs.declared.acts.TableItem.TheVariants as item
use Rattle.executor_programs.specs.declared.rows.Begun.TheVariants as begin
use Rattle.executor_programs.proofs.Beginning.{IsHere, here, row_in, stores_table, values_now}
use Rattle.executor_programs.proofs.SameRows.{as_it_was, same_values}

-- ---- answers with an event

abbrev pub Made : Type 0
Made = Answer (Database × Firing)

abbrev first_of : Made → Answer Database
first_of a = a then λ (p : Database × Firing). let l : Answer Database = Ok p.0 in l

abbrev with_event : Firing → Database → Made
with_event e db = Ok (db, e)

abbrev refusal_in : {A : Type 0} → Answer A → Refusal
refusal_in (Ok x) = NoSuch
refusal_in (Err r) = r

refused_first : (a : Made) (r : Refusal) → first_of a ≡ Err r → a ≡ Err r
refused_first (Ok p) r e = absurd cc
refused_first (Err s) r e = ap (λ (r : Refusal). let l : Made = Err r in l) (ap refusal_in e)

abbrev a_database : Database → Answer Database
a_database db = Ok db

same_database : (d made : Database) → a_database d ≡ a_database made → d ≡ made
same_database d made e = cc

last : (s : Answer Database) (e : Firing) (made : Database) → first_of (s then with_event e) ≡ Ok made → (s then with_event e) ≡ Ok (made, e)
last (Ok d) e made h = ap (with_event e) (same_database d made h)
last (Err r) e made h = absurd cc

same_way : (a : Answer ℤ) (s : ℤ → Answer Database) (e : ℤ → Firing) → (a then λ id. s id then a_database) ≡ first_of (a then λ id. s id then with_event (e id))
same_way (Err r) s e = refl
same_way (Ok id) s e = by (s id)
  where
    by : (b : Answer Database) → (b then a_database) ≡ first_of (b then with_event (e id))
    by (Ok db) = refl
    by (Err r) = refl

bare_way : (a : Answer ℤ) (s : ℤ → Answer Database) (e : ℤ → Firing) → (a then s) ≡ first_of (a then λ id. s id then with_event (e id))
bare_way (Err r) s e = refl
bare_way (Ok id) s e = by (s id)
  where
    by : (b : Answer Database) → b ≡ first_of (b then with_event (e id))
    by (Ok db) = refl
    by (Err r) = refl

-- ---- refusals

some_table : (t u : Table) → Some t ≡ Some u → t ≡ u
some_table t u e = cc

or_right : (b : Bool) → (b || true) ≡ true
or_right true = refl
or_right false = refl

any_found : (p q : Table → Bool) (tables : List Table) (t : Table) → list.find p tables ≡ Some t → q t ≡ true → list_any q tables ≡ true
any_found p q [] t e h = absurd cc
any_found p q (u ∷ us) t e h = by (p u) (λ e. any_found p q us t e h) e
  where
    by : (b : Bool) → (list.find p us ≡ Some t → list_any q us ≡ true) → cond b (Some u) (list.find p us) ≡ Some t → (q u || list_any q us) ≡ true
    by true rest e = ap (λ (b : Bool). b || list_any q us) (ap q (some_table u t e) ∙ h)
    by false rest e = ap (λ (b : Bool). q u || b) (rest e) ∙ or_right (q u)

refused_as : (l : Listed) (table : Table) (name : Name) (plain : Answer Database) (a : Made) (f : Fault) → table_named name l.tables ≡ Some table → plain ≡ first_of a → IsRefusedAs plain table f → IsRunRefusal l a f
refused_as l table name plain a f named is (inl outside) = inl outside
refused_as l table name plain a f named is (inr (inl e)) = inr (inl (refused_first a (refusal_of f) (sym is ∙ e)))
refused_as l table name plain a f named is (inr (inr (what, wide))) = inr (inr (what, any_found (is_table name) has_wide_index l.tables table named wide))

-- a call that hands a refusal on
pub run_refused : {X : Type 0} (P : X → Type 0) (l : Listed) (a : Made) (result : Result X Fault) (f : Fault) → IsErrAnd result (λ e. e ≡ f) → IsRunRefusal l a f → MatchResult result P (IsRunRefusal l a)
run_refused P l a (Ok x) f same why = absurd same
run_refused P l a (Err e) f same why = subst (IsRunRefusal l a) (sym same) why

-- after a call that reads
pub read_before : {P K : Type 0} (below : P → K) (tells : K → Bool) (limits : K → Limits) (pages : P → PageMap) (Q : PageMap → ℕ → Type 0) (old mid : P) → below mid ≡ below old → pages mid ≡ pages old
    → (IsTrue (tells (below mid)) → Q (pages mid) (limits (below mid)).page) → IsTrue (tells (below old)) → Q (pages old) (limits (below old)).page
read_before {P} {K} below tells limits pages Q old mid kept same says told =
    subst (λ (m : PageMap). Q m (limits (below old)).page) same
    (subst (λ (k : K). Q (pages mid) (limits k).page) kept (says (subst (λ (k : K). IsTrue (tells k)) (sym kept) told)))

-- ---- INSERT

abbrev some_seen : Row → Option Row
some_seen r = Some r

some_items : (vs ws : List Value) → (let l : Answer (List Value) = Ok vs in l) ≡ Ok ws → vs ≡ ws
some_items vs ws e = cc

module _ (l : Listed) (c : Change) (db : Database) (f : Firing) (table : Table) (act : Act) (given : SmallVec Value) (rowid : Value) (kept : Values) (h : IsHere c table db) (named : table_named (aim_of c).target l.tables ≡ Some table)
    (kind : Inserting ≡ (aim_of c).event) (between : IsBetween l c table act (item.Insert given) (begin.Insert rowid kept) f) where
  abbrev now_table : database.Table
  now_table = with_rows table h.rows

  abbrev target : Name
  target = (aim_of c).target

  abbrev event_in : database.Table → List Value → ℤ → Firing
  event_in t vs id = firing target Inserting t (Some (row_of id (with_rowid t id vs))) None

  abbrev put_in : database.Table → List Value → ℤ → Answer Database
  put_in t vs id = stored db target t id (with_rowid t id vs)

  abbrev after_insert : database.Table → List Value → Made
  after_insert t vs = new_rowid t (given_rowid t vs) then λ id. put_in t vs id then with_event (event_in t vs id)

  abbrev plain : database.Table → List Value → Answer Database
  plain t vs = new_rowid t (given_rowid t vs) then λ id. put_in t vs id then a_database

  finished_is : finished c (item.Insert given) f db ≡ after_insert now_table kept.items
  finished_is =
      ap (λ (o : Option Row). table_of db target then λ t. after_insert t (values_in o)) between.at.0
      ∙ ap (λ (a : Answer database.Table). a then λ t. after_insert t kept.items) h.is

  insert_is : insert_row still target act.places.items db given.items ≡ plain now_table kept.items
  insert_is =
      ap (λ (a : Answer database.Table). a then λ t. with_affinity t.columns (set_values (default_values t) (zip act.places.items given.items)) then λ vs. table_of db target then λ t. plain t vs) h.is
      ∙ (ap (λ (a : Answer (List Value)). a then λ vs. table_of db target then λ t. plain t vs) between.for ∙ ap (λ (a : Answer database.Table). a then λ t. plain t kept.items) h.is)

  both_are : insert_row still target act.places.items db given.items ≡ first_of (finished c (item.Insert given) f db)
  both_are = insert_is ∙ (same_way (new_rowid now_table (given_rowid now_table kept.items)) (put_in now_table kept.items) (event_in now_table kept.items) ∙ ap first_of (sym finished_is))

  insert_fails : (fault : Fault) → IsRefusedAs (insert_row still target act.places.items db given.items) table fault → IsRunRefusal l (finished c (item.Insert given) f db) fault
  insert_fails fault why = refused_as l table target (insert_row still target act.places.items db given.items) (finished c (item.Insert given) f db) fault named both_are why

  inserted : (new : PageMap) (size : ℕ) (made : stored_row.TableRow) → IsRowStored new size l db target now_table act.places.items given.items (pair_of made)
      → IsFinished new size l c (finished c (item.Insert given) f db) (begin.Insert rowid kept) (Some made)
  inserted new size made is = record {
    made = is.stores.made;
    f = event_in now_table kept.items made.rowid;
    is = known ∙ last (put_in now_table kept.items made.rowid) (event_in now_table kept.items made.rowid) is.stores.made (ap first_of (sym known) ∙ (sym both_are ∙ is.stores.is));
    stored = is.stores.stored;
    row = row_in l c table h.rows Inserting (Some (row_of made.rowid (with_rowid now_table made.rowid kept.items))) None named kind refl refl;
    new_is = ap (λ (vs : List Value). some_seen (row_of made.rowid vs)) (sym (is.row.are ∙ ap (with_rowid now_table made.rowid) same_values));
    old_is = refl;
  }
    where
      same_values : is.row.values ≡ kept.items
      same_values = some_items is.row.values kept.items (sym is.row.stores ∙ between.for)

      known : finished c (item.Insert given) f db ≡ (put_in now_table kept.items made.rowid then with_event (event_in now_table kept.items made.rowid))
      known =
          finished_is
          ∙ ap (λ (a : Answer ℤ). a then λ id. put_in now_table kept.items id then with_event (event_in now_table kept.items id))
          (ap (λ (vs : List Value). new_rowid now_table (given_rowid now_table vs)) (sym same_values) ∙ is.row.rowid)

-- what the call that inserts says
abbrev pub Inserts : PageMap → ℕ → Table → List (Option ℕ) → List Value → (Listed → Database → Name → database.Table → List ℕ → Type 0) → Type 0
Inserts old size table by_column given So =
    (l : Listed) (db : Database) (name : Name) (t : database.Table) (places : List ℕ) → StoresTable old size l db name table t → IsSetFor table by_column places given → So l db name t places

set_for : (table : Table) (act : Act) (by_column : List (Option ℕ)) (was given : List Value) → by_column ≡ act.by_column.items → was ≡ given → IsSetFor table act.by_column.items act.places.items was
    → IsSetFor table by_column act.places.items given
set_for table act by_column was given by_is same sets =
    subst (λ (ps : List (Option ℕ)). IsSetFor table ps act.places.items given) (sym by_is) (subst (λ (vs : List Value). IsSetFor table act.by_column.items act.places.items vs) same sets)

pub insert_failed : FindsListed → (old : PageMap) (size : ℕ) (l : Listed) (c : Change) (db : Database) (f : Firing) (table : Table) (act : Act) (i : TableItem) (rowid : Value) (kept : Values) (by_column : List (Option ℕ)) (given : List Value)
    (fault : Fault) → by_column ≡ act.by_column.items → given_in i ≡ given → Stores old size l db → IsTableAct l c table act → IsItemOf c table act i → IsBetween l c table act i (begin.Insert rowid kept) f
    → Inserts old size table by_column given (λ l db name t places. IsRefusedAs (insert_row still name places db given) table fault) → IsRunRefusal l (finished c i f db) fault
insert_failed finds old size l c db f table act (item.Insert g) rowid kept by_column given fault by_is same held tabled (kind, sets) between says =
    let h = here finds old size l db c table held tabled.named in
    insert_fails l c db f table act g rowid kept h tabled.named kind between fault
    (subst (λ (vs : List Value). IsRefusedAs (insert_row still (aim_of c).target act.places.items db vs) table fault) (sym same)
    (says l db (aim_of c).target (with_rows table h.rows) act.places.items (stores_table old size l db c table held tabled.named h) (set_for table act by_column g.items given by_is same sets)))
insert_failed finds old size l c db f table act (item.Update id) rowid kept by_column given fault by_is same held tabled kind between says = absurd between.for
insert_failed finds old size l c db f table act (item.Delete id) rowid kept by_column given fault by_is same held tabled kind between says = absurd between.for

pub insert_done : FindsListed → (old new : PageMap) (size : ℕ) (l : Listed) (c : Change) (db : Database) (f : Firing) (table : Table) (act : Act) (i : TableItem) (rowid : Value) (kept : Values) (by_column : List (Option ℕ)) (given : List Value)
    (made : stored_row.TableRow) → by_column ≡ act.by_column.items → given_in i ≡ given → Stores old size l db → IsTableAct l c table act → IsItemOf c table act i
    → IsBetween l c table act i (begin.Insert rowid kept) f → Inserts old size table by_column given (λ l db name t places. IsRowStored new size l db name t places given (pair_of made))
    → IsFinished new size l c (finished c i f db) (begin.Insert rowid kept) (Some made)
insert_done finds old new size l c db f table act (item.Insert g) rowid kept by_column given made by_is same held tabled (kind, sets) between says =
    let h = here finds old size l db c table held tabled.named in
    inserted l c db f table act g rowid kept h tabled.named kind between new size made
    (subst (λ (vs : List Value). IsRowStored new size l db (aim_of c).target (with_rows table h.rows) act.places.items vs (pair_of made)) (sym same)
    (says l db (aim_of c).target (with_rows table h.rows) act.places.items (stores_table old size l db c table held tabled.named h) (set_for table act by_column g.items given by_is same sets)))
insert_done finds old new size l c db f table act (item.Update id) rowid kept by_column given made by_is same held tabled kind between says = absurd between.for
insert_done finds old new size l c db f table act (item.Delete id) rowid kept by_column given made by_is same held tabled kind between says = absurd between.for

-- ---- a row that is as it was

-- whether the row that was found is as it was
pub found_same : (found : Option stored_row.TableRow) (old : stored_row.TableRow) (t : database.Table) (same wanted : Bool) → option_map pair_of found ≡ option_map (λ values. (old.rowid, values)) (row t old.rowid)
    → same ≡ same_row (option_map (λ (r : stored_row.TableRow). r.values.items) found) old.values.items → same ≡ wanted → same_row (row t old.rowid) old.values.items ≡ wanted
found_same found old t same wanted e is tested = ap (λ (o : Option (List Value)). same_row o old.values.items) (sym (values_now found (row t old.rowid) old.rowid e)) ∙ (sym is ∙ tested)

-- a row that has its values is as it was
pub is_known : (t : database.Table) (old : stored_row.TableRow) → row t old.rowid ≡ Some old.values.items → same_row (row t old.rowid) old.values.items ≡ true
is_known t old is = ap (λ (o : Option (List Value)). same_row o old.values.items) is ∙ same_values old.values.items

-- what the call that expects the row unchanged says
abbrev pub Expects : PageMap → ℕ → Table → Bool → stored_row.TableRow → (Listed → Database → Name → database.Table → Type 0) → Type 0
Expects old size table alone was So = (l : Listed) (db : Database) (name : Name) (t : database.Table) → StoresTable old size l db name table t
    → (alone ≡ true → row t was.rowid ≡ Some was.values.items) → So l db name t

abbrev pub NotSame : stored_row.TableRow → Fault → database.Table → Type 0
NotSame was fault t = IsOutside fault ⊎ ((same_row (row t was.rowid) was.values.items ≡ false) × (refusal_of fault ≡ RowChangedBefore))

module _ (l : Listed) (c : Change) (db : Database) (table : Table) (h : IsHere c table db) (was : stored_row.TableRow) where
  abbrev found_now : database.Table
  found_now = with_rows table h.rows

  abbrev at_target : Name
  at_target = (aim_of c).target

  unchanged_is : (b : Bool) → same_row (row found_now was.rowid) was.values.items ≡ b → unchanged db at_target was.rowid was.values.items ≡ (demand b RowChangedBefore then λ _. Ok found_now)
  unchanged_is b same =
      ap (λ (a : Answer database.Table). a then λ t. demand (same_row (row t was.rowid) was.values.items) RowChangedBefore then λ _. Ok t) h.is
      ∙ ap (λ (b : Bool). demand b RowChangedBefore then λ _. let l : Answer database.Table = Ok found_now in l) same

  -- what the change of the row is, where it is as it was
  abbrev changed_then : (database.Table → Made) → Answer database.Table → Made
  changed_then go a = a then go

  not_same : (go : database.Table → Made) (a : Made) (fault : Fault) → a ≡ changed_then go (unchanged db at_target was.rowid was.values.items) → NotSame was fault found_now → IsRunRefusal l a fault
  not_same go a fault is (inl outside) = inl (inl outside)
  not_same go a fault is (inr (differs, which)) = inr (inl (is ∙ (ap (changed_then go) (unchanged_is false differs) ∙ ap (λ (r : Refusal). let l : Made = Err r in l) (sym which))))

-- ---- UPDATE

module _ (l : Listed) (c : Change) (db : Database) (f : Firing) (table : Table) (act : Act) (was : stored_row.TableRow) (rowid : Value) (kept : Values) (h : IsHere c table db) (named : table_named (aim_of c).target l.tables ≡ Some table)
    (kind : Updating (names_set c) ≡ (aim_of c).event) (between : IsBetween l c table act (item.Update was.rowid) (begin.Update was rowid kept) f) where
  abbrev table_now : database.Table
  table_now = with_rows table h.rows

  abbrev aimed : Name
  aimed = (aim_of c).target

  abbrev update_event : List Value → List Value → database.Table → ℤ → Firing
  update_event old vs t id = firing aimed (Updating (names_set c)) t (Some (row_of id vs)) (Some (row_of was.rowid old))

  abbrev put_at : List Value → database.Table → ℤ → Answer Database
  put_at vs t id = stored db aimed (without_row was.rowid t) id vs

  abbrev changed : List Value → List Value → database.Table → Made
  changed old vs t = updated_rowid t was.rowid vs then λ id. put_at vs t id then with_event (update_event old vs t id)

  update_is : finished c (item.Update was.rowid) f db ≡ changed_then l c db table h was (changed was.values.items kept.items) (unchanged db aimed was.rowid was.values.items)
  update_is =
      ap (λ (o : Option Row). unchanged db aimed was.rowid (values_in o) then changed (values_in o) (values_in f.new)) between.at.1
      ∙ ap (λ (o : Option Row). unchanged db aimed was.rowid was.values.items then changed was.values.items (values_in o)) between.at.0

  update_not_same : (fault : Fault) → NotSame was fault table_now → IsRunRefusal l (finished c (item.Update was.rowid) f db) fault
  update_not_same fault differs = not_same l c db table h was (changed was.values.items kept.items) (finished c (item.Update was.rowid) f db) fault update_is differs

  module _ (same : same_row (row table_now was.rowid) was.values.items ≡ true) where
    same_is : finished c (item.Update was.rowid) f db ≡ changed was.values.items kept.items table_now
    same_is = update_is ∙ ap (changed_then l c db table h was (changed was.values.items kept.items)) (unchanged_is l c db table h was true same)

    put_is : values_put db aimed table_now was.rowid kept.items ≡ first_of (finished c (item.Update was.rowid) f db)
    put_is = bare_way (updated_rowid table_now was.rowid kept.items) (put_at kept.items table_now) (update_event was.values.items kept.items table_now) ∙ ap first_of (sym same_is)

    update_fails : (fault : Fault) → IsRefusedAs (values_put db aimed table_now was.rowid kept.items) table fault → IsRunRefusal l (finished c (item.Update was.rowid) f db) fault
    update_fails fault why = refused_as l table aimed (values_put db aimed table_now was.rowid kept.items) (finished c (item.Update was.rowid) f db) fault named put_is why

    updated : (new : PageMap) (size : ℕ) (now : stored_row.TableRow) → IsRowSet new size l db aimed table_now was.rowid kept.items (pair_of now)
        → IsFinished new size l c (finished c (item.Update was.rowid) f db) (begin.Update was rowid kept) (Some now)
    updated new size now is = record {
      made = is.stores.made;
      f = update_event was.values.items kept.items table_now now.rowid;
      is = known ∙ last (put_at kept.items table_now now.rowid) (update_event was.values.items kept.items table_now now.rowid) is.stores.made (ap first_of (sym known) ∙ (sym put_is ∙ is.stores.is));
      stored = is.stores.stored;
      row = row_in l c table h.rows (Updating (names_set c)) (Some (row_of now.rowid kept.items)) (Some (row_of was.rowid was.values.items)) named kind refl refl;
      new_is = ap (λ (vs : List Value). some_seen (row_of now.rowid vs)) (sym is.values_are);
      old_is = refl;
    }
      where
        known : finished c (item.Update was.rowid) f db ≡ (put_at kept.items table_now now.rowid then with_event (update_event was.values.items kept.items table_now now.rowid))
        known = same_is ∙ ap (λ (a : Answer ℤ). a then λ id. put_at kept.items table_now id then with_event (update_event was.values.items kept.items table_now id)) is.rowid_is

-- what the call that sets the row says
abbrev pub Sets : PageMap → ℕ → Table → stored_row.TableRow → List Value → (Listed → Database → Name → database.Table → Type 0) → Type 0
Sets old size table was given So =
    (l : Listed) (db : Database) (name : Name) (t : database.Table) → StoresTable old size l db name table t → row t was.rowid ≡ Some was.values.items → AreStoredBy t given → So l db name t

-- the item of a row that is updated
updated_at : (l : Listed) (c : Change) (table : Table) (act : Act) (id : ℤ) (was : stored_row.TableRow) (rowid : Value) (kept : Values) (f : Firing) → IsBetween l c table act (item.Update id) (begin.Update was rowid kept) f
    → IsBetween l c table act (item.Update was.rowid) (begin.Update was rowid kept) f
updated_at l c table act id was rowid kept f between = record { at = between.at; for = (refl, between.for.1); row = between.row }

module _ (finds : FindsListed) (old : PageMap) (size : ℕ) (l : Listed) (c : Change) (db : Database) (f : Firing) (table : Table) (act : Act) (was : stored_row.TableRow) (rowid : Value) (kept : Values) (held : Stores old size l db) (tabled : IsTableAct l c table act)
    (alone : Bool) (untouched : alone ≡ true → IsUntouched db (aim_of c).target (begin.Update was rowid kept)) where
  abbrev here_is : IsHere c table db
  here_is = here finds old size l db c table held tabled.named

  abbrev stands : StoresTable old size l db (aim_of c).target table (with_rows table here_is.rows)
  stands = stores_table old size l db c table held tabled.named here_is

  still_there : alone ≡ true → row (with_rows table here_is.rows) was.rowid ≡ Some was.values.items
  still_there is = untouched is (with_rows table here_is.rows) was here_is.is refl

  pub update_changed : (i : TableItem) (fault : Fault) → IsItemOf c table act i → IsBetween l c table act i (begin.Update was rowid kept) f → Expects old size table alone was (λ l db name t. NotSame was fault t)
      → IsRunRefusal l (finished c i f db) fault
  update_changed (item.Insert g) fault kind between expects = absurd between.for
  update_changed (item.Delete id) fault kind between expects = absurd between.for
  update_changed (item.Update id) fault kind between expects =
      subst (λ (n : ℤ). IsRunRefusal l (finished c (item.Update n) f db) fault) between.for.0
      (update_not_same l c db f table act was rowid kept here_is tabled.named kind (updated_at l c table act id was rowid kept f between) fault (expects l db (aim_of c).target (with_rows table here_is.rows) stands still_there))

  pub update_failed : (i : TableItem) (given : List Value) (fault : Fault) → kept.items ≡ given → IsItemOf c table act i → IsBetween l c table act i (begin.Update was rowid kept) f
      → Expects old size table alone was (λ l db name t. same_row (row t was.rowid) was.values.items ≡ true) → Sets old size table was given (λ l db name t. IsRefusedAs (values_put db name t was.rowid given) table fault)
      → IsRunRefusal l (finished c i f db) fault
  update_failed (item.Insert g) given fault same_given kind between expects says = absurd between.for
  update_failed (item.Delete id) given fault same_given kind between expects says = absurd between.for
  update_failed (item.Update id) given fault same_given kind between expects says =
      let t = with_rows table here_is.rows in
      let same = expects l db (aim_of c).target t stands still_there in
      subst (λ (n : ℤ). IsRunRefusal l (finished c (item.Update n) f db) fault) between.for.0
      (update_fails l c db f table act was rowid kept here_is tabled.named kind (updated_at l c table act id was rowid kept f between) same fault
      (subst (λ (vs : List Value). IsRefusedAs (values_put db (aim_of c).target t was.rowid vs) table fault) (sym same_given)
      (says l db (aim_of c).target t stands (as_it_was (row t was.rowid) was.values.items same) (subst (AreStoredBy t) same_given (record { full = between.for.1.full; stores = between.for.1.stores })))))

  pub update_done : (new : PageMap) (i : TableItem) (given : List Value) (now : stored_row.TableRow) → kept.items ≡ given → IsItemOf c table act i → IsBetween l c table act i (begin.Update was rowid kept) f
      → Expects old size table alone was (λ l db name t. same_row (row t was.rowid) was.values.items ≡ true) → Sets old size table was given (λ l db name t. IsRowSet new size l db name t was.rowid given (pair_of now))
      → IsFinished new size l c (finished c i f db) (begin.Update was rowid kept) (Some now)
  update_done new (item.Insert g) given now same_given kind between expects says = absurd between.for
  update_done new (item.Delete id) given now same_given kind between expects says = absurd between.for
  update_done new (item.Update id) given now same_given kind between expects says =
      let t = with_rows table here_is.rows in
      let same = expects l db (aim_of c).target t stands still_there in
      subst (λ (n : ℤ). IsFinished new size l c (finished c (item.Update n) f db) (begin.Update was rowid kept) (Some now)) between.for.0
      (updated l c db f table act was rowid kept here_is tabled.named kind (updated_at l c table act id was rowid kept f between) same new size now
      (subst (λ (vs : List Value). IsRowSet new size l db (aim_of c).target t was.rowid vs (pair_of now)) (sym same_given)
      (says l db (aim_of c).target t stands (as_it_was (row t was.rowid) was.values.items same) (subst (AreStoredBy t) same_given (record { full = between.for.1.full; stores = between.for.1.stores })))))

-- ---- DELETE

module _ (finds : FindsListed) (old : PageMap) (size : ℕ) (l : Listed) (c : Change) (db : Database) (f : Firing) (table : Table) (act : Act) (was : stored_row.TableRow) (held : Stores old size l db) (tabled : IsTableAct l c table act)
    (alone : Bool) (untouched : alone ≡ true → IsUntouched db (aim_of c).target (begin.Delete was)) where
  abbrev here_too : IsHere c table db
  here_too = here finds old size l db c table held tabled.named

  abbrev table_then : database.Table
  table_then = with_rows table here_too.rows

  abbrev stands_too : StoresTable old size l db (aim_of c).target table table_then
  stands_too = stores_table old size l db c table held tabled.named here_too

  there_still : alone ≡ true → row table_then was.rowid ≡ Some was.values.items
  there_still is = untouched is table_then was here_too.is refl

  abbrev taken : List Value → database.Table → Made
  taken vs t = Ok (with_object db (aim_of c).target (ATable (without_row was.rowid t)), firing (aim_of c).target Deleting t None (Some (row_of was.rowid vs)))

  deleted_is : (id : ℤ) → was.rowid ≡ id → f.old ≡ Some (row_of was.rowid was.values.items)
      → finished c (item.Delete id) f db ≡ changed_then l c db table here_too was (taken was.values.items) (unchanged db (aim_of c).target was.rowid was.values.items)
  deleted_is id same at =
      ap (λ (n : ℤ). finished c (item.Delete n) f db) (sym same) ∙ ap (λ (o : Option Row). unchanged db (aim_of c).target was.rowid (values_in o) then taken (values_in o)) at

  pub delete_changed : (i : TableItem) (fault : Fault) → IsBetween l c table act i (begin.Delete was) f → Expects old size table alone was (λ l db name t. NotSame was fault t) → IsRunRefusal l (finished c i f db) fault
  delete_changed (item.Insert g) fault between expects = absurd between.for
  delete_changed (item.Update id) fault between expects = absurd between.for
  delete_changed (item.Delete id) fault between expects =
      not_same l c db table here_too was (taken was.values.items) (finished c (item.Delete id) f db) fault (deleted_is id between.for between.at.1) (expects l db (aim_of c).target table_then stands_too there_still)

  pub delete_done : (new : PageMap) (i : TableItem) → IsItemOf c table act i → IsBetween l c table act i (begin.Delete was) f
      → Expects old size table alone was (λ l db name t. same_row (row t was.rowid) was.values.items ≡ true)
      → ((l : Listed) (db : Database) (name : Name) (t : database.Table) → StoresTable old size l db name table t → row t was.rowid ≡ Some was.values.items → Stores new size l (with_object db name (ATable (without_row was.rowid t))))
      → IsFinished new size l c (finished c i f db) (begin.Delete was) None
  delete_done new (item.Insert g) kind between expects says = absurd between.for
  delete_done new (item.Update id) kind between expects says = absurd between.for
  delete_done new (item.Delete id) kind between expects says =
      let same = expects l db (aim_of c).target table_then stands_too there_still in
      record {
        made = with_object db (aim_of c).target (ATable (without_row was.rowid table_then));
        f = firing (aim_of c).target Deleting table_then None (Some (row_of was.rowid was.values.items));
        is = deleted_is id between.for between.at.1 ∙ ap (changed_then l c db table here_too was (taken was.values.items)) (unchanged_is l c db table here_too was true same);
        stored = says l db (aim_of c).target table_then stands_too (as_it_was (row table_then was.rowid) was.values.items same);
        row = row_in l c table here_too.rows Deleting None (Some (row_of was.rowid was.values.items)) tabled.named kind refl refl;
        new_is = refl;
        old_is = refl;
      }

  -- the call that takes the row out fails
  pub delete_failed : (i : TableItem) (fault : Fault) → IsBetween l c table act i (begin.Delete was) f → Expects old size table alone was (λ l db name t. same_row (row t was.rowid) was.values.items ≡ true)
      → ((l : Listed) (db : Database) (name : Name) (t : database.Table) → StoresTable old size l db name table t → row t was.rowid ≡ Some was.values.items → IsOutsideOrFull fault) → IsRunRefusal l (finished c i f db) fault
  delete_failed i fault between expects says =
      let same = expects l db (aim_of c).target table_then stands_too there_still in
      inl (says l db (aim_of c).target table_then stands_too (as_it_was (row table_then was.rowid) was.values.items same))
