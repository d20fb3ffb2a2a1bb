-- An INSERT of rows into a listed table, row by row.
use Rattle.std.proofs.Common.{◌≡◌, refl, sym, ap, ◌∙◌, ℕ, suc, ◌≤◌, ℤ, Bool, true, false, if◌then◌else◌, cond, List, [], ◌∷◌, Option, None, Some, Ok, Err, map, length, arith}
use Rattle.std.specs.List.{list_any}
use Rattle.std.specs.Prelude.{not, zip, All, is_none, slice_get, slice_set, unwrap_or}
use Rattle.std.specs.Cmp.{tied_itself}
use Rattle.std.specs.FinMap.Entries.{put, find, find-put, by_order}
use Rattle.std.specs.Ordering.{int_cmp, is_eq}
use Rattle.std.specs.declared.cmp.Ordering.{Ordering}
use Rattle.std.specs.declared.cmp.Ordering.TheVariants.{Less, Equal, Greater}
use Rattle.std.proofs.lemmas.Cmp.{nat_list_cmp_total}
use Rattle.sqlval.specs.Names.{folded}
use Rattle.sqlval.specs.Refusals.{Answer, ◌then◌, NoSuch, fold_answer}
use Rattle.sqlval.specs.declared.value.Value.{Value}
use Rattle.sqlval.specs.declared.value.Value.TheVariants.{Null, Int, Text, Blob}
use Rattle.sql_syntax.specs.declared.create.TriggerDefinition.{TriggerDefinition}
use Rattle.catalog.specs.Database as database
use Rattle.catalog.specs.Database.{Name, Database, Object, ATable, AnIndex, AView, ATrigger, object, with_object, name_order}
use Rattle.catalog.specs.Laws.{KeepsTriggers}
use Rattle.catalog.specs.Listed.{with_rows, as_column, own_column}
use Rattle.catalog.specs.declared.tables.Table.{Table}
use Rattle.row_scan.specs.Rows.{TableRow}
use Rattle.row_change.specs.Agreement.{HasIndexesOf, InsertsRows, IsSetFor, IsStill}
use Rattle.row_change.specs.Constraints.{can_be_stored, checks_hold, default_values, given_rowid, new_rowid, next_rowid, not_null_holds, row_of, set_values, stored, table_of, with_affinity, with_rowid}
use Rattle.row_change.specs.Demands.{admitted, demanded, is_alone}
use Rattle.row_change.specs.Inserting.{own_value, row_stored, rowid_after, rowid_given, row_added, rows_inserted, last_rowid, with_own_value}
use Rattle.row_change.specs.RowChanges.{Event, Fire, Inserting, insert_row, is_quiet, is_set_off}
use Rattle.row_change.proofs.Alone.{alone_is, indexes_stay}
use Rattle.row_change.proofs.Placed.{rises_put}
use Rattle.row_change.proofs.Rising.{Rises, fit_rows_rise, greatest_is_last, next_for, next_is}

-- ---- a table in a database

-- with another table in place of a table, an event at it that sets nothing off sets nothing off still
abbrev pub KeepsQuiet : Event → Name → Type 0
KeepsQuiet event name = (db : Database) (old new : database.Table) → table_of db name ≡ Ok old → is_quiet event db name ≡ true → is_quiet event (with_object db name (ATable new)) name ≡ true

abbrev table_in : Option Object → Answer database.Table
table_in o = elim o [ Some (ATable t) ↦ Ok t | _ ↦ Err NoSuch ]

abbrev one_table : database.Table → Answer database.Table
one_table t = Ok t

same_table : (a b : database.Table) → one_table a ≡ one_table b → a ≡ b
same_table a b e = cc

pub is_there : (o : Option Object) (t : database.Table) → table_in o ≡ Ok t → o ≡ Some (ATable t)
is_there (Some (ATable u)) t e = ap (λ x. Some (ATable x)) (same_table u t e)
is_there (Some (AnIndex i)) t e = absurd cc
is_there (Some (AView v)) t e = absurd cc
is_there (Some (ATrigger g)) t e = absurd cc
is_there None t e = absurd cc

pub quiet_kept : KeepsTriggers → (event : Event) (name : Name) → KeepsQuiet event name
quiet_kept keeps event name db old new is quiet =
    ap (λ (ts : List (Name × TriggerDefinition)). not (list_any (λ t. is_set_off t.1.event event) ts)) (keeps db name old new name (is_there (object db name) old is)) ∙ quiet

next_of : (table : Table) (rows : List TableRow) → Rises rows → next_rowid (with_rows table rows) ≡ rowid_after (last_rowid rows)
next_of table rows rises = ap next_for (greatest_is_last rows rises) ∙ next_is (last_rowid rows)

-- a row that the table demands, and that is alone, is stored in its place
pub stored_as : (db : Database) (name : Name) (table : Table) (rows : List TableRow) (rowid : ℤ) (values : List Value) → HasIndexesOf db name table
    → stored db name (with_rows table rows) rowid values
    ≡ (demanded table (rowid, values) then λ row. admitted table rows row then λ row. Ok (with_object db name (ATable (with_rows table (put int_cmp row.0 row.1 rows)))))
stored_as db name table rows rowid values has =
    by (not_null_holds (map as_column table.columns) values) (can_be_stored values) (checks_hold (row_of rowid values) table.checks) (is_none (find int_cmp rowid rows)) (is_alone table (rowid, values) rows)
    refl refl refl refl refl
  where
    by : (b c : Bool) (d : Answer (Unit {0})) (f e : Bool) → not_null_holds (map as_column table.columns) values ≡ b → can_be_stored values ≡ c → checks_hold (row_of rowid values) table.checks ≡ d
        → is_none (find int_cmp rowid rows) ≡ f → is_alone table (rowid, values) rows ≡ e
        → stored db name (with_rows table rows) rowid values
        ≡ (demanded table (rowid, values) then λ row. admitted table rows row then λ row. Ok (with_object db name (ATable (with_rows table (put int_cmp row.0 row.1 rows)))))
    by true true (Ok u) true true h k l n m = (let alone = alone_is db name table rowid values rows has ∙ m in rw (h, k, l, n, alone, m) refl)
    by true true (Ok u) true false h k l n m = (let alone = alone_is db name table rowid values rows has ∙ m in rw (h, k, l, n, alone, m) refl)
    by true true (Ok u) false e h k l n m = rw (h, k, l, n) refl
    by true true (Err r) f e h k l n m = rw (h, k, l) refl
    by true false d f e h k l n m = rw (h, k) refl
    by false c d f e h k l n m = rw (h) refl

-- ---- the rowid's own column

given_is : (table : Table) (rows : List TableRow) (values : List Value) → given_rowid (with_rows table rows) values ≡ own_value (own_column table) values
given_is table rows values = by (own_column table)
  where
    by : (o : Option ℕ) → (elim o as (λ x. Value) [ None ↦ Null | Some i ↦ unwrap_or (slice_get values i) Null ]) ≡ own_value o values
    by None = refl
    by (Some i) = refl

put_is : (table : Table) (rows : List TableRow) (rowid : ℤ) (values : List Value) → with_rowid (with_rows table rows) rowid values ≡ with_own_value (own_column table) (Int rowid) values
put_is table rows rowid values = by (own_column table)
  where
    by : (o : Option ℕ) → (elim o as (λ x. List Value) [ None ↦ values | Some i ↦ slice_set values i (Int rowid) ]) ≡ with_own_value o (Int rowid) values
    by None = refl
    by (Some i) = refl

new_is : (table : Table) (rows : List TableRow) (value : Value) → Rises rows → new_rowid (with_rows table rows) value ≡ rowid_given (last_rowid rows) value
new_is table rows Null rises = next_of table rows rises
new_is table rows (Int rowid) rises = refl
new_is table rows (Text t) rises = refl
new_is table rows (Blob b) rises = refl

-- ---- the database

-- the object of a name is the one that was put there
pub put_there : (db : Database) (name : Name) (t : database.Table) → table_of (with_object db name (ATable t)) name ≡ Ok t
put_there db name t =
    ap (λ (o : Option Object). elim o [ Some (ATable t) ↦ Ok t | _ ↦ Err NoSuch ])
    (find-put name_order nat_list_cmp_total (folded name) (folded name) (ATable t) db ∙ ap (λ o. cond (is_eq o) (Some (ATable t)) (object db name)) (tied_itself nat_list_cmp_total (folded name)))

pub put_again : {X : Type 0} (k : Name) (x y : X) (db : List (Name × X)) → put name_order k y (put name_order k x db) ≡ put name_order k y db
put_again k x y [] = ap (λ o. by_order o ((k, y) ∷ (k, x) ∷ []) ((k, y) ∷ []) ((k, x) ∷ put name_order k y [])) (tied_itself nat_list_cmp_total k)
put_again k x y (e ∷ es) = by_place (put_again k x y es) (name_order k e.0) refl
  where
    by_place : put name_order k y (put name_order k x es) ≡ put name_order k y es → (o : Ordering) → name_order k e.0 ≡ o
        → put name_order k y (by_order o ((k, x) ∷ e ∷ es) ((e.0, x) ∷ es) (e ∷ put name_order k x es)) ≡ by_order o ((k, y) ∷ e ∷ es) ((e.0, y) ∷ es) (e ∷ put name_order k y es)
    by_place more Less is = ap (λ o. by_order o ((k, y) ∷ (k, x) ∷ e ∷ es) ((k, y) ∷ e ∷ es) ((k, x) ∷ put name_order k y (e ∷ es))) (tied_itself nat_list_cmp_total k)
    by_place more Equal is = ap (λ o. by_order o ((k, y) ∷ (e.0, x) ∷ es) ((e.0, y) ∷ es) ((e.0, x) ∷ put name_order k y es)) is
    by_place more Greater is = ap (λ o. by_order o ((k, y) ∷ e ∷ put name_order k x es) ((e.0, y) ∷ put name_order k x es) (e ∷ put name_order k y (put name_order k x es))) is ∙ ap (λ rest. e ∷ rest) more

-- ---- one row

module _ (fire : Fire) (name : Name) (places : List ℕ) (table : Table) (by_column : List (Option ℕ)) (still : IsStill fire) (keeps : KeepsQuiet Inserting name) where
  -- the table with these rows
  abbrev having_rows : Database → List TableRow → Database
  having_rows db rows = with_object db name (ATable (with_rows table rows))

  abbrev added_to : List TableRow → List Value → Answer TableRow
  added_to rows given = row_added table by_column (last_rowid rows) given

  -- the row that is added, where it is alone
  abbrev admitted_to : List TableRow → List Value → Answer TableRow
  admitted_to rows given = added_to rows given then λ row. admitted table rows row

  abbrev with_one : Database → List TableRow → Answer TableRow → Answer Database
  with_one db rows row = row then λ row. Ok (having_rows db (put int_cmp row.0 row.1 rows))

  then_all : (a : Answer TableRow) (f : TableRow → Answer TableRow) (g : TableRow → Answer Database) → ((a then f) then g) ≡ (a then λ x. f x then g)
  then_all (Ok x) f g = refl
  then_all (Err r) f g = refl

  row_changes : (db : Database) (rows : List TableRow) (given : List Value) → is_quiet Inserting db name ≡ true → HasIndexesOf db name table → table_of db name ≡ Ok (with_rows table rows) → Rises rows
      → IsSetFor table by_column places given → insert_row fire name places db given ≡ with_one db rows (admitted_to rows given)
  row_changes db rows given only has is rises set = by_values (row_stored table.columns by_column given) refl
    where
      stored_is : with_affinity (map as_column table.columns) (set_values (default_values (with_rows table [])) (zip places given)) ≡ row_stored table.columns by_column given
      stored_is = ap (with_affinity (map as_column table.columns)) set

      own : Option ℕ
      own = own_column table

      row_with : ℤ → List Value → TableRow
      row_with rowid values = (rowid, with_own_value own (Int rowid) values)

      stored_so : (rowid : ℤ) (values : List Value) → stored db name (with_rows table rows) rowid (with_rowid (with_rows table rows) rowid values)
          ≡ with_one db rows (demanded table (row_with rowid values) then λ row. admitted table rows row)
      stored_so rowid values =
          ap (stored db name (with_rows table rows) rowid) (put_is table rows rowid values)
          ∙ (stored_as db name table rows rowid (with_own_value own (Int rowid) values) has
          ∙ sym (then_all (demanded table (row_with rowid values)) (admitted table rows) (λ row. Ok (having_rows db (put int_cmp row.0 row.1 rows)))))

      by_admitted : (values : List Value) (rowid : ℤ) → row_stored table.columns by_column given ≡ Ok values → rowid_given (last_rowid rows) (own_value own values) ≡ Ok rowid
          → (d : Answer TableRow) → (demanded table (row_with rowid values) then λ row. admitted table rows row) ≡ d
          → insert_row fire name places db given ≡ with_one db rows (admitted_to rows given)
      by_admitted values rowid e h (Ok row) k =
          let next : new_rowid (with_rows table rows) (given_rowid (with_rows table rows) values) ≡ Ok rowid = ap (new_rowid (with_rows table rows)) (given_is table rows values) ∙ (new_is table rows (own_value own values) rises ∙ h) in
          let there : stored db name (with_rows table rows) rowid (with_rowid (with_rows table rows) rowid values) ≡ Ok (having_rows db (put int_cmp row.0 row.1 rows)) =
          stored_so rowid values ∙ ap (with_one db rows) k in
          let later : is_quiet Inserting (having_rows db (put int_cmp row.0 row.1 rows)) name ≡ true = keeps db (with_rows table rows) (with_rows table (put int_cmp row.0 row.1 rows)) is only in
          rw (is, stored_is, e, still, is, next, there, still, h, k) refl
      by_admitted values rowid e h (Err r) k =
          let next : new_rowid (with_rows table rows) (given_rowid (with_rows table rows) values) ≡ Ok rowid = ap (new_rowid (with_rows table rows)) (given_is table rows values) ∙ (new_is table rows (own_value own values) rises ∙ h) in
          let there : stored db name (with_rows table rows) rowid (with_rowid (with_rows table rows) rowid values) ≡ Err r = stored_so rowid values ∙ ap (with_one db rows) k in
          rw (is, stored_is, e, still, is, next, there, h, k) refl

      by_rowid : (values : List Value) → row_stored table.columns by_column given ≡ Ok values → (r : Answer ℤ) → rowid_given (last_rowid rows) (own_value own values) ≡ r
          → insert_row fire name places db given ≡ with_one db rows (admitted_to rows given)
      by_rowid values e (Ok rowid) h = by_admitted values rowid e h (demanded table (row_with rowid values) then λ row. admitted table rows row) refl
      by_rowid values e (Err r) h =
          let next : new_rowid (with_rows table rows) (given_rowid (with_rows table rows) values) ≡ Err r = ap (new_rowid (with_rows table rows)) (given_is table rows values) ∙ (new_is table rows (own_value own values) rises ∙ h) in
          rw (is, stored_is, e, still, is, next, h) refl

      by_values : (s : Answer (List Value)) → row_stored table.columns by_column given ≡ s → insert_row fire name places db given ≡ with_one db rows (admitted_to rows given)
      by_values (Ok values) e = by_rowid values e (rowid_given (last_rowid rows) (own_value own values)) refl
      by_values (Err r) e = rw (is, stored_is, e) refl

  -- what is left where the rows given are these
  abbrev changed : Database → List TableRow → List (List Value) → Answer Database
  changed db rows given = rows_inserted table by_column rows given then λ now. Ok (having_rows db now)

  -- one row is inserted, and then the others
  one_inserted : (rows : List TableRow) (given : List Value) (rest : List (List Value))
      → rows_inserted table by_column rows (given ∷ rest) ≡ (admitted_to rows given then λ row. rows_inserted table by_column (put int_cmp row.0 row.1 rows) rest)
  one_inserted rows given rest = by (added_to rows given)
    where
      by : (a : Answer TableRow) → (a then λ row. admitted table rows row then λ row. rows_inserted table by_column (put int_cmp row.0 row.1 rows) rest)
          ≡ ((a then λ row. admitted table rows row) then λ row. rows_inserted table by_column (put int_cmp row.0 row.1 rows) rest)
      by (Ok row) = refl
      by (Err r) = refl

  same_database : (db : Database) (rows : List TableRow) (row : TableRow) (answer : Answer (List TableRow))
      → (answer then λ now. Ok (having_rows (having_rows db (put int_cmp row.0 row.1 rows)) now)) ≡ (answer then λ now. Ok (having_rows db now))
  same_database db rows row (Ok now) = ap (λ (d : Database). Ok d) (put_again (folded name) (ATable (with_rows table (put int_cmp row.0 row.1 rows))) (ATable (with_rows table now)) db)
  same_database db rows row (Err r) = refl

  one_then : (db : Database) (rows : List TableRow) (given : List Value) (rest : List (List Value)) → insert_row fire name places db given ≡ with_one db rows (admitted_to rows given)
      → ((row : TableRow) → admitted_to rows given ≡ Ok row → fold_answer (insert_row fire name places) (having_rows db (put int_cmp row.0 row.1 rows)) rest ≡ changed (having_rows db (put int_cmp row.0 row.1 rows)) (put int_cmp row.0 row.1 rows) rest)
      → fold_answer (insert_row fire name places) db (given ∷ rest) ≡ changed db rows (given ∷ rest)
  one_then db rows given rest first others = by (admitted_to rows given) refl
    where
      on : Answer Database → Answer Database
      on a = a then λ b. fold_answer (insert_row fire name places) b rest

      by : (a : Answer TableRow) → admitted_to rows given ≡ a → fold_answer (insert_row fire name places) db (given ∷ rest) ≡ changed db rows (given ∷ rest)
      by (Ok row) e =
          ap (λ (a : Answer Database). a then λ b. fold_answer (insert_row fire name places) b rest) (first ∙ ap (with_one db rows) e)
          ∙ (others row e
          ∙ (same_database db rows row (rows_inserted table by_column (put int_cmp row.0 row.1 rows) rest)
          ∙ sym (ap (λ (a : Answer (List TableRow)). a then λ now. Ok (having_rows db now))
          (one_inserted rows given rest ∙ ap (λ (a : Answer TableRow). a then λ row. rows_inserted table by_column (put int_cmp row.0 row.1 rows) rest) e))))
      by (Err r) e =
          ap (λ (a : Answer Database). a then λ b. fold_answer (insert_row fire name places) b rest) (first ∙ ap (with_one db rows) e)
          ∙ sym (ap (λ (a : Answer (List TableRow)). a then λ now. Ok (having_rows db now))
          (one_inserted rows given rest ∙ ap (λ (a : Answer TableRow). a then λ row. rows_inserted table by_column (put int_cmp row.0 row.1 rows) rest) e))

  -- row by row, where the table already is in the database
  folds : (given : List (List Value)) (db : Database) (rows : List TableRow) → is_quiet Inserting db name ≡ true → HasIndexesOf db name table → table_of db name ≡ Ok (with_rows table rows) → Rises rows
      → All (IsSetFor table by_column places) given → having_rows db rows ≡ db → fold_answer (insert_row fire name places) db given ≡ changed db rows given
  folds [] db rows only has is rises set there = ap (λ (d : Database). Ok d) (sym there)
  folds (g ∷ given) db rows only has is rises set there =
      one_then db rows g given (row_changes db rows g only has is rises (set 0 g (omega arith)))
      (λ row e. folds given (having_rows db (put int_cmp row.0 row.1 rows)) (put int_cmp row.0 row.1 rows) (keeps db (with_rows table rows) (with_rows table (put int_cmp row.0 row.1 rows)) is only)
      (indexes_stay db name table (with_rows table rows) (with_rows table (put int_cmp row.0 row.1 rows)) is has) (put_there db name (with_rows table (put int_cmp row.0 row.1 rows))) (rises_put row.0 row.1 rows rises)
      (λ k d lt. set (suc k) d (omega (arith, lt))) (put_again (folded name) (ATable (with_rows table (put int_cmp row.0 row.1 rows))) (ATable (with_rows table (put int_cmp row.0 row.1 rows))) db))

  some_rows : (given : List (List Value)) (db : Database) (rows : List TableRow) → is_quiet Inserting db name ≡ true → HasIndexesOf db name table → table_of db name ≡ Ok (with_rows table rows) → Rises rows
      → All (IsSetFor table by_column places) given → 1 ≤ length given → fold_answer (insert_row fire name places) db given ≡ changed db rows given
  some_rows [] db rows only has is rises set some = absurd (omega (arith, some))
  some_rows (g ∷ given) db rows only has is rises set some =
      one_then db rows g given (row_changes db rows g only has is rises (set 0 g (omega arith)))
      (λ row e. folds given (having_rows db (put int_cmp row.0 row.1 rows)) (put int_cmp row.0 row.1 rows) (keeps db (with_rows table rows) (with_rows table (put int_cmp row.0 row.1 rows)) is only)
      (indexes_stay db name table (with_rows table rows) (with_rows table (put int_cmp row.0 row.1 rows)) is has) (put_there db name (with_rows table (put int_cmp row.0 row.1 rows))) (rises_put row.0 row.1 rows rises)
      (λ k d lt. set (suc k) d (omega (arith, lt))) (put_again (folded name) (ATable (with_rows table (put int_cmp row.0 row.1 rows))) (ATable (with_rows table (put int_cmp row.0 row.1 rows))) db))

pub inserts_rows : KeepsTriggers → InsertsRows
inserts_rows keeps fire name places db table by_column rows given still only has is fit set some =
    some_rows fire name places table by_column still (quiet_kept keeps Inserting name) given db rows only has is (fit_rows_rise (with_rows table rows) fit) set some
