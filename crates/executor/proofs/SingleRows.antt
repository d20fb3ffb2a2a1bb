-- What the insertion, the change and the deletion of one row of a listed table come to, where no trigger does anything.
use Rattle.std.proofs.Common.{◌≡◌, refl, sym, ap, ◌∙◌, ◌==◌, ◌&&◌, ℕ, suc, ℤ, Bool, true, false, cond, int_lt, not, List, [], ◌∷◌, ◌++◌, append_assoc, length, map, Option, None, Some, Ok, Err, arith}
use Rattle.std.proofs.lemmas.Bool.Decides.{nat_tests}
use Rattle.std.proofs.lemmas.Int.{ints}
use Rattle.std.specs.List.{list_all, list_any}
use Rattle.std.specs.Prelude.{is_none, slice_get, slice_set, unwrap_or, zip}
use Rattle.std.specs.FinMap.Entries.{find, put}
use Rattle.std.specs.Ordering.{int_cmp, is_eq}
use Rattle.std.specs.declared.cmp.Ordering.{Ordering}
use Rattle.std.specs.declared.cmp.Ordering.TheVariants.{Equal, Greater, Less}
use Rattle.sqlval.specs.Conversion.{is_word}
use Rattle.sqlval.specs.Lists.{is_rising}
use Rattle.sqlval.specs.Refusals.{Answer, ◌then◌, NotNull, RowidMismatch, TooLong, Unique}
use Rattle.sqlval.specs.declared.value.Value.{Value}
use Rattle.sqlval.specs.declared.value.Value.TheVariants.{Null, Int, Text, Blob}
use Rattle.catalog.specs.Database as database
use Rattle.catalog.specs.Database.{ATable, Database, Name, indexes_of, with_object, without_row}
use Rattle.catalog.specs.Listed.{as_column, own_column, with_rows}
use Rattle.catalog.specs.Rows.{are_rows, holds_rowid, is_row, is_value}
use Rattle.catalog.specs.declared.tables.Table.{Table}
use Rattle.query_names.specs.Keys.{clash}
use Rattle.query_names.specs.Readings.{env_of, values}
use Rattle.row_scan.specs.Rows.{TableRow}
use Rattle.row_scan.specs.Sources.{as_source}
use Rattle.row_change.specs.Agreement.{HasIndexesOf, IsSetFor}
use Rattle.row_change.specs.Constraints.{can_be_stored, checks_hold, default_values, demand, given_rowid, is_unique_in, new_rowid, next_rowid, not_null_holds, row_of, set_values, stored, table_of, updated_rowid, with_affinity, with_rowid}
use Rattle.row_change.specs.Demands.{admitted, demanded, is_alone}
use Rattle.row_change.specs.Inserting.{last_rowid, own_value, row_stored, rowid_after, rowid_given, with_own_value}
use Rattle.row_change.specs.RowChanges.{insert_row}
use Rattle.row_change.specs.Setting.{row_set, rowid_left, values_set}
use Rattle.row_change.proofs.Rising.{Rises, both, greatest_is_last, next_for, next_is}
use Rattle.db_write.specs.OneRow.{row_inserted, row_turned}
use Rattle.executor.specs.Rows.{AreStoredBy, IsRowMade, literals, still, values_put}

abbrev one_row : TableRow → Answer TableRow
one_row row = Ok row

same_row : (a b : TableRow) → one_row a ≡ one_row b → a ≡ b
same_row a b e = cc

-- what is demanded of a row leaves it
pub demanded_same : (table : Table) (row now : TableRow) → demanded table row ≡ Ok now → row ≡ now
demanded_same table row now e = by (not_null_holds (map as_column table.columns) row.1) (can_be_stored row.1) (checks_hold (as_source row) table.checks) e
  where
    by : (b c : Bool) (d : Answer (Unit {0})) → (demand b NotNull then λ x. demand c TooLong then λ x. d then λ x. one_row row) ≡ Ok now → row ≡ now
    by true true (Ok u) h = same_row row now h
    by true true (Err r) h = absurd cc
    by true false d h = absurd cc
    by false c d h = absurd cc

pub admitted_same : (table : Table) (rows : List TableRow) (row now : TableRow) → admitted table rows row ≡ Ok now → row ≡ now
admitted_same table rows row now e = by (is_none (find int_cmp row.0 rows)) e
  where
    by_alone : (c : Bool) → (demand c Unique then λ x. one_row row) ≡ Ok now → row ≡ now
    by_alone true h = same_row row now h
    by_alone false h = absurd cc

    by : (b : Bool) → ((demand b Unique then λ x. one_row row) then λ r. demand (is_alone table r rows) Unique then λ x. one_row r) ≡ Ok now → row ≡ now
    by true h = by_alone (is_alone table row rows) h
    by false h = absurd cc

-- ---- a row is stored

module _ (db : Database) (name : Name) (table : Table) (has : HasIndexesOf db name table) where
  -- the database with these rows in the table
  abbrev pub having_rows : List TableRow → Database
  having_rows rows = with_object db name (ATable (with_rows table rows))

  abbrev pub having_row : List TableRow → TableRow → Answer Database
  having_row rows row = Ok (having_rows (put int_cmp row.0 row.1 rows))

  alone_is : (rowid : ℤ) (values : List Value) (rows : List TableRow) → is_unique_in (indexes_of db name) values (with_rows table rows) ≡ is_alone table (rowid, values) rows
  alone_is rowid values rows = ap not (has (λ i. list_any (λ (r : TableRow). clash i values r.1) rows))

  -- a row that the table demands, and that is alone, is stored in its place
  stored_as : (rows : List TableRow) (rowid : ℤ) (values : List Value)
      → stored db name (with_rows table rows) rowid values ≡ (demanded table (rowid, values) then λ row. admitted table rows row then λ row. having_row rows row)
  stored_as rows rowid values =
      by (not_null_holds (map as_column table.columns) values) (can_be_stored values) (checks_hold (row_of rowid values) table.checks) (is_none (find int_cmp rowid rows)) (is_alone table (rowid, values) rows)
      refl refl refl refl refl
    where
      by : (b c : Bool) (d : Answer (Unit {0})) (f e : Bool) → not_null_holds (map as_column table.columns) values ≡ b → can_be_stored values ≡ c → checks_hold (row_of rowid values) table.checks ≡ d
          → is_none (find int_cmp rowid rows) ≡ f → is_alone table (rowid, values) rows ≡ e
          → stored db name (with_rows table rows) rowid values ≡ (demanded table (rowid, values) then λ row. admitted table rows row then λ row. having_row rows row)
      by true true (Ok u) true true h k l n m = (let alone = alone_is rowid values rows ∙ m in rw (h, k, l, n, alone, m) refl)
      by true true (Ok u) true false h k l n m = (let alone = alone_is rowid values rows ∙ m in rw (h, k, l, n, alone, m) refl)
      by true true (Ok u) false e h k l n m = rw (h, k, l, n) refl
      by true true (Err r) f e h k l n m = rw (h, k, l) refl
      by true false d f e h k l n m = rw (h, k) refl
      by false c d f e h k l n m = rw (h) refl

  -- the same in two steps
  in_steps : (rows : List TableRow) (a : Answer TableRow) → (a then λ row. admitted table rows row then λ row. having_row rows row) ≡ ((a then λ row. admitted table rows row) then having_row rows)
  in_steps rows (Ok row) = refl
  in_steps rows (Err r) = refl

  -- ---- INSERT

  module _ (rows : List TableRow) (rises : Rises rows) (is : table_of db name ≡ Ok (with_rows table rows)) where
    own : Option ℕ
    own = own_column table

    next_of : next_rowid (with_rows table rows) ≡ rowid_after (last_rowid rows)
    next_of = ap next_for (greatest_is_last rows rises) ∙ next_is (last_rowid rows)

    given_is : (values : List Value) → given_rowid (with_rows table rows) values ≡ own_value (own_column table) values
    given_is values = by (own_column table)
      where
        by : (o : Option ℕ) → (elim o as (λ x. Value) [ None ↦ Null | Some i ↦ unwrap_or (slice_get values i) Null ]) ≡ own_value o values
        by None = refl
        by (Some i) = refl

    put_is : (rowid : ℤ) (values : List Value) → with_rowid (with_rows table rows) rowid values ≡ with_own_value (own_column table) (Int rowid) values
    put_is rowid values = by (own_column table)
      where
        by : (o : Option ℕ) → (elim o as (λ x. List Value) [ None ↦ values | Some i ↦ slice_set values i (Int rowid) ]) ≡ with_own_value o (Int rowid) values
        by None = refl
        by (Some i) = refl

    new_is : (value : Value) → new_rowid (with_rows table rows) value ≡ rowid_given (last_rowid rows) value
    new_is Null = next_of
    new_is (Int rowid) = refl
    new_is (Text t) = refl
    new_is (Blob b) = refl

    rowid_so : (values : List Value) → new_rowid (with_rows table rows) (given_rowid (with_rows table rows) values) ≡ rowid_given (last_rowid rows) (own_value (own_column table) values)
    rowid_so values = ap (new_rowid (with_rows table rows)) (given_is values) ∙ new_is (own_value (own_column table) values)

    module _ (places : List ℕ) (by_column : List (Option ℕ)) (given : List Value) (set : IsSetFor table by_column places given) where
      -- what the columns store
      stored_is : with_affinity (map as_column table.columns) (set_values (default_values (with_rows table rows)) (zip places given)) ≡ row_stored table.columns by_column given
      stored_is = ap (with_affinity (map as_column table.columns)) set

      -- with the rowid in its own column
      abbrev row_with : ℤ → List Value → TableRow
      row_with rowid values = (rowid, with_own_value (own_column table) (Int rowid) values)

      -- what follows once it is known what the columns store
      abbrev from_values : Answer (List Value) → Answer Database
      from_values a =
          a then λ values. new_rowid (with_rows table rows) (given_rowid (with_rows table rows) values) then λ rowid.
          stored db name (with_rows table rows) rowid (with_rowid (with_rows table rows) rowid values) then λ now. Ok now

      abbrev as_given : Answer (List Value) → Answer TableRow
      as_given a = a then λ values. rowid_given (last_rowid rows) (own_value (own_column table) values) then λ rowid. demanded table (row_with rowid values)

      handed_on : (a : Answer Database) → (a then λ now. Ok now) ≡ a
      handed_on (Ok now) = refl
      handed_on (Err r) = refl

      abbrev from_rowid : List Value → Answer ℤ → Answer Database
      from_rowid values a = a then λ rowid. stored db name (with_rows table rows) rowid (with_rowid (with_rows table rows) rowid values) then λ now. Ok now

      by_rowid : (values : List Value) (a : Answer ℤ) → from_rowid values a ≡ (((a then λ rowid. demanded table (row_with rowid values)) then λ row. admitted table rows row) then having_row rows)
      by_rowid values (Ok rowid) =
          handed_on (stored db name (with_rows table rows) rowid (with_rowid (with_rows table rows) rowid values))
          ∙ (ap (stored db name (with_rows table rows) rowid) (put_is rowid values)
          ∙ (stored_as rows rowid (with_own_value (own_column table) (Int rowid) values) ∙ in_steps rows (demanded table (row_with rowid values))))
      by_rowid values (Err r) = refl

      by_values : (a : Answer (List Value)) → from_values a ≡ ((as_given a then λ row. admitted table rows row) then having_row rows)
      by_values (Ok values) = ap (from_rowid values) (rowid_so values) ∙ by_rowid values (rowid_given (last_rowid rows) (own_value (own_column table) values))
      by_values (Err r) = refl

      abbrev from_table : Answer database.Table → Answer Database
      from_table a =
          a then λ t. with_affinity t.columns (set_values (default_values t) (zip places given)) then λ values.
          table_of db name then λ u. new_rowid u (given_rowid u values) then λ rowid. stored db name u rowid (with_rowid u rowid values) then λ now. Ok now

      abbrev from_second : Answer (List Value) → Answer database.Table → Answer Database
      from_second a b = a then λ values. b then λ u. new_rowid u (given_rowid u values) then λ rowid. stored db name u rowid (with_rowid u rowid values) then λ now. Ok now

      pub inserted_as : insert_row still name places db given ≡ (row_inserted table by_column rows given then having_row rows)
      inserted_as = ap from_table is ∙ (ap (from_second (with_affinity (map as_column table.columns) (set_values (default_values (with_rows table rows)) (zip places given)))) is ∙ (ap from_values stored_is ∙ by_values (row_stored table.columns by_column given)))

      -- the row that is inserted
      pub made_as : (row : TableRow) → row_inserted table by_column rows given ≡ Ok row → IsRowMade (with_rows table rows) places given row
      made_as row e = by (row_stored table.columns by_column given) refl e
        where
          by_demanded : (values : List Value) (rowid : ℤ) → row_stored table.columns by_column given ≡ Ok values → rowid_given (last_rowid rows) (own_value (own_column table) values) ≡ Ok rowid
              → (d : Answer TableRow) → demanded table (row_with rowid values) ≡ d → (d then λ r. admitted table rows r) ≡ Ok row → IsRowMade (with_rows table rows) places given row
          by_demanded values rowid s n (Ok r) d h =
              let same = demanded_same table (row_with rowid values) r d ∙ admitted_same table rows r row h in
              record {
                values = values;
                stores = stored_is ∙ s;
                rowid = rowid_so values ∙ (n ∙ ap (λ (x : TableRow). rowid_of x) same);
                are = sym (ap (λ (x : TableRow). x.1) same) ∙ (sym (put_is rowid values) ∙ ap (λ (x : TableRow). with_rowid (with_rows table rows) x.0 values) same);
              }
            where
              rowid_of : TableRow → Answer ℤ
              rowid_of x = Ok x.0
          by_demanded values rowid s n (Err r) d h = absurd cc

          by_given : (values : List Value) → row_stored table.columns by_column given ≡ Ok values → (a : Answer ℤ) → rowid_given (last_rowid rows) (own_value (own_column table) values) ≡ a
              → ((a then λ rowid. demanded table (row_with rowid values)) then λ r. admitted table rows r) ≡ Ok row → IsRowMade (with_rows table rows) places given row
          by_given values s (Ok rowid) n h = by_demanded values rowid s n (demanded table (row_with rowid values)) refl h
          by_given values s (Err r) n h = absurd cc

          by : (a : Answer (List Value)) → row_stored table.columns by_column given ≡ a → (as_given a then λ r. admitted table rows r) ≡ Ok row → IsRowMade (with_rows table rows) places given row
          by (Ok values) s h = by_given values s (rowid_given (last_rowid rows) (own_value (own_column table) values)) refl h
          by (Err r) s h = absurd cc

  -- ---- UPDATE

  module _ (rows others : List TableRow) (rowid : ℤ) (before given : List Value) (left : without_row rowid (with_rows table rows) ≡ with_rows table others)
      (long : length before ≡ length given) (stores : AreStoredBy (with_rows table rows) given) where
    rowid_is : updated_rowid (with_rows table rows) rowid given ≡ rowid_left (own_column table) rowid given
    rowid_is = by (own_column table)
      where
        by : (o : Option ℕ) → (elim o as (λ x. Answer ℤ) [ None ↦ Ok rowid | Some i ↦ elim (unwrap_or (slice_get given i) Null) as (λ x. Answer ℤ) [ Int z ↦ Ok z | _ ↦ Err RowidMismatch ] ]) ≡ rowid_left o rowid given
        by None = refl
        by (Some i) = refl

    -- the literals are the values
    all_known : (n : ℕ) (vs : List Value) → values (env_of (as_source (rowid, before) ∷ [])) (map (λ s. s.1) (literals n vs)) ≡ Ok vs
    all_known n [] = refl
    all_known n (v ∷ vs) = ap (λ (a : Answer (List Value)). a then λ ws. Ok (v ∷ ws)) (all_known (suc n) vs)

    behind : (first old : List Value) (x y : Value) → slice_set (first ++ x ∷ old) (length first) y ≡ first ++ y ∷ old
    behind [] old x y = refl
    behind (z ∷ first) old x y = ap (λ (rest : List Value). z ∷ rest) (behind first old x y)

    one_more : (first : List Value) (y : Value) → length (first ++ y ∷ []) ≡ suc (length first)
    one_more [] y = refl
    one_more (z ∷ first) y = ap suc (one_more first y)

    -- each is put at its place
    all_set : (first old new : List Value) → length old ≡ length new → set_values (first ++ old) (zip (map (λ s. s.0) (literals (length first) new)) new) ≡ first ++ new
    all_set first [] [] same = refl
    all_set first [] (y ∷ new) same = absurd (omega (arith, same))
    all_set first (x ∷ old) [] same = absurd (omega (arith, same))
    all_set first (x ∷ old) (y ∷ new) same =
        ap (λ (vs : List Value). set_values vs (at (suc (length first)))) (behind first old x y ∙ sym (append_assoc first (y ∷ []) old))
        ∙ (ap (λ (n : ℕ). set_values ((first ++ y ∷ []) ++ old) (at n)) (sym (one_more first y))
        ∙ (all_set (first ++ y ∷ []) old new (omega (arith, same)) ∙ append_assoc first (y ∷ []) new))
      where
        at : ℕ → List (ℕ × Value)
        at n = zip (map (λ s. s.0) (literals n new)) new

    values_so : values_set table.columns (literals 0 given) (as_source (rowid, before)) ≡ Ok given
    values_so =
        ap (λ (a : Answer (List Value)). (a then set_at) then stored_by) (all_known 0 given) ∙ (ap stored_by (all_set [] before given long) ∙ stores.stores)
      where
        set_at : List Value → Answer (List Value)
        set_at vs = Ok (set_values before (zip (map (λ s. s.0) (literals 0 given)) vs))

        stored_by : List Value → Answer (List Value)
        stored_by vs = with_affinity (map as_column table.columns) vs

    abbrev by_left : Answer ℤ → Answer TableRow
    by_left a = a then λ now. demanded table (now, given)

    row_set_is : row_set table (literals 0 given) (rowid, before) ≡ by_left (rowid_left (own_column table) rowid given)
    row_set_is = ap (λ (a : Answer (List Value)). a then λ vs. rowid_left (own_column table) rowid vs then λ now. demanded table (now, vs)) values_so

    abbrev admitted_in : Answer TableRow → Answer TableRow
    admitted_in a = a then λ now. admitted table others now

    abbrev put_by : Answer ℤ → Answer Database
    put_by a = a then λ now. stored db name (without_row rowid (with_rows table rows)) now given

    by_rowid_left : (a : Answer ℤ) → put_by a ≡ (admitted_in (by_left a) then having_row others)
    by_rowid_left (Ok now) = ap (λ (t : database.Table). stored db name t now given) left ∙ (stored_as others now given ∙ in_steps others (demanded table (now, given)))
    by_rowid_left (Err r) = refl

    pub set_as : values_put db name (with_rows table rows) rowid given ≡ (row_turned table (literals 0 given) (rowid, before) others then having_row others)
    set_as =
        ap put_by rowid_is
        ∙ (by_rowid_left (rowid_left (own_column table) rowid given) ∙ sym (ap (λ (a : Answer TableRow). admitted_in a then having_row others) row_set_is))

    -- the row that is set
    pub set_so : (now : TableRow) → row_turned table (literals 0 given) (rowid, before) others ≡ Ok now → (updated_rowid (with_rows table rows) rowid given ≡ Ok now.0) × (now.1 ≡ given)
    set_so now e = by (rowid_left (own_column table) rowid given) refl (sym (ap (λ (a : Answer TableRow). admitted_in a) row_set_is) ∙ e)
      where
        on : (id : ℤ) → rowid_left (own_column table) rowid given ≡ Ok id → (id, given) ≡ now → (updated_rowid (with_rows table rows) rowid given ≡ Ok now.0) × (now.1 ≡ given)
        on id left same = (rowid_is ∙ (left ∙ ap (λ (r : TableRow). rowid_of r) same), sym (ap (λ (r : TableRow). r.1) same))
          where
            rowid_of : TableRow → Answer ℤ
            rowid_of r = Ok r.0

        by_demanded : (id : ℤ) → rowid_left (own_column table) rowid given ≡ Ok id → (d : Answer TableRow) → demanded table (id, given) ≡ d → admitted_in d ≡ Ok now
            → (updated_rowid (with_rows table rows) rowid given ≡ Ok now.0) × (now.1 ≡ given)
        by_demanded id left (Ok r) d h = on id left (demanded_same table (id, given) r d ∙ admitted_same table others r now h)
        by_demanded id left (Err r) d h = absurd cc

        by : (a : Answer ℤ) → rowid_left (own_column table) rowid given ≡ a → admitted_in (by_left a) ≡ Ok now → (updated_rowid (with_rows table rows) rowid given ≡ Ok now.0) × (now.1 ≡ given)
        by (Ok id) left h = by_demanded id left (demanded table (id, given)) refl h
        by (Err r) left h = absurd cc

-- ---- a row among others

-- where the row of a rowid stands
pub record IsRowAmong (rowid : ℤ) (stored_values : List Value) (rows : List TableRow) : Type 0 where
  pub front : List TableRow
  pub back : List TableRow
  pub are : front ++ (rowid, stored_values) ∷ back ≡ rows

equal : (a b : ℤ) → int_cmp a b ≡ Equal → a ≡ b
equal a b e = by (int_lt a b) (int_lt b a) refl refl e
  where
    by : (t u : Bool) → int_lt a b ≡ t → int_lt b a ≡ u → cond t Less (cond u Greater Equal) ≡ Equal → a ≡ b
    by true u f g e = absurd cc
    by false true f g e = absurd cc
    by false false f g e = grind (arith, ints, f, g)

pub row_among : (rowid : ℤ) (stored_values : List Value) (rows : List TableRow) → find int_cmp rowid rows ≡ Some stored_values → IsRowAmong rowid stored_values rows
row_among rowid stored_values [] e = absurd cc
row_among rowid stored_values (r ∷ rows) e = by (row_among rowid stored_values rows) (int_cmp rowid r.0) refl e
  where
    the_values : Some r.1 ≡ Some stored_values → r.1 ≡ stored_values
    the_values e = cc

    further : IsRowAmong rowid stored_values rows → IsRowAmong rowid stored_values (r ∷ rows)
    further more = record { front = r ∷ more.front; back = more.back; are = ap (λ (rs : List TableRow). r ∷ rs) more.are }

    by : (find int_cmp rowid rows ≡ Some stored_values → IsRowAmong rowid stored_values rows) → (o : Ordering) → int_cmp rowid r.0 ≡ o → cond (is_eq o) (Some r.1) (find int_cmp rowid rows) ≡ Some stored_values → IsRowAmong rowid stored_values (r ∷ rows)
    by later Less o h = further (later h)
    by later Equal o h = record { front = []; back = rows; are = ap (λ (x : TableRow). x ∷ rows) (λ i. (equal rowid r.0 o i, sym (the_values h) i)) }
    by later Greater o h = further (later h)

-- a row has a value for each column
pub full_row : (table : Table) (front : List TableRow) (row : TableRow) (back : List TableRow) → are_rows (with_rows table (front ++ row ∷ back)) ≡ true → length row.1 ≡ length (map as_column table.columns)
full_row table front row back fit =
    by front (both (is_rising int_cmp (map (λ r. r.0) (front ++ row ∷ back))) (list_all (is_row (with_rows table (front ++ row ∷ back))) (front ++ row ∷ back)) fit).1
  where
    long : (a b c d : Bool) → a && b && c && d ≡ true → b ≡ true
    long true true c d e = refl
    long true false c d e = absurd cc
    long false b c d e = absurd cc

    counted : (n m : ℕ) → (n == m) ≡ true → n ≡ m
    counted n m e = grind (arith, nat_tests)

    by : (first : List TableRow) → list_all (λ r. is_row (with_rows table (front ++ row ∷ back)) r) (first ++ row ∷ back) ≡ true → length row.1 ≡ length (map as_column table.columns)
    by [] all =
        counted (length row.1) (length (map as_column table.columns))
        (long (is_word row.0) (length row.1 == length (map as_column table.columns)) (list_all is_value row.1) (holds_rowid (own_column table) row)
        (both (is_row (with_rows table (front ++ row ∷ back)) row) (list_all (λ r. is_row (with_rows table (front ++ row ∷ back)) r) back) all).0)
    by (r ∷ first) all = by first (both (is_row (with_rows table (front ++ row ∷ back)) r) (list_all (λ r. is_row (with_rows table (front ++ row ∷ back)) r) (first ++ row ∷ back)) all).1
