-- An UPDATE of some rows of a listed table, row by row.
use Rattle.std.proofs.Common.{◌≡◌, refl, sym, ap, subst, ◌∙◌, ℕ, ℤ, Bool, true, false, cond, List, [], ◌∷◌, ◌++◌, append_assoc, map, Option, Some, None, Ok, Err}
use Rattle.std.specs.Prelude.{filter, slice_get, unwrap_or, zip}
use Rattle.std.specs.Cmp.{int_cmp_is}
use Rattle.std.specs.FinMap.Entries.{put, find, by_order}
use Rattle.std.specs.List.{list_all}
use Rattle.std.specs.Ordering.{int_cmp, is_eq}
use Rattle.std.specs.declared.cmp.Ordering.TheVariants.{Greater, Less}
use Rattle.sqlval.specs.Names.{folded}
use Rattle.sqlval.specs.Refusals.{Answer, ◌then◌, RowidMismatch, all_answers, fold_answer}
use Rattle.sqlval.specs.declared.value.Value.{Value}
use Rattle.sqlval.specs.declared.value.Value.TheVariants.{Null, Int}
use Rattle.catalog.specs.Database.{Name, Database, ATable, row, with_object, without_row}
use Rattle.catalog.specs.Laws.{KeepsTriggers}
use Rattle.catalog.specs.Listed.{own_column, with_rows, as_column}
use Rattle.catalog.specs.Named.{KeepsNamed, OneDatabase}
use Rattle.catalog.specs.Rows.{are_rows, holds_rowid, is_row}
use Rattle.catalog.specs.declared.tables.Table.{Table}
use Rattle.row_scan.specs.Rows.{TableRow}
use Rattle.query_terms.specs.Terms.{Term}
use Rattle.row_change.specs.Agreement.{HasIndexesOf, IsStill, SetsAsEach, UpdatesSome, has_unique}
use Rattle.row_change.specs.Changes.{no_outer}
use Rattle.row_change.specs.Constraints.{set_values, stored, table_of, updated_rowid, with_affinity}
use Rattle.row_change.specs.Demands.{admitted, demanded, is_alone}
use Rattle.row_change.specs.RowChanges.{Fire, Updating, is_quiet, update_row}
use Rattle.query_names.specs.Readings.{env_of, values}
use Rattle.row_scan.specs.Sources.{as_source}
use Rattle.row_change.specs.NewRows.{all_hold}
use Rattle.row_change.specs.Setting.{keeps_rowids, row_set, rowid_left, rows_beside, rows_meant_set, rows_turned}
use Rattle.row_change.specs.Choosing.{is_chosen, tested}
use Rattle.row_change.proofs.Alone.{free_alone, indexes_stay}
use Rattle.row_change.proofs.Deletions.{climbs_over, found_behind, gone_behind, put_itself, rest_rises, same_values}
use Rattle.row_change.proofs.Folding.{KeepsQuiet, put_again, put_there, quiet_kept, stored_as}
use Rattle.row_change.proofs.Placed.{AreThere, is_admitted, lower, others_there, raised, rises_filter}
use Rattle.row_change.proofs.KeptRowids.{all_held}
use Rattle.row_change.proofs.Replaced.{set_keeps}
use Rattle.row_change.proofs.Rising.{Climbs, Rises, both, fit_rows_rise}

-- ---- a row between others

-- a rowid below all isn't there, and a row of it is put first
not_among : (id : ℤ) (rows : List TableRow) → Climbs id rows → find int_cmp id rows ≡ None
not_among id [] climb = refl
not_among id (r ∷ rows) climb =
    ap (λ o. cond (is_eq o) (Some r.1) (find int_cmp id rows)) (sym (int_cmp_is id r.0 Less climb.0)) ∙ not_among id rows (lower id r.0 rows climb.0 climb.1)

put_first : (id : ℤ) (values : List Value) (rows : List TableRow) → Climbs id rows → put int_cmp id values rows ≡ (id, values) ∷ rows
put_first id values [] climb = refl
put_first id values (r ∷ rows) climb =
    ap (λ o. by_order o ((id, values) ∷ r ∷ rows) ((r.0, values) ∷ rows) (r ∷ put int_cmp id values rows)) (sym (int_cmp_is id r.0 Less climb.0))

-- without the row its rowid isn't there
pub not_left : (kept : List TableRow) (r : TableRow) (rows : List TableRow) → Rises (kept ++ (r ∷ rows)) → find int_cmp r.0 (kept ++ rows) ≡ None
not_left [] r rows rises = not_among r.0 rows rises
not_left (k ∷ kept) r rows rises =
    ap (λ o. cond (is_eq o) (Some k.1) (find int_cmp r.0 (kept ++ rows))) (sym (int_cmp_is r.0 k.0 Greater (climbs_over k.0 kept r rows rises)))
    ∙ not_left kept r rows (rest_rises k (kept ++ (r ∷ rows)) rises)

-- and a row of it is put where it was
pub put_back : (kept : List TableRow) (r : TableRow) (rows : List TableRow) (values : List Value) → Rises (kept ++ (r ∷ rows))
    → put int_cmp r.0 values (kept ++ rows) ≡ kept ++ ((r.0, values) ∷ rows)
put_back [] r rows values rises = put_first r.0 values rows rises
put_back (k ∷ kept) r rows values rises =
    ap (λ o. by_order o ((r.0, values) ∷ k ∷ (kept ++ rows)) ((k.0, values) ∷ (kept ++ rows)) (k ∷ put int_cmp r.0 values (kept ++ rows)))
    (sym (int_cmp_is r.0 k.0 Greater (climbs_over k.0 kept r rows rises)))
    ∙ ap (λ (rest : List TableRow). k ∷ rest) (put_back kept r rows values (rest_rises k (kept ++ (r ∷ rows)) rises))

-- with other values they rise still
climb_with : (low : ℤ) (kept : List TableRow) (r : TableRow) (rows : List TableRow) (values : List Value) → Climbs low (kept ++ (r ∷ rows)) → Climbs low (kept ++ ((r.0, values) ∷ rows))
climb_with low [] r rows values climb = climb
climb_with low (k ∷ kept) r rows values climb = (climb.0, climb_with k.0 kept r rows values climb.1)

rise_with : (kept : List TableRow) (r : TableRow) (rows : List TableRow) (values : List Value) → Rises (kept ++ (r ∷ rows)) → Rises (kept ++ ((r.0, values) ∷ rows))
rise_with [] r rows values rises = rises
rise_with (k ∷ kept) r rows values rises = climb_with k.0 kept r rows values rises

-- ---- one row, and then others

abbrev given_row : TableRow → Answer TableRow
given_row row = Ok row

-- a row among others becomes what SET makes of it, and then the others are next
pub turned_one : (table : Table) (sets : List (ℕ × Term)) (kept : List TableRow) (r : TableRow) (rows olds : List TableRow) → keeps_rowids table sets ≡ true → holds_rowid (own_column table) r ≡ true → Rises (kept ++ (r ∷ rows))
    → rows_turned table sets (kept ++ (r ∷ rows)) (r ∷ olds) ≡ (row_set table sets r then λ new. admitted table (kept ++ rows) new then λ new. rows_turned table sets (kept ++ (new ∷ rows)) olds)
turned_one table sets kept r rows olds stays holds rises = by (row_set table sets r) refl
  where
    beside : rows_beside r.0 (kept ++ (r ∷ rows)) ≡ kept ++ rows
    beside = gone_behind kept r rows rises

    by_alone : (new : TableRow) → new.0 ≡ r.0 → (b : Bool) → is_alone table new (kept ++ rows) ≡ b
        → (admitted table (rows_beside r.0 (kept ++ (r ∷ rows))) new then λ new. rows_turned table sets (put int_cmp new.0 new.1 (rows_beside r.0 (kept ++ (r ∷ rows)))) olds)
        ≡ (admitted table (kept ++ rows) new then λ new. rows_turned table sets (kept ++ (new ∷ rows)) olds)
    by_alone new same true h =
        let free : find int_cmp new.0 (kept ++ rows) ≡ None = subst (λ (n : ℤ). find int_cmp n (kept ++ rows) ≡ None) (sym same) (not_left kept r rows rises) in
        let put_is : put int_cmp new.0 new.1 (kept ++ rows) ≡ kept ++ (new ∷ rows) =
        subst (λ (n : ℤ). put int_cmp n new.1 (kept ++ rows) ≡ kept ++ ((n, new.1) ∷ rows)) (sym same) (put_back kept r rows new.1 rises) in
        rw (beside, free, h, put_is) refl
    by_alone new same false h =
        let free : find int_cmp new.0 (kept ++ rows) ≡ None = subst (λ (n : ℤ). find int_cmp n (kept ++ rows) ≡ None) (sym same) (not_left kept r rows rises) in
        rw (beside, free, h) refl

    by : (a : Answer TableRow) → row_set table sets r ≡ a
        → rows_turned table sets (kept ++ (r ∷ rows)) (r ∷ olds) ≡ (row_set table sets r then λ new. admitted table (kept ++ rows) new then λ new. rows_turned table sets (kept ++ (new ∷ rows)) olds)
    by (Ok new) e = rw (e) (by_alone new (set_keeps table sets stays r new holds e) (is_alone table new (kept ++ rows)) refl)
    by (Err f) e = rw (e) refl

-- ---- some rows

module _ (fire : Fire) (name : Name) (table : Table) (sets : List (ℕ × Term)) (set : List Name) (still : IsStill fire) (keeps : KeepsQuiet (Updating set) name) where
  -- the table with these rows
  abbrev having_rows : Database → List TableRow → Database
  having_rows db rows = with_object db name (ATable (with_rows table rows))

  abbrev values_over : TableRow → Answer (List Value)
  values_over r = values (env_of (as_source r ∷ [])) (map (λ s. s.1) sets)

  abbrev own : Option ℕ
  own = own_column table

  -- what the row becomes, where it is alone among the rows without it
  abbrev turned : List TableRow → TableRow → Answer TableRow
  turned now old = row_set table sets old then λ new. admitted table (rows_beside old.0 now) new

  abbrev with_turned : Database → List TableRow → TableRow → Answer TableRow → Answer Database
  with_turned db now old a = a then λ new. Ok (having_rows db (put int_cmp new.0 new.1 (rows_beside old.0 now)))

  rowid_is : (now : List TableRow) (rowid : ℤ) (vs : List Value) → updated_rowid (with_rows table now) rowid vs ≡ rowid_left own rowid vs
  rowid_is now rowid vs = by own
    where
      by : (o : Option ℕ) → (elim o as (λ x. Answer ℤ) [ None ↦ Ok rowid | Some i ↦ elim (unwrap_or (slice_get vs i) Null) as (λ x. Answer ℤ) [ Int z ↦ Ok z | _ ↦ Err RowidMismatch ] ]) ≡ rowid_left o rowid vs
      by None = refl
      by (Some i) = refl

  row_updates : (db : Database) (now : List TableRow) (old : TableRow) → is_quiet (Updating set) db name ≡ true → HasIndexesOf db name table → table_of db name ≡ Ok (with_rows table now)
      → find int_cmp old.0 now ≡ Some old.1 → update_row fire no_outer name sets set db old.0 ≡ with_turned db now old (turned now old)
  row_updates db now old only has is found = by_given (values_over old) refl
    where
      there : row (with_rows table now) old.0 ≡ Some old.1
      there = found

      then_all : (a : Answer TableRow) → (a then λ new. admitted table (rows_beside old.0 now) new then λ new. Ok (having_rows db (put int_cmp new.0 new.1 (rows_beside old.0 now))))
          ≡ with_turned db now old (a then λ new. admitted table (rows_beside old.0 now) new)
      then_all (Ok x) = refl
      then_all (Err f) = refl

      stored_so : (rowid : ℤ) (vs : List Value) (d : Answer TableRow) → (demanded table (rowid, vs) then λ new. admitted table (rows_beside old.0 now) new) ≡ d
          → stored db name (without_row old.0 (with_rows table now)) rowid vs ≡ with_turned db now old d
      stored_so rowid vs d k =
          stored_as db name table (rows_beside old.0 now) rowid vs has ∙ (then_all (demanded table (rowid, vs)) ∙ ap (with_turned db now old) k)

      by_demands : (given vs : List Value) (rowid : ℤ) → values_over old ≡ Ok given → with_affinity (map as_column table.columns) (set_values old.1 (zip (map (λ s. s.0) sets) given)) ≡ Ok vs
          → rowid_left own old.0 vs ≡ Ok rowid → (d : Answer TableRow) → (demanded table (rowid, vs) then λ new. admitted table (rows_beside old.0 now) new) ≡ d
          → update_row fire no_outer name sets set db old.0 ≡ with_turned db now old (turned now old)
      by_demands given vs rowid e h l (Ok new) k =
          let back = stored_so rowid vs (Ok new) k in
          let left : updated_rowid (with_rows table now) old.0 vs ≡ Ok rowid = rowid_is now old.0 vs ∙ l in
          let later : is_quiet (Updating set) (having_rows db (put int_cmp new.0 new.1 (rows_beside old.0 now))) name ≡ true = keeps db (with_rows table now) (with_rows table (put int_cmp new.0 new.1 (rows_beside old.0 now))) is only in
          rw (is, there, e, h, still, is, there, same_values old.1, left, back, still, k, ◌then◌) refl
      by_demands given vs rowid e h l (Err f) k =
          let back = stored_so rowid vs (Err f) k in
          let left : updated_rowid (with_rows table now) old.0 vs ≡ Ok rowid = rowid_is now old.0 vs ∙ l in
          rw (is, there, e, h, still, is, there, same_values old.1, left, back, k, ◌then◌) refl

      by_rowid : (given vs : List Value) → values_over old ≡ Ok given → with_affinity (map as_column table.columns) (set_values old.1 (zip (map (λ s. s.0) sets) given)) ≡ Ok vs
          → (a : Answer ℤ) → rowid_left own old.0 vs ≡ a → update_row fire no_outer name sets set db old.0 ≡ with_turned db now old (turned now old)
      by_rowid given vs e h (Ok rowid) l = by_demands given vs rowid e h l (demanded table (rowid, vs) then λ new. admitted table (rows_beside old.0 now) new) refl
      by_rowid given vs e h (Err f) l =
          let left : updated_rowid (with_rows table now) old.0 vs ≡ Err f = rowid_is now old.0 vs ∙ l in
          rw (is, there, e, h, still, is, there, same_values old.1, left, ◌then◌) refl

      by_stored : (given : List Value) → values_over old ≡ Ok given → (a : Answer (List Value)) → with_affinity (map as_column table.columns) (set_values old.1 (zip (map (λ s. s.0) sets) given)) ≡ a
          → update_row fire no_outer name sets set db old.0 ≡ with_turned db now old (turned now old)
      by_stored given e (Ok vs) h = by_rowid given vs e h (rowid_left own old.0 vs) refl
      by_stored given e (Err f) h = rw (is, there, e, h, ◌then◌) refl

      by_given : (a : Answer (List Value)) → values_over old ≡ a → update_row fire no_outer name sets set db old.0 ≡ with_turned db now old (turned now old)
      by_given (Ok given) e = by_stored given e (with_affinity (map as_column table.columns) (set_values old.1 (zip (map (λ s. s.0) sets) given))) refl
      by_given (Err f) e = rw (is, there, e, ◌then◌) refl

  -- one row, and then the others
  one_turned : (now : List TableRow) (old : TableRow) (olds : List TableRow)
      → rows_turned table sets now (old ∷ olds) ≡ (turned now old then λ new. rows_turned table sets (put int_cmp new.0 new.1 (rows_beside old.0 now)) olds)
  one_turned now old olds = by (row_set table sets old)
    where
      by : (a : Answer TableRow) → (a then λ new. admitted table (rows_beside old.0 now) new then λ new. rows_turned table sets (put int_cmp new.0 new.1 (rows_beside old.0 now)) olds)
          ≡ ((a then λ new. admitted table (rows_beside old.0 now) new) then λ new. rows_turned table sets (put int_cmp new.0 new.1 (rows_beside old.0 now)) olds)
      by (Ok x) = refl
      by (Err f) = refl

  -- a row that is turned has a rowid that none of the others has
  turned_free : (now : List TableRow) (old new : TableRow) → turned now old ≡ Ok new → find int_cmp new.0 (rows_beside old.0 now) ≡ None
  turned_free now old new e = by (row_set table sets old) e
    where
      by : (a : Answer TableRow) → (a then λ set. admitted table (rows_beside old.0 now) set) ≡ Ok new → find int_cmp new.0 (rows_beside old.0 now) ≡ None
      by (Ok set) h = (is_admitted table (rows_beside old.0 now) set new h).free
      by (Err f) h = absurd cc

  abbrev Folded : Database → List TableRow → List TableRow → Type 0
  Folded db now olds = fold_answer (update_row fire no_outer name sets set) db (map (λ row. row.0) olds) ≡ (rows_turned table sets now olds then λ then_now. Ok (having_rows db then_now))

  same_database : (db : Database) (before : List TableRow) (answer : Answer (List TableRow))
      → (answer then λ now. Ok (having_rows (having_rows db before) now)) ≡ (answer then λ now. Ok (having_rows db now))
  same_database db before (Ok now) = ap (λ (d : Database). Ok d) (put_again (folded name) (ATable (with_rows table before)) (ATable (with_rows table now)) db)
  same_database db before (Err f) = refl

  folds_some : (olds : List TableRow) (now : List TableRow) (db : Database) → is_quiet (Updating set) db name ≡ true → HasIndexesOf db name table → table_of db name ≡ Ok (with_rows table now)
      → Rises olds → AreThere now olds → having_rows db now ≡ db → Folded db now olds
  folds_some [] now db only has is rises there same = ap (λ (d : Database). Ok d) (sym same)
  folds_some (old ∷ olds) now db only has is rises there same =
      by_row (λ before d. folds_some olds before d) (turned now old) refl
    where
      Goes : Type 0
      Goes = (before : List TableRow) (d : Database) → is_quiet (Updating set) d name ≡ true → HasIndexesOf d name table → table_of d name ≡ Ok (with_rows table before)
          → Rises olds → AreThere before olds → having_rows d before ≡ d → Folded d before olds

      by_row : Goes → (a : Answer TableRow) → turned now old ≡ a → Folded db now (old ∷ olds)
      by_row on (Ok new) e =
          let before : List TableRow = put int_cmp new.0 new.1 (rows_beside old.0 now) in
          let first : update_row fire no_outer name sets set db old.0 ≡ Ok (having_rows db before) = row_updates db now old only has is there.0 ∙ ap (with_turned db now old) e in
          ap (λ (a : Answer Database). a then λ b. fold_answer (update_row fire no_outer name sets set) b (map (λ row. row.0) olds)) first
          ∙ (on before (having_rows db before) (keeps db (with_rows table now) (with_rows table before) is only)
          (indexes_stay db name table (with_rows table now) (with_rows table before) is has) (put_there db name (with_rows table before))
          (raised old.0 olds rises) (others_there old new now olds rises (turned_free now old new e) there.1)
          (put_again (folded name) (ATable (with_rows table before)) (ATable (with_rows table before)) db)
          ∙ (same_database db before (rows_turned table sets before olds)
          ∙ sym (ap (λ (a : Answer (List TableRow)). a then λ then_now. Ok (having_rows db then_now))
          (one_turned now old olds ∙ ap (λ (a : Answer TableRow). a then λ new. rows_turned table sets (put int_cmp new.0 new.1 (rows_beside old.0 now)) olds) e))))
      by_row on (Err f) e =
          let first : update_row fire no_outer name sets set db old.0 ≡ Err f = row_updates db now old only has is there.0 ∙ ap (with_turned db now old) e in
          ap (λ (a : Answer Database). a then λ b. fold_answer (update_row fire no_outer name sets set) b (map (λ row. row.0) olds)) first
          ∙ sym (ap (λ (a : Answer (List TableRow)). a then λ then_now. Ok (having_rows db then_now))
          (one_turned now old olds ∙ ap (λ (a : Answer TableRow). a then λ new. rows_turned table sets (put int_cmp new.0 new.1 (rows_beside old.0 now)) olds) e))

-- some of rows that rise are there
some_there : (p : TableRow → Bool) (kept rows : List TableRow) → Rises (kept ++ rows) → AreThere (kept ++ rows) (filter p rows)
some_there p kept [] rises = tt
some_there p kept (r ∷ rows) rises =
    let shift : (kept ++ (r ∷ [])) ++ rows ≡ kept ++ (r ∷ rows) = append_assoc kept (r ∷ []) rows in
    by (subst (λ all. AreThere all (filter p rows)) shift (some_there p (kept ++ (r ∷ [])) rows (subst Rises (sym shift) rises))) (p r)
  where
    by : AreThere (kept ++ (r ∷ rows)) (filter p rows) → (b : Bool) → AreThere (kept ++ (r ∷ rows)) (cond b (r ∷ filter p rows) (filter p rows))
    by rest true = (found_behind kept r rows rises, rest)
    by rest false = rest

pub updates_some : KeepsTriggers → OneDatabase → KeepsNamed → UpdatesSome
updates_some keeps one named fire name db table rows sets set is_meant still only in_order has is fit =
    let rises = fit_rows_rise (with_rows table rows) fit in
    folds_some fire name table sets set still (quiet_kept keeps (Updating set) name) (filter is_meant rows) rows db only has is (rises_filter is_meant rows rises) (some_there is_meant [] rows rises)
    (put_itself one named db name (with_rows table rows) in_order is)

-- ---- without a UNIQUE index

module _ (table : Table) (sets : List (ℕ × Term)) (is_meant : TableRow → Bool) (none : has_unique table ≡ false) (stays : keeps_rowids table sets ≡ true) where
  free_turns : (rows : List TableRow) (kept : List TableRow) → all_hold (own_column table) rows ≡ true → Rises (kept ++ rows)
      → rows_turned table sets (kept ++ rows) (filter is_meant rows) ≡ (rows_meant_set table sets is_meant rows then λ now. Ok (kept ++ now))
  free_turns [] kept held rises = refl
  free_turns (r ∷ rows) kept held rises = by_test (λ now. free_turns rows now halves.1) (is_meant r) refl
    where
      halves : (holds_rowid (own_column table) r ≡ true) × (all_hold (own_column table) rows ≡ true)
      halves = both (holds_rowid (own_column table) r) (all_hold (own_column table) rows) held

      longer : (new : TableRow) (answer : Answer (List TableRow)) → (answer then λ ns. Ok ((kept ++ new ∷ []) ++ ns)) ≡ ((answer then λ ns. Ok (new ∷ ns)) then λ ns. Ok (kept ++ ns))
      longer new (Ok ns) = ap (λ (rs : List TableRow). Ok rs) (append_assoc kept (new ∷ []) ns)
      longer new (Err f) = refl

      by_row : ((now : List TableRow) → Rises (now ++ rows) → rows_turned table sets (now ++ rows) (filter is_meant rows) ≡ (rows_meant_set table sets is_meant rows then λ ns. Ok (now ++ ns)))
          → is_meant r ≡ true → (a : Answer TableRow) → row_set table sets r ≡ a
          → rows_turned table sets (kept ++ (r ∷ rows)) (filter is_meant (r ∷ rows)) ≡ (rows_meant_set table sets is_meant (r ∷ rows) then λ now. Ok (kept ++ now))
      by_row on it (Ok new) e =
          let same : new.0 ≡ r.0 = set_keeps table sets stays r new halves.0 e in
          let free : find int_cmp new.0 (kept ++ rows) ≡ None = subst (λ (n : ℤ). find int_cmp n (kept ++ rows) ≡ None) (sym same) (not_left kept r rows rises) in
          let shift : (kept ++ (new ∷ [])) ++ rows ≡ kept ++ (new ∷ rows) = append_assoc kept (new ∷ []) rows in
          let alone = free_alone table new (kept ++ rows) none in
          rw (it, turned_one table sets kept r rows (filter is_meant rows) stays halves.0 rises, e, free, alone)
          (ap (λ (l : List TableRow). rows_turned table sets l (filter is_meant rows)) (sym shift)
          ∙ (on (kept ++ (new ∷ [])) (subst Rises (sym shift) (subst (λ (n : ℤ). Rises (kept ++ ((n, new.1) ∷ rows))) (sym same) (rise_with kept r rows new.1 rises)))
          ∙ longer new (rows_meant_set table sets is_meant rows)))
      by_row on it (Err f) e = rw (it, turned_one table sets kept r rows (filter is_meant rows) stays halves.0 rises, e) refl

      by_test : ((now : List TableRow) → Rises (now ++ rows) → rows_turned table sets (now ++ rows) (filter is_meant rows) ≡ (rows_meant_set table sets is_meant rows then λ ns. Ok (now ++ ns)))
          → (test : Bool) → is_meant r ≡ test
          → rows_turned table sets (kept ++ (r ∷ rows)) (filter is_meant (r ∷ rows)) ≡ (rows_meant_set table sets is_meant (r ∷ rows) then λ now. Ok (kept ++ now))
      by_test on true it = by_row on it (row_set table sets r) refl
      by_test on false it =
          let shift : (kept ++ (r ∷ [])) ++ rows ≡ kept ++ (r ∷ rows) = append_assoc kept (r ∷ []) rows in
          rw (it)
          (ap (λ (l : List TableRow). rows_turned table sets l (filter is_meant rows)) (sym shift)
          ∙ (on (kept ++ (r ∷ [])) (subst Rises (sym shift) rises) ∙ longer r (rows_meant_set table sets is_meant rows)))

abbrev given_rows : List TableRow → Answer (List TableRow)
given_rows rows = Ok rows

pub same_answer : (answer : Answer (List TableRow)) → (answer then λ now. Ok ([] ++ now)) ≡ answer
same_answer (Ok now) = refl
same_answer (Err f) = refl

every_row : (rows : List TableRow) → filter (λ row. true) rows ≡ rows
every_row [] = refl
every_row (r ∷ rows) = ap (λ (rs : List TableRow). r ∷ rs) (every_row rows)

-- rows that a table may hold hold their rowids
pub fit_rows_hold : (table : Table) (rows : List TableRow) → are_rows (with_rows table rows) ≡ true → all_hold (own_column table) rows ≡ true
fit_rows_hold table rows fit = all_held table rows rows (both _ (list_all (is_row (with_rows table rows)) rows) fit).1

pub sets_as_each : SetsAsEach
sets_as_each table sets None rows none stays fit =
    ap (rows_turned table sets rows) (sym (every_row rows))
    ∙ (free_turns table sets (λ row. true) none stays rows [] (fit_rows_hold table rows fit) (fit_rows_rise (with_rows table rows) fit) ∙ same_answer (rows_meant_set table sets (λ row. true) rows))
sets_as_each table sets (Some c) rows none stays fit = by (all_answers (map (tested c) rows))
  where
    by : (a : Answer (List (Option Bool))) → ((a then λ tests. given_rows (filter (is_chosen c) rows)) then λ olds. rows_turned table sets rows olds) ≡ (a then λ tests. rows_meant_set table sets (is_chosen c) rows)
    by (Ok tests) = free_turns table sets (is_chosen c) none stays rows [] (fit_rows_hold table rows fit) (fit_rows_rise (with_rows table rows) fit) ∙ same_answer (rows_meant_set table sets (is_chosen c) rows)
    by (Err r) = refl
