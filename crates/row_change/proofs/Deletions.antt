-- A DELETE of all rows of a listed table, row by row.
use Rattle.std.proofs.Common.{◌≡◌, refl, sym, ap, subst, ◌∙◌, ℤ, ◌<ℤ◌, Bool, true, false, not, ◌&&◌, cond, List, [], ◌∷◌, ◌++◌, append_assoc, map, Option, Some, None, Ok, Err}
use Rattle.std.specs.Cmp.{int_cmp_is, tied_itself}
use Rattle.std.specs.Cmp.Lexicographic.{pointwise}
use Rattle.std.specs.FinMap.Entries.{find, find-put, where_key}
use Rattle.std.specs.Ordering.{eq_by_cmp, int_cmp, is_eq}
use Rattle.std.specs.declared.cmp.Ordering.TheVariants.{Greater, Less}
use Rattle.std.proofs.lemmas.Cmp.{int_cmp_total, int_eq_equiv, nat_list_cmp_total, nat_list_eq_equiv}
use Rattle.std.proofs.lemmas.Map.Lookups.{exact_bytes}
use Rattle.std.proofs.lemmas.Map.Views.{tells_apart}
use Rattle.sqlval.specs.Names.{folded}
use Rattle.sqlval.specs.Refusals.{Answer, ◌then◌, NoSuch, fold_answer}
use Rattle.sqlval.specs.Sameness.{is_same_value}
use Rattle.sqlval.specs.declared.value.Value.{Value}
use Rattle.sqlval.specs.declared.value.Value.TheVariants.{Null, Int, Text, Blob}
use Rattle.catalog.specs.Database as database
use Rattle.catalog.specs.Database.{Name, Database, Object, ATable, AnIndex, AView, ATrigger, name_order, object, row, with_object, without_row}
use Rattle.catalog.specs.Laws.{KeepsTriggers}
use Rattle.catalog.specs.Listed.{with_rows}
use Rattle.catalog.specs.Named.{IsNamed, KeepsNamed, OneDatabase}
use Rattle.catalog.specs.declared.tables.Table.{Table}
use Rattle.row_scan.specs.Rows.{TableRow}
use Rattle.std.specs.Prelude.{filter}
use Rattle.row_change.specs.Agreement.{DeletesRows, DeletesSome, IsStill}
use Rattle.row_change.specs.Constraints.{table_of}
use Rattle.row_change.specs.RowChanges.{Deleting, Fire, delete_row, is_quiet}
use Rattle.row_change.proofs.Folding.{KeepsQuiet, put_again, put_there, quiet_kept}
use Rattle.row_change.proofs.Rising.{Climbs, Rises, fit_rows_rise, further}

-- ---- one row

same_value : (v : Value) → is_same_value v v ≡ true
same_value Null = refl
same_value (Int n) = int_eq_equiv.refl n
same_value (Text t) = nat_list_eq_equiv.refl t
same_value (Blob b) = nat_list_eq_equiv.refl b

pub same_values : (vs : List Value) → pointwise is_same_value vs vs ≡ true
same_values [] = refl
same_values (v ∷ vs) = ap (λ b. b && pointwise is_same_value vs vs) (same_value v) ∙ same_values vs

-- the first row has its rowid
found_first : (r : TableRow) (rows : List TableRow) → find int_cmp r.0 (r ∷ rows) ≡ Some r.1
found_first r rows = ap (λ o. cond (is_eq o) (Some r.1) (find int_cmp r.0 rows)) (tied_itself int_cmp_total r.0)

-- rows above a rowid don't have it
others_stay : (id : ℤ) (rows : List TableRow) → Climbs id rows → where_key int_cmp (λ k. not (eq_by_cmp int_cmp id k)) rows ≡ rows
others_stay id [] climb = refl
others_stay id (r ∷ rows) climb =
    ap (λ o. cond (not (is_eq o)) (r ∷ where_key int_cmp (λ k. not (eq_by_cmp int_cmp id k)) rows) (where_key int_cmp (λ k. not (eq_by_cmp int_cmp id k)) rows)) (sym (int_cmp_is id r.0 Less climb.0))
    ∙ ap (λ (rest : List TableRow). r ∷ rest) (others_stay id rows (lower id r.0 rows climb.0 climb.1))
  where
    lower : (a b : ℤ) (rows : List TableRow) → a <ℤ b → Climbs b rows → Climbs a rows
    lower a b [] lt climb = tt
    lower a b (r ∷ rows) lt climb = (further a b r.0 lt climb.0, climb.1)

first_gone : (r : TableRow) (rows : List TableRow) → Rises (r ∷ rows) → where_key int_cmp (λ k. not (eq_by_cmp int_cmp r.0 k)) (r ∷ rows) ≡ rows
first_gone r rows rises =
    ap (λ o. cond (not (is_eq o)) (r ∷ where_key int_cmp (λ k. not (eq_by_cmp int_cmp r.0 k)) rows) (where_key int_cmp (λ k. not (eq_by_cmp int_cmp r.0 k)) rows)) (tied_itself int_cmp_total r.0)
    ∙ others_stay r.0 rows rises

pub rest_rises : (r : TableRow) (rows : List TableRow) → Rises (r ∷ rows) → Rises rows
rest_rises r [] rises = tt
rest_rises r (next ∷ rows) rises = rises.1

-- ---- a row after others

pub climbs_over : (low : ℤ) (kept : List TableRow) (r : TableRow) (rows : List TableRow) → Climbs low (kept ++ (r ∷ rows)) → low <ℤ r.0
climbs_over low [] r rows climb = climb.0
climbs_over low (k ∷ kept) r rows climb = further low k.0 r.0 climb.0 (climbs_over k.0 kept r rows climb.1)

pub found_behind : (kept : List TableRow) (r : TableRow) (rows : List TableRow) → Rises (kept ++ (r ∷ rows)) → find int_cmp r.0 (kept ++ (r ∷ rows)) ≡ Some r.1
found_behind [] r rows rises = found_first r rows
found_behind (k ∷ kept) r rows rises =
    ap (λ o. cond (is_eq o) (Some k.1) (find int_cmp r.0 (kept ++ (r ∷ rows)))) (sym (int_cmp_is r.0 k.0 Greater (climbs_over k.0 kept r rows rises)))
    ∙ found_behind kept r rows (rest_rises k (kept ++ (r ∷ rows)) rises)

pub gone_behind : (kept : List TableRow) (r : TableRow) (rows : List TableRow) → Rises (kept ++ (r ∷ rows)) → where_key int_cmp (λ k. not (eq_by_cmp int_cmp r.0 k)) (kept ++ (r ∷ rows)) ≡ kept ++ rows
gone_behind [] r rows rises = first_gone r rows rises
gone_behind (k ∷ kept) r rows rises =
    ap (λ o. cond (not (is_eq o)) (k ∷ where_key int_cmp (λ j. not (eq_by_cmp int_cmp r.0 j)) (kept ++ (r ∷ rows))) (where_key int_cmp (λ j. not (eq_by_cmp int_cmp r.0 j)) (kept ++ (r ∷ rows))))
    (sym (int_cmp_is r.0 k.0 Greater (climbs_over k.0 kept r rows rises)))
    ∙ ap (λ (rest : List TableRow). k ∷ rest) (gone_behind kept r rows (rest_rises k (kept ++ (r ∷ rows)) rises))

-- without it they rise still
climb_still : (low : ℤ) (kept : List TableRow) (r : TableRow) (rows : List TableRow) → Climbs low (kept ++ (r ∷ rows)) → Climbs low (kept ++ rows)
climb_still low [] r [] climb = tt
climb_still low [] r (s ∷ rows) climb = (further low r.0 s.0 climb.0 climb.1.0, climb.1.1)
climb_still low (k ∷ kept) r rows climb = (climb.0, climb_still k.0 kept r rows climb.1)

rise_still : (kept : List TableRow) (r : TableRow) (rows : List TableRow) → Rises (kept ++ (r ∷ rows)) → Rises (kept ++ rows)
rise_still [] r rows rises = rest_rises r rows rises
rise_still (k ∷ kept) r rows rises = climb_still k.0 kept r rows rises

-- ---- all rows

abbrev table_in : Option Object → Answer database.Table
table_in o = elim o [ Some (ATable t) ↦ Ok t | _ ↦ Err NoSuch ]

abbrev given : database.Table → Answer database.Table
given t = Ok t

same_table : (a b : database.Table) → given a ≡ given b → a ≡ b
same_table a b e = cc

is_there : (o : Option Object) (t : database.Table) → table_in o ≡ Ok t → o ≡ Some (ATable t)
is_there (Some (ATable u)) t e = ap (λ x. Some (ATable x)) (same_table u t e)
is_there (Some (AnIndex i)) t e = absurd cc
is_there (Some (AView v)) t e = absurd cc
is_there (Some (ATrigger g)) t e = absurd cc
is_there None t e = absurd cc

-- a table that is put where it stands changes nothing
pub put_itself : OneDatabase → KeepsNamed → (db : Database) (name : Name) (t : database.Table) → IsNamed db → table_of db name ≡ Ok t → with_object db name (ATable t) ≡ db
put_itself one keeps db name t named is = one (with_object db name (ATable t)) db (keeps db name (ATable t) named) named same
  where
    by_test : (other : Name) (b : Bool) → eq_by_cmp name_order (folded other) (folded name) ≡ b → cond b (Some (ATable t)) (object db other) ≡ object db other
    by_test other true e = sym (ap (λ n. find name_order n db) (tells_apart exact_bytes (folded other) (folded name) e) ∙ is_there (object db name) t is)
    by_test other false e = refl

    same : (other : Name) → object (with_object db name (ATable t)) other ≡ object db other
    same other = find-put name_order nat_list_cmp_total (folded other) (folded name) (ATable t) db ∙ by_test other (eq_by_cmp name_order (folded other) (folded name)) refl

module _ (fire : Fire) (name : Name) (table : Table) (still : IsStill fire) (keeps : KeepsQuiet Deleting name) where
  -- the table with these rows
  abbrev having_rows : Database → List TableRow → Database
  having_rows db rows = with_object db name (ATable (with_rows table rows))

  row_goes : (db : Database) (r : TableRow) (rows : List TableRow) → is_quiet Deleting db name ≡ true → table_of db name ≡ Ok (with_rows table (r ∷ rows)) → Rises (r ∷ rows)
      → delete_row fire name db r.0 ≡ Ok (having_rows db rows)
  row_goes db r rows only is rises =
      let found : row (with_rows table (r ∷ rows)) r.0 ≡ Some r.1 = found_first r rows in
      let gone : without_row r.0 (with_rows table (r ∷ rows)) ≡ with_rows table rows = ap (with_rows table) (first_gone r rows rises) in
      let later : is_quiet Deleting (having_rows db rows) name ≡ true = keeps db (with_rows table (r ∷ rows)) (with_rows table rows) is only in
      rw (is, found, still, is, found, same_values r.1, gone, still, ◌then◌) refl

  folds : (rows : List TableRow) (db : Database) → is_quiet Deleting db name ≡ true → table_of db name ≡ Ok (with_rows table rows) → Rises rows → having_rows db rows ≡ db
      → fold_answer (delete_row fire name) db (map (λ row. row.0) rows) ≡ Ok (having_rows db [])
  folds [] db only is rises there = ap (λ (d : Database). Ok d) (sym there)
  folds (r ∷ rows) db only is rises there =
      ap (λ (a : Answer Database). a then λ b. fold_answer (delete_row fire name) b (map (λ row. row.0) rows)) (row_goes db r rows only is rises)
      ∙ (folds rows (having_rows db rows) (keeps db (with_rows table (r ∷ rows)) (with_rows table rows) is only) (put_there db name (with_rows table rows)) (rest_rises r rows rises) (again rows)
      ∙ ap (λ (d : Database). Ok d) (again []))
    where
      again : (more : List TableRow) → having_rows (having_rows db rows) more ≡ having_rows db more
      again more = put_again (folded name) (ATable (with_rows table rows)) (ATable (with_rows table more)) db

  -- ---- some rows

  row_leaves : (db : Database) (kept : List TableRow) (r : TableRow) (rows : List TableRow) → is_quiet Deleting db name ≡ true → table_of db name ≡ Ok (with_rows table (kept ++ (r ∷ rows))) → Rises (kept ++ (r ∷ rows))
      → delete_row fire name db r.0 ≡ Ok (having_rows db (kept ++ rows))
  row_leaves db kept r rows only is rises =
      let found : row (with_rows table (kept ++ (r ∷ rows))) r.0 ≡ Some r.1 = found_behind kept r rows rises in
      let gone : without_row r.0 (with_rows table (kept ++ (r ∷ rows))) ≡ with_rows table (kept ++ rows) = ap (with_rows table) (gone_behind kept r rows rises) in
      let later : is_quiet Deleting (having_rows db (kept ++ rows)) name ≡ true = keeps db (with_rows table (kept ++ (r ∷ rows))) (with_rows table (kept ++ rows)) is only in
      rw (is, found, still, is, found, same_values r.1, gone, still, ◌then◌) refl

  module _ (gone : TableRow → Bool) where
    abbrev stays : TableRow → Bool
    stays r = not (gone r)

    abbrev Folded : Database → List TableRow → List TableRow → Type 0
    Folded db kept rows = fold_answer (delete_row fire name) db (map (λ row. row.0) (filter gone rows)) ≡ Ok (having_rows db (kept ++ filter stays rows))

    folds_some : (rows : List TableRow) (kept : List TableRow) (db : Database) → is_quiet Deleting db name ≡ true → table_of db name ≡ Ok (with_rows table (kept ++ rows)) → Rises (kept ++ rows) → having_rows db (kept ++ rows) ≡ db
        → Folded db kept rows
    folds_some [] kept db only is rises there = ap (λ (d : Database). Ok d) (sym there)
    folds_some (r ∷ rows) kept db only is rises there = by_test (λ now there_now. folds_some rows now there_now) (gone r) refl
      where
        again : (more : List TableRow) → having_rows (having_rows db (kept ++ rows)) more ≡ having_rows db more
        again more = put_again (folded name) (ATable (with_rows table (kept ++ rows))) (ATable (with_rows table more)) db

        joined : (after : List TableRow) → (kept ++ (r ∷ [])) ++ after ≡ kept ++ (r ∷ after)
        joined after = append_assoc kept (r ∷ []) after

        by_test : ((now : List TableRow) (d : Database) → is_quiet Deleting d name ≡ true → table_of d name ≡ Ok (with_rows table (now ++ rows)) → Rises (now ++ rows) → having_rows d (now ++ rows) ≡ d → Folded d now rows)
            → (test : Bool) → gone r ≡ test → Folded db kept (r ∷ rows)
        by_test on true it =
            rw (it)
            (ap (λ (a : Answer Database). a then λ b. fold_answer (delete_row fire name) b (map (λ row. row.0) (filter gone rows))) (row_leaves db kept r rows only is rises)
            ∙ (on kept (having_rows db (kept ++ rows)) (keeps db (with_rows table (kept ++ (r ∷ rows))) (with_rows table (kept ++ rows)) is only) (put_there db name (with_rows table (kept ++ rows))) (rise_still kept r rows rises) (again (kept ++ rows))
            ∙ ap (λ (d : Database). Ok d) (again (kept ++ filter stays rows))))
        by_test on false it =
            rw (it)
            (on (kept ++ (r ∷ [])) db only (subst (λ (l : List TableRow). table_of db name ≡ Ok (with_rows table l)) (sym (joined rows)) is) (subst Rises (sym (joined rows)) rises)
            (subst (λ (l : List TableRow). having_rows db l ≡ db) (sym (joined rows)) there)
            ∙ ap (λ (l : List TableRow). Ok (having_rows db l)) (joined (filter stays rows)))

pub deletes_some : KeepsTriggers → OneDatabase → KeepsNamed → DeletesSome
deletes_some keeps one named fire name db table rows gone still only in_order is fit =
    folds_some fire name table still (quiet_kept keeps Deleting name) gone rows [] db only is (fit_rows_rise (with_rows table rows) fit) (put_itself one named db name (with_rows table rows) in_order is)

pub deletes_rows : KeepsTriggers → OneDatabase → KeepsNamed → DeletesRows
deletes_rows keeps one named fire name db table rows still only in_order is fit =
    folds fire name table still (quiet_kept keeps Deleting name) rows db only is (fit_rows_rise (with_rows table rows) fit) (put_itself one named db name (with_rows table rows) in_order is)
