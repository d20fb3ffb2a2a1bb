-- A row that is put among others, none of which has its rowid: in another order they are the others, and then the row. And what is left where a
-- row is taken out.
use Rattle.std.proofs.Common.{◌≡◌, refl, sym, ap, subst, ◌∙◌, ◌<ℤ◌, ℤ, Bool, true, false, cond, not, List, [], ◌∷◌, ◌++◌, Option, Some, None, if◌then◌else◌, int_lt, Ok, Err, arith}
use Rattle.std.specs.Prelude.{is_none, unwrap_or}
use Rattle.std.specs.Cmp.{int_cmp_is}
use Rattle.std.specs.FinMap.Entries.{by_order, find, put}
use Rattle.std.specs.Ordering.{int_cmp, is_eq}
use Rattle.std.specs.declared.cmp.Ordering.{Ordering}
use Rattle.std.specs.declared.cmp.Ordering.TheVariants.{Equal, Greater, Less}
use Rattle.sqlval.specs.Refusals.{Answer, ◌then◌, Unique}
use Rattle.sqlval.specs.declared.value.Value.{Value}
use Rattle.row_scan.specs.Rows.{TableRow}
use Rattle.row_change.specs.Constraints.{demand}
use Rattle.row_change.specs.Demands.{with_own_rowid}
use Rattle.row_change.specs.Inserting.{last_rowid}
use Rattle.row_change.specs.Setting.{rows_beside}
use Rattle.row_change.proofs.Rising.{Climbs, Rises, further}
use Rattle.db_write.specs.OneRow.{last_with}
use Rattle.db_write.proofs.Shuffling.{Shuffles, no_rows, one_comes, one_stays}

-- ---- a rowid that is free

abbrev given_row : TableRow → Answer TableRow
given_row row = Ok row

same_row : (a b : TableRow) → given_row a ≡ given_row b → a ≡ b
same_row a b e = cc

-- a row that none of the others has the rowid of
pub own_free : (a : Answer TableRow) (rows : List TableRow) (row : TableRow) → (a then λ r. with_own_rowid rows r) ≡ Ok row → find int_cmp row.0 rows ≡ None
own_free (Ok r) rows row e = by (find int_cmp r.0 rows) refl e
  where
    by : (found : Option (List Value)) → find int_cmp r.0 rows ≡ found → (demand (is_none found) Unique then λ done. given_row r) ≡ Ok row → find int_cmp row.0 rows ≡ None
    by None none h = subst (λ (x : TableRow). find int_cmp x.0 rows ≡ None) (same_row r row h) none
    by (Some values) some h = absurd cc
own_free (Err r) rows row e = absurd cc

-- ---- the row among the others

all_stay : (rows : List TableRow) → Shuffles rows [] rows
all_stay [] = no_rows
all_stay (row ∷ rows) = one_stays row (all_stay rows)

-- a row between others comes after them
pub one_shuffles : (front : List TableRow) (row : TableRow) (back : List TableRow) → Shuffles (front ++ back) (row ∷ []) (front ++ row ∷ back)
one_shuffles [] row back = one_comes row (all_stay back)
one_shuffles (other ∷ front) row back = one_stays other (one_shuffles front row back)

some_none : (values : List Value) → Some values ≡ None → ⊥
some_none values e = absurd cc

pub put_shuffles : (row : TableRow) (rows : List TableRow) → find int_cmp row.0 rows ≡ None → Shuffles rows (row ∷ []) (put int_cmp row.0 row.1 rows)
put_shuffles row [] free = one_comes row no_rows
put_shuffles row (r ∷ rows) free = by (int_cmp row.0 r.0) (put_shuffles row rows) free
  where
    by : (o : Ordering) → (find int_cmp row.0 rows ≡ None → Shuffles rows (row ∷ []) (put int_cmp row.0 row.1 rows)) → cond (is_eq o) (Some r.1) (find int_cmp row.0 rows) ≡ None
        → Shuffles (r ∷ rows) (row ∷ []) (by_order o ((row.0, row.1) ∷ r ∷ rows) ((r.0, row.1) ∷ rows) (r ∷ put int_cmp row.0 row.1 rows))
    by Less more none = one_comes row (all_stay (r ∷ rows))
    by Equal more none = absurd (some_none r.1 none)
    by Greater more none = one_stays r (more none)

-- ---- the last rowid

before : (a b : ℤ) → int_cmp a b ≡ Less → a <ℤ b
before a b h = by (int_lt a b) (int_lt b a) refl h
  where
    by : (t u : Bool) → int_lt a b ≡ t → cond t Less (cond u Greater Equal) ≡ Less → a <ℤ b
    by true u e h = grind (arith, e)
    by false true e h = absurd cc
    by false false e h = absurd cc

after : (a b : ℤ) → int_cmp a b ≡ Greater → b <ℤ a
after a b h = by (int_lt a b) (int_lt b a) refl h
  where
    by : (t u : Bool) → int_lt b a ≡ u → cond t Less (cond u Greater Equal) ≡ Greater → b <ℤ a
    by true u e h = absurd cc
    by false true e h = grind (arith, e)
    by false false e h = absurd cc

less : (a b : ℤ) → a <ℤ b → int_lt a b ≡ true
less a b lt = grind (arith)

not_less : (a b : ℤ) → b <ℤ a → int_lt a b ≡ false
not_less a b lt = grind (arith)

-- the last is above where they begin
above : (low : ℤ) (row : TableRow) (rows : List TableRow) → Climbs low (row ∷ rows) → low <ℤ unwrap_or (last_rowid rows) row.0
above low row [] climb = climb.0
above low row (next ∷ rows) climb = further low row.0 (unwrap_or (last_rowid rows) next.0) climb.0 (above row.0 next rows climb.1)

-- after a row of a smaller rowid the last is that of the others
with_first : (first rowid : ℤ) (last : Option ℤ) → first <ℤ rowid → last_with (Some (unwrap_or last first)) rowid ≡ Some (unwrap_or (last_with last rowid) first)
with_first first rowid None lt = ap (λ (b : Bool). if b then Some first else Some rowid) (not_less rowid first lt)
with_first first rowid (Some last) lt = by (int_lt rowid last)
  where
    by : (b : Bool) → (if b then Some last else Some rowid) ≡ Some (unwrap_or (if b then Some last else Some rowid) first)
    by true = refl
    by false = refl

pub rest_rises : (row : TableRow) (rows : List TableRow) → Climbs row.0 rows → Rises rows
rest_rises row [] climb = tt
rest_rises row (next ∷ rows) climb = climb.1

-- the last rowid once a row is put among rows that rise
pub last_of_put : (row : TableRow) (rows : List TableRow) → Rises rows → find int_cmp row.0 rows ≡ None → last_with (last_rowid rows) row.0 ≡ last_rowid (put int_cmp row.0 row.1 rows)
last_of_put row [] rises free = refl
last_of_put row (r ∷ rows) rises free = by (int_cmp row.0 r.0) refl (last_of_put row rows (rest_rises r rows rises)) free
  where
    by : (o : Ordering) → int_cmp row.0 r.0 ≡ o → (find int_cmp row.0 rows ≡ None → last_with (last_rowid rows) row.0 ≡ last_rowid (put int_cmp row.0 row.1 rows)) → cond (is_eq o) (Some r.1) (find int_cmp row.0 rows) ≡ None
        → last_with (last_rowid (r ∷ rows)) row.0 ≡ last_rowid (by_order o ((row.0, row.1) ∷ r ∷ rows) ((r.0, row.1) ∷ rows) (r ∷ put int_cmp row.0 row.1 rows))
    by Less is more none =
        ap (λ (b : Bool). if b then Some (unwrap_or (last_rowid rows) r.0) else Some row.0)
        (less row.0 (unwrap_or (last_rowid rows) r.0) (above row.0 r rows (before row.0 r.0 is, rises)))
    by Equal is more none = absurd (some_none r.1 none)
    by Greater is more none = with_first r.0 row.0 (last_rowid rows) (after row.0 r.0 is) ∙ ap (λ (last : Option ℤ). Some (unwrap_or last r.0)) (more none)

-- ---- the others

pub lower : (low mid : ℤ) (rows : List TableRow) → low <ℤ mid → Climbs mid rows → Climbs low rows
lower low mid [] lt climb = tt
lower low mid (row ∷ rows) lt climb = (further low mid row.0 lt climb.0, climb.1)

all_beside : (low : ℤ) (rows : List TableRow) → Climbs low rows → rows_beside low rows ≡ rows
all_beside low [] climb = refl
all_beside low (r ∷ rows) climb =
    ap (λ (o : Ordering). cond (not (is_eq o)) (r ∷ rows_beside low rows) (rows_beside low rows)) (sym (int_cmp_is low r.0 Less climb.0))
    ∙ ap (λ (rest : List TableRow). r ∷ rest) (all_beside low rows (lower low r.0 rows climb.0 climb.1))

pub climbs_to : (low : ℤ) (front : List TableRow) (row : TableRow) (back : List TableRow) → Climbs low (front ++ row ∷ back) → low <ℤ row.0
climbs_to low [] row back climb = climb.0
climbs_to low (r ∷ front) row back climb = further low r.0 row.0 climb.0 (climbs_to r.0 front row back climb.1)

-- without the row the others are left
pub others_left : (front : List TableRow) (row : TableRow) (back : List TableRow) → Rises (front ++ row ∷ back) → rows_beside row.0 (front ++ row ∷ back) ≡ front ++ back
others_left [] row back rises =
    ap (λ (o : Ordering). cond (not (is_eq o)) (row ∷ rows_beside row.0 back) (rows_beside row.0 back)) (sym (int_cmp_is row.0 row.0 Equal refl)) ∙ all_beside row.0 back rises
others_left (r ∷ front) row back rises =
    ap (λ (o : Ordering). cond (not (is_eq o)) (r ∷ rows_beside row.0 (front ++ row ∷ back)) (rows_beside row.0 (front ++ row ∷ back))) (sym (int_cmp_is row.0 r.0 Greater (climbs_to r.0 front row back rises)))
    ∙ ap (λ (rest : List TableRow). r ∷ rest) (others_left front row back (rest_rises r (front ++ row ∷ back) rises))
