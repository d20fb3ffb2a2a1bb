-- Rows that are put where their rowids have them, and found there.
use Rattle.std.proofs.Common.{◌≡◌, refl, sym, ap, subst, ◌∙◌, ℤ, ◌<ℤ◌, Bool, true, false, cond, not, List, [], ◌∷◌, Option, Some, None, Ok, arith}
use Rattle.std.proofs.lemmas.Bool.{false≢true}
use Rattle.std.proofs.lemmas.Cmp.{int_cmp_total}
use Rattle.std.specs.Prelude.{filter, int_lt, is_none}
use Rattle.std.specs.Cmp.{alike_right, int_cmp_is}
use Rattle.std.specs.FinMap.Entries.{put, find, by_order, find-put, find-where_key, find_tied}
use Rattle.std.specs.List.{AllByRecursion}
use Rattle.std.specs.Ordering.{eq_by_cmp, int_cmp, is_eq}
use Rattle.std.specs.declared.cmp.Ordering.{Ordering}
use Rattle.std.specs.declared.cmp.Ordering.TheVariants.{Less, Equal, Greater}
use Rattle.sqlval.specs.Refusals.{Answer, ◌then◌, Unique}
use Rattle.sqlval.specs.declared.value.Value.{Value}
use Rattle.catalog.specs.declared.tables.Table.{Table}
use Rattle.row_scan.specs.Rows.{TableRow}
use Rattle.row_change.specs.Constraints.{demand}
use Rattle.row_change.specs.Demands.{admitted, is_alone}
use Rattle.row_change.specs.Setting.{rows_beside}
use Rattle.row_change.proofs.Rising.{Climbs, Rises, further}

-- ---- how two rowids stand

before : (a b : ℤ) → int_cmp a b ≡ Less → a <ℤ b
before a b h = by_tests (int_lt a b) (int_lt b a) refl h
  where
    by_tests : (t u : Bool) → int_lt a b ≡ t → cond t Less (cond u Greater Equal) ≡ Less → a <ℤ b
    by_tests true u e h = grind (arith, e)
    by_tests false true e h = absurd cc
    by_tests false false e h = absurd cc

after : (a b : ℤ) → int_cmp a b ≡ Greater → b <ℤ a
after a b h = by_tests (int_lt a b) (int_lt b a) refl h
  where
    by_tests : (t u : Bool) → int_lt b a ≡ u → cond t Less (cond u Greater Equal) ≡ Greater → b <ℤ a
    by_tests true u e h = absurd cc
    by_tests false true e h = grind (arith, e)
    by_tests false false e h = absurd cc

-- ---- rows that rise

climbs_put : (low id : ℤ) (values : List Value) (rows : List TableRow) → low <ℤ id → Climbs low rows → Climbs low (put int_cmp id values rows)
climbs_put low id values [] lt climb = (lt, tt)
climbs_put low id values (r ∷ rows) lt climb = by (λ above. climbs_put r.0 id values rows above climb.1) (int_cmp id r.0) refl
  where
    by : (r.0 <ℤ id → Climbs r.0 (put int_cmp id values rows)) → (o : Ordering) → int_cmp id r.0 ≡ o → Climbs low (by_order o ((id, values) ∷ r ∷ rows) ((r.0, values) ∷ rows) (r ∷ put int_cmp id values rows))
    by rest Less e = (lt, (before id r.0 e, climb.1))
    by rest Equal e = climb
    by rest Greater e = (climb.0, rest (after id r.0 e))

-- with one more, in its place by rowid, rows rise still
pub rises_put : (id : ℤ) (values : List Value) (rows : List TableRow) → Rises rows → Rises (put int_cmp id values rows)
rises_put id values [] rises = tt
rises_put id values (r ∷ rows) rises = by (int_cmp id r.0) refl
  where
    by : (o : Ordering) → int_cmp id r.0 ≡ o → Rises (by_order o ((id, values) ∷ r ∷ rows) ((r.0, values) ∷ rows) (r ∷ put int_cmp id values rows))
    by Less e = (before id r.0 e, rises)
    by Equal e = rises
    by Greater e = climbs_put r.0 id values rows (after id r.0 e) rises

pub lower : (a b : ℤ) (rows : List TableRow) → a <ℤ b → Climbs b rows → Climbs a rows
lower a b [] lt climb = tt
lower a b (r ∷ rows) lt climb = (further a b r.0 lt climb.0, climb.1)

climbs_filter : (low : ℤ) (p : TableRow → Bool) (rows : List TableRow) → Climbs low rows → Climbs low (filter p rows)
climbs_filter low p [] climb = tt
climbs_filter low p (r ∷ rows) climb = by (climbs_filter r.0 p rows climb.1) (climbs_filter low p rows (lower low r.0 rows climb.0 climb.1)) (p r)
  where
    by : Climbs r.0 (filter p rows) → Climbs low (filter p rows) → (b : Bool) → Climbs low (cond b (r ∷ filter p rows) (filter p rows))
    by with_it without true = (climb.0, with_it)
    by with_it without false = without

-- rows above a rowid rise
pub raised : (low : ℤ) (rows : List TableRow) → Climbs low rows → Rises rows
raised low [] climb = tt
raised low (q ∷ rows) climb = climb.1

-- some of rows that rise do so
pub rises_filter : (p : TableRow → Bool) (rows : List TableRow) → Rises rows → Rises (filter p rows)
rises_filter p [] rises = tt
rises_filter p (r ∷ rows) rises = by (rises_filter p rows (raised r.0 rows rises)) (p r)
  where
    by : Rises (filter p rows) → (b : Bool) → Rises (cond b (r ∷ filter p rows) (filter p rows))
    by without true = climbs_filter r.0 p rows rises
    by without false = without

-- ---- rows that are there

-- each of these is the row of its rowid
abbrev pub AreThere : List TableRow → List TableRow → Type 0
AreThere rows olds = AllByRecursion (λ (old : TableRow). find int_cmp old.0 rows ≡ Some old.1) olds

apart_is : (a b : ℤ) → a <ℤ b → eq_by_cmp int_cmp a b ≡ false
apart_is a b lt = sym (ap is_eq (int_cmp_is a b Less lt))

tied : (a b : ℤ) → eq_by_cmp int_cmp a b ≡ true → int_cmp a b ≡ Equal
tied a b h = by (int_cmp a b) refl h
  where
    by : (o : Ordering) → int_cmp a b ≡ o → is_eq o ≡ true → int_cmp a b ≡ Equal
    by Less e h = absurd (false≢true h)
    by Equal e h = e
    by Greater e h = absurd (false≢true h)

same_for : (id : ℤ) (q x : ℤ) → int_cmp q x ≡ Equal → not (eq_by_cmp int_cmp id x) ≡ not (eq_by_cmp int_cmp id q)
same_for id q x e = ap (λ o. not (is_eq o)) (sym (alike_right int_cmp_total q x id e))

-- where a row of a rowid goes, others stay
stays_beside : (id q : ℤ) (rows : List TableRow) (found : Option (List Value)) → id <ℤ q → find int_cmp q rows ≡ found → find int_cmp q (rows_beside id rows) ≡ found
stays_beside id q rows found lt there =
    find-where_key int_cmp (λ other. not (eq_by_cmp int_cmp id other)) q (same_for id q) rows
    ∙ (ap (λ b. cond (not b) (find int_cmp q rows) None) (apart_is id q lt) ∙ there)

-- where one comes whose rowid none has, others stay
stays_with : (q : ℤ) (new : TableRow) (rows : List TableRow) (values : List Value) → find int_cmp new.0 rows ≡ None → find int_cmp q rows ≡ Some values → find int_cmp q (put int_cmp new.0 new.1 rows) ≡ Some values
stays_with q new rows values free there =
    find-put int_cmp int_cmp_total q new.0 new.1 rows ∙ by (eq_by_cmp int_cmp q new.0) refl
  where
    none_some : None ≡ Some values → ⊥
    none_some h = absurd cc

    by : (b : Bool) → eq_by_cmp int_cmp q new.0 ≡ b → cond b (Some new.1) (find int_cmp q rows) ≡ Some values
    by true e = absurd (none_some (sym free ∙ (find_tied int_cmp int_cmp_total q new.0 (tied q new.0 e) rows ∙ there)))
    by false e = there

-- where a row is turned into another, those after it stay
pub others_there : (old new : TableRow) (rows olds : List TableRow) → Climbs old.0 olds → find int_cmp new.0 (rows_beside old.0 rows) ≡ None → AreThere rows olds
    → AreThere (put int_cmp new.0 new.1 (rows_beside old.0 rows)) olds
others_there old new rows [] climb free there = tt
others_there old new rows (next ∷ olds) climb free there = (
  stays_with next.0 new (rows_beside old.0 rows) next.1 free (stays_beside old.0 next.0 rows (Some next.1) climb.0 there.0),
  others_there old new rows olds (lower old.0 next.0 olds climb.0 climb.1) free there.1,
)

-- ---- a row that is admitted

abbrev given_row : TableRow → Answer TableRow
given_row row = Ok row

-- a row that is admitted among others is the one that came, and none of them has its rowid
pub record IsAdmitted (rows : List TableRow) (row new : TableRow) : Type 0 where
  pub same : row ≡ new
  pub free : find int_cmp new.0 rows ≡ None

pub is_admitted : (table : Table) (rows : List TableRow) (row new : TableRow) → admitted table rows row ≡ Ok new → IsAdmitted rows row new
is_admitted table rows row new h = by (find int_cmp row.0 rows) refl h
  where
    here : (b : Bool) → (demand b Unique then λ _. given_row row) ≡ Ok new → row ≡ new
    here true h = cc
    here false h = absurd cc

    by : (found : Option (List Value)) → find int_cmp row.0 rows ≡ found
        → ((demand (is_none found) Unique then λ _. given_row row) then λ row. demand (is_alone table row rows) Unique then λ _. given_row row) ≡ Ok new → IsAdmitted rows row new
    by (Some vs) e h = absurd cc
    by None e h = (let same : row ≡ new = here (is_alone table row rows) h in record { same = same; free = subst (λ (r : TableRow). find int_cmp r.0 rows ≡ None) same e })
