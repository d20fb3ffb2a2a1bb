-- Rows whose rowids and keys SET leaves: at its turn each is alone where it was before.
use Rattle.std.proofs.Common.{◌≡◌, refl, sym, ap, subst, ◌∙◌, ℕ, ℤ, Bool, true, false, cond, not, ◌||◌, List, [], ◌∷◌, ◌++◌, append_assoc, filter, map, Option, Some, None, Ok, Err, if◌then◌else◌}
use Rattle.std.specs.Prelude.{slice_get, unwrap_or}
use Rattle.std.specs.FinMap.Entries.{find, put}
use Rattle.std.specs.List.{AllByRecursion, list_any}
use Rattle.std.specs.Ordering.{int_cmp}
use Rattle.sqlval.specs.Refusals.{Answer, ◌then◌, all_answers}
use Rattle.sqlval.specs.declared.collation.Collation.{Collation}
use Rattle.sqlval.specs.declared.value.Value.{Value}
use Rattle.sqlval.specs.declared.value.Value.TheVariants.{Null}
use Rattle.tree_page.specs.Cells.{Pairwise}
use Rattle.catalog.specs.Listed.{as_index, key_columns, with_rows}
use Rattle.catalog.specs.declared.tables.Index.{Index}
use Rattle.catalog.specs.declared.tables.IndexColumn.{IndexColumn}
use Rattle.catalog.specs.declared.tables.Table.{Table}
use Rattle.query_names.specs.Keys.{clash, key_of}
use Rattle.query_terms.specs.Terms.{Term}
use Rattle.row_scan.specs.Rows.{TableRow}
use Rattle.row_change.specs.Choosing.{chosen_or_all, tested}
use Rattle.row_change.specs.Demands.{is_alone}
use Rattle.row_change.specs.Keeping.{HaveOneKey, IsAloneAmong, IsKept, SetsKeptAsEach}
use Rattle.row_change.specs.Setting.{row_set, rows_beside, rows_meant_set, rows_set_each, rows_turned}
use Rattle.row_change.proofs.Deletions.{gone_behind}
use Rattle.row_change.proofs.Replaced.{made}
use Rattle.row_change.proofs.Rising.{Climbs, Rises, fit_rows_rise}
use Rattle.row_change.proofs.SetTrees.{meant_by}
use Rattle.row_change.proofs.Updates.{not_left, put_back, same_answer}

-- ---- pairs

pub pairs_as : {A B : Type 0} (P Q : A → B → Type 0) → ((x : A) (y : B) → P x y → Q x y) → (xs : List A) (ys : List B) → Pairwise P xs ys → Pairwise Q xs ys
pairs_as P Q turn [] [] all = tt
pairs_as P Q turn [] (y ∷ ys) all = absurd all
pairs_as P Q turn (x ∷ xs) [] all = absurd all
pairs_as P Q turn (x ∷ xs) (y ∷ ys) all = (turn x y all.0, pairs_as P Q turn xs ys all.1)

pairs_behind : {A : Type 0} (P : A → A → Type 0) → ((x : A) → P x x) → (xs ys rest : List A) → Pairwise P xs ys → Pairwise P (xs ++ rest) (ys ++ rest)
pairs_behind P itself [] [] [] all = tt
pairs_behind P itself [] [] (z ∷ rest) all = (itself z, pairs_behind P itself [] [] rest tt)
pairs_behind P itself [] (y ∷ ys) rest all = absurd all
pairs_behind P itself (x ∷ xs) [] rest all = absurd all
pairs_behind P itself (x ∷ xs) (y ∷ ys) rest all = (all.0, pairs_behind P itself xs ys rest all.1)

pairs_more : {A : Type 0} (P : A → A → Type 0) (xs ys : List A) (x y : A) → Pairwise P xs ys → P x y → Pairwise P (xs ++ x ∷ []) (ys ++ y ∷ [])
pairs_more P [] [] x y all one = (one, tt)
pairs_more P [] (z ∷ ys) x y all one = absurd all
pairs_more P (z ∷ xs) [] x y all one = absurd all
pairs_more P (z ∷ xs) (w ∷ ys) x y all one = (all.0, pairs_more P xs ys x y all.1 one)

-- ---- keys

abbrev HaveKeys : List Index → TableRow → TableRow → Type 0
HaveKeys indexes row now = AllByRecursion (HaveOneKey row.1 now.1) indexes

own_key : (values : List Value) (columns : List IndexColumn) → AllByRecursion (λ (column : IndexColumn). slice_get values column.place ≡ slice_get values column.place) columns
own_key values [] = tt
own_key values (c ∷ columns) = (refl, own_key values columns)

own_keys : (indexes : List Index) (row : TableRow) → HaveKeys indexes row row
own_keys [] row = tt
own_keys (index ∷ indexes) row = (own_key row.1 index.columns, own_keys indexes row)

-- a row is kept where it stays
pub kept_itself : (table : Table) (row : TableRow) → IsKept table row row
kept_itself table row = record { rowid = refl; keys = own_keys table.indexes row }

-- what an index sees of a column
abbrev seen_at : List Value → ℕ × Collation → Collation × Value
seen_at values column = (column.1, unwrap_or (slice_get values column.0) Null)

key_is : (table : Table) (index : Index) (before after : List Value) → HaveOneKey before after index → key_of (as_index table index) before ≡ key_of (as_index table index) after
key_is table index before after same = by index.columns same
  where
    by : (columns : List IndexColumn) → AllByRecursion (λ (column : IndexColumn). slice_get before column.place ≡ slice_get after column.place) columns
        → map (seen_at before) (key_columns columns) ≡ map (seen_at after) (key_columns columns)
    by [] all = refl
    by (c ∷ columns) all =
        ap (λ (o : Option Value). (c.collation, unwrap_or o Null) ∷ map (seen_at before) (key_columns columns)) all.0
        ∙ ap (λ ks. seen_at after (c.place, c.collation) ∷ ks) (by columns all.1)

clash_is : (table : Table) (index : Index) (row now other next : TableRow) → HaveOneKey row.1 now.1 index → HaveOneKey other.1 next.1 index
    → clash (as_index table index) now.1 next.1 ≡ clash (as_index table index) row.1 other.1
clash_is table index row now other next mine its =
    (let first = sym (key_is table index row.1 now.1 mine) in let second = sym (key_is table index other.1 next.1 its) in rw (first, second) refl)

any_clash : (table : Table) (index : Index) (row now : TableRow) → HaveOneKey row.1 now.1 index → (others next : List TableRow) → Pairwise (λ (x y : TableRow). HaveOneKey x.1 y.1 index) others next
    → list_any (λ (r : TableRow). clash (as_index table index) now.1 r.1) next ≡ list_any (λ (r : TableRow). clash (as_index table index) row.1 r.1) others
any_clash table index row now mine [] [] all = refl
any_clash table index row now mine [] (y ∷ next) all = absurd all
any_clash table index row now mine (x ∷ others) [] all = absurd all
any_clash table index row now mine (x ∷ others) (y ∷ next) all =
    ap (λ (b : Bool). b || list_any (λ (r : TableRow). clash (as_index table index) now.1 r.1) next) (clash_is table index row now x y mine all.0)
    ∙ ap (λ (b : Bool). clash (as_index table index) row.1 x.1 || b) (any_clash table index row now mine others next all.1)

any_index : (table : Table) (row now : TableRow) (others next : List TableRow) (indexes : List Index) → HaveKeys indexes row now → Pairwise (HaveKeys indexes) others next
    → list_any (λ i. list_any (λ (r : TableRow). clash (as_index table i) now.1 r.1) next) indexes ≡ list_any (λ i. list_any (λ (r : TableRow). clash (as_index table i) row.1 r.1) others) indexes
any_index table row now others next [] mine all = refl
any_index table row now others next (index ∷ indexes) mine all =
    ap (λ (b : Bool). b || list_any (λ i. list_any (λ (r : TableRow). clash (as_index table i) now.1 r.1) next) indexes)
    (any_clash table index row now mine.0 others next (pairs_as (HaveKeys (index ∷ indexes)) (λ (x y : TableRow). HaveOneKey x.1 y.1 index) (λ x y h. h.0) others next all))
    ∙ ap (λ (b : Bool). list_any (λ (r : TableRow). clash (as_index table index) row.1 r.1) others || b)
    (any_index table row now others next indexes mine.1 (pairs_as (HaveKeys (index ∷ indexes)) (HaveKeys indexes) (λ x y h. h.1) others next all))

-- a row that is kept is alone among rows that are kept as it was among them before
alone_still : (table : Table) (row now : TableRow) (others next : List TableRow) → IsKept table row now → Pairwise (IsKept table) others next → is_alone table now next ≡ is_alone table row others
alone_still table row now others next mine all =
    ap not (any_index table row now others next table.indexes mine.keys (pairs_as (IsKept table) (HaveKeys table.indexes) (λ x y h. h.keys) others next all))

-- ---- rows that rise

climb_alike : (table : Table) (low : ℤ) (xs ys : List TableRow) → Pairwise (IsKept table) xs ys → Climbs low xs → Climbs low ys
climb_alike table low [] [] all climb = tt
climb_alike table low [] (y ∷ ys) all climb = absurd all
climb_alike table low (x ∷ xs) [] all climb = absurd all
climb_alike table low (x ∷ xs) (y ∷ ys) all climb =
    subst (λ (n : ℤ). Climbs low ((n, y.1) ∷ ys)) (sym all.0.rowid) (climb.0, climb_alike table x.0 xs ys all.1 climb.1)

-- rows that are kept rise still
rise_alike : (table : Table) (xs ys : List TableRow) → Pairwise (IsKept table) xs ys → Rises xs → Rises ys
rise_alike table [] [] all rises = tt
rise_alike table [] (y ∷ ys) all rises = absurd all
rise_alike table (x ∷ xs) [] all rises = absurd all
rise_alike table (x ∷ xs) (y ∷ ys) all rises = subst (λ (n : ℤ). Climbs n ys) (sym all.0.rowid) (climb_alike table x.0 xs ys all.1 rises)

-- ---- one row after another

abbrev given_rows : List TableRow → Answer (List TableRow)
given_rows rows = Ok rows

same_rows : (a b : List TableRow) → given_rows a ≡ given_rows b → a ≡ b
same_rows a b e = cc

-- the first row and those after it
record Parts (a : Answer TableRow) (b : Answer (List TableRow)) (all : List TableRow) : Type 0 where
  row : TableRow
  more : List TableRow
  first_is : a ≡ Ok row
  more_is : b ≡ Ok more
  are : row ∷ more ≡ all

parts_of : (a : Answer TableRow) (b : Answer (List TableRow)) (all : List TableRow) → (a then λ x. b then λ xs. Ok (x ∷ xs)) ≡ Ok all → Parts a b all
parts_of (Ok x) (Ok xs) all e = record { row = x; more = xs; first_is = refl; more_is = refl; are = same_rows (x ∷ xs) all e }
parts_of (Ok x) (Err r) all e = absurd cc
parts_of (Err r) b all e = absurd cc

-- a row among others becomes what SET makes of it, which is kept and alone, and then the others are next
turned_kept : (table : Table) (sets : List (ℕ × Term)) (before : List TableRow) (r new : TableRow) (rows olds : List TableRow) → row_set table sets r ≡ Ok new → new.0 ≡ r.0 → is_alone table new (before ++ rows) ≡ true
    → Rises (before ++ (r ∷ rows)) → rows_turned table sets (before ++ (r ∷ rows)) (r ∷ olds) ≡ rows_turned table sets (before ++ (new ∷ rows)) olds
turned_kept table sets before r new rows olds e same alone rises =
    let beside : rows_beside r.0 (before ++ (r ∷ rows)) ≡ before ++ rows = gone_behind before r rows rises in
    let free : find int_cmp new.0 (before ++ rows) ≡ None = subst (λ (n : ℤ). find int_cmp n (before ++ rows) ≡ None) (sym same) (not_left before r rows rises) in
    let put_is : put int_cmp new.0 new.1 (before ++ rows) ≡ before ++ (new ∷ rows) =
    subst (λ (n : ℤ). put int_cmp n new.1 (before ++ rows) ≡ before ++ ((n, new.1) ∷ rows)) (sym same) (put_back before r rows new.1 rises) in
    rw (e, beside, free, alone, put_is) refl

module _ (table : Table) (sets : List (ℕ × Term)) (is_meant : TableRow → Bool) (all : List TableRow) (rises : Rises all) where
  -- of the rows from here on, those that are meant are kept, and were alone
  record AreKeptOn (rows news : List TableRow) : Type 0 where
    set : made table sets is_meant rows ≡ Ok news
    kept : Pairwise (IsKept table) (filter is_meant rows) news
    alone : AllByRecursion (IsAloneAmong table all) (filter is_meant rows)

  abbrev Turns : List TableRow → List TableRow → Type 0
  Turns rows before = rows_turned table sets (before ++ rows) (filter is_meant rows) ≡ (rows_meant_set table sets is_meant rows then λ now. Ok (before ++ now))

  longer : (before : List TableRow) (new : TableRow) (answer : Answer (List TableRow)) → (answer then λ ns. Ok ((before ++ new ∷ []) ++ ns)) ≡ ((answer then λ ns. Ok (new ∷ ns)) then λ ns. Ok (before ++ ns))
  longer before new (Ok ns) = ap given_rows (append_assoc before (new ∷ []) ns)
  longer before new (Err f) = refl

  kept_turns : (rows front before news : List TableRow) → front ++ rows ≡ all → Pairwise (IsKept table) front before → AreKeptOn rows news → Turns rows before
  kept_turns [] front before news is same on = refl
  kept_turns (r ∷ rows) front before news is same on = by (kept_turns rows) (is_meant r) refl on.set on.kept on.alone
    where
      Goes : Type 0
      Goes = (fs bs ns : List TableRow) → fs ++ rows ≡ all → Pairwise (IsKept table) fs bs → AreKeptOn rows ns → Turns rows bs

      next : (x y : TableRow) → IsKept table x y → Pairwise (IsKept table) (front ++ x ∷ []) (before ++ y ∷ [])
      next x y one = pairs_more (IsKept table) front before x y same one

      moved : (front ++ r ∷ []) ++ rows ≡ all
      moved = append_assoc front (r ∷ []) rows ∙ is

      by_row : (new : TableRow) → is_meant r ≡ true → row_set table sets r ≡ Ok new → IsKept table r new → IsAloneAmong table all r → Turns rows (before ++ new ∷ []) → Turns (r ∷ rows) before
      by_row new it e one free later =
          let shift : (before ++ (new ∷ [])) ++ rows ≡ before ++ (new ∷ rows) = append_assoc before (new ∷ []) rows in
          let rise : Rises (before ++ (r ∷ rows)) =
          rise_alike table (front ++ r ∷ rows) (before ++ r ∷ rows) (pairs_behind (IsKept table) (kept_itself table) front before (r ∷ rows) same) (subst Rises (sym is) rises) in
          let others : rows_beside r.0 all ≡ front ++ rows = subst (λ (rs : List TableRow). rows_beside r.0 rs ≡ front ++ rows) is (gone_behind front r rows (subst Rises (sym is) rises)) in
          let alone : is_alone table new (before ++ rows) ≡ true =
          alone_still table r new (front ++ rows) (before ++ rows) one (pairs_behind (IsKept table) (kept_itself table) front before rows same) ∙ subst (λ (rs : List TableRow). is_alone table r rs ≡ true) others free in
          rw (it)
          (turned_kept table sets before r new rows (filter is_meant rows) e one.rowid alone rise
          ∙ (ap (λ (l : List TableRow). rows_turned table sets l (filter is_meant rows)) (sym shift)
          ∙ (later ∙ (longer before new (rows_meant_set table sets is_meant rows)
          ∙ ap (λ (a : Answer TableRow). (a then λ x. rows_meant_set table sets is_meant rows then λ xs. Ok (x ∷ xs)) then λ ns. Ok (before ++ ns)) (sym e)))))

      by : Goes → (test : Bool) → is_meant r ≡ test → all_answers (map (row_set table sets) (cond test (r ∷ filter is_meant rows) (filter is_meant rows))) ≡ Ok news
          → Pairwise (IsKept table) (cond test (r ∷ filter is_meant rows) (filter is_meant rows)) news → AllByRecursion (IsAloneAmong table all) (cond test (r ∷ filter is_meant rows) (filter is_meant rows)) → Turns (r ∷ rows) before
      by goes true it set kept alone =
          let p = parts_of (row_set table sets r) (made table sets is_meant rows) news set in
          let pairs : Pairwise (IsKept table) (r ∷ filter is_meant rows) (p.row ∷ p.more) = subst (λ (ns : List TableRow). Pairwise (IsKept table) (r ∷ filter is_meant rows) ns) (sym p.are) kept in
          by_row p.row it p.first_is pairs.0 alone.0
          (goes (front ++ r ∷ []) (before ++ p.row ∷ []) p.more moved (next r p.row pairs.0) (record { set = p.more_is; kept = pairs.1; alone = alone.1 }))
      by goes false it set kept alone =
          let shift : (before ++ (r ∷ [])) ++ rows ≡ before ++ (r ∷ rows) = append_assoc before (r ∷ []) rows in
          rw (it)
          (ap (λ (l : List TableRow). rows_turned table sets l (filter is_meant rows)) (sym shift)
          ∙ (goes (front ++ r ∷ []) (before ++ r ∷ []) news moved (next r r (kept_itself table r)) (record { set = set; kept = kept; alone = alone })
          ∙ longer before r (rows_meant_set table sets is_meant rows)))

-- ---- the rows that are chosen

every_row : (rows : List TableRow) → filter (meant_by None) rows ≡ rows
every_row [] = refl
every_row (row ∷ rows) = ap (λ (rs : List TableRow). row ∷ rs) (every_row rows)

-- they are those that are meant, and rows are set as these are
pub chosen_known : (table : Table) (sets : List (ℕ × Term)) (c : Option Term) (rows olds : List TableRow) → chosen_or_all c rows ≡ Ok olds
    → (filter (meant_by c) rows ≡ olds) × (rows_set_each table sets c rows ≡ rows_meant_set table sets (meant_by c) rows)
chosen_known table sets None rows olds e = (every_row rows ∙ same_rows rows olds e, refl)
chosen_known table sets (Some c) rows olds e = by (all_answers (map (tested c) rows)) e
  where
    by : (a : Answer (List (Option Bool))) → (a then λ tests. given_rows (filter (meant_by (Some c)) rows)) ≡ Ok olds
        → (filter (meant_by (Some c)) rows ≡ olds) × ((a then λ tests. rows_meant_set table sets (meant_by (Some c)) rows) ≡ rows_meant_set table sets (meant_by (Some c)) rows)
    by (Ok tests) h = (same_rows (filter (meant_by (Some c)) rows) olds h, refl)
    by (Err r) h = absurd cc

pub sets_kept_as_each : SetsKeptAsEach
sets_kept_as_each table sets c rows olds news fit chosen set kept alone =
    let known = chosen_known table sets c rows olds chosen in
    let on : AreKeptOn table sets (meant_by c) rows (fit_rows_rise (with_rows table rows) fit) rows news = record {
      set = subst (λ (them : List TableRow). all_answers (map (row_set table sets) them) ≡ Ok news) (sym known.0) set;
      kept = subst (λ (them : List TableRow). Pairwise (IsKept table) them news) (sym known.0) kept;
      alone = subst (AllByRecursion (IsAloneAmong table rows)) (sym known.0) alone;
    } in
    ap (λ (a : Answer (List TableRow)). a then λ olds. rows_turned table sets rows olds) chosen
    ∙ (ap (rows_turned table sets rows) (sym known.0)
    ∙ (kept_turns table sets (meant_by c) rows (fit_rows_rise (with_rows table rows) fit) rows [] [] news refl tt on ∙ (same_answer (rows_meant_set table sets (meant_by c) rows) ∙ sym known.1)))
