-- What SET leaves of a table's rows: those that aren't meant stay, and what the others become comes.
use Rattle.std.proofs.Common.{◌≡◌, refl, sym, ap, subst, ◌∙◌, ℕ, ℤ, Bool, true, false, cond, not, filter, List, [], ◌∷◌, map, Option, Some, None, if◌then◌else◌, Ok, Err}
use Rattle.sqlval.specs.Refusals.{Answer, Refusal, ◌then◌, all_answers}
use Rattle.catalog.specs.Listed.{own_column}
use Rattle.catalog.specs.Rows.{holds_rowid}
use Rattle.catalog.specs.declared.tables.Table.{Table}
use Rattle.query_terms.specs.Terms.{Term}
use Rattle.row_scan.specs.Rows.{TableRow}
use Rattle.row_scan.specs.Sources.{as_source}
use Rattle.row_scan.proofs.RowOrder.{both_true}
use Rattle.row_change.specs.Choosing.{is_chosen, tested}
use Rattle.row_change.specs.Choosing.{chosen_or_all}
use Rattle.row_change.specs.NewRows.{all_hold}
use Rattle.row_change.specs.Setting.{keeps_rowids, row_set, rows_changed, rows_meant_set, rows_set, rows_set_each, rows_turned}
use Rattle.index_entries.specs.Replacing.{rowids}
use Rattle.row_change.proofs.Replaced.{made, set_keeps}
use Rattle.row_change.proofs.Rising.{both}
use Rattle.row_change.proofs.SetTrees.{changed_known, meant_by}
use Rattle.db_write.proofs.Shuffling.{Shuffles, no_rows, one_comes, one_stays}

abbrev given_rows : List TableRow → Answer (List TableRow)
given_rows rows = Ok rows

abbrev given_row : TableRow → Answer TableRow
given_row row = Ok row

same_rows : (a b : List TableRow) → given_rows a ≡ given_rows b → a ≡ b
same_rows a b e = cc

same_row : (a b : TableRow) → given_row a ≡ given_row b → a ≡ b
same_row a b e = cc

no_rows_refused : (a : List TableRow) (r : Refusal) → given_rows a ≡ Err r → ⊥
no_rows_refused a r e = absurd cc

not_given : (r : Refusal) (a : List TableRow) → (let l : Answer (List TableRow) = Err r in l) ≡ Ok a → ⊥
not_given r a e = absurd cc

same_refusal : (r s : Refusal) → (let l : Answer (List TableRow) = Err r in l) ≡ Err s → r ≡ s
same_refusal r s e = cc

-- the first row and those after it
record Parts (a : Answer TableRow) (b : Answer (List TableRow)) (all : List TableRow) : Type 0 where
  row : TableRow
  more : List TableRow
  first_is : a ≡ Ok row
  more_is : b ≡ Ok more
  are : row ∷ more ≡ all

parts_of : (a : Answer TableRow) (b : Answer (List TableRow)) (all : List TableRow) → (a then λ x. b then λ xs. Ok (x ∷ xs)) ≡ Ok all → Parts a b all
parts_of (Ok x) (Ok xs) all e = record { row = x; more = xs; first_is = refl; more_is = refl; are = same_rows (x ∷ xs) all e }
parts_of (Ok x) (Err r) all e = absurd cc
parts_of (Err r) b all e = absurd cc

module _ (table : Table) (sets : List (ℕ × Term)) (is_meant : TableRow → Bool) where
  abbrev stay : List TableRow → List TableRow
  stay rows = filter (λ row. not (is_meant row)) rows

  set_shuffles : (rows come now : List TableRow) → made table sets is_meant rows ≡ Ok come → rows_meant_set table sets is_meant rows ≡ Ok now → Shuffles (filter (λ row. not (is_meant row)) rows) come now
  set_shuffles [] come now e h = subst (λ (xs : List TableRow). Shuffles [] xs now) (same_rows [] come e) (subst (λ (xs : List TableRow). Shuffles [] [] xs) (same_rows [] now h) no_rows)
  set_shuffles (r ∷ rows) come now e h = by (is_meant r) e h (set_shuffles rows)
    where
      by : (b : Bool) → all_answers (map (row_set table sets) (cond b (r ∷ filter is_meant rows) (filter is_meant rows))) ≡ Ok come
          → ((if b then row_set table sets r else Ok r) then λ x. rows_meant_set table sets is_meant rows then λ xs. Ok (x ∷ xs)) ≡ Ok now
          → ((more after : List TableRow) → made table sets is_meant rows ≡ Ok more → rows_meant_set table sets is_meant rows ≡ Ok after → Shuffles (stay rows) more after)
          → Shuffles (cond (not b) (r ∷ stay rows) (stay rows)) come now
      by true e h on =
          let a = parts_of (row_set table sets r) (made table sets is_meant rows) come e in
          let b = parts_of (row_set table sets r) (rows_meant_set table sets is_meant rows) now h in
          subst (λ (xs : List TableRow). Shuffles (stay rows) xs now) a.are
          (subst (λ (xs : List TableRow). Shuffles (stay rows) (a.row ∷ a.more) xs) (ap (λ (x : TableRow). x ∷ b.more) (same_row a.row b.row (sym a.first_is ∙ b.first_is)) ∙ b.are)
          (one_comes a.row (on a.more b.more a.more_is b.more_is)))
      by false e h on =
          let b = parts_of (Ok r) (rows_meant_set table sets is_meant rows) now h in
          subst (λ (xs : List TableRow). Shuffles (r ∷ stay rows) come xs) (ap (λ (x : TableRow). x ∷ b.more) (same_row r b.row b.first_is) ∙ b.are) (one_stays r (on come b.more e b.more_is))

module _ (table : Table) (sets : List (ℕ × Term)) (c : Option Term) where
  -- what is answered, among the rows that SET leaves
  pub changed_shuffle : (rows come now : List TableRow) → rows_changed table sets c (map as_source rows) ≡ Ok come → rows_set_each table sets c rows ≡ Ok now → Shuffles (filter (λ row. not (meant_by c row)) rows) come now
  changed_shuffle rows come now e h =
      let known = changed_known table sets c rows come e in
      set_shuffles table sets (meant_by c) rows come now known.0 (sym known.1 ∙ h)

-- ---- rowids

-- some of rows that hold their rowids
some_hold : (own : Option ℕ) (test : TableRow → Bool) (rows : List TableRow) → all_hold own rows ≡ true → all_hold own (filter test rows) ≡ true
some_hold own test [] held = refl
some_hold own test (row ∷ rows) held =
    let halves = both (holds_rowid own row) (all_hold own rows) held in
    by (test row) halves.0 (some_hold own test rows halves.1)
  where
    by : (b : Bool) → holds_rowid own row ≡ true → all_hold own (filter test rows) ≡ true → all_hold own (cond b (row ∷ filter test rows) (filter test rows)) ≡ true
    by true first rest = both_true (holds_rowid own row) (all_hold own (filter test rows)) first rest
    by false first rest = rest

module _ (table : Table) (sets : List (ℕ × Term)) (stays : keeps_rowids table sets ≡ true) where
  -- a row that is set keeps its rowid, where SET leaves the rowids
  row_kept : (row now : TableRow) → holds_rowid (own_column table) row ≡ true → row_set table sets row ≡ Ok now → row.0 ≡ now.0
  row_kept row now holds e = sym (set_keeps table sets stays row now holds e)

  all_kept : (rows come : List TableRow) → all_hold (own_column table) rows ≡ true → all_answers (map (row_set table sets) rows) ≡ Ok come → rowids rows ≡ rowids come
  all_kept [] come held e = ap rowids (same_rows [] come e)
  all_kept (row ∷ rows) come held e =
      let halves = both (holds_rowid (own_column table) row) (all_hold (own_column table) rows) held in
      let p = parts_of (row_set table sets row) (all_answers (map (row_set table sets) rows)) come e in
      ap (λ (n : ℤ). n ∷ rowids rows) (row_kept row p.row halves.0 p.first_is) ∙ ap (λ (ns : List ℤ). p.row.0 ∷ ns) (all_kept rows p.more halves.1 p.more_is) ∙ ap rowids p.are

  -- those that are meant keep their rowids
  pub rowids_kept : (c : Option Term) (rows come : List TableRow) → all_hold (own_column table) rows ≡ true → rows_changed table sets c (map as_source rows) ≡ Ok come → rowids (filter (meant_by c) rows) ≡ rowids come
  rowids_kept c rows come held e = all_kept (filter (meant_by c) rows) come (some_hold (own_column table) (meant_by c) rows held) (changed_known table sets c rows come e).0

-- ---- the rows that are meant

all_rows : (rows : List TableRow) → filter (λ row. meant_by None row) rows ≡ rows
all_rows [] = refl
all_rows (row ∷ rows) = ap (λ (rs : List TableRow). row ∷ rs) (all_rows rows)

pub meant_are : (c : Option Term) (rows gone : List TableRow) → chosen_or_all c rows ≡ Ok gone → filter (meant_by c) rows ≡ gone
meant_are None rows gone e = all_rows rows ∙ same_rows rows gone e
meant_are (Some c) rows gone e = by (all_answers (map (tested c) rows)) e
  where
    by : (a : Answer (List (Option Bool))) → (a then λ tests. given_rows (filter (is_chosen c) rows)) ≡ Ok gone → filter (is_chosen c) rows ≡ gone
    by (Ok tests) h = same_rows (filter (is_chosen c) rows) gone h
    by (Err r) h = absurd (not_given r gone h)

pub meant_refused : (table : Table) (sets : List (ℕ × Term)) (c : Option Term) (rows : List TableRow) (r : Refusal) → chosen_or_all c rows ≡ Err r → rows_set table sets c rows ≡ Err r
meant_refused table sets c rows r e = ap (λ (a : Answer (List TableRow)). a then λ olds. rows_turned table sets rows olds) e
