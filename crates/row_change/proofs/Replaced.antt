-- Rows of a tree are replaced one after another.
use Rattle.std.proofs.Common.{◌≡◌, refl, sym, ap, subst, ◌∙◌, ◌<ℤ◌, ℕ, zero, suc, ℤ, Bool, true, false, cond, filter, List, [], ◌∷◌, ◌++◌, length, map, Option, Some, None, if◌then◌else◌, Result, Ok, Err, All, zip, slice_set, arith}
use Rattle.std.specs.Prelude.{MatchResult, ⊤}
use Rattle.std.specs.Global.{Vec}
use Rattle.std.specs.List.{AllByRecursion, list_all}
use Rattle.std.specs.Ordering.{int_cmp}
use Rattle.std.proofs.lemmas.List.{length-map, length-set}
use Rattle.sqlval.specs.Conversion.{converted, is_word}
use Rattle.sqlval.specs.Lists.{is_rising}
use Rattle.sqlval.specs.Refusals.{Answer, Refusal, ◌then◌, all_answers}
use Rattle.sqlval.specs.declared.fault.Fault.{Fault}
use Rattle.sqlval.specs.declared.value.Value.{Value}
use Rattle.tree_leaf.specs.Leaf.{Entry}
use Rattle.pages.specs.Calls.{IsOutsideOrFull}
use Rattle.pages.specs.Map.{PageMap}
use Rattle.tree_page.specs.Cells.{Pairwise}
use Rattle.tree_table.specs.Calls.{BecomesRows, ChangesRows}
use Rattle.tree_table.specs.Rows.{with_change, with_changes, with_replaced}
use Rattle.tree_table.specs.declared.changing.RowChange.{RowChange}
use Rattle.catalog.specs.Database.{TableColumn}
use Rattle.catalog.specs.Listed.{as_column, own_column, shape_of, with_rows}
use Rattle.catalog.specs.Rows.{holds_rowid, is_row, is_value, rowid_number}
use Rattle.catalog.specs.declared.tables.Table.{Table}
use Rattle.query_names.specs.Readings.{env_of, values}
use Rattle.query_terms.specs.Terms.{Term}
use Rattle.query_terms.specs.Values.{Row}
use Rattle.row_scan.specs.Rows.{IsRow, TableRow}
use Rattle.row_scan.specs.Sources.{as_source}
use Rattle.row_scan.proofs.RowOrder.{both_true}
use Rattle.row_change.specs.Constraints.{set_values, with_affinity}
use Rattle.row_change.specs.Demands.{demanded}
use Rattle.row_change.specs.NewRows.{IsReplacement, IsWritten, all_hold, entry_left}
use Rattle.record.specs.Writing.{AreStorable}
use Rattle.row_change.specs.Setting.{keeps_rowids, row_after, row_set, rowid_left, rows_meant_set, source_set, values_set}
use Rattle.row_change.specs.Trees.{FitNow}
use Rattle.row_change.specs.Updating.{ReplacesRows, with_all_replaced}
use Rattle.row_change.proofs.AmongRows.{in_place, stays_before}
use Rattle.row_change.proofs.Demanded.{demanded_fits, is_demanded}
use Rattle.row_change.proofs.FitRows.{row_fits, word_fits}
use Rattle.row_change.proofs.KeptRowids.{rowid_kept}
use Rattle.row_change.proofs.OwnPlaces.{left_holds}
use Rattle.row_change.proofs.Rising.{Climbs, Rises, both, further}

-- ---- the call

pub all_push : {A : Type 0} (P : A → Type 0) (xs : List A) (x : A) → AllByRecursion P xs → P x → AllByRecursion P (xs ++ x ∷ [])
all_push P [] x all one = (one, tt)
all_push P (y ∷ xs) x all one = (all.0, all_push P xs x all.1 one)

change_by : (rowid : ℤ) (payload : Option (Vec ℕ)) (rows : List Entry) → (payload ≡ None → ⊥)
    → with_change (record { rowid = rowid; payload = payload }) rows ≡ with_replaced (entry_left (record { rowid = rowid; payload = payload })) rows
change_by rowid None rows some = absurd (some refl)
change_by rowid (Some payload) rows some = refl

-- changes that give rows other payloads put the entries in place of theirs
changes_replace : (changes : List RowChange) (rows : List Entry) → AllByRecursion IsReplacement changes → with_changes changes rows ≡ with_all_replaced (map entry_left changes) rows
changes_replace [] rows all = refl
changes_replace (change ∷ changes) rows all =
    changes_replace changes (with_change change rows) all.1
    ∙ ap (λ (rs : List Entry). with_all_replaced (map entry_left changes) rs) (change_by change.rowid change.payload rows all.0)

pub as_replaced : (old new : PageMap) (size root : ℕ) (changes : List RowChange) (result : Result ⊤ Fault) → AllByRecursion IsReplacement changes → ChangesRows old new size root changes result
    → ReplacesRows old new size root (with_all_replaced (map entry_left changes)) result
as_replaced old new size root changes result all makes rows used free is = by result (makes rows used free is)
  where
    by : (r : Result ⊤ Fault) → MatchResult r (λ done. BecomesRows old new size root (with_changes changes rows) used free) IsOutsideOrFull
        → MatchResult r (λ done. BecomesRows old new size root (with_all_replaced (map entry_left changes) rows) used free) IsOutsideOrFull
    by (Ok done) becomes = subst (λ (rs : List Entry). BecomesRows old new size root rs used free) (changes_replace changes rows all) becomes
    by (Err fault) refused = refused

-- ---- the parts of an answer

abbrev given_rows : List TableRow → Answer (List TableRow)
given_rows rows = Ok rows

abbrev given_values : List Value → Answer (List Value)
given_values values = Ok values

same_rows : (a b : List TableRow) → given_rows a ≡ given_rows b → a ≡ b
same_rows a b e = cc

same_values : (a b : List Value) → given_values a ≡ given_values b → a ≡ b
same_values a b e = cc

-- the first row and those after it
record Parts (a : Answer TableRow) (b : Answer (List TableRow)) (all : List TableRow) : Type 0 where
  row : TableRow
  more : List TableRow
  first_is : a ≡ Ok row
  more_is : b ≡ Ok more
  are : row ∷ more ≡ all

parts_of : (a : Answer TableRow) (b : Answer (List TableRow)) (all : List TableRow) → (a then λ x. b then λ xs. Ok (x ∷ xs)) ≡ Ok all → Parts a b all
parts_of (Ok x) (Ok xs) all e = record { row = x; more = xs; first_is = refl; more_is = refl; are = same_rows (x ∷ xs) all e }
parts_of (Ok x) (Err r) all e = absurd cc
parts_of (Err r) b all e = absurd cc

-- ---- as many values as columns

as_long : (before : List Value) (ps : List (ℕ × Value)) → length (set_values before ps) ≡ length before
as_long before [] = refl
as_long before (p ∷ ps) = as_long (slice_set before p.0 p.1) ps ∙ length-set before p.0 p.1

long_list : (a : Answer Value) (b : Answer (List Value)) (n : ℕ) (values : List Value) → (a then λ w. b then λ ws. Ok (w ∷ ws)) ≡ Ok values → ((ws : List Value) → b ≡ Ok ws → length ws ≡ n) → length values ≡ suc n
long_list (Ok w) (Ok ws) n values e long = ap length (sym (same_values (w ∷ ws) values e)) ∙ ap suc (long ws refl)
long_list (Ok w) (Err r) n values e long = absurd cc
long_list (Err r) b n values e long = absurd cc

long_stored : (columns : List TableColumn) (values stored : List Value) → length values ≡ length columns → with_affinity columns values ≡ Ok stored → length stored ≡ length columns
long_stored [] values stored long e = ap length (sym (same_values [] stored e))
long_stored (c ∷ columns) [] stored long e = absurd (omega (arith, long))
long_stored (c ∷ columns) (v ∷ values) stored long e =
    long_list (converted c.affinity v) (with_affinity columns values) (length columns) stored e (λ ws h. long_stored columns values ws (omega (arith, long)) h)

module _ (table : Table) (sets : List (ℕ × Term)) where
  long_set : (row : TableRow) (stored : List Value) → length row.1 ≡ length table.columns → values_set table.columns sets (as_source row) ≡ Ok stored → length stored ≡ length table.columns
  long_set row stored long e = by (values (env_of (as_source row ∷ [])) (map (λ s. s.1) sets)) e
    where
      by : (a : Answer (List Value)) → ((a then λ given. given_values (set_values row.1 (zip (map (λ s. s.0) sets) given))) then λ vs. with_affinity (map as_column table.columns) vs) ≡ Ok stored → length stored ≡ length table.columns
      by (Ok given) h =
          let ps = zip (map (λ s. s.0) sets) given in
          let as_many = length-map table.columns as_column in
          long_stored (map as_column table.columns) (set_values row.1 ps) stored (as_long row.1 ps ∙ (long ∙ sym as_many)) h ∙ as_many
      by (Err r) h = absurd cc

  -- what a row of this rowid becomes: its values, and its rowid, of which an own column decides
  pub after_parts : (rowid : ℤ) (row : Row) (now : TableRow) → row_after table sets rowid row ≡ Ok now → (rowid_left (own_column table) rowid now.1 ≡ Ok now.0) × (values_set table.columns sets row ≡ Ok now.1)
  after_parts rowid row now e = by (values_set table.columns sets row) e
    where
      by_left : (values : List Value) (b : Answer ℤ) → rowid_left (own_column table) rowid values ≡ b → (b then λ n. demanded table (n, values)) ≡ Ok now
          → (rowid_left (own_column table) rowid now.1 ≡ Ok now.0) × (given_values values ≡ Ok now.1)
      by_left values (Ok n) is h =
          let same : (n, values) ≡ now = is_demanded table (n, values) now h in
          (ap (λ (r : TableRow). rowid_left (own_column table) rowid r.1) (sym same) ∙ (is ∙ ap (λ (r : TableRow). Ok r.0) same), ap (λ (r : TableRow). Ok r.1) same)
      by_left values (Err r) is h = absurd cc

      by : (a : Answer (List Value)) → (a then λ values. rowid_left (own_column table) rowid values then λ n. demanded table (n, values)) ≡ Ok now → (rowid_left (own_column table) rowid now.1 ≡ Ok now.0) × (a ≡ Ok now.1)
      by (Ok values) h = by_left values (rowid_left (own_column table) rowid values) refl h
      by (Err r) h = absurd cc

  -- the same of a table's row
  pub set_parts : (row now : TableRow) → row_set table sets row ≡ Ok now → (rowid_left (own_column table) row.0 now.1 ≡ Ok now.0) × (values_set table.columns sets (as_source row) ≡ Ok now.1)
  set_parts row now e = after_parts row.0 (as_source row) now e

  -- where SET leaves the rowids it keeps its own
  pub set_keeps : keeps_rowids table sets ≡ true → (row now : TableRow) → holds_rowid (own_column table) row ≡ true → row_set table sets row ≡ Ok now → now.0 ≡ row.0
  set_keeps kept row now holds e = (let parts = set_parts row now e in rowid_kept table sets kept row now holds parts.0 parts.1)

  -- its own column holds its rowid
  pub set_holds : (rowid : ℤ) (row : Row) (now : TableRow) → row_after table sets rowid row ≡ Ok now → holds_rowid (own_column table) now ≡ true
  set_holds rowid row now e = left_holds (own_column table) rowid now.0 now.1 (after_parts rowid row now e).0

  -- its record is that of a row
  pub set_is_row : (row now : TableRow) (m : Entry) → row_set table sets row ≡ Ok now → length row.1 ≡ length table.columns → IsWritten (own_column table) now m → IsRow (shape_of table) m now
  set_is_row row now m e full written = record {
    rowid = ap (λ (n : Entry). n.rowid) written.is;
    values = written.values;
    full = long_set row now.1 full (set_parts row now e).1;
    own = set_holds row.0 (as_source row) now e;
  }

  -- what rows become hold their rowids
  pub after_hold : (them : List Row) (new : List TableRow) → all_answers (map (source_set table sets) them) ≡ Ok new → all_hold (own_column table) new ≡ true
  after_hold [] [] e = refl
  after_hold [] (x ∷ new) e = absurd cc
  after_hold (r ∷ them) new e =
      let parts = parts_of (source_set table sets r) (all_answers (map (source_set table sets) them)) new e in
      subst (λ (rows : List TableRow). all_hold (own_column table) rows ≡ true) parts.are
      (both_true (holds_rowid (own_column table) parts.row) (all_hold (own_column table) parts.more) (set_holds (rowid_number r.rowid) r parts.row parts.first_is) (after_hold them parts.more parts.more_is))

  -- what it becomes can be stored
  pub after_fits : (rowid : ℤ) (row : Row) (now : TableRow) → row_after table sets rowid row ≡ Ok now → AreStorable now.1
  after_fits rowid row now e = by (values_set table.columns sets row) e
    where
      by_left : (values : List Value) (b : Answer ℤ) → (b then λ n. demanded table (n, values)) ≡ Ok now → AreStorable now.1
      by_left values (Ok n) h = demanded_fits table (n, values) now h
      by_left values (Err r) h = absurd cc

      by : (a : Answer (List Value)) → (a then λ values. rowid_left (own_column table) rowid values then λ n. demanded table (n, values)) ≡ Ok now → AreStorable now.1
      by (Ok values) h = by_left values (rowid_left (own_column table) rowid values) h
      by (Err r) h = absurd cc

-- ---- a row among others

-- each entry's rowid is greater
abbrev pub AreOver : ℤ → List Entry → Type 0
AreOver low [] = ⊤
AreOver low (entry ∷ entries) = (low <ℤ entry.rowid) × AreOver low entries

stay_before : (more : List Entry) (first : Entry) (rows : List Entry) → AreOver first.rowid more → with_all_replaced more (first ∷ rows) ≡ first ∷ with_all_replaced more rows
stay_before [] first rows over = refl
stay_before (row ∷ more) first rows over = ap (with_all_replaced more) (stays_before row first rows over.0) ∙ stay_before more first (with_replaced row rows) over.1

-- ---- some rows

lower : (low mid : ℤ) (rows : List TableRow) → low <ℤ mid → Climbs mid rows → Climbs low rows
lower low mid [] lt climb = tt
lower low mid (row ∷ rows) lt climb = (further low mid row.0 lt climb.0, climb.1)

rest_rises : (row : TableRow) (rows : List TableRow) → Climbs row.0 rows → Rises rows
rest_rises row [] climb = tt
rest_rises row (next ∷ rows) climb = climb.1

all_with : {X : Type 0} (P : X → Type 0) (x : X) (xs : List X) → P x → All P xs → All P (x ∷ xs)
all_with P x xs first rest zero d lt = first
all_with P x xs first rest (suc k) d lt = rest k d (omega (arith, lt))

abbrev pub CanStore : TableRow → Type 0
CanStore row = AreStorable row.1

module _ (table : Table) (sets : List (ℕ × Term)) (is_meant : TableRow → Bool) where
  -- what the rows that are meant become
  abbrev pub made : List TableRow → Answer (List TableRow)
  made rows = all_answers (map (row_set table sets) (filter is_meant rows))

  -- one is meant, or it is not
  made_one : (r : TableRow) (rows : List TableRow) → is_meant r ≡ true → made (r ∷ rows) ≡ (row_set table sets r then λ x. made rows then λ xs. Ok (x ∷ xs))
  made_one r rows it = ap (λ (b : Bool). all_answers (map (row_set table sets) (cond b (r ∷ filter is_meant rows) (filter is_meant rows)))) it

  made_none : (r : TableRow) (rows : List TableRow) → is_meant r ≡ false → made (r ∷ rows) ≡ made rows
  made_none r rows it = ap (λ (b : Bool). all_answers (map (row_set table sets) (cond b (r ∷ filter is_meant rows) (filter is_meant rows)))) it

  set_one : (r : TableRow) (rows : List TableRow) → is_meant r ≡ true
      → rows_meant_set table sets is_meant (r ∷ rows) ≡ (row_set table sets r then λ x. rows_meant_set table sets is_meant rows then λ xs. Ok (x ∷ xs))
  set_one r rows it = ap (λ (b : Bool). (if b then row_set table sets r else Ok r) then λ x. rows_meant_set table sets is_meant rows then λ xs. Ok (x ∷ xs)) it

  set_none : (r : TableRow) (rows : List TableRow) → is_meant r ≡ false → rows_meant_set table sets is_meant (r ∷ rows) ≡ (rows_meant_set table sets is_meant rows then λ xs. Ok (r ∷ xs))
  set_none r rows it = ap (λ (b : Bool). (if b then row_set table sets r else Ok r) then λ x. rows_meant_set table sets is_meant rows then λ xs. Ok (x ∷ xs)) it

  -- where they are refused, so is the whole
  pub set_refused : (rows : List TableRow) (why : Refusal) → made rows ≡ Err why → rows_meant_set table sets is_meant rows ≡ Err why
  set_refused [] why e = absurd cc
  set_refused (r ∷ rows) why e = by (set_refused rows why) (is_meant r) refl
    where
      first_or_rest : (a : Answer TableRow) (b c : Answer (List TableRow)) → (b ≡ Err why → c ≡ Err why) → (a then λ x. b then λ xs. given_rows (x ∷ xs)) ≡ Err why → (a then λ x. c then λ xs. given_rows (x ∷ xs)) ≡ Err why
      first_or_rest (Ok x) (Ok xs) c on h = absurd cc
      first_or_rest (Ok x) (Err s) c on h = ap (λ (d : Answer (List TableRow)). d then λ xs. given_rows (x ∷ xs)) (on (same_refusal s h))
        where
          same_refusal : (s : Refusal) → (let l : Answer (List TableRow) = Err s in l) ≡ Err why → (let l : Answer (List TableRow) = Err s in l) ≡ Err why
          same_refusal s h = h
      first_or_rest (Err s) b c on h = h

      by : (made rows ≡ Err why → rows_meant_set table sets is_meant rows ≡ Err why) → (b : Bool) → is_meant r ≡ b → rows_meant_set table sets is_meant (r ∷ rows) ≡ Err why
      by on true it = set_one r rows it ∙ first_or_rest (row_set table sets r) (made rows) (rows_meant_set table sets is_meant rows) on (sym (made_one r rows it) ∙ e)
      by on false it = set_none r rows it ∙ ap (λ (d : Answer (List TableRow)). d then λ xs. Ok (r ∷ xs)) (on (sym (made_none r rows it) ∙ e))

  -- what the rows become can be stored
  pub all_fit : (olds new : List TableRow) → all_answers (map (row_set table sets) olds) ≡ Ok new → All CanStore new
  all_fit [] [] e = λ k d lt. absurd (omega (arith, lt))
  all_fit [] (x ∷ new) e = absurd cc
  all_fit (r ∷ olds) new e =
      let parts = parts_of (row_set table sets r) (all_answers (map (row_set table sets) olds)) new e in
      subst (All CanStore) parts.are (all_with CanStore parts.row parts.more (after_fits table sets r.0 (as_source r) parts.row parts.first_is) (all_fit olds parts.more parts.more_is))

module _ (table : Table) (sets : List (ℕ × Term)) (is_meant : TableRow → Bool) (kept : keeps_rowids table sets ≡ true) where
  -- where the rows become these, their records leave the tree with all rows
  pub record AreSet (rows new : List TableRow) (entries more : List Entry) : Type 0 where
    pub now : List TableRow
    pub answer : rows_meant_set table sets is_meant rows ≡ Ok now
    pub each : Pairwise (IsRow (shape_of table)) (with_all_replaced more entries) now
    pub ids : map (λ row. row.0) now ≡ map (λ row. row.0) rows
    pub fit : (held : List TableRow) → list_all (is_row (with_rows table held)) rows ≡ true → list_all (is_row (with_rows table held)) now ≡ true
    pub over : (low : ℤ) → Climbs low rows → AreOver low more

  none_set : AreSet [] [] [] []
  none_set = record { now = []; answer = refl; each = tt; ids = refl; fit = λ held all. refl; over = λ low climb. tt }

  one_stays : (r : TableRow) (rows new : List TableRow) (entry : Entry) (entries more : List Entry) → is_meant r ≡ false → IsRow (shape_of table) entry r → Climbs r.0 rows → AreSet rows new entries more
      → AreSet (r ∷ rows) new (entry ∷ entries) more
  one_stays r rows new entry entries more it is climb set = record {
    now = r ∷ set.now;
    answer = set_none table sets is_meant r rows it ∙ ap (λ (a : Answer (List TableRow)). a then λ xs. Ok (r ∷ xs)) set.answer;
    each = subst (λ (all : List Entry). Pairwise (IsRow (shape_of table)) all (r ∷ set.now)) (sym (stay_before more entry entries (subst (λ (n : ℤ). AreOver n more) (sym is.rowid) (set.over r.0 climb)))) (is, set.each);
    ids = ap (λ (ids : List ℤ). r.0 ∷ ids) set.ids;
    fit = λ held all.
        (let parts = both (is_row (with_rows table held) r) (list_all (is_row (with_rows table held)) rows) all in
        both_true (is_row (with_rows table held) r) (list_all (is_row (with_rows table held)) set.now) parts.0 (set.fit held parts.1));
    over = λ low climbs. set.over low (lower low r.0 rows climbs.0 climbs.1);
  }

  -- where a table may hold the row, it may hold what it becomes
  still_fits : (held : List TableRow) (r x : TableRow) → holds_rowid (own_column table) r ≡ true → row_set table sets r ≡ Ok x → is_row (with_rows table held) r ≡ true → length x.1 ≡ length table.columns → list_all is_value x.1 ≡ true → is_row (with_rows table held) x ≡ true
  still_fits held r x holds e was long fit =
      row_fits (with_rows table held) x (ap is_word (set_keeps table sets kept r x holds e) ∙ word_fits (with_rows table held) r was) (long ∙ sym (length-map table.columns as_column)) fit (set_holds table sets r.0 (as_source r) x e)

  one_set : (r x : TableRow) (rows new : List TableRow) (entry m : Entry) (entries more : List Entry) → is_meant r ≡ true → IsRow (shape_of table) entry r → Climbs r.0 rows → row_set table sets r ≡ Ok x → IsWritten (own_column table) x m
      → AreSet rows new entries more → AreSet (r ∷ rows) (x ∷ new) (entry ∷ entries) (m ∷ more)
  one_set r x rows new entry m entries more it is climb e written set = record {
    now = x ∷ set.now;
    answer = set_one table sets is_meant r rows it
        ∙ (ap (λ (a : Answer TableRow). a then λ x. rows_meant_set table sets is_meant rows then λ xs. Ok (x ∷ xs)) e ∙ ap (λ (a : Answer (List TableRow)). a then λ xs. Ok (x ∷ xs)) set.answer);
    each = subst (λ (all : List Entry). Pairwise (IsRow (shape_of table)) all (x ∷ set.now))
        (sym (ap (with_all_replaced more) (in_place m entry entries (is.rowid ∙ sym at)) ∙ stay_before more m entries (subst (λ (n : ℤ). AreOver n more) (sym at) (set.over r.0 climb))))
        (made, set.each);
    ids = let h = keeps in let k = set.ids in cc;
    fit = λ held all.
        (let halves = both (is_row (with_rows table held) r) (list_all (is_row (with_rows table held)) rows) all in
        both_true (is_row (with_rows table held) x) (list_all (is_row (with_rows table held)) set.now) (still_fits held r x is.own e halves.0 made.full written.fit) (set.fit held halves.1));
    over = λ low climbs. (subst (λ (n : ℤ). low <ℤ n) (sym at) climbs.0, set.over low (lower low r.0 rows climbs.0 climbs.1));
  }
    where
      keeps : x.0 ≡ r.0
      keeps = set_keeps table sets kept r x is.own e

      made : IsRow (shape_of table) m x
      made = set_is_row table sets r x m e is.full written

      at : m.rowid ≡ r.0
      at = made.rowid ∙ keeps

  pub are_set : (rows new : List TableRow) (entries more : List Entry) → Pairwise (IsRow (shape_of table)) entries rows → Rises rows → made table sets is_meant rows ≡ Ok new → Pairwise (IsWritten (own_column table)) new more → AreSet rows new entries more
  are_set [] [] [] [] each rises e all = none_set
  are_set [] [] [] (m ∷ more) each rises e all = absurd all
  are_set [] (x ∷ new) [] more each rises e all = absurd cc
  are_set [] new (entry ∷ entries) more each rises e all = absurd each
  are_set (r ∷ rows) new [] more each rises e all = absurd each
  are_set (r ∷ rows) new (entry ∷ entries) more each rises e all = by (λ new more. are_set rows new entries more each.1 (rest_rises r rows rises)) (is_meant r) refl
    where
      written : (x : TableRow) (xs new : List TableRow) (more : List Entry) → x ∷ xs ≡ new → Pairwise (IsWritten (own_column table)) new more → row_set table sets r ≡ Ok x → is_meant r ≡ true
          → ((more : List Entry) → Pairwise (IsWritten (own_column table)) xs more → AreSet rows xs entries more) → AreSet (r ∷ rows) new (entry ∷ entries) more
      written x xs [] more same all is it on = absurd cc
      written x xs (y ∷ new) [] same all is it on = absurd all
      written x xs (y ∷ new) (m ∷ more) same all is it on =
          let first : x ≡ y = head_is same in
          let rest : xs ≡ new = tail_is same in
          one_set r y rows new entry m entries more it each.0 rises (is ∙ ap (λ (z : TableRow). Ok z) first) all.0
          (subst (λ (zs : List TableRow). AreSet rows zs entries more) rest (on more (subst (λ (zs : List TableRow). Pairwise (IsWritten (own_column table)) zs more) (sym rest) all.1)))
        where
          head_is : x ∷ xs ≡ y ∷ new → x ≡ y
          head_is h = cc

          tail_is : x ∷ xs ≡ y ∷ new → xs ≡ new
          tail_is h = cc

      by : ((new : List TableRow) (more : List Entry) → made table sets is_meant rows ≡ Ok new → Pairwise (IsWritten (own_column table)) new more → AreSet rows new entries more) → (b : Bool) → is_meant r ≡ b → AreSet (r ∷ rows) new (entry ∷ entries) more
      by on true it =
          let parts = parts_of (row_set table sets r) (made table sets is_meant rows) new (sym (made_one table sets is_meant r rows it) ∙ e) in
          written parts.row parts.more new more parts.are all parts.first_is it (λ more all. on parts.more more parts.more_is all)
      by on false it = one_stays r rows new entry entries more it each.0 rises (on new more (sym (made_none table sets is_meant r rows it) ∙ e) all)

  -- where a table may hold the rows, it may hold what they become
  pub fit_now : (rows new : List TableRow) (entries more : List Entry) (set : AreSet rows new entries more) → FitNow table rows set.now
  fit_now rows new entries more set fit =
      let parts = both (is_rising int_cmp (map (λ row. row.0) rows)) (list_all (is_row (with_rows table rows)) rows) fit in
      both_true (is_rising int_cmp (map (λ row. row.0) set.now)) (list_all (is_row (with_rows table rows)) set.now) (ap (is_rising int_cmp) set.ids ∙ parts.0) (set.fit rows parts.1)
