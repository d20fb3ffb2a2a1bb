-- Rows that are set and kept, one after another, and their records in the tree.
use Rattle.std.proofs.Common.{◌≡◌, refl, sym, ap, subst, ◌∙◌, ◌<◌, ◌≤◌, ◌+◌, ◌||◌, ℕ, zero, suc, ℤ, Bool, true, false, cond, filter, List, [], ◌∷◌, ◌++◌, length, map, min, drop, take, zip, slice_index_or, slice_set, Option, None, Some, Result, Ok, Err, if◌then◌else◌, nat_le, arith}
use Rattle.std.specs.Global.{Vec}
use Rattle.std.specs.Prelude.{IfOk, IfSome, MatchResult, ⊤, slice_get}
use Rattle.std.proofs.lemmas.Bool.{false≢true}
use Rattle.std.proofs.lemmas.List.{append-nil, drop_all, length-set, map_more}
use Rattle.std.specs.List.{AllByRecursion, list_all, list_any}
use Rattle.sqlval.specs.Conversion.{is_word}
use Rattle.sqlval.specs.Refusals.{Answer, ◌then◌, all_answers}
use Rattle.sqlval.specs.declared.fault.Fault.{Fault}
use Rattle.sqlval.specs.declared.value.Value.{Value}
use Rattle.sqlval.specs.declared.value.Value.TheVariants.{Null}
use Rattle.record.specs.Record.{IsRecord}
use Rattle.record.specs.Writing.{AreStorable, record_of}
use Rattle.tree_leaf.specs.Leaf.{Entry}
use Rattle.pages.specs.Calls.{IsOutsideOrFull}
use Rattle.pages.specs.Map.{PageMap}
use Rattle.tree_page.specs.Cells.{Pairwise}
use Rattle.tree_table.specs.Calls.{BecomesRows, ChangesRows, Stands}
use Rattle.tree_table.specs.declared.changing.RowChange.{RowChange}
use Rattle.catalog.specs.Listed.{as_column, own_column, shape_of}
use Rattle.catalog.specs.Rows.{in_record, is_value, rowid_number}
use Rattle.catalog.specs.declared.tables.Column.{Column}
use Rattle.catalog.specs.declared.tables.Index.{Index}
use Rattle.catalog.specs.declared.tables.IndexColumn.{IndexColumn}
use Rattle.catalog.specs.declared.tables.Table.{Table}
use Rattle.query_names.specs.Readings as Readings
use Rattle.query_names.specs.Readings.{env_of}
use Rattle.query_terms.specs.Rows.{datum, row_at}
use Rattle.query_terms.specs.Terms.{Term}
use Rattle.query_terms.specs.Values.{Environment, Row, value}
use Rattle.query_terms.specs.declared.datum.Datum.{Datum}
use Rattle.query_terms.proofs.InOrder.{left}
use Rattle.row_scan.specs.Rows.{IsRow, TableRow}
use Rattle.row_scan.specs.Sources.{as_source}
use Rattle.row_scan.proofs.RowOrder.{both_true}
use Rattle.row_scan.proofs.TreeOrder.{tree_rises}
use Rattle.row_change.specs.Choosing.{chosen_or_all}
use Rattle.row_change.specs.Constraints.{can_be_stored, is_short, not_null_holds, set_values, with_affinity}
use Rattle.row_change.specs.Demands.{demanded}
use Rattle.row_change.specs.Keeping.{AreKeptBy, AreStoredAsGiven, HaveOneKey, IsChangeTo, IsKept, IsKeptBy, KeepsAll, PutsKept, names_column, names_key}
use Rattle.row_change.specs.Meaning.{AreEnough}
use Rattle.row_change.specs.NewRows.{IsReplacement, IsWritten, entry_left}
use Rattle.row_change.specs.Setting.{keeps_rowids, names_place, row_set, rowid_left, rows_meant, rows_meant_set, rows_set_each}
use Rattle.row_change.specs.Updating.{AreSetIn, with_all_replaced}
use Rattle.row_change.proofs.Demanded.{can_store}
use Rattle.row_change.proofs.KeptKeys.{chosen_known, kept_itself}
use Rattle.row_change.proofs.KeptRowids.{others_stay}
use Rattle.row_change.proofs.OwnPlaces.{left_holds}
use Rattle.row_change.proofs.Records.{pairwise_push, written_so}
use Rattle.row_change.proofs.Replaced.{are_set, as_replaced, fit_now, made}
use Rattle.row_change.proofs.Rising.{both, rows_rise}
use Rattle.row_change.proofs.SetRows.{map_twice}
use Rattle.row_change.proofs.SetTrees.{as_sources, meant_as_chosen, meant_by}

neither : (a b : Bool) → (a || b) ≡ false → (a ≡ false) × (b ≡ false)
neither true b h = absurd (false≢true (sym h))
neither false b h = (refl, h)

-- ---- values that are stored as they are given

-- so it is of these columns and values
abbrev pub AreAsGiven : List Column → List Value → Type 0
AreAsGiven columns values =
    (with_affinity (map as_column columns) values ≡ Ok values) × (not_null_holds (map as_column columns) values ≡ true) × (list_all is_short values ≡ true)

-- ---- the record

-- with NULL in a place they are short still
hidden_short : (values : List Value) (place : ℕ) → list_all is_short values ≡ true → list_all is_short (slice_set values place Null) ≡ true
hidden_short [] place h = refl
hidden_short (v ∷ values) zero h = (both (is_short v) (list_all is_short values) h).1
hidden_short (v ∷ values) (suc place) h =
    (let parts = both (is_short v) (list_all is_short values) h in both_true (is_short v) (list_all is_short (slice_set values place Null)) parts.0 (hidden_short values place parts.1))

pub hidden_storable : (own : Option ℕ) (values : List Value) → can_be_stored values ≡ true → AreStorable (in_record own values)
hidden_storable None values h = can_store values h
hidden_storable (Some place) values h =
    let parts = both (nat_le (length values) 1000) (list_all is_short values) h in
    can_store (slice_set values place Null)
    (both_true (nat_le (length (slice_set values place Null)) 1000) (list_all is_short (slice_set values place Null)) (ap (λ n. nat_le n 1000) (length-set values place Null) ∙ parts.0) (hidden_short values place parts.1))

-- ---- one row

-- the row is as its table without CHECKs demands it
pub demanded_as_given : (table : Table) (row : TableRow) → table.checks ≡ [] → AreStoredAsGiven (map as_column table.columns) row.1 → demanded table row ≡ Ok row
demanded_as_given table row none given = (let filled = given.filled in let fit = given.fit in rw (filled, fit, none) refl)

-- the change to it
pub change_made : (table : Table) (rowid m : ℤ) (values seen : List Value) (payload : Vec ℕ) → m ≡ rowid → seen ≡ in_record (own_column table) values → IsRecord payload.items seen → payload.items ≡ record_of seen → list_all is_value seen ≡ true
    → is_word rowid ≡ true → AreStoredAsGiven (map as_column table.columns) values → table.checks ≡ [] → rowid_left (own_column table) rowid values ≡ Ok rowid
    → IsChangeTo table (rowid, values) (record { rowid = m; payload = Some payload })
change_made table rowid m values seen payload same hidden is exact fit word given none left = record {
  stored = given.stored;
  rowid = left;
  demands = demanded_as_given table (rowid, values) none given;
  written = written_so (own_column table) rowid m values seen payload.items same hidden is exact fit word (left_holds (own_column table) rowid rowid values left);
  replaced = λ e. absurd (some_is payload e);
}
  where
    some_is : (p : Vec ℕ) → (let o : Option (Vec ℕ) = Some p in o) ≡ None → ⊥
    some_is p e = absurd cc

-- SET that names no column of an index leaves the keys
module _ (sets : List (ℕ × Term)) (given before : List Value) where
  abbrev after : List Value
  after = set_values before (zip (map (λ s. s.0) sets) given)

  key_stays : (columns : List IndexColumn) → list_any (λ (column : IndexColumn). names_place sets column.place) columns ≡ false → AllByRecursion (λ (column : IndexColumn). slice_get before column.place ≡ slice_get after column.place) columns
  key_stays [] none = tt
  key_stays (c ∷ columns) none =
      (let parts = neither (names_place sets c.place) (list_any (λ (column : IndexColumn). names_place sets column.place) columns) none in (sym (others_stay sets given before c.place parts.0), key_stays columns parts.1))

  keys_stay : (indexes : List Index) → list_any (names_column sets) indexes ≡ false → AllByRecursion (HaveOneKey before after) indexes
  keys_stay [] none = tt
  keys_stay (index ∷ indexes) none =
      (let parts = neither (names_column sets index) (list_any (names_column sets) indexes) none in (key_stays index.columns parts.0, keys_stay indexes parts.1))

-- what a source's row becomes is kept
pub row_kept_by : (table : Table) (sets : List (ℕ × Term)) (row : Row) (given : List Value) (change : RowChange) → names_key table sets ≡ false → Readings.values (env_of (row ∷ [])) (map (λ s. s.1) sets) ≡ Ok given
    → IsChangeTo table (rowid_number row.rowid, set_values row.values (zip (map (λ s. s.0) sets) given)) change → IsKeptBy table sets row change
row_kept_by table sets row given change none answer is = record {
  now = (rowid_number row.rowid, set_values row.values (zip (map (λ s. s.0) sets) given));
  answer = (let stored = is.stored in let rowid = is.rowid in let demands = is.demands in rw (answer, stored, rowid) demands);
  kept = record { rowid = refl; keys = keys_stay sets given row.values table.indexes none };
  written = is.written;
  replaced = is.replaced;
}

pub change_kept : (table : Table) (sets : List (ℕ × Term)) (row : Row) (given values : List Value) (rowid : ℤ) (result : Result (Option RowChange) Fault) → names_key table sets ≡ false
    → Readings.values (env_of (row ∷ [])) (map (λ s. s.1) sets) ≡ Ok given → rowid ≡ rowid_number row.rowid → values ≡ set_values row.values (zip (map (λ s. s.0) sets) given)
    → IfOk result (λ found. IfSome found (IsChangeTo table (rowid, values))) → IfOk result (λ found. IfSome found (IsKeptBy table sets row))
change_kept table sets row given values rowid (Ok (Some change)) none answer same are is =
    row_kept_by table sets row given change none answer (subst (λ (vs : List Value). IsChangeTo table (rowid_number row.rowid, vs) change) are (subst (λ (n : ℤ). IsChangeTo table (n, values) change) same is))
change_kept table sets row given values rowid (Ok None) none answer same are is = tt
change_kept table sets row given values rowid (Err fault) none answer same are is = tt

-- ---- SET's values

-- past the places or the values there is nothing to put
pub none_to_put : (sets : List (ℕ × Term)) (given : List Datum) (i : ℕ) → min (length sets) (length given) ≤ i → zip (map (λ (s : ℕ × Term). s.0) (drop i sets)) (map datum (drop i given)) ≡ []
none_to_put [] given zero le = refl
none_to_put [] given (suc i) le = refl
none_to_put (s ∷ sets) [] zero le = refl
none_to_put (s ∷ sets) [] (suc i) le = none_here (map (λ (s : ℕ × Term). s.0) (drop i sets))
  where
    none_here : (places : List ℕ) → (let none : List Value = [] in zip places none) ≡ []
    none_here [] = refl
    none_here (p ∷ places) = refl
none_to_put (s ∷ sets) (d ∷ given) zero le = absurd (omega (arith, le))
none_to_put (s ∷ sets) (d ∷ given) (suc i) le = none_to_put sets given i (omega (arith, le))

-- all expressions have their values
pub all_given : (env : Environment) (sets : List (ℕ × Term)) (given : List Value) (i : ℕ) → length sets ≤ i
    → left (λ (set : ℕ × Term). value set.1 env) (drop i sets) given ≡ all_answers (map (λ (set : ℕ × Term). value set.1 env) sets) → Readings.values env (map (λ (set : ℕ × Term). set.1) sets) ≡ Ok given
all_given env sets given i le so_far =
    ap all_answers (sym (map_twice (λ (t : Term). value t env) (λ (set : ℕ × Term). set.1) sets))
    ∙ (sym so_far ∙ (ap (λ (them : List (ℕ × Term)). left (λ (set : ℕ × Term). value set.1 env) them given) (drop_all i sets le) ∙ ap (λ (vs : List Value). Ok vs) (append-nil given)))

-- ---- rows

-- one change more
pub changes_more : (P : Row → RowChange → Type 0) (rows : List Row) (places : List ℕ) (i : ℕ) (changes : List RowChange) (change : RowChange) → i < length places → Pairwise P (map (row_at rows) (take i places)) changes
    → P (row_at rows (slice_index_or places i 0)) change → Pairwise P (map (row_at rows) (take (i + 1) places)) (changes ++ change ∷ [])
changes_more P rows places i changes change lt all one =
    subst (λ (rs : List Row). Pairwise P rs (changes ++ change ∷ [])) (sym (map_more (row_at rows) places i 0 lt)) (pairwise_push P (map (row_at rows) (take i places)) changes (row_at rows (slice_index_or places i 0)) change all one)

abbrev given_rows : List TableRow → Answer (List TableRow)
given_rows rows = Ok rows

same_rows : (a b : List TableRow) → given_rows a ≡ given_rows b → a ≡ b
same_rows a b e = cc

-- what the rows became
record AreNews (table : Table) (sets : List (ℕ × Term)) (olds : List TableRow) (changes : List RowChange) : Type 0 where
  news : List TableRow
  set : all_answers (map (row_set table sets) olds) ≡ Ok news
  kept : Pairwise (IsKept table) olds news
  written : Pairwise (IsWritten (own_column table)) news (map entry_left changes)
  replaced : AllByRecursion IsReplacement changes

news_of : (table : Table) (sets : List (ℕ × Term)) (olds : List TableRow) (changes : List RowChange) → Pairwise (IsKeptBy table sets) (map as_source olds) changes → AreNews table sets olds changes
news_of table sets [] [] all = record { news = []; set = refl; kept = tt; written = tt; replaced = tt }
news_of table sets [] (change ∷ changes) all = absurd all
news_of table sets (old ∷ olds) [] all = absurd all
news_of table sets (old ∷ olds) (change ∷ changes) all = by (news_of table sets olds changes all.1)
  where
    by : AreNews table sets olds changes → AreNews table sets (old ∷ olds) (change ∷ changes)
    by rest = record {
      news = all.0.now ∷ rest.news;
      set = (let first : row_set table sets old ≡ Ok all.0.now = all.0.answer in
          ap (λ (a : Answer TableRow). a then λ x. all_answers (map (row_set table sets) olds) then λ xs. Ok (x ∷ xs)) first ∙ ap (λ (a : Answer (List TableRow)). a then λ xs. Ok (all.0.now ∷ xs)) rest.set);
      kept = (all.0.kept, rest.kept);
      written = (all.0.written, rest.written);
      replaced = (all.0.replaced, rest.replaced);
    }

-- the rows that are chosen, which the sources are
record Chosen (c : Option Term) (rows : List TableRow) (sources : List Row) : Type 0 where
  olds : List TableRow
  chosen : chosen_or_all c rows ≡ Ok olds
  are : sources ≡ map as_source olds

given_sources : (a b : List Row) → (let l : Answer (List Row) = Ok a in l) ≡ Ok b → a ≡ b
given_sources a b e = cc

chosen_of : (c : Option Term) (found sources : List Row) (rows : List TableRow) → AreEnough c found rows → rows_meant c [] found ≡ Ok sources → Chosen c rows sources
chosen_of c found sources rows enough is =
    by (chosen_or_all c rows) refl
    (sym (ap (rows_meant c []) enough.are ∙ (meant_as_chosen c enough.some ∙ ap (λ (a : Answer (List TableRow)). a then as_sources) enough.same)) ∙ is)
  where
    by : (a : Answer (List TableRow)) → chosen_or_all c rows ≡ a → (a then as_sources) ≡ Ok sources → Chosen c rows sources
    by (Ok them) h e = record { olds = them; chosen = h; are = sym (given_sources (map as_source them) sources e) }
    by (Err r) h e = absurd cc

pub all_kept_by : (table : Table) (sets : List (ℕ × Term)) (c : Option Term) (found sources : List Row) (changes : List RowChange) → rows_meant c [] found ≡ Ok sources → Pairwise (IsKeptBy table sets) sources changes
    → KeepsAll table sets c found changes
all_kept_by table sets c found sources changes is all rows enough =
    let them = chosen_of c found sources rows enough is in
    let news = news_of table sets them.olds changes (subst (λ (rs : List Row). Pairwise (IsKeptBy table sets) rs changes) them.are all) in
    record { olds = them.olds; news = news.news; chosen = them.chosen; set = news.set; kept = news.kept; written = news.written; replaced = news.replaced }

-- the changes of all rows
pub all_changes : (table : Table) (sets : List (ℕ × Term)) (c : Option Term) (found sources : List Row) (result : Result (Option (Vec RowChange)) Fault) → rows_meant c [] found ≡ Ok sources
    → IfOk result (λ changes. IfSome changes (λ them. Pairwise (IsKeptBy table sets) sources them.items)) → IfOk result (λ changes. IfSome changes (λ them. KeepsAll table sets c found them.items))
all_changes table sets c found sources (Ok (Some them)) is all = all_kept_by table sets c found sources them.items is all
all_changes table sets c found sources (Ok None) is all = tt
all_changes table sets c found sources (Err fault) is all = tt

-- ---- the tree

module _ (table : Table) (sets : List (ℕ × Term)) (c : Option Term) (rows : List TableRow) (changes : List RowChange) (k : AreKeptBy table sets c rows changes) where
  made_so : made table sets (meant_by c) rows ≡ Ok k.news
  made_so = subst (λ (them : List TableRow). all_answers (map (row_set table sets) them) ≡ Ok k.news) (sym (chosen_known table sets c rows k.olds k.chosen).0) k.set

  kept_put : (old new : PageMap) (size : ℕ) (entries : List Entry) (used free : List ℕ) → keeps_rowids table sets ≡ true → Stands old size table.root entries used free → Pairwise (IsRow (shape_of table)) entries rows
      → (result : Result ⊤ Fault) → MatchResult result (λ done. BecomesRows old new size table.root (with_all_replaced (map entry_left changes) entries) used free) IsOutsideOrFull
      → MatchResult result (λ done. AreSetIn old new size table.root table sets c rows used free) IsOutsideOrFull
  kept_put old new size entries used free stays is each (Ok done) becomes =
      let set = are_set table sets (meant_by c) stays rows k.news entries (map entry_left changes) each
      (rows_rise (shape_of table) entries rows (tree_rises old size table.root entries used is.tree) each) made_so k.written in
      record {
        now = set.now;
        answer = (chosen_known table sets c rows k.olds k.chosen).1 ∙ set.answer;
        entries = with_all_replaced (map entry_left changes) entries;
        becomes = becomes;
        each = set.each;
        fit = fit_now table sets (meant_by c) stays rows k.news entries (map entry_left changes) set;
      }
  kept_put old new size entries used free stays is each (Err fault) outside = outside

pub puts_kept : (old new : PageMap) (size : ℕ) (table : Table) (changes : List RowChange) (result : Result ⊤ Fault) → ChangesRows old new size table.root changes result → PutsKept old new size table changes result
puts_kept old new size table changes result makes sets c rows entries used free stays is each k =
    kept_put table sets c rows changes k old new size entries used free stays is each result (as_replaced old new size table.root changes result k.replaced makes entries used free is)

-- ---- all rows

abbrev SetsOn : Table → List (ℕ × Term) → (TableRow → Bool) → List TableRow → Answer (List TableRow)
SetsOn table sets is_meant rows = rows_meant_set table sets is_meant rows

-- the first row and those after it
record Parts (a : Answer TableRow) (b : Answer (List TableRow)) (all : List TableRow) : Type 0 where
  row : TableRow
  more : List TableRow
  first_is : a ≡ Ok row
  more_is : b ≡ Ok more
  are : row ∷ more ≡ all

parts_of : (a : Answer TableRow) (b : Answer (List TableRow)) (all : List TableRow) → (a then λ x. b then λ xs. Ok (x ∷ xs)) ≡ Ok all → Parts a b all
parts_of (Ok x) (Ok xs) all e = record { row = x; more = xs; first_is = refl; more_is = refl; are = same_rows (x ∷ xs) all e }
parts_of (Ok x) (Err r) all e = absurd cc
parts_of (Err r) b all e = absurd cc

same_row : (a b : TableRow) → (let l : Answer TableRow = Ok a in l) ≡ Ok b → a ≡ b
same_row a b e = cc

module _ (table : Table) (sets : List (ℕ × Term)) (is_meant : TableRow → Bool) where
  all_kept : (rows news now : List TableRow) → made table sets is_meant rows ≡ Ok news → Pairwise (IsKept table) (filter is_meant rows) news → rows_meant_set table sets is_meant rows ≡ Ok now → Pairwise (IsKept table) rows now
  all_kept [] news now set kept e = subst (λ (xs : List TableRow). Pairwise (IsKept table) [] xs) (same_rows [] now e) tt
  all_kept (r ∷ rows) news now set kept e = by (all_kept rows) (is_meant r) set kept e
    where
      by : ((ns ms : List TableRow) → made table sets is_meant rows ≡ Ok ns → Pairwise (IsKept table) (filter is_meant rows) ns → rows_meant_set table sets is_meant rows ≡ Ok ms → Pairwise (IsKept table) rows ms)
          → (b : Bool) → all_answers (map (row_set table sets) (cond b (r ∷ filter is_meant rows) (filter is_meant rows))) ≡ Ok news → Pairwise (IsKept table) (cond b (r ∷ filter is_meant rows) (filter is_meant rows)) news
          → ((if b then row_set table sets r else Ok r) then λ x. rows_meant_set table sets is_meant rows then λ xs. Ok (x ∷ xs)) ≡ Ok now → Pairwise (IsKept table) (r ∷ rows) now
      by goes true set kept e =
          let a = parts_of (row_set table sets r) (made table sets is_meant rows) news set in
          let b = parts_of (row_set table sets r) (rows_meant_set table sets is_meant rows) now e in
          let pairs : Pairwise (IsKept table) (r ∷ filter is_meant rows) (a.row ∷ a.more) = subst (λ (ns : List TableRow). Pairwise (IsKept table) (r ∷ filter is_meant rows) ns) (sym a.are) kept in
          let same : a.row ≡ b.row = same_row a.row b.row (sym a.first_is ∙ b.first_is) in
          subst (λ (xs : List TableRow). Pairwise (IsKept table) (r ∷ rows) xs) b.are (subst (λ (x : TableRow). IsKept table r x) same pairs.0, goes a.more b.more a.more_is pairs.1 b.more_is)
      by goes false set kept e =
          let b = parts_of (Ok r) (rows_meant_set table sets is_meant rows) now e in
          let same : r ≡ b.row = same_row r b.row b.first_is in
          subst (λ (xs : List TableRow). Pairwise (IsKept table) (r ∷ rows) xs) b.are (subst (λ (x : TableRow). IsKept table r x) same (kept_itself table r), goes news b.more set kept b.more_is)

-- where those that are set are kept, all rows are
pub rows_kept : (table : Table) (sets : List (ℕ × Term)) (c : Option Term) (rows now : List TableRow) (changes : List RowChange) → AreKeptBy table sets c rows changes → rows_set_each table sets c rows ≡ Ok now
    → Pairwise (IsKept table) rows now
rows_kept table sets c rows now changes k e =
    let known = chosen_known table sets c rows k.olds k.chosen in
    all_kept table sets (meant_by c) rows k.news now (made_so table sets c rows changes k)
    (subst (λ (them : List TableRow). Pairwise (IsKept table) them k.news) (sym known.0) k.kept) (sym known.1 ∙ e)
