-- Of the rows of a table that a condition needs it chooses the same as of all.
use Rattle.std.proofs.Common.{◌≡◌, inl, inr, refl, sym, ap, subst, ◌∙◌, ◌&&◌, ◌==◌, ℕ, Bool, true, false, cond, filter, List, [], ◌∷◌, ◌++◌, length, map, Option, Some, None, Result, Ok, Err}
use Rattle.std.proofs.lemmas.Bool.{true≢false}
use Rattle.std.specs.Global.{Vec}
use Rattle.std.specs.List.{AllByRecursion, list_all}
use Rattle.std.specs.Ordering.{int_cmp}
use Rattle.std.specs.Prelude.{MatchResult, unwrap_or}
use Rattle.sqlval.specs.Conversion.{is_word}
use Rattle.sqlval.specs.Faults.{IsOutside}
use Rattle.sqlval.specs.Lists.{is_rising}
use Rattle.sqlval.specs.Refusals.{Answer, ◌then◌, all_answers}
use Rattle.sqlval.specs.declared.fault.Fault.{Fault}
use Rattle.pages.specs.Map.{PageMap}
use Rattle.tree_page.specs.Cells.{Pairwise}
use Rattle.tree_index.specs.Tree.{IsIndexTree}
use Rattle.db_layout.specs.Layout.{HoldsUnder, IsTree, Owner}
use Rattle.catalog.specs.Listed.{as_column, own_column, shape_of, with_rows}
use Rattle.catalog.specs.Rows.{are_rows, as_row, holds_rowid, is_row, is_value}
use Rattle.catalog.specs.declared.tables.Index.{Index}
use Rattle.catalog.specs.declared.tables.Table.{Table}
use Rattle.catalog.specs.declared.tables.TableRow as stored
use Rattle.query_names.specs.Readings.{holds}
use Rattle.query_names.specs.declared.queries.BoundSource.{BoundSource}
use Rattle.query_terms.specs.Outcome.{AnswersBy}
use Rattle.query_terms.specs.Rows.{row_at}
use Rattle.query_terms.specs.Terms.{Term}
use Rattle.query_terms.specs.Values.{Row}
use Rattle.query_plan.specs.Searching.{IsUntrue, OtherRowsFail, is_found}
use Rattle.row_scan.specs.Rows.{TableRow}
use Rattle.row_scan.specs.Sources.{as_source}
use Rattle.row_search.specs.Found.{AreNeeded, FindsNeeded, HasEntriesOf, HasIndexed}
use Rattle.row_change.specs.Choosing.{chosen, is_chosen, tested}
use Rattle.row_change.specs.Choosing.{chosen_or_all}
use Rattle.row_change.specs.Meaning.{AreEnough}
use Rattle.row_change.specs.NewRows.{row_of}
use Rattle.index_entries.specs.Entries.{collations, entries_of_rows}
use Rattle.db_layout.specs.Trees.{IsEntriesTree, columns_of}
use Rattle.query_plan.proofs.Parts.{left as left_of, right as right_of}
use Rattle.row_search.proofs.LookedUp.{chosen_through}
use Rattle.db_write.specs.Reading.{LoadsEnough}
use Rattle.db_write.proofs.Owned.{RowsStand, has_rows, rows_among}

-- as a query reads it
pub same_source : (table : Table) (read : BoundSource) → read.root ≡ table.root → read.shape ≡ shape_of table → read ≡ record { root = table.root; shape = shape_of table }
same_source table read root_is shape_is = λ i. record { root = root_is i; shape = shape_is i }

-- of rows that are enough for a condition those that it means were answered
abbrev pub MeansRows : Option Term → List Row → Result (Vec stored.TableRow) Fault → Type 0
MeansRows condition found result = (all : List TableRow) → AreEnough condition found all → AnswersBy (λ them. map row_of them.items) (chosen_or_all condition all) result

-- the places of the rows that a condition means, or why there are none
abbrev pub MeansPlaces : Option Term → List Row → Result (Vec ℕ) Fault → Type 0
MeansPlaces condition found result = (all : List TableRow) → AreEnough condition found all
    → AnswersBy (λ places. map (λ place. as_row (row_at found place)) places.items) (chosen_or_all condition all) result

-- ---- rows that are left out

-- there is a condition, which isn't true for the row, and isn't refused
abbrev IsUntrueFor : Option Term → Row → Type 0
IsUntrueFor None row = ⊥
IsUntrueFor (Some condition) row = IsUntrue (holds condition (row ∷ []))

-- These are the rows but for some for which the condition isn't true, and isn't refused.
record LeaveOutUntrue (condition : Option Term) (found : List Row) (rows : List TableRow) : Type 0 where
  pub keep : Row → Bool
  pub are : found ≡ filter keep (map as_source rows)
  pub others : (row : Row) → keep row ≡ false → IsUntrueFor condition row

every_row : (rows : List Row) → rows ≡ filter (λ row. true) rows
every_row [] = refl
every_row (row ∷ rows) = ap (λ (them : List Row). row ∷ them) (every_row rows)

all_kept : (condition : Option Term) (found : List Row) (rows : List TableRow) → found ≡ map as_source rows → LeaveOutUntrue condition found rows
all_kept condition found rows e = record {
  keep = λ row. true;
  are = e ∙ every_row (map as_source rows);
  others = λ row never. absurd (true≢false never);
}

-- of the rows that a condition doesn't need it isn't true
left_out : OtherRowsFail → (indexes : List Index) (condition : Option Term) (found : List Row) (rows : List TableRow) → AreNeeded indexes condition found (map as_source rows) → LeaveOutUntrue condition found rows
left_out law indexes None found rows e = all_kept None found rows e
left_out law indexes (Some condition) found rows (inl (search, sought, chosen, e)) = record {
  keep = is_found indexes search;
  are = e;
  others = λ row isnt. law indexes 0 condition search sought (row ∷ []) row refl isnt;
}
left_out law indexes (Some condition) found rows (inr (nothing, e)) = all_kept (Some condition) found rows e

abbrev given : List TableRow → Answer (List TableRow)
given rows = Ok rows

none_left_out : (keep : Row → Bool) → ((row : Row) → keep row ≡ false → ⊥) → (rows : List TableRow) → filter (λ row. keep (as_source row)) rows ≡ rows
none_left_out keep none [] = refl
none_left_out keep none (row ∷ rows) = by (filter (λ row. keep (as_source row)) rows) (keep (as_source row)) refl (none_left_out keep none rows)
  where
    by : (left : List TableRow) (b : Bool) → keep (as_source row) ≡ b → left ≡ rows → cond b (row ∷ left) left ≡ row ∷ rows
    by left true it e = ap (λ (them : List TableRow). row ∷ them) e
    by left false it e = absurd (none (as_source row) it)

abbrev is_true : Answer (Option Bool) → Bool
is_true test = elim test [ Ok (Some true) ↦ true | _ ↦ false ]

not_true : (test : Option Bool) → unwrap_or test false ≡ false → is_true (Ok test) ≡ false
not_true (Some true) untrue = absurd (true≢false untrue)
not_true (Some false) untrue = refl
not_true None untrue = refl

module _ (c : Term) where
  -- those chosen of a row and of more
  abbrev with_row : TableRow → Answer (List TableRow) → Bool → Answer (List TableRow)
  with_row row rest is = rest then λ them. given (cond is (row ∷ them) them)

  abbrev after : TableRow → Answer (List TableRow) → Answer (Option Bool) → Answer (List TableRow)
  after row rest test = test then λ t. with_row row rest (is_chosen c row)

  one_further : (row : TableRow) (rows : List TableRow) → chosen c (row ∷ rows) ≡ after row (chosen c rows) (tested c row)
  one_further row rows = by (tested c row) (all_answers (map (tested c) rows))
    where
      by : (t : Answer (Option Bool)) (all : Answer (List (Option Bool)))
          → ((t then λ x. all then λ xs. let l : Answer (List (Option Bool)) = Ok (x ∷ xs) in l) then λ tests. given (filter (is_chosen c) (row ∷ rows))) ≡ after row (all then λ tests. given (filter (is_chosen c) rows)) t
      by (Ok x) (Ok xs) = refl
      by (Ok x) (Err r) = refl
      by (Err r) all = refl

  same_rest : (row : TableRow) (rest : Answer (List TableRow)) → with_row row rest false ≡ rest
  same_rest row (Ok them) = refl
  same_rest row (Err r) = refl

  untrue_left_out : (row : TableRow) (rest : Answer (List TableRow)) → IsUntrue (tested c row) → after row rest (tested c row) ≡ rest
  untrue_left_out row rest untrue =
      ap (after row rest) untrue.1 ∙ (ap (with_row row rest) (ap is_true untrue.1 ∙ not_true untrue.0 untrue.2) ∙ same_rest row rest)

  module _ (keep : Row → Bool) (others : (row : Row) → keep row ≡ false → IsUntrue (holds c (row ∷ []))) where
    same_chosen : (rows : List TableRow) → chosen c (filter (λ row. keep (as_source row)) rows) ≡ chosen c rows
    same_chosen [] = refl
    same_chosen (row ∷ rows) = by (filter (λ row. keep (as_source row)) rows) (keep (as_source row)) refl (same_chosen rows)
      where
        by : (left : List TableRow) (b : Bool) → keep (as_source row) ≡ b → chosen c left ≡ chosen c rows → chosen c (cond b (row ∷ left) left) ≡ chosen c (row ∷ rows)
        by left true it same = one_further row left ∙ (ap (λ (rest : Answer (List TableRow)). after row rest (tested c row)) same ∙ sym (one_further row rows))
        by left false it same = same ∙ sym (one_further row rows ∙ untrue_left_out row (chosen c rows) (others (as_source row) it))

are_enough : (condition : Option Term) (found : List Row) (rows : List TableRow) → LeaveOutUntrue condition found rows → AreEnough condition found rows
are_enough None found rows left = record {
  some = filter (λ row. left.keep (as_source row)) rows;
  are = left.are ∙ chosen_through left.keep as_source rows;
  same = ap given (none_left_out left.keep left.others rows);
}
are_enough (Some c) found rows left = record {
  some = filter (λ row. left.keep (as_source row)) rows;
  are = left.are ∙ chosen_through left.keep as_source rows;
  same = same_chosen c left.keep left.others rows;
}

-- ---- the trees of a table's indexes

module _ (pages : PageMap) (size : ℕ) (rows : List TableRow) where
  entries_tree : (i : Index) (o : Owner) → IsEntriesTree rows i o → IsTree pages size o → HasEntriesOf pages size rows i
  entries_tree i o is tree =
      (o.used, subst (λ root. IsIndexTree pages size root (collations (columns_of i)) (entries_of_rows (columns_of i) rows) o.used) is.root_is (subst (HoldsUnder pages size o.root o.used) is.content_is tree))

  pub entries_trees : (indexes : List Index) (mine after : List Owner) → Pairwise (IsEntriesTree rows) indexes mine → AllByRecursion (IsTree pages size) (mine ++ after) → AllByRecursion (HasEntriesOf pages size rows) indexes
  entries_trees [] [] after each trees = tt
  entries_trees [] (o ∷ os) after each trees = absurd each
  entries_trees (i ∷ is) [] after each trees = absurd each
  entries_trees (i ∷ is) (o ∷ os) after each trees = (entries_tree i o each.0 trees.0, entries_trees is os after each.1 trees.1)

-- what is so of all is so of those behind some
pub rest_of : (P : Owner → Type 0) (front back : List Owner) → AllByRecursion P (front ++ back) → AllByRecursion P back
rest_of P [] back all = all
rest_of P (x ∷ front) back all = rest_of P front back all.1

-- ---- rowids of 64 bits

word_of : (table : Table) (rows : List TableRow) (row : TableRow) → is_row (with_rows table rows) row ≡ true → is_word row.0 ≡ true
word_of table rows row is =
    let long = length row.1 == length (map as_column table.columns) in
    let stored = list_all is_value row.1 in
    left_of (is_word row.0) long (left_of (is_word row.0 && long) stored (left_of (is_word row.0 && long && stored) (holds_rowid (own_column table) row) is))

words_of : (test : TableRow → Bool) → ((row : TableRow) → test row ≡ true → is_word row.0 ≡ true) → (rows : List TableRow) → list_all test rows ≡ true → AllByRecursion (λ (row : TableRow). is_word row.0 ≡ true) rows
words_of test word [] all = tt
words_of test word (row ∷ rows) all = (word row (left_of (test row) (list_all test rows) all), words_of test word rows (right_of (test row) (list_all test rows) all))

pub are_words : (table : Table) (rows : List TableRow) → are_rows (with_rows table rows) ≡ true → AllByRecursion (λ (row : TableRow). is_word row.0 ≡ true) rows
are_words table rows fit =
    words_of (is_row (with_rows table rows)) (word_of table rows) rows (right_of (is_rising int_cmp (map (λ r. r.0) rows)) (list_all (is_row (with_rows table rows)) rows) fit)

-- ---- what is read

module _ (pages : PageMap) (size : ℕ) (table : Table) where
  abbrev pub source : BoundSource
  source = record { root = table.root; shape = shape_of table }

  pub has_indexed : (schema : Owner) (before : List Owner) (rows : List TableRow) (after : List Owner) → RowsStand pages size schema before table rows after → are_rows (with_rows table rows) ≡ true
      → HasIndexed pages size source table.indexes rows
  has_indexed schema before rows after s fit = record {
    whole = s.stands.free_are.whole;
    has = has_rows pages size schema before table rows after s;
    words = are_words table rows fit;
    entries = entries_trees pages size rows table.indexes s.others after s.indexes (rest_of (IsTree pages size) before _ s.shared.trees.1).1;
  }

  pub loads_enough : OtherRowsFail → (condition : Option Term) (result : Result (List Row) Fault) → FindsNeeded pages size source table.indexes condition result
      → LoadsEnough pages size table condition result
  loads_enough law condition result finds schema before after rows sized is_root among fit =
      by result (finds rows (has_indexed schema before rows after (rows_among pages size schema before table rows after among sized is_root) fit))
    where
      by : (r : Result (List Row) Fault) → MatchResult r (λ found. AreNeeded table.indexes condition found (map as_source rows)) IsOutside
          → MatchResult r (λ found. AreEnough condition found rows) IsOutside
      by (Ok found) needed = are_enough condition found rows (left_out law table.indexes condition found rows needed)
      by (Err fault) outside = outside
