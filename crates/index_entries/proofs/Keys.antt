-- Keys among the entries of rows, and rows that come to a UNIQUE index.
use Rattle.std.proofs.Common.{◌≡◌, refl, sym, ap, subst, ◌∙◌, inl, inr, ℕ, Bool, true, false, not, ◌&&◌, ◌||◌, cond, List, [], ◌∷◌, ◌++◌, length, map, take, slice_index_or, Ok, Err}
use mathlib.Core.Bool.{true≢false}
use Rattle.std.proofs.lemmas.List.{append-nil}
use Rattle.std.specs.List.{list_any}
use Rattle.std.specs.Ordering.{is_eq, is_gt, ordering_then}
use Rattle.std.specs.Prelude.{Result, IsErrAnd}
use Rattle.std.specs.declared.cmp.Ordering.{Ordering}
use Rattle.std.specs.declared.cmp.Ordering.TheVariants.{Less, Equal, Greater}
use Rattle.sqlval.specs.Lists.{placed, sorted}
use Rattle.sqlval.specs.Order.{order}
use Rattle.sqlval.specs.declared.collation.Collation.{Collation}
use Rattle.sqlval.specs.declared.fault.Fault.{Fault}
use Rattle.sqlval.specs.declared.value.Value.{Value}
use Rattle.sqlval.specs.declared.value.Value.TheVariants.{Int, Null}
use Rattle.pages.specs.Map.{PageMap}
use Rattle.tree_index.specs.Calls.{BecomesEntries, InsertsAlone, InsertsEntry, IsInsertRefusal}
use Rattle.tree_index.specs.Entries.{Entry, entry_cmp, has_entry, key_in, with_entry}
use Rattle.catalog.specs.declared.tables.IndexColumn.{IndexColumn}
use Rattle.index_entries.specs.Alone.{AddsAlone, FindsKeys, clashes, has_null, is_null, shares_key}
use Rattle.index_entries.specs.Entries.{AreApart, Columns, Row, collations, entries_of_rows, indexed}
use Rattle.index_entries.specs.Keeping.{IsAddRefusal, columns_in}
use Rattle.index_entries.proofs.Rows.{adds_its_entry}
use Rattle.index_entries.proofs.Turning.{indexed_long}

-- ---- some item of a sorted list

module _ {X : Type 0} (cmp : X → X → Ordering) (p : X → Bool) where
  any_placed : (x : X) (xs : List X) → list_any p (placed cmp x xs) ≡ p x || list_any p xs
  any_placed x [] = refl
  any_placed x (y ∷ ys) = by (is_gt (cmp x y)) (any_placed x ys) where
    swapped : (a b c : Bool) → b || (a || c) ≡ a || (b || c)
    swapped true true c = refl
    swapped true false c = refl
    swapped false b c = refl

    by : (b : Bool) → list_any p (placed cmp x ys) ≡ p x || list_any p ys → list_any p (cond b (y ∷ placed cmp x ys) (x ∷ y ∷ ys)) ≡ p x || (p y || list_any p ys)
    by true more = ap (λ (b : Bool). p y || b) more ∙ swapped (p x) (p y) (list_any p ys)
    by false more = refl

  any_sorted : (xs : List X) → list_any p (sorted cmp xs) ≡ list_any p xs
  any_sorted [] = refl
  any_sorted (x ∷ xs) = any_placed x (sorted cmp xs) ∙ ap (λ (b : Bool). p x || b) (any_sorted xs)

-- ---- keys

-- a row's key is tied with another row's entry where they share it
same_key : (columns : Columns) (vs : List Value) (id : Value) (ws : List Value) (jd : Value) → let cs = collations columns in
    is_eq (entry_cmp cs (take (length cs) (map (λ column. slice_index_or vs column.0 Null) columns ++ id ∷ [])) (map (λ column. slice_index_or ws column.0 Null) columns ++ jd ∷ [])) ≡ shares_key columns vs ws
same_key [] vs id ws jd = refl
same_key (column ∷ columns) vs id ws jd = by _ (order column.1 (slice_index_or vs column.0 Null) (slice_index_or ws column.0 Null)) (same_key columns vs id ws jd) where
  by : (rest : Ordering) (o : Ordering) → is_eq rest ≡ shares_key columns vs ws → is_eq (ordering_then o rest) ≡ is_eq o && shares_key columns vs ws
  by rest Less more = refl
  by rest Equal more = more
  by rest Greater more = refl

module _ (columns : Columns) (row : Row) where
  abbrev test : Entry → Bool
  test e = is_eq (entry_cmp (collations columns) (key_in (collations columns) (indexed columns row)) e)

  any_of_rows : (rows : List Row) → list_any test (map (indexed columns) rows) ≡ list_any (λ other. shares_key columns row.1 other.1) rows
  any_of_rows [] = refl
  any_of_rows (other ∷ rows) =
      ap (λ (b : Bool). b || list_any test (map (indexed columns) rows)) (same_key columns row.1 (Int row.0) other.1 (Int other.0))
      ∙ ap (λ (b : Bool). shares_key columns row.1 other.1 || b) (any_of_rows rows)

  pub any_clash : (rows : List Row) → has_null columns row.1 ≡ false → list_any (clashes columns row) rows ≡ list_any (λ other. shares_key columns row.1 other.1) rows
  any_clash [] none = refl
  any_clash (other ∷ rows) none =
      ap (λ (b : Bool). (not b && shares_key columns row.1 other.1) || list_any (clashes columns row) rows) none
      ∙ ap (λ (b : Bool). shares_key columns row.1 other.1 || b) (any_clash rows none)

  pub no_clash : (rows : List Row) → has_null columns row.1 ≡ true → list_any (clashes columns row) rows ≡ false
  no_clash [] some = refl
  no_clash (other ∷ rows) some = ap (λ (b : Bool). (not b && shares_key columns row.1 other.1) || list_any (clashes columns row) rows) some ∙ no_clash rows some

pub finds_keys : FindsKeys
finds_keys columns row rows = any_sorted (entry_cmp (collations columns)) (test columns row) (map (indexed columns) rows) ∙ any_of_rows columns row rows

-- the test of an index's columns as they are listed
pub null_listed : (columns : List IndexColumn) (values : List Value) → list_any (λ column. is_null (slice_index_or values column.place Null)) columns ≡ has_null (columns_in columns) values
null_listed [] values = refl
null_listed (column ∷ columns) values = ap (λ (b : Bool). is_null (slice_index_or values column.place Null) || b) (null_listed columns values)

-- ---- a row that comes

module _ (old new : PageMap) (size root : ℕ) (columns : Columns) (row : Row) (entry : List Value) (under : List Collation) (is : entry ≡ indexed columns row) (under_is : under ≡ collations columns) where
  same_entries : (rows : List Row) → AreApart (rows ++ row ∷ []) → with_entry (collations columns) (indexed columns row) (entries_of_rows columns rows) ≡ entries_of_rows columns (rows ++ row ∷ [])
  same_entries rows apart =
      sym ((adds_its_entry columns rows [] row apart).1 ∙ ap (λ (rs : List Row). with_entry (collations columns) (indexed columns row) (entries_of_rows columns rs)) (append-nil rows))

  as_add : (fault : Fault) → IsInsertRefusal (indexed columns row) fault → IsAddRefusal columns (row ∷ []) fault
  as_add fault (inl refused) = inl refused
  as_add fault (inr long) = inr (long.0, λ all. long.1 all.0)

  module _ (result : Result Bool Fault) (inserts : InsertsAlone old new size root under entry result) where
    ours : InsertsAlone old new size root (collations columns) (indexed columns row) result
    ours = subst (λ (cs : List Collation). InsertsAlone old new size root cs (indexed columns row) result) under_is (subst (λ (e : List Value). InsertsAlone old new size root under e result) is inserts)

  -- without NULL, by its key
  pub added_alone : has_null columns row.1 ≡ false → (result : Result Bool Fault) → InsertsAlone old new size root under entry result → AddsAlone old new size root columns row result
  added_alone none (Ok true) inserts rows used free apart stands =
      let it = ours (Ok true) inserts (entries_of_rows columns rows) used free stands (indexed_long columns row) in (
        any_clash columns row rows none ∙ sym (finds_keys columns row rows) ∙ it.0,
        subst (λ (es : List Entry). BecomesEntries old new size root (collations columns) es used free) (same_entries rows apart) it.1,
      )
  added_alone none (Ok false) inserts rows used free apart stands =
      let it = ours (Ok false) inserts (entries_of_rows columns rows) used free stands (indexed_long columns row) in
      (any_clash columns row rows none ∙ sym (finds_keys columns row rows) ∙ it.0, it.1)
  added_alone none (Err fault) inserts rows used free apart stands =
      as_add fault (ours (Err fault) inserts (entries_of_rows columns rows) used free stands (indexed_long columns row))

  -- with NULL, as in any index
  module _ (result : Result Bool Fault) (inserts : InsertsEntry old new size root under entry result) where
    usual : InsertsEntry old new size root (collations columns) (indexed columns row) result
    usual = subst (λ (cs : List Collation). InsertsEntry old new size root cs (indexed columns row) result) under_is (subst (λ (e : List Value). InsertsEntry old new size root under e result) is inserts)

  pub added_null : has_null columns row.1 ≡ true → InsertsEntry old new size root under entry (Ok true) → AddsAlone old new size root columns row (Ok true)
  added_null some inserts rows used free apart stands =
      let it = usual (Ok true) inserts (entries_of_rows columns rows) used free stands (indexed_long columns row) in
      (no_clash columns row rows some, subst (λ (es : List Entry). BecomesEntries old new size root (collations columns) es used free) (same_entries rows apart) it.1)

  pub null_not_there : InsertsEntry old new size root under entry (Ok false) → (result : Result Bool Fault) → AddsAlone old new size root columns row result
  null_not_there inserts result rows used free apart stands =
      let it = usual (Ok false) inserts (entries_of_rows columns rows) used free stands (indexed_long columns row) in
      let law = adds_its_entry columns rows [] row apart in
      let none = sym (ap (λ (rs : List Row). has_entry (collations columns) (indexed columns row) (entries_of_rows columns rs)) (append-nil rows)) ∙ law.0 in
      absurd (true≢false (sym it.0 ∙ none))

  pub null_refused : (fault : Fault) (result : Result Bool Fault) → IsErrAnd result (λ e. e ≡ fault) → InsertsEntry old new size root under entry (Err fault) → AddsAlone old new size root columns row result
  null_refused fault (Ok b) same inserts = absurd same
  null_refused fault (Err e) same inserts = λ rows used free apart stands.
      subst (IsAddRefusal columns (row ∷ [])) (sym same) (as_add fault (usual (Err fault) inserts (entries_of_rows columns rows) used free stands (indexed_long columns row)))
