-- An index's tree turns from the entries of some rows to those of others, one row after another.
use Rattle.std.proofs.Common.{◌≡◌, refl, sym, ap, subst, ◌∙◌, inl, inr, ℕ, ◌+◌, true, false, List, [], ◌∷◌, ◌++◌, length, map, slice_index_or, arith, Ok, Err}
use mathlib.Core.Bool.{true≢false}
use Rattle.std.proofs.lemmas.Grind.{common_steps}
use Rattle.std.proofs.lemmas.List.{append-nil}
use Rattle.std.specs.Prelude.{Result, IsErrAnd, ⊤}
use Rattle.sqlval.specs.declared.collation.Collation.{Collation}
use Rattle.sqlval.specs.declared.fault.Fault.{Fault}
use Rattle.sqlval.specs.declared.value.Value.{Value}
use Rattle.sqlval.specs.declared.value.Value.TheVariants.{Null}
use Rattle.pages.specs.Calls.{IsOutsideOrFull}
use Rattle.pages.specs.Counting.{Moves, fresh}
use Rattle.pages.specs.Map.{PageMap}
use Rattle.pages.proofs.Moving.{in_sequence}
use Rattle.freelist.specs.Calls.{KeepsHeader}
use Rattle.tree_index.specs.Calls.{BecomesEntries, InsertsEntry, IsInsertRefusal, RemovesEntry}
use Rattle.tree_index.specs.Entries.{has_entry, with_entry}
use Rattle.index_entries.specs.Entries.{AreApart, Columns, IsApart, Row, collations, entries_of_rows, indexed}
use Rattle.index_entries.specs.Keeping.{AddsEntries, IsAddRefusal, TakesEntries, TakesEntry, Turns, columns_in}
use Rattle.catalog.specs.declared.tables.IndexColumn.{IndexColumn}
use Rattle.index_entries.proofs.Rows.{adds_its_entry, takes_its_entry}

-- ---- columns

pub same_collations : (columns : List IndexColumn) → map (λ column. column.collation) columns ≡ collations (columns_in columns)
same_collations [] = refl
same_collations (column ∷ columns) = ap (λ (cs : List Collation). column.collation ∷ cs) (same_collations columns)

pub same_key : (values : List Value) (columns : List IndexColumn)
    → map (λ (column : IndexColumn). slice_index_or values column.place Null) columns ≡ map (λ column. slice_index_or values column.0 Null) (columns_in columns)
same_key values [] = refl
same_key values (column ∷ columns) = ap (λ (vs : List Value). slice_index_or values column.place Null ∷ vs) (same_key values columns)

pub indexed_long : (columns : Columns) (row : Row) → length (indexed columns row) ≡ length (collations columns) + 1
indexed_long [] row = refl
indexed_long (column ∷ columns) row = (let more = indexed_long columns row in omega (arith, more))

-- ---- one row

module _ (old new : PageMap) (size root : ℕ) (columns : Columns) (row : Row) where
  -- the entry that was put in
  pub entry_added : (entry : List Value) (under : List Collation) → entry ≡ indexed columns row → under ≡ collations columns
      → InsertsEntry old new size root under entry (Ok true) → AddsEntries old new size root columns (row ∷ []) (Ok tt)
  entry_added entry under is under_is inserts rows apart used free stands =
      let one = subst (λ (cs : List Collation). InsertsEntry old new size root cs entry (Ok true)) under_is inserts in
      let put = subst (λ (e : List Value). InsertsEntry old new size root (collations columns) e (Ok true)) is one in
      let there = put (entries_of_rows columns rows) used free stands (indexed_long columns row) in
      let law = adds_its_entry columns rows [] row apart in
      let same = law.1 ∙ ap (λ (rs : List Row). with_entry (collations columns) (indexed columns row) (entries_of_rows columns rs)) (append-nil rows) in
      subst (λ (es : List (List Value)). BecomesEntries old new size root (collations columns) es used free) (sym same) there.1

  -- it can't be there already
  pub entry_not_there : (entry : List Value) (under : List Collation) → entry ≡ indexed columns row → under ≡ collations columns
      → InsertsEntry old new size root under entry (Ok false) → (result : Result ⊤ Fault) → AddsEntries old new size root columns (row ∷ []) result
  entry_not_there entry under is under_is inserts result rows apart used free stands =
      let one = subst (λ (cs : List Collation). InsertsEntry old new size root cs entry (Ok false)) under_is inserts in
      let put = subst (λ (e : List Value). InsertsEntry old new size root (collations columns) e (Ok false)) is one in
      let there = put (entries_of_rows columns rows) used free stands (indexed_long columns row) in
      let law = adds_its_entry columns rows [] row apart in
      let none = sym (ap (λ (rs : List Row). has_entry (collations columns) (indexed columns row) (entries_of_rows columns rs)) (append-nil rows)) ∙ law.0 in
      absurd (true≢false (sym there.0 ∙ none))

  pub add_refused : (entry : List Value) (under : List Collation) → entry ≡ indexed columns row → under ≡ collations columns
      → (fault : Fault) (result : Result ⊤ Fault) → IsErrAnd result (λ e. e ≡ fault)
      → InsertsEntry old new size root under entry (Err fault) → AddsEntries old new size root columns (row ∷ []) result
  add_refused entry under is under_is fault (Ok x) same inserts = absurd same
  add_refused entry under is under_is fault (Err e) same inserts = λ rows apart used free stands. (
      let one = subst (λ (cs : List Collation). InsertsEntry old new size root cs entry (Err fault)) under_is inserts in
      let put = subst (λ (v : List Value). InsertsEntry old new size root (collations columns) v (Err fault)) is one in
      subst (λ (f : Fault). IsAddRefusal columns (row ∷ []) f) (sym same) (as_add (put (entries_of_rows columns rows) used free stands (indexed_long columns row))))
    where
      as_add : IsInsertRefusal (indexed columns row) fault → IsAddRefusal columns (row ∷ []) fault
      as_add (inl refused) = inl refused
      as_add (inr long) = inr (long.0, λ all. long.1 all.0)

  pub entry_taken : (entry : List Value) (under : List Collation) → entry ≡ indexed columns row → under ≡ collations columns
      → RemovesEntry old new size root under entry (Ok true) → TakesEntry old new size root columns row (Ok tt)
  entry_taken entry under is under_is removes before after apart used free stands =
      let one = subst (λ (cs : List Collation). RemovesEntry old new size root cs entry (Ok true)) under_is removes in
      let take = subst (λ (e : List Value). RemovesEntry old new size root (collations columns) e (Ok true)) is one in
      let gone = take (entries_of_rows columns (before ++ row ∷ after)) used free stands (indexed_long columns row) in
      subst (λ (es : List (List Value)). BecomesEntries old new size root (collations columns) es used free) (takes_its_entry columns before after row apart).1 gone.1

  -- it can't be gone already
  pub entry_never_gone : (entry : List Value) (under : List Collation) → entry ≡ indexed columns row → under ≡ collations columns
      → RemovesEntry old new size root under entry (Ok false) → (result : Result ⊤ Fault) → TakesEntry old new size root columns row result
  entry_never_gone entry under is under_is removes result before after apart used free stands =
      let one = subst (λ (cs : List Collation). RemovesEntry old new size root cs entry (Ok false)) under_is removes in
      let take = subst (λ (e : List Value). RemovesEntry old new size root (collations columns) e (Ok false)) is one in
      let gone = take (entries_of_rows columns (before ++ row ∷ after)) used free stands (indexed_long columns row) in
      absurd (true≢false (sym (takes_its_entry columns before after row apart).0 ∙ gone.0))

  pub take_refused : (entry : List Value) (under : List Collation) → entry ≡ indexed columns row → under ≡ collations columns
      → (fault : Fault) (result : Result ⊤ Fault) → IsErrAnd result (λ e. e ≡ fault)
      → RemovesEntry old new size root under entry (Err fault) → TakesEntry old new size root columns row result
  take_refused entry under is under_is fault (Ok x) same removes = absurd same
  take_refused entry under is under_is fault (Err e) same removes = λ before after apart used free stands. (
      let one = subst (λ (cs : List Collation). RemovesEntry old new size root cs entry (Err fault)) under_is removes in
      let take = subst (λ (v : List Value). RemovesEntry old new size root (collations columns) v (Err fault)) is one in
      subst IsOutsideOrFull (sym same) (take (entries_of_rows columns (before ++ row ∷ after)) used free stands (indexed_long columns row)))

-- ---- several rows

no_fresh : (a n : ℕ) → fresh a a n ≡ 0
no_fresh a n = grind (arith, common_steps)

pub unmoved : (pages : PageMap) (used free : List ℕ) → Moves pages pages used free used free
unmoved pages used free = record {
  longer = omega arith;
  counts = λ n. (let none = no_fresh (length pages) n in omega (arith, none));
  keeps = λ n from to none. refl;
  whole = λ size whole. whole;
}

pub keeps_all : (pages : PageMap) → KeepsHeader pages pages
keeps_all pages header is = (header.freelist_trunk, header.freelist_count, is)

pub keeps_then : (a b c : PageMap) → KeepsHeader a b → KeepsHeader b c → KeepsHeader a c
keeps_then a b c first then header is = (let now = first header is in then (record header { freelist_trunk = now.0; freelist_count = now.1 }) now.2)

front_apart : (row : Row) (xs ys : List Row) → IsApart row (xs ++ ys) → IsApart row xs
front_apart row [] ys all = tt
front_apart row (x ∷ xs) ys all = (all.0, front_apart row xs ys all.1)

pub apart_front : (xs ys : List Row) → AreApart (xs ++ ys) → AreApart xs
apart_front [] ys apart = tt
apart_front (x ∷ xs) ys apart = (front_apart x xs ys apart.0, apart_front xs ys apart.1)

pub without_one : (before : List Row) (row : Row) (after : List Row) → AreApart (before ++ row ∷ after) → AreApart (before ++ after)
without_one [] row after apart = apart.1
without_one (x ∷ before) row after apart = (less before apart.0, without_one before row after apart.1) where
  less : (before : List Row) → IsApart x (before ++ row ∷ after) → IsApart x (before ++ after)
  less [] all = all.1
  less (y ∷ before) all = (all.0, less before all.1)

-- nothing turns
pub stays : (pages : PageMap) (size root : ℕ) (columns : Columns) (rows : List Row) (Why : Fault → Type 0) → Turns pages pages size root columns rows rows Why (Ok tt)
stays pages size root columns rows Why used free stands =
    record { now_used = used; now_free = free; stands = stands; moves = unmoved pages used free; header = keeps_all pages }

module _ (old mid new : PageMap) (size root : ℕ) (columns : Columns) (before middle after : List Row) (First Why : Fault → Type 0) where
  -- one turn and then another
  pub then_turns : (result : Result ⊤ Fault) → Turns old mid size root columns before middle First (Ok tt) → Turns mid new size root columns middle after Why result → Turns old new size root columns before after Why result
  then_turns (Ok done) first next used free stands =
      let was = first used free stands in
      let now = next was.now_used was.now_free was.stands in
      record {
        now_used = now.now_used;
        now_free = now.now_free;
        stands = now.stands;
        moves = in_sequence old mid new used free was.now_used was.now_free now.now_used now.now_free was.moves now.moves;
        header = keeps_then old mid new was.header now.header;
      }
  then_turns (Err f) first next used free stands = (let was = first used free stands in next was.now_used was.now_free was.stands)

module _ (size root : ℕ) (columns : Columns) where
  -- rows that are taken out
  pub takes_none : (pages : PageMap) → TakesEntries pages pages size root columns [] (Ok tt)
  takes_none pages rows apart =
      subst (λ (rs : List Row). Turns pages pages size root columns rs rows IsOutsideOrFull (Ok tt)) (sym (append-nil rows)) (stays pages size root columns rows IsOutsideOrFull)

  pub takes_more : (old mid new : PageMap) (row : Row) (rest : List Row) (result : Result ⊤ Fault) → TakesEntry old mid size root columns row (Ok tt)
      → TakesEntries mid new size root columns rest result → TakesEntries old new size root columns (row ∷ rest) result
  takes_more old mid new row rest result first next rows apart =
      then_turns old mid new size root columns (rows ++ row ∷ rest) (rows ++ rest) rows IsOutsideOrFull IsOutsideOrFull result
      (first rows rest apart) (next rows (without_one rows row rest apart))

  pub takes_stop : (old new : PageMap) (row : Row) (rest : List Row) (fault : Fault) (result : Result ⊤ Fault) → IsErrAnd result (λ e. e ≡ fault)
      → TakesEntry old new size root columns row (Err fault) → TakesEntries old new size root columns (row ∷ rest) result
  takes_stop old new row rest fault (Ok done) same first = absurd same
  takes_stop old new row rest fault (Err e) same first = λ rows apart used free stands. subst IsOutsideOrFull (sym same) (first rows rest apart used free stands)
