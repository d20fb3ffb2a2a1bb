-- A row in another's place.
use Rattle.std.proofs.Common.{◌≡◌, refl, sym, ap, subst, ◌∙◌, inl, ℕ, ℤ, Bool, true, false, ◌&&◌, List, [], ◌∷◌, ◌++◌, map, slice_index_or, Ok, Err}
use mathlib.Core.Bool.{true≢false}
use Rattle.std.proofs.lemmas.List.{append-nil}
use Rattle.std.specs.List.{AllByRecursion, list_all}
use Rattle.catalog.specs.declared.tables.IndexColumn.{IndexColumn}
use Rattle.std.specs.Prelude.{Result, ⊤, IsErrAnd}
use Rattle.sqlval.specs.Lists.{sorted}
use Rattle.sqlval.specs.Sameness.{is_same_value}
use Rattle.sqlval.specs.declared.fault.Fault.{Fault}
use Rattle.sqlval.specs.declared.value.Value.{Value}
use Rattle.sqlval.specs.declared.value.Value.TheVariants.{Int, Null}
use Rattle.pages.specs.Calls.{IsOutsideOrFull}
use Rattle.pages.specs.Map.{PageMap}
use Rattle.tree_index.specs.Calls.{BecomesEntries}
use Rattle.tree_index.specs.Entries.{Entry, entry_cmp, with_entry}
use Rattle.index_entries.specs.Entries.{AreApart, Columns, IsApart, Row, collations, entries_of_rows, indexed}
use Rattle.index_entries.specs.Keeping.{AddsEntries, IsAddRefusal, TakesEntry, Turns, columns_in}
use Rattle.index_entries.specs.Replacing.{ReplacesEntries, ReplacesEntry, has_same_key}
use Rattle.index_entries.proofs.Rows.{adds_its_entry, apart_after, apart_before, both_parts}
use Rattle.index_entries.proofs.SameValues.{same_is}
use Rattle.index_entries.proofs.Turning.{stays, then_turns, without_one}

-- ---- rows of one key

both_true : (a b : Bool) → a && b ≡ true → (a ≡ true) × (b ≡ true)
both_true true b e = (refl, e)
both_true false b e = absurd (true≢false (sym e))

-- rows of one rowid and of the same key have one entry
pub same_entry : (columns : Columns) (gone come : Row) → gone.0 ≡ come.0 → has_same_key columns gone.1 come.1 ≡ true → indexed columns gone ≡ indexed columns come
same_entry [] gone come rowid same = ap (λ n. Int n ∷ []) rowid
same_entry (column ∷ columns) gone come rowid same =
    let parts = both_true (is_same_value (slice_index_or gone.1 column.0 Null) (slice_index_or come.1 column.0 Null)) (has_same_key columns gone.1 come.1) same in
    ap (λ (v : Value). v ∷ indexed columns gone) (same_is _ _ parts.0)
    ∙ ap (λ (vs : List Value). slice_index_or come.1 column.0 Null ∷ vs) (same_entry columns gone come rowid parts.1)

mapped : (columns : Columns) (before after : List Row) (gone come : Row) → indexed columns gone ≡ indexed columns come
    → map (indexed columns) (before ++ gone ∷ after) ≡ map (indexed columns) (before ++ come ∷ after)
mapped columns [] after gone come same = ap (λ (e : Entry). e ∷ map (indexed columns) after) same
mapped columns (row ∷ before) after gone come same = ap (λ (es : List Entry). indexed columns row ∷ es) (mapped columns before after gone come same)

pub same_entries : (columns : Columns) (before after : List Row) (gone come : Row) → indexed columns gone ≡ indexed columns come
    → entries_of_rows columns (before ++ gone ∷ after) ≡ entries_of_rows columns (before ++ come ∷ after)
same_entries columns before after gone come same = ap (sorted (entry_cmp (collations columns))) (mapped columns before after gone come same)

-- the test of an index's columns as they are listed
same_listed : (columns : List IndexColumn) (vs ws : List Value)
    → list_all (λ column. is_same_value (slice_index_or vs column.place Null) (slice_index_or ws column.place Null)) columns ≡ has_same_key (columns_in columns) vs ws
same_listed [] vs ws = refl
same_listed (column ∷ columns) vs ws =
    ap (λ (b : Bool). is_same_value (slice_index_or vs column.place Null) (slice_index_or ws column.place Null) && b) (same_listed columns vs ws)

-- what the test of two rows' values found
module _ (columns : List IndexColumn) (left right vs ws : List Value) (left_is : left ≡ vs) (right_is : right ≡ ws) (found : Bool)
    (is : found ≡ list_all (λ column. is_same_value (slice_index_or left column.place Null) (slice_index_or right column.place Null)) columns) where
  pub found_is : found ≡ has_same_key (columns_in columns) vs ws
  found_is = is ∙ same_listed columns left right ∙ ap (λ (v : List Value). has_same_key (columns_in columns) v right) left_is ∙ ap (has_same_key (columns_in columns) vs) right_is

  pub keys_same : found ≡ true → has_same_key (columns_in columns) vs ws ≡ true
  keys_same e = sym found_is ∙ e

  pub keys_differ : found ≡ false → has_same_key (columns_in columns) vs ws ≡ true → ⊥
  keys_differ e same = true≢false (sym same ∙ sym found_is ∙ e)

-- ---- the row that comes is apart

module _ (gone come : Row) (rowid : gone.0 ≡ come.0) where
  one_apart : (row : Row) (before after : List Row) → IsApart row (before ++ gone ∷ after) → IsApart row (before ++ come ∷ after)
  one_apart row [] after all = (λ e. all.0 (e ∙ sym rowid), all.1)
  one_apart row (other ∷ before) after all = (all.0, one_apart row before after all.1)

  from_come : (rows : List Row) → IsApart gone rows → IsApart come rows
  from_come [] all = tt
  from_come (row ∷ rows) all = (λ e. all.0 (rowid ∙ e), from_come rows all.1)

  pub still_apart : (before after : List Row) → AreApart (before ++ gone ∷ after) → AreApart (before ++ come ∷ after)
  still_apart [] after apart = (from_come after apart.0, apart.1)
  still_apart (row ∷ before) after apart = (one_apart row before after apart.0, still_apart before after apart.1)

pub apart_last : (rows : List Row) (row : Row) → AllByRecursion (λ (other : Row). row.0 ≡ other.0 → ⊥) rows → AreApart rows → AreApart (rows ++ row ∷ [])
apart_last [] row none apart = (tt, tt)
apart_last (first ∷ rows) row none apart = (at rows (λ e. none.0 (sym e)) apart.0, apart_last rows row none.1 apart.1) where
  at : (rows : List Row) → (first.0 ≡ row.0 → ⊥) → IsApart first rows → IsApart first (rows ++ row ∷ [])
  at [] other all = (other, tt)
  at (next ∷ rows) other all = (all.0, at rows other all.1)

-- ---- one row

module _ (old mid new : PageMap) (size root : ℕ) (columns : Columns) (gone come : Row) where
  -- nothing is to be done
  pub replaces_same : has_same_key columns gone.1 come.1 ≡ true → ReplacesEntry old old size root columns gone come (Ok tt)
  replaces_same same before after apart rowid used free stands =
      subst (λ (es : List Entry). BecomesEntries old old size root (collations columns) es used free) (same_entries columns before after gone come (same_entry columns gone come rowid same))
      (stays old size root columns (before ++ gone ∷ after) (IsAddRefusal columns (come ∷ [])) used free stands)

  -- one goes, and then one comes
  pub replaces_both : (result : Result ⊤ Fault) → TakesEntry old mid size root columns gone (Ok tt) → AddsEntries mid new size root columns (come ∷ []) result → ReplacesEntry old new size root columns gone come result
  replaces_both result takes adds before after apart rowid =
      let now = still_apart gone come rowid before after apart in
      let others = both_parts (λ (other : Row). come.0 ≡ other.0 → ⊥) before after (apart_before before after come now) (apart_after before after come now) in
      let last = apart_last (before ++ after) come others (without_one before gone after apart) in
      let law = adds_its_entry columns before after come now in
      let at_end = adds_its_entry columns (before ++ after) [] come last in
      let same = at_end.1 ∙ ap (λ (rs : List Row). with_entry (collations columns) (indexed columns come) (entries_of_rows columns rs)) (append-nil (before ++ after)) ∙ sym law.1 in
      put result (then_turns old mid new size root columns (before ++ gone ∷ after) (before ++ after) ((before ++ after) ++ come ∷ []) IsOutsideOrFull (IsAddRefusal columns (come ∷ [])) result
      (takes before after apart) (adds (before ++ after) last)) same
    where
      put : (result : Result ⊤ Fault) → Turns old new size root columns (before ++ gone ∷ after) ((before ++ after) ++ come ∷ []) (IsAddRefusal columns (come ∷ [])) result
          → entries_of_rows columns ((before ++ after) ++ come ∷ []) ≡ entries_of_rows columns (before ++ come ∷ after)
          → Turns old new size root columns (before ++ gone ∷ after) (before ++ come ∷ after) (IsAddRefusal columns (come ∷ [])) result
      put (Ok done) turns same used free stands = subst (λ (es : List Entry). BecomesEntries old new size root (collations columns) es used free) same (turns used free stands)
      put (Err fault) turns same used free stands = turns used free stands

  -- the one that is to go is refused
  pub replace_stops : (fault : Fault) (result : Result ⊤ Fault) → IsErrAnd result (λ e. e ≡ fault) → TakesEntry old new size root columns gone (Err fault) → ReplacesEntry old new size root columns gone come result
  replace_stops fault (Ok done) same takes before after apart rowid = absurd same
  replace_stops fault (Err e) same takes before after apart rowid = λ used free stands. subst (IsAddRefusal columns (come ∷ [])) (sym same) (inl (takes before after apart used free stands))

-- ---- several rows

pub head : {m n : ℤ} {ms ns : List ℤ} → m ∷ ms ≡ n ∷ ns → m ≡ n
head e = cc

pub tail : {m n : ℤ} {ms ns : List ℤ} → m ∷ ms ≡ n ∷ ns → ms ≡ ns
tail e = cc

module _ (size root : ℕ) (columns : Columns) where
  -- none goes
  pub replaces_none : (pages : PageMap) (come : List Row) → ReplacesEntries pages pages size root columns [] come (Ok tt)
  replaces_none pages [] rows apart same = stays pages size root columns (rows ++ []) (IsAddRefusal columns [])
  replaces_none pages (row ∷ come) rows apart same = absurd cc

  -- none comes for one that goes, which can't be
  pub replaces_uneven : (old new : PageMap) (row : Row) (gone : List Row) (result : Result ⊤ Fault) → ReplacesEntries old new size root columns (row ∷ gone) [] result
  replaces_uneven old new row gone result rows apart same = absurd cc
