-- A row in another's place, kept apart from the others by a UNIQUE index.
use Rattle.std.proofs.Common.{◌≡◌, refl, sym, ap, subst, ◌∙◌, inl, inr, ℕ, Bool, true, false, not, List, [], ◌∷◌, ◌++◌, Ok, Err}
use Rattle.std.proofs.lemmas.List.{append-nil}
use Rattle.std.specs.List.{list_any}
use Rattle.std.specs.Prelude.{Result, IsErrAnd, MatchResult}
use Rattle.sqlval.specs.Faults.{IsOutside}
use Rattle.sqlval.specs.declared.fault.Fault.{Fault}
use Rattle.pages.specs.Calls.{IsOutsideOrFull}
use Rattle.pages.specs.Map.{PageMap}
use Rattle.tree_index.specs.Calls.{BecomesEntries, Stands}
use Rattle.tree_index.specs.Entries.{Entry, with_entry}
use Rattle.index_entries.specs.Alone.{AddsAlone, IsReplacedAlone, ReplacesAlone, clashes}
use Rattle.index_entries.specs.Entries.{AreApart, Columns, Row, collations, entries_of_rows, indexed}
use Rattle.index_entries.specs.Keeping.{IsAddRefusal, TakesEntry}
use Rattle.index_entries.specs.Others.{FindsAlone}
use Rattle.index_entries.specs.Replacing.{has_same_key}
use Rattle.index_entries.proofs.Replacing.{apart_last, same_entries, same_entry, still_apart}
use Rattle.index_entries.proofs.Rows.{adds_its_entry, apart_after, apart_before, both_parts}
use Rattle.index_entries.proofs.Turning.{stays, then_turns, without_one}

isnt : (b : Bool) → true ≡ not b → b ≡ false
isnt true e = e
isnt false e = refl

is : (b : Bool) → false ≡ not b → b ≡ true
is true e = refl
is false e = e

module _ (old new : PageMap) (size root : ℕ) (columns : Columns) (gone come : Row) where
  -- the entry stays as it is, and whether another row has the key was looked up
  pub looked_up : has_same_key columns gone.1 come.1 ≡ true → (result : Result Bool Fault) → FindsAlone old size root columns come result → new ≡ old → ReplacesAlone old new size root columns gone come result
  looked_up same result finds still before after used free apart rowid stands =
      let entries = same_entries columns before after gone come (same_entry columns gone come rowid same) in
      let here = subst (λ (es : List Entry). Stands old size root (collations columns) es used free) entries stands in
      let remains = stays old size root columns (before ++ come ∷ after) (IsAddRefusal columns (come ∷ [])) used free here in
      by result (finds before after used (still_apart gone come rowid before after apart) here.free_are.whole here.tree)
      (subst (λ (m : PageMap). BecomesEntries old m size root (collations columns) (entries_of_rows columns (before ++ come ∷ after)) used free) (sym still) remains)
    where
      by : (result : Result Bool Fault) → MatchResult result (λ alone. alone ≡ not (list_any (clashes columns come) (before ++ after))) IsOutside
          → BecomesEntries old new size root (collations columns) (entries_of_rows columns (before ++ come ∷ after)) used free
          → MatchResult result (IsReplacedAlone old new size root columns come before after used free) (IsAddRefusal columns (come ∷ []))
      by (Ok true) found remains = (isnt (list_any (clashes columns come) (before ++ after)) found, remains)
      by (Ok false) found remains = (is (list_any (clashes columns come) (before ++ after)) found, inl still)
      by (Err fault) found remains = inl (inl found)

  -- the entry that is to go isn't taken out
  pub not_taken : (fault : Fault) (result : Result Bool Fault) → IsErrAnd result (λ e. e ≡ fault) → TakesEntry old new size root columns gone (Err fault) → ReplacesAlone old new size root columns gone come result
  not_taken fault (Ok b) same takes = absurd same
  not_taken fault (Err e) same takes = λ before after used free apart rowid stands. subst (IsAddRefusal columns (come ∷ [])) (sym same) (inl (takes before after apart used free stands))

module _ (old mid new : PageMap) (size root : ℕ) (columns : Columns) (gone come : Row) where
  -- it is out, and the other is in or isn't
  pub replaced_alone : (result : Result Bool Fault) → TakesEntry old mid size root columns gone (Ok tt) → AddsAlone mid new size root columns come result → ReplacesAlone old new size root columns gone come result
  replaced_alone result takes adds before after used free apart rowid stands =
      let now = still_apart gone come rowid before after apart in
      let others = both_parts (λ (other : Row). come.0 ≡ other.0 → ⊥) before after (apart_before before after come now) (apart_after before after come now) in
      let last = apart_last (before ++ after) come others (without_one before gone after apart) in
      let law = adds_its_entry columns before after come now in
      let at_end = adds_its_entry columns (before ++ after) [] come last in
      let same = at_end.1 ∙ ap (λ (rs : List Row). with_entry (collations columns) (indexed columns come) (entries_of_rows columns rs)) (append-nil (before ++ after)) ∙ sym law.1 in
      by result adds last same (takes before after apart)
    where
      by : (result : Result Bool Fault) → AddsAlone mid new size root columns come result → AreApart ((before ++ after) ++ come ∷ [])
          → entries_of_rows columns ((before ++ after) ++ come ∷ []) ≡ entries_of_rows columns (before ++ come ∷ after)
          → ((used free : List ℕ) → Stands old size root (collations columns) (entries_of_rows columns (before ++ gone ∷ after)) used free
          → BecomesEntries old mid size root (collations columns) (entries_of_rows columns (before ++ after)) used free)
          → MatchResult result (IsReplacedAlone old new size root columns come before after used free) (IsAddRefusal columns (come ∷ []))
      by (Ok true) adds last same takes =
          let was = takes used free stands in
          let added = adds (before ++ after) was.now_used was.now_free last was.stands in (
            added.0,
            subst (λ (es : List Entry). BecomesEntries old new size root (collations columns) es used free) same
                (then_turns old mid new size root columns (before ++ gone ∷ after) (before ++ after) ((before ++ after) ++ come ∷ []) IsOutsideOrFull IsOutsideOrFull (Ok tt) takes
                (λ used free stands. (adds (before ++ after) used free last stands).1) used free stands),
          )
      by (Ok false) adds last same takes =
          let was = takes used free stands in
          let added = adds (before ++ after) was.now_used was.now_free last was.stands in
          (added.0, inr (subst (λ (m : PageMap). BecomesEntries old m size root (collations columns) (entries_of_rows columns (before ++ after)) used free) (sym added.1) was))
      by (Err fault) adds last same takes =
          let was = takes used free stands in
          adds (before ++ after) was.now_used was.now_free last was.stands
