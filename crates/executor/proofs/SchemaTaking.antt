-- Rows that are taken out of the schema table one after another.
use Rattle.std.proofs.Common.{◌≡◌, refl, sym, subst, ℕ, ℤ, Bool, true, false, cond, filter, map, List, [], ◌∷◌, ◌++◌, length, Result, Ok, Err, arith}
use Rattle.std.proofs.lemmas.Grind.{common_steps}
use Rattle.std.specs.Prelude.{⊤, IsErrAnd}
use Rattle.std.specs.declared.alloc.Global.{Global}
use Rattle.std.specs.declared.rc.Rc.{Rc}
use Rattle.sqlval.specs.declared.fault.Fault.{Fault}
use Rattle.tree_leaf.specs.Leaf.{Entry}
use Rattle.pages.specs.Calls.{IsOutsideOrFull}
use Rattle.pages.specs.Counting.{fresh}
use Rattle.pages.specs.Map.{PageMap}
use Rattle.pages.proofs.Moving.{in_sequence}
use Rattle.tree_store.proofs.MovedPages.{keeps_then}
use Rattle.tree_table.specs.Calls.{BecomesRows}
use Rattle.tree_table.specs.Rows.{without_row}
use Rattle.catalog.specs.Database.{Name}
use Rattle.catalog.specs.Listed.{is_on, shared}
use Rattle.catalog.specs.declared.tables.Index.{Index}
use Rattle.catalog.specs.declared.tables.Trigger.{Trigger}
use Rattle.executor.specs.Listing.{AreThere, TakesSchemaRow, TakesSchemaRows, rowids_on, without_rows}

-- the rows of these indexes are taken out
abbrev pub TakesIndexRows : PageMap → PageMap → ℕ → List Index → Result ⊤ Fault → Type 0
TakesIndexRows old new size indexes result = TakesSchemaRows old new size (map (λ index. index.rowid) indexes) result

both_becomes : (old mid new : PageMap) (size : ℕ) (rows others : List Entry) (used free : List ℕ) (first : BecomesRows old mid size 1 rows used free) → BecomesRows mid new size 1 others first.now_used first.now_free
    → BecomesRows old new size 1 others used free
both_becomes old mid new size rows others used free first rest = record {
  now_used = rest.now_used;
  now_free = rest.now_free;
  stands = rest.stands;
  moves = in_sequence old mid new used free first.now_used first.now_free rest.now_used rest.now_free first.moves rest.moves;
  header = keeps_then old mid new first.header rest.header;
}

module _ (old mid : PageMap) (size : ℕ) (rowid : ℤ) where
  pub takes_more : (new : PageMap) (rowids : List ℤ) (result : Result ⊤ Fault) → TakesSchemaRow old mid size rowid (Ok tt) → TakesSchemaRows mid new size rowids result → TakesSchemaRows old new size (rowid ∷ rowids) result
  takes_more new rowids (Ok done) first rest rows used free stands there =
      let one = first rows used free stands there.0 in
      both_becomes old mid new size (without_row rowid rows) (without_rows rowids (without_row rowid rows)) used free one (rest (without_row rowid rows) one.now_used one.now_free one.stands there.1)
  takes_more new rowids (Err f) first rest rows used free stands there =
      let one = first rows used free stands there.0 in rest (without_row rowid rows) one.now_used one.now_free one.stands there.1

  pub takes_stop : (rowids : List ℤ) (f : Fault) (result : Result ⊤ Fault) → IsErrAnd result (λ e. e ≡ f) → TakesSchemaRow old mid size rowid (Err f) → TakesSchemaRows old mid size (rowid ∷ rowids) result
  takes_stop rowids f (Ok done) is first = absurd is
  takes_stop rowids f (Err e) is first = λ rows used free stands there. subst IsOutsideOrFull (sym is) (first rows used free stands there.0)

-- ---- some rows, and then others

pub without_both : (xs ys : List ℤ) (rows : List Entry) → without_rows (xs ++ ys) rows ≡ without_rows ys (without_rows xs rows)
without_both [] ys rows = refl
without_both (x ∷ xs) ys rows = without_both xs ys (without_row x rows)

pub there_both : (xs ys : List ℤ) (rows : List Entry) → AreThere xs rows → AreThere ys (without_rows xs rows) → AreThere (xs ++ ys) rows
there_both [] ys rows first rest = rest
there_both (x ∷ xs) ys rows first rest = (first.0, there_both xs ys (without_row x rows) first.1 rest)

there_parts : (xs ys : List ℤ) (rows : List Entry) → AreThere (xs ++ ys) rows → AreThere xs rows × AreThere ys (without_rows xs rows)
there_parts [] ys rows there = (tt, there)
there_parts (x ∷ xs) ys rows there = let rest = there_parts xs ys (without_row x rows) there.1 in ((there.0, rest.0), rest.1)

module _ (old mid : PageMap) (size : ℕ) (xs ys : List ℤ) where
  pub takes_then : (new : PageMap) (result : Result ⊤ Fault) → TakesSchemaRows old mid size xs (Ok tt) → TakesSchemaRows mid new size ys result → TakesSchemaRows old new size (xs ++ ys) result
  takes_then new (Ok done) first rest rows used free stands there =
      let parts = there_parts xs ys rows there in
      let one = first rows used free stands parts.0 in
      subst (λ (rs : List Entry). BecomesRows old new size 1 rs used free) (sym (without_both xs ys rows))
      (both_becomes old mid new size (without_rows xs rows) (without_rows ys (without_rows xs rows)) used free one (rest (without_rows xs rows) one.now_used one.now_free one.stands parts.1))
  takes_then new (Err f) first rest rows used free stands there =
      let parts = there_parts xs ys rows there in
      let one = first rows used free stands parts.0 in rest (without_rows xs rows) one.now_used one.now_free one.stands parts.1

  pub takes_only : (f : Fault) (result : Result ⊤ Fault) → IsErrAnd result (λ e. e ≡ f) → TakesSchemaRows old mid size xs (Err f) → TakesSchemaRows old mid size (xs ++ ys) result
  takes_only f (Ok done) is first = absurd is
  takes_only f (Err e) is first = λ rows used free stands there. subst IsOutsideOrFull (sym is) (first rows used free stands (there_parts xs ys rows there).0)

-- ---- the rows of triggers

-- those of one trigger, where it is on the table or view, come before those of the others
pub rowids_first : (name : Name) (t : Trigger) (ts : List Trigger) → rowids_on name (t ∷ ts) ≡ rowids_on name (t ∷ []) ++ rowids_on name ts
rowids_first name t ts = by (is_on name t)
  where
    by : (b : Bool) → map (λ (t : Trigger). t.rowid) (cond b (t ∷ filter (is_on name) ts) (filter (is_on name) ts)) ≡ map (λ (t : Trigger). t.rowid) (cond b (t ∷ []) []) ++ rowids_on name ts
    by true = refl
    by false = refl

-- the rows of the triggers of a table or view are taken out
abbrev pub TakesTriggerRows : Name → PageMap → PageMap → ℕ → List (Rc Trigger Global) → Result ⊤ Fault → Type 0
TakesTriggerRows name old new size triggers result = TakesSchemaRows old new size (rowids_on name (shared triggers)) result

none_fresh : (a n : ℕ) → fresh a a n ≡ 0
none_fresh a n = grind (arith, common_steps)

-- and none
pub takes_none : (old : PageMap) (size : ℕ) → TakesSchemaRows old old size [] (Ok tt)
takes_none old size rows used free stands there = record {
  now_used = used;
  now_free = free;
  stands = stands;
  moves = record {
    longer = omega arith;
    counts = λ n. (let none = none_fresh (length old) n in omega (arith, none));
    keeps = λ n first last none. refl;
    whole = λ size whole. whole;
  };
  header = λ header is. (header.freelist_trunk, header.freelist_count, is);
}

-- one of another table or view stays
pub takes_not : (old : PageMap) (size : ℕ) (name : Name) (t : Trigger) → is_on name t ≡ false → TakesSchemaRows old old size (rowids_on name (t ∷ [])) (Ok tt)
takes_not old size name t other = subst (λ b. TakesSchemaRows old old size (map (λ (t : Trigger). t.rowid) (cond b (t ∷ []) [])) (Ok tt)) (sym other) (takes_none old size)

-- and one of this goes
pub takes_it : (old new : PageMap) (size : ℕ) (name : Name) (t : Trigger) → is_on name t ≡ true → (result : Result ⊤ Fault) → TakesSchemaRow old new size t.rowid result → TakesSchemaRows old new size (rowids_on name (t ∷ [])) result
takes_it old new size name t own (Ok done) takes =
    subst (λ b. TakesSchemaRows old new size (map (λ (t : Trigger). t.rowid) (cond b (t ∷ []) [])) (Ok done)) (sym own) (λ rows used free stands there. takes rows used free stands there.0)
takes_it old new size name t own (Err f) takes =
    subst (λ b. TakesSchemaRows old new size (map (λ (t : Trigger). t.rowid) (cond b (t ∷ []) [])) (Err f)) (sym own) (λ rows used free stands there. takes rows used free stands there.0)
