-- Rows of the schema table that stand after those that they belong to.
use Rattle.std.proofs.Common.{◌≡◌, refl, sym, ap, subst, ◌∙◌, ℤ, ◌<ℤ◌, Bool, true, false, cond, List, [], ◌∷◌, ◌++◌, Option, None, Some}
use Rattle.std.proofs.lemmas.Bool.{false≢true}
use Rattle.std.specs.List.{AllByRecursion, find}
use Rattle.std.specs.Prelude.{IfOk, Result, Ok, Err}
use Rattle.sqlval.specs.Names.{is_same_name}
use Rattle.sqlval.specs.declared.fault.Fault.{Fault}
use Rattle.sql_syntax.specs.declared.create.TriggerDefinition.{TriggerDefinition}
use Rattle.catalog.specs.Database.{Name}
use Rattle.catalog.specs.Listed.{Listed, is_name_of, is_table, table_named, view_named, with_replaced}
use Rattle.catalog.specs.NewIndexes.{replacing, with_index}
use Rattle.catalog.specs.NewViews.{with_trigger}
use Rattle.catalog.specs.declared.tables.Index.{Index}
use Rattle.catalog.specs.declared.tables.Table.{Table}
use Rattle.catalog.specs.declared.tables.Trigger.{Trigger}
use Rattle.catalog.specs.declared.tables.View.{View}
use Rattle.query_bind.specs.Triggers.{FitsTarget, target_among}
use Rattle.executor.specs.Listing.{AreAfter, AreIndexesAfter, StandsAfter, IsTriggerAfter, row_among, target_row}
use Rattle.executor.proofs.Creations.{more, no_table}
use Rattle.executor.proofs.Owners.{found_among, one_of}
use Rattle.executor.proofs.Replacing.{folded_same, found_in_place, not_same, same_folded}
use Rattle.executor.proofs.Targets.{has_target, named_as, no_view, view_named_as}

-- ---- lists

one_found : {A : Type 0} (P : A → Type 0) (p : A → Bool) (xs : List A) (x : A) → find p xs ≡ Some x → AllByRecursion P xs → P x
one_found P p xs x found all = let a = found_among p xs x found in one_of P a.front x a.back (subst (AllByRecursion P) a.parts all)

at_end : {A : Type 0} (P : A → Type 0) (xs : List A) (x : A) → AllByRecursion P xs → P x → AllByRecursion P (xs ++ x ∷ [])
at_end P [] x all is = (is, tt)
at_end P (y ∷ ys) x all is = (all.0, at_end P ys x all.1 is)

each_still : {A : Type 0} (P Q : A → Type 0) (xs : List A) → ((x : A) → P x → Q x) → AllByRecursion P xs → AllByRecursion Q xs
each_still P Q [] still all = tt
each_still P Q (x ∷ xs) still all = (still x all.0, each_still P Q xs still all.1)

all_replaced : (P : Table → Type 0) (u : Table) (ts : List Table) → P u → AllByRecursion P ts → AllByRecursion P (with_replaced u ts)
all_replaced P u [] is all = tt
all_replaced P u (t ∷ ts) is all = by (is_same_name t.name u.name) (all_replaced P u ts is all.1)
  where
    by : (b : Bool) → AllByRecursion P (with_replaced u ts) → AllByRecursion P (cond b u t ∷ with_replaced u ts)
    by true rest = (is, rest)
    by false rest = (all.0, rest)

-- ---- a table in the place of another

-- a name that isn't its own finds what it found
elsewhere : (u : Table) (name : Name) (ts : List Table) → is_same_name u.name name ≡ false → table_named name (with_replaced u ts) ≡ table_named name ts
elsewhere u name [] other = refl
elsewhere u name (t ∷ ts) other = by (is_same_name t.name u.name) refl (elsewhere u name ts other)
  where
    by : (b : Bool) → is_same_name t.name u.name ≡ b → table_named name (with_replaced u ts) ≡ table_named name ts
        → table_named name (cond b u t ∷ with_replaced u ts) ≡ cond (is_same_name t.name name) (Some t) (table_named name ts)
    by true is rest =
        ap (λ (b : Bool). cond b (Some u) (table_named name (with_replaced u ts))) other
        ∙ (rest ∙ ap (λ (b : Bool). cond b (Some t) (table_named name ts)) (sym (not_same t.name name (λ e. false≢true (sym other ∙ folded_same u.name name (sym (same_folded t.name u.name is) ∙ e))))))
    by false is rest = ap (λ (o : Option Table). cond (is_same_name t.name name) (Some t) o) rest

-- its row stands where the other's stood
same_row : (u t : Table) (name : Name) (ts : List Table) (v : Option View) → u.name ≡ t.name → u.rowid ≡ t.rowid → table_named t.name ts ≡ Some t
    → row_among (table_named name (with_replaced u ts)) v ≡ row_among (table_named name ts) v
same_row u t name ts v called rowid named = by (is_same_name t.name name) refl
  where
    by : (b : Bool) → is_same_name t.name name ≡ b → row_among (table_named name (with_replaced u ts)) v ≡ row_among (table_named name ts) v
    by true is =
        let same = sym (same_folded t.name name is) in
        ap (λ (o : Option Table). row_among o v) (named_as (with_replaced u ts) name t.name same ∙ found_in_place t u called ts named)
        ∙ (ap (λ (z : ℤ). Some z) rowid ∙ ap (λ (o : Option Table). row_among o v) (sym (named_as ts name t.name same ∙ named)))
    by false is = ap (λ (o : Option Table). row_among o v) (elsewhere u name ts (subst (λ (n : Name). is_same_name n name ≡ false) (sym called) is))

-- ---- one more

-- an index whose row stands after that of its table
pub index_after : (l : Listed) (t : Table) (i : Index) → table_named t.name l.tables ≡ Some t → t.rowid <ℤ i.rowid → AreAfter l → AreAfter (replacing (with_index i t) l)
index_after l t i named after are = record {
  indexes = all_replaced AreIndexesAfter (with_index i t) l.tables
      (at_end (λ (j : Index). t.rowid <ℤ j.rowid) t.indexes i (one_found AreIndexesAfter (is_table t.name) l.tables t named are.indexes) after) are.indexes;
  triggers = each_still (IsTriggerAfter l) (IsTriggerAfter (replacing (with_index i t) l)) l.triggers
      (λ g is. subst (λ (o : Option ℤ). StandsAfter o g.rowid)
      (sym (same_row (with_index i t) t g.definition.target l.tables (view_named g.definition.target l.views) refl refl named)) is) are.triggers;
}

-- a trigger whose row stands after that of what it is on
pub trigger_after : (l : Listed) (g : Trigger) → IsTriggerAfter l g → AreAfter l → AreAfter (with_trigger g l)
trigger_after l g is are = record { indexes = are.indexes; triggers = at_end (IsTriggerAfter l) l.triggers g are.triggers is }

-- a table of a new name without indexes
pub table_after : (l : Listed) (t : Table) → t.indexes ≡ [] → is_name_of l t.name ≡ false → AreAfter l → AreAfter (more l t)
table_after l t bare new are = record {
  indexes = (subst (λ (is : List Index). AllByRecursion (λ (i : Index). t.rowid <ℤ i.rowid) is) (sym bare) tt, are.indexes);
  triggers = each_still (IsTriggerAfter l) (IsTriggerAfter (more l t)) l.triggers (λ g is. by g is (is_table g.definition.target t) refl) are.triggers;
}
  where
    none : (name : Name) → is_table name t ≡ true → target_row l name ≡ None
    none name is =
        let same = sym (same_folded t.name name is) in
        ap (λ (o : Option Table). row_among o (view_named name l.views)) (named_as l.tables name t.name same ∙ no_table l t.name new)
        ∙ ap (λ (v : Option View). row_among None v) (view_named_as l.views name t.name same ∙ no_view l t.name new)

    by : (g : Trigger) → IsTriggerAfter l g → (b : Bool) → is_table g.definition.target t ≡ b → IsTriggerAfter (more l t) g
    by g is true on = absurd (subst (λ (o : Option ℤ). StandsAfter o g.rowid) (none g.definition.target on) is)
    by g is false on =
        subst (λ (b : Bool). StandsAfter (row_among (cond b (Some t) (table_named g.definition.target l.tables)) (view_named g.definition.target l.views)) g.rowid) (sym on) is

-- what holds of a call's answer, in other words
pub ok_still : {X : Type 0} (P Q : X → Type 0) (r : Result X Fault) → IfOk r P → ((x : X) → P x → Q x) → IfOk r Q
ok_still P Q (Ok x) is still = still x is
ok_still P Q (Err f) is still = tt

-- ---- what a trigger is on

-- what fits a listed table or view stands after its row, where it stands after what was found of it
pub stands_after : (l : Listed) (d : TriggerDefinition) (first rowid : ℤ) → FitsTarget l d → ((z : ℤ) → target_row l d.target ≡ Some z → first ≡ z) → first <ℤ rowid → StandsAfter (target_row l d.target) rowid
stands_after l d first rowid fits is after = by (target_row l d.target) refl
  where
    neither : (t : Option Table) (v : Option View) → row_among t v ≡ None → target_among t v ≡ None
    neither (Some t) v e = absurd cc
    neither None (Some v) e = absurd cc
    neither None None e = refl

    by : (o : Option ℤ) → target_row l d.target ≡ o → StandsAfter o rowid
    by (Some z) e = subst (λ (y : ℤ). y <ℤ rowid) (is z e) after
    by None e = absurd (has_target l d fits (neither (table_named d.target l.tables) (view_named d.target l.views) e))
