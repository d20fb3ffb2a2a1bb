-- The tables and views that triggers are on, as other objects come and go.
use Rattle.std.proofs.Common.{◌≡◌, refl, sym, ap, subst, ◌∙◌, Bool, true, false, not, ◌||◌, cond, filter, List, [], ◌∷◌, ◌++◌, Option, None, Some}
use Rattle.std.proofs.lemmas.Bool.{false≢true}
use Rattle.std.specs.List.{AllByRecursion, find, list_any}
use Rattle.std.specs.Prelude.{bytes_eq}
use Rattle.sqlval.specs.Names.{folded, is_same_name}
use Rattle.sqlval.specs.Refusals.{NoSuch, Refusal}
use Rattle.sql_syntax.specs.declared.create.TriggerDefinition.{TriggerDefinition}
use Rattle.catalog.specs.Database.{ATable, ATrigger, AView, Name, Object}
use Rattle.catalog.specs.Database as database
use Rattle.catalog.specs.Listed.{Listed, as_view, has_table_name, is_name_of, is_on, is_table, is_trigger, is_view, table_named, view_named, with_rows, without_table, without_triggers_on, without_view}
use Rattle.catalog.specs.Named.{less_table}
use Rattle.catalog.specs.NewViews.{less_view, with_view}
use Rattle.catalog.specs.declared.tables.Table.{Table}
use Rattle.catalog.specs.declared.tables.Trigger.{Trigger}
use Rattle.catalog.specs.declared.tables.View.{View}
use Rattle.query_names.specs.Checked.{Checked, bad, faults, good}
use Rattle.query_names.specs.Schema.{trigger_made}
use Rattle.query_bind.specs.Triggers.{FitsTarget, target_among}
use Rattle.executor.proofs.FoundTables.{neither}
use Rattle.executor.proofs.Replacing.{folded_same, not_same, same_folded}

-- each of these triggers fits a listed table or view
abbrev pub AreFit : Listed → List Trigger → Type 0
AreFit l triggers = AllByRecursion (λ t. FitsTarget l t.definition) triggers

-- the table or view of a name
abbrev pub target_of : Listed → Name → Option Object
target_of l name = target_among (table_named name l.tables) (view_named name l.views)

-- ---- what a trigger is on is there

no_item : (r : Refusal) → r ∷ [] ≡ [] → ⊥
no_item r e = absurd cc

pub has_target : (l : Listed) (d : TriggerDefinition) → FitsTarget l d → target_of l d.target ≡ None → ⊥
has_target l d fits none = no_item NoSuch (ap faults (sym (ap (λ (o : Option Object). trigger_made o d) none) ∙ fits))

pub named_as : (tables : List Table) (a b : Name) → folded a ≡ folded b → table_named a tables ≡ table_named b tables
named_as tables a b e = ap (λ n. find (λ (t : Table). bytes_eq (folded t.name) n) tables) e

pub view_named_as : (views : List View) (a b : Name) → folded a ≡ folded b → view_named a views ≡ view_named b views
view_named_as views a b e = ap (λ n. find (λ (v : View). bytes_eq (folded v.definition.name) n) views) e

-- a name that is no table's and no view's
pub no_target : (l : Listed) (n name : Name) → table_named n l.tables ≡ None → view_named n l.views ≡ None → folded name ≡ folded n → target_of l name ≡ None
no_target l n name none and same =
    ap (λ (t : Option Table). target_among t (view_named name l.views)) (named_as l.tables name n same ∙ none)
    ∙ ap (λ (v : Option View). target_among None v) (view_named_as l.views name n same ∙ and)

-- is that of no trigger's table or view
pub none_on : (l : Listed) (n : Name) (ts : List Trigger) → table_named n l.tables ≡ None → view_named n l.views ≡ None → AreFit l ts → list_any (is_on n) ts ≡ false
none_on l n [] none and fit = refl
none_on l n (t ∷ ts) none and fit = by (is_on n t) refl (none_on l n ts none and fit.1)
  where
    by : (b : Bool) → is_on n t ≡ b → list_any (is_on n) ts ≡ false → (b || list_any (is_on n) ts) ≡ false
    by false is rest = rest
    by true is rest = absurd (has_target l t.definition fit.0 (no_target l n t.definition.target none and (sym (same_folded n t.definition.target is))))

-- ---- triggers that stay

-- all of them
pub all_fit : (l m : Listed) (ts : List Trigger) → ((d : TriggerDefinition) → FitsTarget l d → FitsTarget m d) → AreFit l ts → AreFit m ts
all_fit l m [] still fit = tt
all_fit l m (t ∷ ts) still fit = (still t.definition fit.0, all_fit l m ts still fit.1)

-- those for which a test holds
pub some_fit : (p : Trigger → Bool) (l m : Listed) (ts : List Trigger) → ((t : Trigger) → p t ≡ true → FitsTarget l t.definition → FitsTarget m t.definition) → AreFit l ts → AreFit m (filter p ts)
some_fit p l m [] still fit = tt
some_fit p l m (t ∷ ts) still fit = by (p t) refl (some_fit p l m ts still fit.1)
  where
    by : (b : Bool) → p t ≡ b → AreFit m (filter p ts) → AreFit m (cond b (t ∷ filter p ts) (filter p ts))
    by true is rest = (still t is fit.0, rest)
    by false is rest = rest

-- and one more
pub one_more_fits : (l : Listed) (ts : List Trigger) (t : Trigger) → AreFit l ts → FitsTarget l t.definition → AreFit l (ts ++ t ∷ [])
one_more_fits l [] t fit is = (is, tt)
one_more_fits l (u ∷ ts) t fit is = (fit.0, one_more_fits l ts t fit.1 is)

-- where the table or view is what it was
same_fits : (l m : Listed) (d : TriggerDefinition) → target_of m d.target ≡ target_of l d.target → FitsTarget l d → FitsTarget m d
same_fits l m d same fits = ap (λ (o : Option Object). trigger_made o d) same ∙ fits

-- ---- one that goes

still_found : {A : Type 0} (own : A → Name) (n name : Name) (xs : List A) → is_same_name n name ≡ false
    → find (λ x. is_same_name (own x) name) (filter (λ x. not (is_same_name (own x) n)) xs) ≡ find (λ x. is_same_name (own x) name) xs
still_found own n name [] other = refl
still_found {A} own n name (x ∷ xs) other = by (is_same_name (own x) n) refl (still_found own n name xs other)
  where
    by : (b : Bool) → is_same_name (own x) n ≡ b
        → find (λ x. is_same_name (own x) name) (filter (λ x. not (is_same_name (own x) n)) xs) ≡ find (λ x. is_same_name (own x) name) xs
        → find (λ x. is_same_name (own x) name) (cond (not b) (x ∷ filter (λ x. not (is_same_name (own x) n)) xs) (filter (λ x. not (is_same_name (own x) n)) xs))
        ≡ cond (is_same_name (own x) name) (Some x) (find (λ x. is_same_name (own x) name) xs)
    by false is rest = ap (λ (o : Option A). cond (is_same_name (own x) name) (Some x) o) rest
    by true is rest = rest ∙ ap (λ b. cond b (Some x) (find (λ (x : A). is_same_name (own x) name) xs)) (sym (not_same (own x) name (λ e. false≢true (sym other ∙ folded_same n name (sym (same_folded (own x) n is) ∙ e)))))

not_true : (b : Bool) → not b ≡ true → b ≡ false
not_true false h = refl
not_true true h = absurd (false≢true h)

-- where a table goes, so do its triggers
pub fit_without_table : (n : Name) (l : Listed) → AreFit l l.triggers → AreFit (less_table n l) (less_table n l).triggers
fit_without_table n l fit =
    some_fit (λ t. not (is_on n t)) l (less_table n l) l.triggers
    (λ t on fits. same_fits l (less_table n l) t.definition
    (ap (λ (o : Option Table). target_among o (view_named t.definition.target l.views)) (still_found (λ (u : Table). u.name) n t.definition.target l.tables (not_true (is_on n t) on))) fits) fit

-- and where a view goes
pub fit_without_view : (n : Name) (l : Listed) → AreFit l l.triggers → AreFit (less_view n l) (less_view n l).triggers
fit_without_view n l fit =
    some_fit (λ t. not (is_on n t)) l (less_view n l) l.triggers
    (λ t on fits. same_fits l (less_view n l) t.definition
    (ap (λ (o : Option View). target_among (table_named t.definition.target l.tables) o) (still_found (λ (v : View). v.definition.name) n t.definition.target l.views (not_true (is_on n t) on))) fits) fit

-- ---- one that comes

none_named : (n : Name) (views : List View) → list_any (is_view n) views ≡ false → view_named n views ≡ None
none_named n [] none = refl
none_named n (v ∷ vs) none =
    let both = neither (is_view n v) (list_any (is_view n) vs) none in ap (λ b. cond b (Some v) (view_named n vs)) both.0 ∙ none_named n vs both.1

-- no view has a name that is new
pub no_view : (l : Listed) (n : Name) → is_name_of l n ≡ false → view_named n l.views ≡ None
no_view l n new =
    none_named n l.views
    (neither (list_any (is_view n) l.views) (list_any (is_trigger n) l.triggers)
    (neither (list_any (has_table_name n) l.tables) (list_any (is_view n) l.views || list_any (is_trigger n) l.triggers) new).1).0

-- a table of a new name, before the others
pub fit_with_table : (l : Listed) (t : Table) → table_named t.name l.tables ≡ None → view_named t.name l.views ≡ None → AreFit l l.triggers → AreFit (record l { tables = t ∷ l.tables }) l.triggers
fit_with_table l t none and fit = all_fit l (record l { tables = t ∷ l.tables }) l.triggers (λ d fits. by d fits (is_table d.target t) refl) fit
  where
    by : (d : TriggerDefinition) → FitsTarget l d → (b : Bool) → is_table d.target t ≡ b → FitsTarget (record l { tables = t ∷ l.tables }) d
    by d fits true is = absurd (has_target l d fits (no_target l t.name d.target none and (sym (same_folded t.name d.target is))))
    by d fits false is = same_fits l (record l { tables = t ∷ l.tables }) d
        (ap (λ (b : Bool). target_among (cond b (Some t) (table_named d.target l.tables)) (view_named d.target l.views)) is) fits

view_among : (name : Name) (views : List View) (v w : View) → view_named name views ≡ Some w → view_named name (views ++ v ∷ []) ≡ Some w
view_among name [] v w found = absurd cc
view_among name (u ∷ us) v w found = by (is_view name u) found (view_among name us v w)
  where
    by : (b : Bool) → cond b (Some u) (view_named name us) ≡ Some w → (view_named name us ≡ Some w → view_named name (us ++ v ∷ []) ≡ Some w) → cond b (Some u) (view_named name (us ++ v ∷ [])) ≡ Some w
    by true found rest = found
    by false found rest = rest found

-- a view, after the others
pub fit_with_view : (l : Listed) (v : View) → AreFit l l.triggers → AreFit (with_view v l) l.triggers
fit_with_view l v fit = all_fit l (with_view v l) l.triggers (λ d fits. same_fits l (with_view v l) d (same d fits (table_named d.target l.tables) (view_named d.target l.views) refl refl) fits) fit
  where
    same : (d : TriggerDefinition) → FitsTarget l d → (t : Option Table) (w : Option View) → table_named d.target l.tables ≡ t → view_named d.target l.views ≡ w
        → target_among (table_named d.target l.tables) (view_named d.target (l.views ++ v ∷ [])) ≡ target_among (table_named d.target l.tables) (view_named d.target l.views)
    same d fits (Some t) w is seen =
        ap (λ (o : Option Table). target_among o (view_named d.target (l.views ++ v ∷ []))) is ∙ ap (λ (o : Option Table). target_among o (view_named d.target l.views)) (sym is)
    same d fits None (Some w) is seen = ap (target_among (table_named d.target l.tables)) (view_among d.target l.views v w seen ∙ sym seen)
    same d fits None None is seen =
        absurd (has_target l d fits (ap (λ (o : Option Table). target_among o (view_named d.target l.views)) is ∙ ap (λ (o : Option View). target_among None o) seen))

-- ---- a table with other indexes

same_between : (name : Name) (before : List Table) (t u : Table) (after : List Table) (v : Option View) → u.name ≡ t.name → with_rows u [] ≡ with_rows t []
    → target_among (table_named name (before ++ u ∷ after)) v ≡ target_among (table_named name (before ++ t ∷ after)) v
same_between name [] t u after v called alike =
    ap (λ (n : Name). target_among (cond (is_same_name n name) (Some u) (table_named name after)) v) called ∙ by (is_table name t)
  where
    by : (b : Bool) → target_among (cond b (Some u) (table_named name after)) v ≡ target_among (cond b (Some t) (table_named name after)) v
    by true = ap (λ (x : database.Table). Some (ATable x)) alike
    by false = refl
same_between name (w ∷ before) t u after v called alike = by (is_table name w) (same_between name before t u after v called alike)
  where
    by : (b : Bool) → target_among (table_named name (before ++ u ∷ after)) v ≡ target_among (table_named name (before ++ t ∷ after)) v
        → target_among (cond b (Some w) (table_named name (before ++ u ∷ after))) v ≡ target_among (cond b (Some w) (table_named name (before ++ t ∷ after))) v
    by true rest = refl
    by false rest = rest

-- in the place of a table stands one of its name and columns
pub fit_with_other : (l : Listed) (before : List Table) (t u : Table) (after : List Table) → l.tables ≡ before ++ t ∷ after → u.name ≡ t.name → with_rows u [] ≡ with_rows t [] → AreFit l l.triggers
    → AreFit (record l { tables = before ++ u ∷ after }) l.triggers
fit_with_other l before t u after parts called alike fit =
    all_fit l (record l { tables = before ++ u ∷ after }) l.triggers
    (λ d fits. same_fits l (record l { tables = before ++ u ∷ after }) d
    (same_between d.target before t u after (view_named d.target l.views) called alike
    ∙ ap (λ (ts : List Table). target_among (table_named d.target ts) (view_named d.target l.views)) (sym parts)) fits) fit
