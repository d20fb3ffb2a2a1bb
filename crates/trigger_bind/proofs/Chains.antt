-- The refusals of names through a chain of triggers.
use Rattle.std.proofs.Common.{◌≡◌, ◌⊎◌, inl, inr, refl, sym, ap, subst, ◌∙◌, ℕ, ℤ, zero, suc, true, List, [], ◌∷◌, ◌++◌, map}
use Rattle.std.proofs.lemmas.Bool.{false≢true}
use Rattle.std.proofs.lemmas.List.Elements.{Contains-append_cases, Contains-append_left, Contains-append_right}
use Rattle.std.specs.List.{Contains}
use Rattle.std.specs.Prelude.{flat_map}
use Rattle.sqlval.specs.Names.{folded}
use Rattle.sqlval.specs.Refusals.{Refusal}
use Rattle.sqlval.specs.declared.value.Value.{Value}
use Rattle.sql_syntax.specs.declared.change.Change.{Change}
use Rattle.sql_syntax.specs.declared.change.Change.TheVariants.{Insert, Update, Delete}
use Rattle.sql_syntax.specs.declared.create.TriggerDefinition.{TriggerDefinition}
use Rattle.sql_syntax.specs.declared.create.TriggerStatement.{TriggerStatement}
use Rattle.sql_syntax.specs.declared.create.TriggerStatement.TheVariants as program
use Rattle.catalog.specs.Database.{Name, Database}
use Rattle.catalog.specs.Listed.{Listed, is_on}
use Rattle.catalog.specs.Named.{IsOfListed}
use Rattle.catalog.specs.declared.tables.Trigger.{Trigger}
use Rattle.query_names.specs.Checked.{Checked, Meant, also, both, faults, good, is_good, known_map, noted, ◌and_then◌}
use Rattle.query_names.specs.Queries.{resolve_filter}
use Rattle.query_names.specs.Scopes.{beside, source_of}
use Rattle.query_names.specs.Views.{look_up}
use Rattle.row_change.specs.Changes.{Deletes, Inserts, Outer, Updates, insert_places, no_outer, resolve_given, resolve_sets, wanted}
use Rattle.row_change.specs.RowChanges.{is_set_off}
use Rattle.trigger.specs.Binding.{IsFault, aim_of, faults_after, program_faults, program_scope, statement_faults, triggers_for, when_faults}
use Rattle.trigger_bind.specs.Choosing.{is_set_off_by, named_definition, sets_off_in, sets_off_within}
use Rattle.trigger_bind.specs.Programs.{HasTarget, aim_awaited, faults_within}
use Rattle.trigger_bind.proofs.Among.{any_from, any_of, flat_from, flat_into, none_left, not_in}
use Rattle.trigger_bind.proofs.Chosen.{from_database, from_list}
use Rattle.trigger_bind.proofs.Scopes.{same_look, same_scope, same_target}
use Rattle.trigger_bind.proofs.Tests.{both_true, first_true, rest_true}

-- ---- a change whose own names are known has a target that is

front_empty : {A : Type 0} (xs ys : List A) → xs ++ ys ≡ [] → xs ≡ []
front_empty [] ys h = refl
front_empty (x ∷ xs) ys h = absurd cc

then_good : {A B C : Type 0} (k : Checked A) (f : Checked A → Checked B) (g : B → Checked C) → faults ((noted k and_then f) and_then g) ≡ [] → is_good k ≡ true
then_good {B = B} {C = C} (Meant x rs) f g h = by (f (Meant x rs)) h
  where
    good_if : (rs : List Refusal) → rs ≡ [] → is_good (Meant x rs) ≡ true
    good_if [] e = refl
    good_if (r ∷ rs) e = absurd cc

    last : (y : B) (ss : List Refusal) (k : Checked C) → faults (also (rs ++ ss) k) ≡ [] → is_good (Meant x rs) ≡ true
    last y ss (Meant z ts) e = good_if rs (front_empty rs ss (front_empty (rs ++ ss) ts e))

    by : (k : Checked B) → faults (also rs k and_then g) ≡ [] → is_good (Meant x rs) ≡ true
    by (Meant y ss) e = last y ss (g y) e

-- the target of a change whose own names are known isn't refused
pub target_good : (db : Database) (outer : Outer) (c : Change) → faults_after 0 db outer c ≡ [] → is_good (look_up db (aim_of c).target) ≡ true
target_good db outer (Insert i) h = ap is_good (same_look db i.table) ∙ then_good (look_up db i.table) (λ k. good (source_of (folded i.table) k))
    (λ s. both (Inserts (folded i.table)) (insert_places s i.columns) (resolve_given db outer (wanted s i.columns) i.source)) h
target_good db outer (Update u) h = ap is_good (same_look db u.table) ∙ then_good (look_up db u.table) (λ k. good (source_of (folded u.table) k))
    (λ s. both (λ sets where'. Updates (folded u.table) sets (map (λ a. folded a.column) u.assignments) where') (resolve_sets (beside outer.scope (s.name ∷ []) ++ s ∷ []) s u.assignments)
    (resolve_filter (beside outer.scope (s.name ∷ []) ++ s ∷ []) u.condition)) h
target_good db outer (Delete d) h = ap is_good (same_look db d.table) ∙ then_good (look_up db d.table) (λ k. good (source_of (folded d.table) k))
    (λ s. known_map (Deletes (folded d.table)) (resolve_filter (beside outer.scope (s.name ∷ []) ++ s ∷ []) d.condition)) h

-- ---- one trigger further

module _ (rows_at : ℕ → List (ℤ × List Value)) (l : Listed) (db : Database) (of : IsOfListed rows_at l db) where
  -- what a trigger's program is refused for, a change is that sets it off
  pub one_further : (n : ℕ) (outer : Outer) (c : Change) (t : Trigger) (r : Refusal) → Contains l.triggers t → is_set_off_by c t ≡ true → Contains (faults_within n db t.definition) r → Contains (faults_after (suc n) db outer c) r
  one_further n outer c t r at so is =
      flat_into (λ (e : Name × TriggerDefinition). program_faults (faults_after n db) db (program_scope db (aim_of c)) e.1) r (named_definition t) (triggers_for db (aim_of c)) (from_list rows_at l db of c t at so)
      (subst (λ o. Contains (program_faults (faults_after n db) db o t.definition) r)
      (sym (same_scope db c t (first_true (is_on (aim_of c).target t) (is_set_off t.definition.event (aim_of c).event) so) (rest_true (is_on (aim_of c).target t) (is_set_off t.definition.event (aim_of c).event) so))) is)

  -- it is of a trigger's program that the change sets off
  pub record IsFurther (n : ℕ) (c : Change) (r : Refusal) : Type 0 where
    pub trigger : Trigger
    pub listed : Contains l.triggers trigger
    pub so : is_set_off_by c trigger ≡ true
    pub among : Contains (faults_within n db trigger.definition) r

  pub further : (n : ℕ) (outer : Outer) (c : Change) (r : Refusal) → Contains (faults_after (suc n) db outer c) r → IsFurther n c r
  further n outer c r is =
      let (e, at, here) = flat_from (λ (e : Name × TriggerDefinition). program_faults (faults_after n db) db (program_scope db (aim_of c)) e.1) r (triggers_for db (aim_of c)) is in
      let found = from_database rows_at l db of (aim_of c) e at in record {
        trigger = found.trigger;
        listed = found.listed;
        so = both_true (is_on (aim_of c).target found.trigger) (is_set_off found.trigger.definition.event (aim_of c).event) found.on found.meets;
        among = subst (λ o. Contains (program_faults (faults_after n db) db o found.trigger.definition) r) (same_scope db c found.trigger found.on found.meets)
            (subst (λ (x : Name × TriggerDefinition). Contains (program_faults (faults_after n db) db (program_scope db (aim_of c)) x.1) r) (sym found.is) here);
      }

  -- ---- a statement of a program whose own names are known

  abbrev scope_for : TriggerDefinition → Outer
  scope_for d = program_scope db (aim_awaited d)

  pub statement_known : (d : TriggerDefinition) (s : TriggerStatement) → faults_within 0 db d ≡ [] → Contains d.body s → statement_faults (faults_after 0 db) db (scope_for d) s ≡ []
  statement_known d s own at = none_left (statement_faults (faults_after 0 db) db (scope_for d) s) (λ r is. not_in r (faults_within 0 db d) own
      (Contains-append_right (when_faults (scope_for d) d.condition) (flat_map (statement_faults (faults_after 0 db) db (scope_for d)) d.body) r
      (flat_into (statement_faults (faults_after 0 db) db (scope_for d)) r s d.body at is)))

  -- ---- why a trigger is needed

  -- its table or view isn't refused, and each refusal of its program's names is one of the change's
  pub record Leads (c : Change) (d : TriggerDefinition) : Type 0 where
    pub target : HasTarget db d
    pub leads : (n : ℕ) (r : Refusal) → Contains (faults_within n db d) r → IsFault db c r

  good_target : (outer : Outer) (c : Change) (t : Trigger) → faults_after 0 db outer c ≡ [] → is_set_off_by c t ≡ true → HasTarget db t.definition
  good_target outer c t own so =
      record { good = subst (λ n. is_good (look_up db n) ≡ true) (same_target c t (first_true (is_on (aim_of c).target t) (is_set_off t.definition.event (aim_of c).event) so)) (target_good db outer c own) }

  pub leads_first : (c : Change) (t : Trigger) → faults_after 0 db no_outer c ≡ [] → Contains l.triggers t → is_set_off_by c t ≡ true → Leads c t.definition
  leads_first c t own at so = record { target = good_target no_outer c t own so; leads = λ n r is. (suc n, one_further n no_outer c t r at so is) }

  pub leads_next : (c : Change) (d : TriggerDefinition) (t : Trigger) → Leads c d → faults_within 0 db d ≡ [] → Contains l.triggers t → sets_off_within d.body t ≡ true → Leads c t.definition
  leads_next c d t by own at so = (let (s, s_at, s_so) = any_from (λ (s : TriggerStatement). sets_off_in s t) d.body so in go s s_at s_so)
    where
      go : (s : TriggerStatement) → Contains d.body s → sets_off_in s t ≡ true → Leads c t.definition
      go (program.Select q) s_at s_so = absurd (false≢true s_so)
      go (program.Change b) s_at s_so = record {
        target = good_target (scope_for d) b t (statement_known d (program.Change b) own s_at) s_so;
        leads = λ n r is. by.leads (suc n) r
            (Contains-append_right (when_faults (scope_for d) d.condition) (flat_map (statement_faults (faults_after (suc n) db) db (scope_for d)) d.body) r
            (flat_into (statement_faults (faults_after (suc n) db) db (scope_for d)) r (program.Change b) d.body s_at (one_further n (scope_for d) b t r at s_so is)));
      }

  -- ---- where the names of all that is needed are known, none is refused

  -- its own names are known, and what it sets off is needed
  pub record IsClosed (Has : Trigger → Type 0) (d : TriggerDefinition) : Type 0 where
    pub own : faults_within 0 db d ≡ []
    pub needs : (t : Trigger) → Contains l.triggers t → sets_off_within d.body t ≡ true → Has t

  module _ (Has : Trigger → Type 0) (closed : (t : Trigger) → Contains l.triggers t → Has t → IsClosed Has t.definition) where
    abbrev Known : ℕ → Type 0
    Known n = (t : Trigger) (r : Refusal) → Contains l.triggers t → Has t → Contains (faults_within n db t.definition) r → ⊥

    -- a statement of a program that is needed, after one trigger more
    statement_next : (n : ℕ) → Known n → (t : Trigger) (r : Refusal) → IsClosed Has t.definition → (s : TriggerStatement) → Contains t.definition.body s
        → Contains (statement_faults (faults_after (suc n) db) db (scope_for t.definition) s) r → ⊥
    statement_next n known t r closed (program.Select q) at here = not_in r (statement_faults (faults_after 0 db) db (scope_for t.definition) (program.Select q)) (statement_known t.definition (program.Select q) closed.own at) here
    statement_next n known t r closed (program.Change b) at here =
        let f = further n (scope_for t.definition) b r here in
        known f.trigger r f.listed (closed.needs f.trigger f.listed (any_of (λ (s : TriggerStatement). sets_off_in s f.trigger) (program.Change b) t.definition.body at f.so)) f.among

    known_next : (n : ℕ) → Known n → (t : Trigger) (r : Refusal) → IsClosed Has t.definition
        → Contains (when_faults (scope_for t.definition) t.definition.condition) r ⊎ Contains (flat_map (statement_faults (faults_after (suc n) db) db (scope_for t.definition)) t.definition.body) r → ⊥
    known_next n known t r closed (inl when) = not_in r (faults_within 0 db t.definition) closed.own
        (Contains-append_left (when_faults (scope_for t.definition) t.definition.condition) (flat_map (statement_faults (faults_after 0 db) db (scope_for t.definition)) t.definition.body) r when)
    known_next n known t r closed (inr body) =
        let (s, s_at, here) = flat_from (statement_faults (faults_after (suc n) db) db (scope_for t.definition)) r t.definition.body body in statement_next n known t r closed s s_at here

    all_known : (n : ℕ) → Known n
    all_known zero t r at has is = not_in r (faults_within 0 db t.definition) (closed t at has).own is
    all_known (suc n) t r at has is =
        known_next n (all_known n) t r (closed t at has)
        (Contains-append_cases (when_faults (scope_for t.definition) t.definition.condition) (flat_map (statement_faults (faults_after (suc n) db) db (scope_for t.definition)) t.definition.body) r is)

    pub no_fault : (c : Change) → faults_after 0 db no_outer c ≡ [] → ((t : Trigger) → Contains l.triggers t → is_set_off_by c t ≡ true → Has t) → (r : Refusal) → IsFault db c r → ⊥
    no_fault c own first r (zero, is) = not_in r (faults_after 0 db no_outer c) own is
    no_fault c own first r (suc n, is) = (let f = further n no_outer c r is in all_known n f.trigger r f.listed (first f.trigger f.listed f.so) f.among)
