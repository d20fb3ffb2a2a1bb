-- The triggers that an event sets off, in the database and in the list.
use Rattle.std.proofs.Common.{◌≡◌, refl, sym, ap, subst, ◌∙◌, ℕ, ℤ, Bool, true, false, List, [], ◌∷◌, map, Some, None, cond}
use Rattle.std.specs.List.{Contains, cons_option, filter_map}
use Rattle.std.specs.Prelude.{◌&&◌, filter}
use Rattle.std.specs.Str.{bytes_eq}
use Rattle.std.specs.declared.alloc.Global.{Global}
use Rattle.std.specs.declared.rc.Rc.{Rc}
use Rattle.sqlval.specs.Lists.{sorted}
use Rattle.sqlval.specs.Names.{folded, is_same_name}
use Rattle.sqlval.specs.declared.value.Value.{Value}
use Rattle.sql_syntax.specs.declared.change.Change.{Change}
use Rattle.sql_syntax.specs.declared.create.TriggerDefinition.{TriggerDefinition}
use Rattle.sql_syntax.specs.declared.create.TriggerTime.{TriggerTime}
use Rattle.sql_syntax.specs.declared.create.TriggerTime.TheVariants.{Before, After, InsteadOf}
use Rattle.catalog.specs.Database.{Name, Database, ATable, AnIndex, AView, ATrigger, triggers_of}
use Rattle.catalog.specs.Listed.{Listed, is_on, shared}
use Rattle.catalog.specs.Named.{IsOfListed}
use Rattle.catalog.specs.declared.tables.Trigger.{Trigger}
use Rattle.catalog.proofs.NamedDatabases.{folded_twice}
use Rattle.row_change.specs.RowChanges.{Event, is_set_off}
use Rattle.trigger.specs.Binding.{Aim, aim_of, triggers_for}
use Rattle.trigger.specs.Triggers.{is_same_time, triggers_at}
use Rattle.trigger_bind.specs.Choosing.{by_name, is_at, is_set_off_by, named_definition}
use Rattle.trigger_bind.proofs.Among.{filter_from, filter_into, flat_from, flat_into, in_here, in_there, map_from, map_into, sorted_from, sorted_into}
use Rattle.trigger_bind.proofs.Gathered.{chosen, entry_order, listed_gathers, sorted_map, turned}
use Rattle.trigger_bind.proofs.Tests.{both_true, first_true, rest_true}

-- ---- those of a time

module _ (time : TriggerTime) (event : Event) (n : Name) where
  abbrev at_time : TriggerDefinition → Bool
  at_time d = is_same_time d.time time && is_set_off d.event event

  abbrev sel : TriggerDefinition → Bool
  sel d = is_same_name d.target n && at_time d

  at_is : (db : Database) → triggers_at time event db n ≡ filter_map (chosen sel) db
  at_is [] = refl
  at_is ((k, ATable t) ∷ es) = at_is es
  at_is ((k, AnIndex i) ∷ es) = at_is es
  at_is ((k, AView v) ∷ es) = at_is es
  at_is ((k, ATrigger d) ∷ es) = by (is_same_name d.target n) (at_is es)
    where
      by_time : (b : Bool) → filter (λ (t : Name × TriggerDefinition). at_time t.1) (triggers_of es n) ≡ filter_map (chosen sel) es
          → cond b ((k, d) ∷ filter (λ (t : Name × TriggerDefinition). at_time t.1) (triggers_of es n)) (filter (λ (t : Name × TriggerDefinition). at_time t.1) (triggers_of es n))
          ≡ cons_option (cond b (Some (k, d)) None) (filter_map (chosen sel) es)
      by_time true rest = ap (λ ts. (k, d) ∷ ts) rest
      by_time false rest = rest

      by : (b : Bool) → filter (λ (t : Name × TriggerDefinition). at_time t.1) (triggers_of es n) ≡ filter_map (chosen sel) es
          → filter (λ (t : Name × TriggerDefinition). at_time t.1) (cons_option (cond b (Some (k, d)) None) (triggers_of es n))
          ≡ cons_option (cond (b && at_time d) (Some (k, d)) None) (filter_map (chosen sel) es)
      by true rest = by_time (at_time d) rest
      by false rest = rest

  pub listed_at : (rows_at : ℕ → List (ℤ × List Value)) (l : Listed) (db : Database) → IsOfListed rows_at l db
      → triggers_at time event db n ≡ sorted entry_order (map named_definition (filter (λ t. sel t.definition) l.triggers))
  listed_at rows_at l db of = at_is db ∙ listed_gathers sel rows_at l db of

-- ---- those of a time, sorted

filter_same : {A : Type 0} (p q : A → Bool) (xs : List A) → ((x : A) → p x ≡ q x) → filter p xs ≡ filter q xs
filter_same p q [] h = refl
filter_same p q (x ∷ xs) h = ap (λ b. cond b (x ∷ filter p xs) (filter p xs)) (h x) ∙ ap (λ ys. cond (q x) (x ∷ ys) ys) (filter_same p q xs h)

swapped : (a b c : Bool) → (a && (b && c)) ≡ (b && (a && c))
swapped true b c = refl
swapped false true c = refl
swapped false false c = refl

same_test : (time : TriggerTime) (event : Event) (target : Name) (t : Trigger) → is_at time event target t ≡ sel time event (folded target) t.definition
same_test time event target t =
    swapped (is_same_time t.definition.time time) (is_on target t) (is_set_off t.definition.event event)
    ∙ ap (λ b. b && at_time time event (folded target) t.definition) (turned (folded target) (folded t.definition.target) ∙ ap (bytes_eq (folded t.definition.target)) (sym (folded_twice target)))

shared_names : (handles : List (Rc Trigger Global)) → map (λ h. named_definition h.value) handles ≡ map named_definition (shared handles)
shared_names [] = refl
shared_names (h ∷ hs) = ap (λ ns. named_definition h.value ∷ ns) (shared_names hs)

module _ (time : TriggerTime) (event : Event) (target : Name) (rows_at : ℕ → List (ℤ × List Value)) (l : Listed) (db : Database) (of : IsOfListed rows_at l db) where
  pub sorted_at : (found all after : List (Rc Trigger Global)) → shared all ≡ l.triggers → shared found ≡ filter (is_at time event target) (shared all)
      → after ≡ sorted (λ a b. by_name a.value b.value) found
      → map (λ h. named_definition h.value) after ≡ triggers_at time event db (folded target)
  sorted_at found all after listed chose order =
      ap (map (λ (h : Rc Trigger Global). named_definition h.value)) order
      ∙ sym (sorted_map (λ (h : Rc Trigger Global). named_definition h.value) entry_order found)
      ∙ ap (sorted entry_order) (shared_names found ∙ ap (map named_definition) (chose ∙ ap (filter (is_at time event target)) listed ∙ filter_same _ _ l.triggers (same_test time event target)))
      ∙ sym (listed_at time event (folded target) rows_at l db of)

-- ---- those of whatever time

one_time : (time : TriggerTime) → is_same_time time time ≡ true
one_time Before = refl
one_time After = refl
one_time InsteadOf = refl

abbrev times : List TriggerTime
times = Before ∷ InsteadOf ∷ After ∷ []

some_time : (time : TriggerTime) → Contains times time
some_time Before = in_here Before (InsteadOf ∷ After ∷ [])
some_time InsteadOf = in_there InsteadOf Before (InsteadOf ∷ After ∷ []) (in_here InsteadOf (After ∷ []))
some_time After = in_there After Before (InsteadOf ∷ After ∷ []) (in_there After InsteadOf (After ∷ []) (in_here After []))

pub at_some_time : (db : Database) (aim : Aim) (time : TriggerTime) (t : Name × TriggerDefinition) → Contains (triggers_at time aim.event db aim.target) t → Contains (triggers_for db aim) t
at_some_time db aim time t at = flat_into (λ w. triggers_at w aim.event db aim.target) t time times (some_time time) at

-- a trigger of the list that is set off by an event at a table or view
pub record IsListedFor (l : Listed) (aim : Aim) (e : Name × TriggerDefinition) : Type 0 where
  pub trigger : Trigger
  pub listed : Contains l.triggers trigger
  pub on : is_on aim.target trigger ≡ true
  pub meets : is_set_off trigger.definition.event aim.event ≡ true
  pub is : named_definition trigger ≡ e

module _ (rows_at : ℕ → List (ℤ × List Value)) (l : Listed) (db : Database) (of : IsOfListed rows_at l db) where
  pub from_database : (aim : Aim) (e : Name × TriggerDefinition) → Contains (triggers_for db aim) e → IsListedFor l aim e
  from_database aim e at =
      let (time, some, here) = flat_from (λ w. triggers_at w aim.event db aim.target) e times at in
      let among = sorted_from entry_order e (map named_definition (filter (λ t. sel time aim.event aim.target t.definition) l.triggers)) (subst (λ xs. Contains xs e) (listed_at time aim.event aim.target rows_at l db of) here) in
      let (t, t_among, t_is) = map_from named_definition e (filter (λ t. sel time aim.event aim.target t.definition) l.triggers) among in
      let (t_listed, passes) = filter_from (λ (t : Trigger). sel time aim.event aim.target t.definition) t l.triggers t_among in record {
        trigger = t;
        listed = t_listed;
        on = turned (folded aim.target) (folded t.definition.target) ∙ first_true (is_same_name t.definition.target aim.target) (at_time time aim.event aim.target t.definition) passes;
        meets = rest_true (is_same_time t.definition.time time) (is_set_off t.definition.event aim.event)
            (rest_true (is_same_name t.definition.target aim.target) (at_time time aim.event aim.target t.definition) passes);
        is = t_is;
      }

  pub from_list : (c : Change) (t : Trigger) → Contains l.triggers t → is_set_off_by c t ≡ true → Contains (triggers_for db (aim_of c)) (named_definition t)
  from_list c t at so = at_some_time db (aim_of c) t.definition.time (named_definition t) (subst (λ xs. Contains xs (named_definition t)) (sym (listed_at t.definition.time (aim_of c).event (aim_of c).target rows_at l db of))
      (sorted_into entry_order (named_definition t) (map named_definition those) (map_into named_definition t those (filter_into (λ (u : Trigger). sel t.definition.time (aim_of c).event (aim_of c).target u.definition) t l.triggers at passes))))
    where
      those : List Trigger
      those = filter (λ (u : Trigger). sel t.definition.time (aim_of c).event (aim_of c).target u.definition) l.triggers

      passes : sel t.definition.time (aim_of c).event (aim_of c).target t.definition ≡ true
      passes =
          both_true (is_same_name t.definition.target (aim_of c).target) (at_time t.definition.time (aim_of c).event (aim_of c).target t.definition)
          (turned (folded t.definition.target) (folded (aim_of c).target) ∙ first_true (is_on (aim_of c).target t) (is_set_off t.definition.event (aim_of c).event) so)
          (both_true (is_same_time t.definition.time t.definition.time) (is_set_off t.definition.event (aim_of c).event) (one_time t.definition.time) (rest_true (is_on (aim_of c).target t) (is_set_off t.definition.event (aim_of c).event) so))
