-- One trigger: whether it runs, and with which room.
use Rattle.std.proofs.Common.{◌≡◌, refl, sym, ap, subst, ◌∙◌, ℕ, zero, suc, ◌-◌, Bool, true, false, ◌||◌, List, [], ◌∷◌, ◌++◌, map, Ok, Err, inl, inr, arith}
use Rattle.std.proofs.lemmas.Slice.Eq.{bytes_eq-Decides}
use Rattle.std.specs.Prelude.{Result, ⊤, reverse, if◌then◌else◌}
use Rattle.std.specs.List.{list_any}
use Rattle.std.specs.Str.{bytes_eq}
use Rattle.std.specs.declared.alloc.Global.{Global}
use Rattle.std.specs.declared.rc.Rc.{Rc}
use Rattle.std.proofs.lemmas.Bool.{false≢true}
use Rattle.std.proofs.lemmas.List.{map-append, reverse-append}
use Rattle.std.proofs.lemmas.List.Folds.{list_any-append}
use Rattle.sqlval.specs.Names.{folded, is_same_name}
use Rattle.sqlval.specs.Refusals.{Answer, Refusal, ◌then◌, TooLong, refusal_of}
use Rattle.sqlval.specs.declared.fault.Fault.{Fault}
use Rattle.sql_syntax.specs.declared.create.TriggerDefinition.{TriggerDefinition}
use Rattle.sql_syntax.specs.declared.create.TriggerStatement.{TriggerStatement}
use Rattle.pages.specs.Map.{PageMap}
use Rattle.catalog.specs.Database.{Database, Name}
use Rattle.catalog.specs.Listed.{Listed, is_shared_trigger, shared}
use Rattle.catalog.specs.declared.tables.Trigger.{Trigger}
use Rattle.query_names.proofs.ColumnNames.{folded_twice}
use Rattle.query_terms.specs.Outcome.{IsRefusedBy}
use Rattle.row_change.specs.Changes.{Outer}
use Rattle.trigger.specs.Binding.{when_faults}
use Rattle.trigger.specs.Effects.{programs}
use Rattle.trigger.specs.Triggers.{Runner, run_trigger, when_holds}
use Rattle.trigger_bind.specs.Choosing.{named_definition}
use Rattle.executor_programs.specs.Running.{IsRunRefusal, Runs, running_names}
use Rattle.executor_programs.proofs.Folding.{RunsTo}

-- ---- names

swap : (a b : Bool) → (a || (b || false)) ≡ (b || a)
swap true true = refl
swap true false = refl
swap false true = refl
swap false false = refl

pub any_reverse : {A : Type 0} (p : A → Bool) (xs : List A) → list_any p (reverse xs) ≡ list_any p xs
any_reverse p [] = refl
any_reverse p (x ∷ xs) =
    ap (list_any p) (reverse-append (x ∷ []) xs) ∙ (list_any-append p (reverse xs) (x ∷ []) ∙ (swap (list_any p (reverse xs)) (p x) ∙ ap (λ b. p x || b) (any_reverse p xs)))

any_of_map : {A B : Type 0} (p : B → Bool) (f : A → B) (xs : List A) → list_any p (map f xs) ≡ list_any (λ x. p (f x)) xs
any_of_map p f [] = refl
any_of_map p f (x ∷ xs) = ap (λ b. p (f x) || b) (any_of_map p f xs)

any_same : {A : Type 0} (p q : A → Bool) (xs : List A) → ((x : A) → p x ≡ q x) → list_any p xs ≡ list_any q xs
any_same p q [] same = refl
any_same p q (x ∷ xs) same = ap (λ (b : Bool). b || list_any p xs) (same x) ∙ ap (λ (b : Bool). q x || b) (any_same p q xs same)

both_folded : (a b : Name) → is_same_name a b ≡ is_same_name (folded a) (folded b)
both_folded a b = ap (λ (n : Name). bytes_eq n (folded b)) (sym (folded_twice a)) ∙ ap (bytes_eq (folded (folded a))) (sym (folded_twice b))

same_other : (a b : Name) (t : Bool) → bytes_eq a b ≡ t → t ≡ bytes_eq b a
same_other a b true e = sym ((bytes_eq-Decides b a).1 (sym ((bytes_eq-Decides a b).0 e)))
same_other a b false e = by (bytes_eq b a) refl
  where
    by : (t : Bool) → bytes_eq b a ≡ t → false ≡ t
    by false h = refl
    by true h = absurd (false≢true (sym e ∙ (bytes_eq-Decides a b).1 (sym ((bytes_eq-Decides b a).0 h))))

turned : (a b : Name) → is_same_name a b ≡ is_same_name b a
turned a b = same_other (folded a) (folded b) (bytes_eq (folded a) (folded b)) refl

-- the triggers that run, by their folded names
pub is_running_now : (running : List (Rc Trigger Global)) (slice : List (Rc Trigger Global)) (b : Bool) (n m : Name) → b ≡ list_any (is_shared_trigger m) slice → slice ≡ running → m ≡ n
    → list_any (is_same_name (folded n)) (running_names running) ≡ b
is_running_now running slice b n m is same named =
    any_of_map (is_same_name (folded n)) (λ (t : Trigger). folded t.definition.name) (reverse (shared running))
    ∙ (any_reverse (λ (t : Trigger). is_same_name (folded n) (folded t.definition.name)) (shared running)
    ∙ (any_of_map (λ (t : Trigger). is_same_name (folded n) (folded t.definition.name)) (λ (h : Rc Trigger Global). h.value) running
    ∙ (any_same (λ (h : Rc Trigger Global). is_same_name (folded n) (folded h.value.definition.name)) (is_shared_trigger n) running
    (λ h. sym (both_folded n h.value.definition.name) ∙ turned n h.value.definition.name)
    ∙ sym (is ∙ (ap (list_any (is_shared_trigger m)) same ∙ ap (λ (k : Name). list_any (is_shared_trigger k) running) named)))))

-- the newest name first
pub pushed : (running now : List (Rc Trigger Global)) (handle : Rc Trigger Global) (t : Trigger) → now ≡ running ++ handle ∷ [] → handle.value ≡ t → running_names now ≡ folded t.definition.name ∷ running_names running
pushed running now handle t same is =
    ap running_names same
    ∙ (ap (λ (ts : List Trigger). map (λ u. folded u.definition.name) (reverse ts)) (map-append (λ (h : Rc Trigger Global). h.value) running (handle ∷ []))
    ∙ (ap (λ (ts : List Trigger). map (λ u. folded u.definition.name) ts) (reverse-append (shared running) (handle.value ∷ []))
    ∙ ap (λ (u : Trigger). folded u.definition.name ∷ running_names running) is))

-- ---- whether it runs

abbrev decided : Bool → Answer Bool → Answer Database → Database → Answer Database
decided running test ran db = if running then Ok db else (test then λ b. if b then ran else Ok db)

module _ (run : Runner) (names : List Name) (outer : Outer) (t : Name × TriggerDefinition) (db : Database) where
  abbrev ran : Answer Database
  ran = run (t.0 ∷ names) outer db t.1.body

  pub skips : list_any (is_same_name t.0) names ≡ true → run_trigger run names outer db t ≡ Ok db
  skips is = ap (λ b. decided b (when_holds outer t.1.condition) ran db) is

  tested : (a : Answer Bool) → list_any (is_same_name t.0) names ≡ false → when_holds outer t.1.condition ≡ a → run_trigger run names outer db t ≡ decided false a ran db
  tested a free is = ap (λ b. decided b (when_holds outer t.1.condition) ran db) free ∙ ap (λ x. decided false x ran db) is

  pub isnt_true : list_any (is_same_name t.0) names ≡ false → when_holds outer t.1.condition ≡ Ok false → run_trigger run names outer db t ≡ Ok db
  isnt_true free is = tested (Ok false) free is

  pub does_run : list_any (is_same_name t.0) names ≡ false → when_holds outer t.1.condition ≡ Ok true → run_trigger run names outer db t ≡ ran
  does_run free is = tested (Ok true) free is

  pub is_refused : (f : Fault) → list_any (is_same_name t.0) names ≡ false → when_holds outer t.1.condition ≡ Err (refusal_of f) → run_trigger run names outer db t ≡ Err (refusal_of f)
  is_refused f free is = tested (Err (refusal_of f)) free is

-- ---- WHEN, of a trigger that stands behind a handle

pub held_of : (outer : Outer) (t u : Trigger) (test : Bool) → u ≡ t → when_faults outer t.definition.condition ≡ []
    → (when_faults outer u.definition.condition ≡ [] → when_holds outer u.definition.condition ≡ Ok test) → when_holds outer t.definition.condition ≡ Ok test
held_of outer t u test same good answers =
    ap (λ (v : Trigger). when_holds outer v.definition.condition) (sym same) ∙ answers (ap (λ (v : Trigger). when_faults outer v.definition.condition) same ∙ good)

pub unread_of : (outer : Outer) (t u : Trigger) (f : Fault) → u ≡ t → when_faults outer t.definition.condition ≡ []
    → (when_faults outer u.definition.condition ≡ [] → IsRefusedBy (when_holds outer u.definition.condition) f) → IsRefusedBy (when_holds outer t.definition.condition) f
unread_of outer t u f same good answers =
    subst (λ (v : Trigger). IsRefusedBy (when_holds outer v.definition.condition) f) same (answers (ap (λ (v : Trigger). when_faults outer v.definition.condition) same ∙ good))

-- ---- one trigger, on the pages

module _ (l : Listed) (room : ℕ) (names : List Name) (outer : Outer) (t : Trigger) (free : list_any (is_same_name (folded t.definition.name)) names ≡ false) where
  abbrev pub one : Database → Answer Database
  one db = run_trigger (programs room) names outer db (named_definition t)

  pub unread : (db : Database) (f : Fault) → IsRefusedBy (when_holds outer t.definition.condition) f → IsRunRefusal l (one db) f
  unread db f (inl memory) = inl (inl (inl memory))
  unread db f (inr is) = inr (inl (is_refused (programs room) names outer (named_definition t) db f free is))

  module _ (test : when_holds outer t.definition.condition ≡ Ok true) where
    pub deep : (db : Database) (f : Fault) → room ≡ 0 → refusal_of f ≡ TooLong → IsRunRefusal l (one db) f
    deep db f none is =
        inr (inl (does_run (programs room) names outer (named_definition t) db free test
        ∙ (ap (λ (r : ℕ). programs r (folded t.definition.name ∷ names) outer db t.definition.body) none ∙ ap refused (sym is))))
      where
        refused : Refusal → Answer Database
        refused r = Err r

    one_less : (n : ℕ) → (n ≡ 0 → ⊥) → n ≡ suc (n - 1)
    one_less zero some = absurd (some refl)
    one_less (suc n) some = omega arith

    pub runs_body : (old new : PageMap) (size : ℕ) (now : List Name) (within : ℕ) (body : List TriggerStatement) (result : Result ⊤ Fault) → (room ≡ 0 → ⊥) → within ≡ room - 1 → now ≡ folded t.definition.name ∷ names
        → body ≡ t.definition.body → Runs old new size l (λ db. programs (suc within) now outer db body) result → Runs old new size l one result
    runs_body old new size now within body result some less same is runs db held =
        subst (λ (a : Answer Database). RunsTo new size l a result)
        (ap (λ (b : List TriggerStatement). programs (suc within) now outer db b) is
        ∙ (ap (λ (ns : List Name). programs (suc within) ns outer db t.definition.body) same
        ∙ (ap (λ (n : ℕ). programs (suc n) (folded t.definition.name ∷ names) outer db t.definition.body) less
        ∙ (ap (λ (n : ℕ). programs n (folded t.definition.name ∷ names) outer db t.definition.body) (sym (one_less room some))
        ∙ sym (does_run (programs room) names outer (named_definition t) db free test)))))
        (runs db held)
