-- The listed triggers that an event sets off.
use Rattle.std.proofs.Common.{◌≡◌, refl, sym, ap, ◌∙◌, ℕ, ℤ, Bool, true, false, List, [], ◌∷◌, map, cond}
use Rattle.std.specs.List.{list_any}
use Rattle.std.specs.Prelude.{◌&&◌, ◌||◌, filter, not}
use Rattle.std.specs.Str.{bytes_eq}
use Rattle.std.specs.declared.alloc.Global.{Global}
use Rattle.std.specs.declared.rc.Rc.{Rc}
use Rattle.sqlval.specs.Names.{folded, is_same_name}
use Rattle.sqlval.specs.declared.value.Value.{Value}
use Rattle.sql_syntax.specs.declared.change.Assignment.{Assignment}
use Rattle.sql_syntax.specs.declared.create.TriggerDefinition.{TriggerDefinition}
use Rattle.catalog.specs.Database.{Name, Database}
use Rattle.catalog.specs.Laws.{ListsTriggers}
use Rattle.catalog.specs.Listed.{Listed, is_on, shared}
use Rattle.catalog.specs.Named.{IsOfListed}
use Rattle.catalog.specs.declared.tables.Trigger.{Trigger}
use Rattle.catalog.proofs.NamedDatabases.{folded_twice}
use Rattle.row_change.specs.RowChanges.{Event, is_quiet, is_set_off}

-- of what handles share
any_shared : (p : Trigger → Bool) (handles : List (Rc Trigger Global)) → list_any (λ h. p h.value) handles ≡ list_any p (shared handles)
any_shared p [] = refl
any_shared p (h ∷ hs) = ap (λ b. p h.value || b) (any_shared p hs)

any_on : (target : Name) (test : TriggerDefinition → Bool) (triggers : List Trigger) → list_any (λ t. is_on target t && test t.definition) triggers ≡ list_any (λ t. test t.definition) (filter (is_on (folded target)) triggers)
any_on target test [] = refl
any_on target test (t ∷ ts) =
    ap (λ n. (bytes_eq n (folded t.definition.target) && test t.definition) || list_any (λ t. is_on target t && test t.definition) ts) (sym (folded_twice target))
    ∙ by_test (is_on (folded target) t) (any_on target test ts)
  where
    by_test : (b : Bool) → list_any (λ t. is_on target t && test t.definition) ts ≡ list_any (λ t. test t.definition) (filter (is_on (folded target)) ts)
        → ((b && test t.definition) || list_any (λ t. is_on target t && test t.definition) ts) ≡ list_any (λ t. test t.definition) (cond b (t ∷ filter (is_on (folded target)) ts) (filter (is_on (folded target)) ts))
    by_test true rest = ap (λ b. test t.definition || b) rest
    by_test false rest = rest

pub is_quiet_by : ListsTriggers → (target : Name) (event : Event) (rows_at : ℕ → List (ℤ × List Value)) (l : Listed) (db : Database) (handles : List (Rc Trigger Global)) → shared handles ≡ l.triggers → IsOfListed rows_at l db
    → not (list_any (λ t. is_on target t.value && is_set_off t.value.definition.event event) handles) ≡ is_quiet event db (folded target)
is_quiet_by lists target event rows_at l db handles same of =
    ap not (any_shared (λ t. is_on target t && is_set_off t.definition.event event) handles
    ∙ (ap (list_any (λ t. is_on target t && is_set_off t.definition.event event)) same
    ∙ (any_on target (λ d. is_set_off d.event event) l.triggers
    ∙ sym (lists rows_at l db (folded target) (λ d. is_set_off d.event event) of))))

-- a column that is assigned to is one of the folded ones
any_folded : (n : Name) (sets : List Assignment) → list_any (λ a. is_same_name n a.column) sets ≡ list_any (is_same_name n) (map (λ a. folded a.column) sets)
any_folded n [] = refl
any_folded n (a ∷ rest) =
    ap (λ k. bytes_eq (folded n) k || list_any (λ b. is_same_name n b.column) rest) (sym (folded_twice a.column)) ∙ ap (λ b. is_same_name n (folded a.column) || b) (any_folded n rest)

pub any_assigned : (ns : List Name) (sets : List Assignment) → list_any (λ n. list_any (λ a. is_same_name n a.column) sets) ns ≡ list_any (λ n. list_any (is_same_name n) (map (λ a. folded a.column) sets)) ns
any_assigned [] sets = refl
any_assigned (n ∷ ns) sets =
    ap (λ b. b || list_any (λ n. list_any (λ a. is_same_name n a.column) sets) ns) (any_folded n sets) ∙ ap (λ b. list_any (is_same_name n) (map (λ a. folded a.column) sets) || b) (any_assigned ns sets)
