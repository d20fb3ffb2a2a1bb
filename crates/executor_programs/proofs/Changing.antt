-- A row's change, cut where its triggers stand, is the row's change.
use Rattle.std.proofs.Common.{◌≡◌, refl, sym, ap, ◌∙◌, ℕ, ℤ, List, [], ◌∷◌, ◌++◌, map, zip, option_map, Option, Some, None, Ok, Err, subst, ◌⊎◌, inl, inr}
use Rattle.std.specs.Prelude.{Result, ⊤}
use Rattle.sqlval.specs.Faults.{IsOutside}
use Rattle.sqlval.specs.Refusals.{Answer, Refusal, ◌then◌, refusal_of}
use Rattle.sqlval.specs.declared.fault.Fault.{Fault}
use Rattle.sqlval.specs.declared.value.Value.{Value}
use Rattle.sql_syntax.specs.declared.change.Change.{Change}
use Rattle.sql_syntax.specs.declared.create.TriggerTime.TheVariants.{Before, After}
use Rattle.pages.specs.Map.{PageMap}
use Rattle.catalog.specs.Database.{ATable, Database, Name, Table, row, with_object, without_row}
use Rattle.catalog.specs.Listed.{Listed}
use Rattle.query_names.specs.Readings.{env_of, values}
use Rattle.row_change.specs.Changes.{Outer}
use Rattle.row_change.specs.Constraints.{default_values, given_rowid, new_rowid, row_of, set_values, shown_rowid, stored, table_of, updated_rowid, with_affinity, with_rowid}
use Rattle.row_change.specs.RowChanges.{Deleting, Fire, Firing, Inserting, Updating, firing, unchanged}
use Rattle.trigger.specs.Binding.{aim_of}
use Rattle.trigger_names.specs.Resolved.{names_set}
use Rattle.executor_programs.specs.Rows.{begun, finished, row_changed, set_beside, updated_before, values_in}
use Rattle.executor_programs.specs.Running.{IsRunRefusal}
use Rattle.executor_programs.specs.declared.acts.Act.{Act}
use Rattle.executor_programs.specs.declared.acts.TableItem.{TableItem}
use Rattle.executor_programs.specs.declared.acts.TableItem.TheVariants as item
use Rattle.executor_programs.proofs.Folding.{RunsTo, stays_refused}

-- what an event does at a row: its triggers before it, the change, and its triggers after it; nothing where the row is gone
abbrev pub around : Fire → Change → TableItem → Database → Option Firing → Answer Database
around fire c i db None = Ok db
around fire c i db (Some f) = fire Before f db then λ made. finished c i f made then λ p. fire After p.1 p.0

assoc : {A B C : Type 0} (a : Answer A) (f : A → Answer B) (g : B → Answer C) → ((a then f) then g) ≡ (a then λ x. f x then g)
assoc (Ok x) f g = refl
assoc (Err r) f g = refl

same_then : {A B : Type 0} (a : Answer A) (f g : A → Answer B) → ((x : A) → f x ≡ g x) → (a then f) ≡ (a then g)
same_then (Ok x) f g same = same x
same_then (Err r) f g same = refl

module _ (fire : Fire) (outer : Outer) (c : Change) (act : Act) (db : Database) where
  abbrev n : Name
  n = (aim_of c).target

  abbrev after : Database × Firing → Answer Database
  after p = fire After p.1 p.0

  -- what is left of an INSERT after the triggers before it
  abbrev put_then : List Value → Database → Answer Database
  put_then vs db = table_of db n then λ t. new_rowid t (given_rowid t vs) then λ id. stored db n t id (with_rowid t id vs) then λ db.
      fire After (firing n Inserting t (Some (row_of id (with_rowid t id vs))) None) db

  abbrev put : Firing → Database → Answer (Database × Firing)
  put f made =
      table_of made n then λ t. new_rowid t (given_rowid t (values_in f.new)) then λ id. stored made n t id (with_rowid t id (values_in f.new)) then λ db.
      Ok (db, firing n Inserting t (Some (row_of id (with_rowid t id (values_in f.new)))) None)

  put_law : (f : Firing) (made : Database) → (put f made then after) ≡ put_then (values_in f.new) made
  put_law f made =
      assoc (table_of made n) _ after
      ∙ same_then (table_of made n) _ _ (λ t. assoc (new_rowid t (given_rowid t (values_in f.new))) _ after
      ∙ same_then (new_rowid t (given_rowid t (values_in f.new))) _ _ (λ id. assoc (stored made n t id (with_rowid t id (values_in f.new))) _ after))

  -- of an UPDATE
  abbrev set_then : ℤ → List Value → List Value → Database → Answer Database
  set_then id old vs db = unchanged db n id old then λ t. updated_rowid t id vs then λ now. stored db n (without_row id t) now vs then λ db.
      fire After (firing n (Updating (names_set c)) t (Some (row_of now vs)) (Some (row_of id old))) db

  set_law : (id : ℤ) (f : Firing) (made : Database) → (finished c (item.Update id) f made then after) ≡ set_then id (values_in f.old) (values_in f.new) made
  set_law id f made =
      assoc (unchanged made n id (values_in f.old)) _ after
      ∙ same_then (unchanged made n id (values_in f.old)) _ _ (λ t. assoc (updated_rowid t id (values_in f.new)) _ after
      ∙ same_then (updated_rowid t id (values_in f.new)) _ _ (λ now. assoc (stored made n (without_row id t) now (values_in f.new)) _ after))

  -- of a DELETE
  abbrev take_then : ℤ → List Value → Database → Answer Database
  take_then id old db = unchanged db n id old then λ t. fire After (firing n Deleting t None (Some (row_of id old))) (with_object db n (ATable (without_row id t)))

  take_law : (id : ℤ) (f : Firing) (made : Database) → (finished c (item.Delete id) f made then after) ≡ take_then id (values_in f.old) made
  take_law id f made = assoc (unchanged made n id (values_in f.old)) _ after

  -- ---- the whole

  abbrev stores : List Value → Table → Answer (List Value)
  stores given t = with_affinity t.columns (set_values (default_values t) (zip act.places.items given))

  abbrev put_at : Table → List Value → Firing
  put_at t vs = firing n Inserting t (Some (record { rowid = given_rowid t vs; values = vs })) None

  abbrev set_at : ℤ → Table → List Value → List Value → Firing
  set_at id t old vs = firing n (Updating (names_set c)) t (Some (record { rowid = shown_rowid t id vs; values = vs })) (Some (row_of id old))

  abbrev take_at : ℤ → Table → List Value → Firing
  take_at id t old = firing n Deleting t None (Some (row_of id old))

  abbrev given : ℤ → List Value → Answer (List Value)
  given id old = values (env_of (outer.rows ++ row_of id old ∷ [])) (map (λ s. s.1) act.sets.items)

  abbrev over : List Value → List Value → List Value
  over old new = set_values old (zip (map (λ s. s.0) act.sets.items) new)

  abbrev whole : ℤ → Table → List Value → Answer Database
  whole id t old = given id old then λ new. with_affinity t.columns (over old new) then λ vs. fire Before (set_at id t old vs) db then set_then id old vs

  set_by : (id : ℤ) (t : Table) (r : Option (List Value)) → elim r [ None ↦ Ok db | Some old ↦ whole id t old ] ≡ (updated_before outer n act.sets.items (names_set c) t id r then around fire c (item.Update id) db)
  set_by id t None = refl
  set_by id t (Some old) =
      same_then (given id old) _ _ (λ new. same_then (with_affinity t.columns (over old new)) _ _ (λ vs. same_then (fire Before (set_at id t old vs) db) _ _ (λ made. sym (set_law id (set_at id t old vs) made)))
      ∙ sym (assoc (with_affinity t.columns (over old new)) _ (around fire c (item.Update id) db)))
      ∙ (sym (assoc (given id old) _ _) ∙ sym (assoc (set_beside outer act.sets.items (row_of id old)) _ (around fire c (item.Update id) db)))

  take_by : (id : ℤ) (t : Table) (r : Option (List Value)) → elim r [ None ↦ Ok db | Some old ↦ (fire Before (take_at id t old) db then take_then id old) ]
      ≡ (Ok (option_map (take_at id t) r) then around fire c (item.Delete id) db)
  take_by id t None = refl
  take_by id t (Some old) = same_then (fire Before (take_at id t old) db) _ _ (λ made. sym (take_law id (take_at id t old) made))

  pub is_around : (i : TableItem) → row_changed fire outer c act i db ≡ (begun outer c act i db then around fire c i db)
  is_around (item.Insert vs) =
      same_then (table_of db n) _ _ (λ t. same_then (stores vs.items t) _ _ (λ ws. same_then (fire Before (put_at t ws) db) _ _ (λ made. sym (put_law (put_at t ws) made)))
      ∙ sym (assoc (stores vs.items t) _ (around fire c (item.Insert vs) db)))
      ∙ sym (assoc (table_of db n) _ (around fire c (item.Insert vs) db))
  is_around (item.Update id) =
      same_then (table_of db n) _ _ (λ t. set_by id t (row t id)) ∙ sym (assoc (table_of db n) _ (around fire c (item.Update id) db))
  is_around (item.Delete id) =
      same_then (table_of db n) _ _ (λ t. take_by id t (row t id)) ∙ sym (assoc (table_of db n) _ (around fire c (item.Delete id) db))

-- ---- the parts of a row's change, on the pages

module _ (fire : Fire) (outer : Outer) (c : Change) (act : Act) (i : TableItem) (db : Database) where
  pub row_gone : begun outer c act i db ≡ Ok None → row_changed fire outer c act i db ≡ Ok db
  row_gone is = is_around fire outer c act db i ∙ ap (λ (a : Answer (Option Firing)). a then around fire c i db) is

  pub row_refused : (r : Refusal) → begun outer c act i db ≡ Err r → row_changed fire outer c act i db ≡ Err r
  row_refused r is = is_around fire outer c act db i ∙ ap (λ (a : Answer (Option Firing)). a then around fire c i db) is

  pub row_unread : (l : Listed) (e : Fault) → IsOutside e ⊎ (begun outer c act i db ≡ Err (refusal_of e)) → IsRunRefusal l (row_changed fire outer c act i db) e
  row_unread l e (inl outside) = inl (inl outside)
  row_unread l e (inr is) = inr (inl (row_refused (refusal_of e) is))

  module _ (f : Firing) (is : begun outer c act i db ≡ Ok (Some f)) where
    pub as_around : row_changed fire outer c act i db ≡ (fire Before f db then λ made. finished c i f made then λ p. fire After p.1 p.0)
    as_around = is_around fire outer c act db i ∙ ap (λ (a : Answer (Option Firing)). a then around fire c i db) is

    pub stops_before : (l : Listed) (e : Fault) → IsRunRefusal l (fire Before f db) e → IsRunRefusal l (row_changed fire outer c act i db) e
    stops_before l e refused =
        subst (λ (a : Answer Database). IsRunRefusal l a e) (sym as_around) (stays_refused l (fire Before f db) (λ made. finished c i f made then λ p. fire After p.1 p.0) e refused)

    module _ (made : Database) (ran : fire Before f db ≡ Ok made) where
      pub goes_on : row_changed fire outer c act i db ≡ (finished c i f made then λ p. fire After p.1 p.0)
      goes_on = as_around ∙ ap (λ (a : Answer Database). a then λ made. finished c i f made then λ p. fire After p.1 p.0) ran

      pub stops_within : (l : Listed) (e : Fault) → IsRunRefusal l (finished c i f made) e → IsRunRefusal l (row_changed fire outer c act i db) e
      stops_within l e refused =
          subst (λ (a : Answer Database). IsRunRefusal l a e) (sym goes_on) (stays_refused l (finished c i f made) (λ p. fire After p.1 p.0) e refused)

      pub ends : (new : PageMap) (size : ℕ) (l : Listed) (done : Database) (g : Firing) (result : Result ⊤ Fault) → finished c i f made ≡ Ok (done, g) → RunsTo new size l (fire After g done) result
          → RunsTo new size l (row_changed fire outer c act i db) result
      ends new size l done g result is_done runs =
          subst (λ (a : Answer Database). RunsTo new size l a result) (sym (goes_on ∙ ap (λ (a : Answer (Database × Firing)). a then λ p. fire After p.1 p.0) is_done)) runs
