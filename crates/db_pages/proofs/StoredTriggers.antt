-- The trigger that a row of the schema table tells.
use Rattle.std.proofs.Common.{◌≡◌, refl, sym, ap, ◌∙◌, ℕ, ℤ, Bool, true, false, List, [], Option, Some, None}
use Rattle.std.specs.FinMap.Entries.{find}
use Rattle.std.specs.Prelude.{codes, is_some}
use Rattle.sqlval.specs.Names.{folded, is_same_name}
use Rattle.sqlval.specs.Refusals.{Refusal, Exists, Misuse, NoSuch}
use Rattle.sql_syntax.specs.declared.create.NewObject.TheVariants as new
use Rattle.sql_syntax.specs.declared.create.TriggerDefinition.{TriggerDefinition}
use Rattle.catalog.specs.Database.{ATable, AnIndex, AView, ATrigger, Database, Object, name_order, object, with_object}
use Rattle.catalog.specs.Listed.{is_reserved}
use Rattle.catalog.specs.declared.tables.Trigger.{Trigger}
use Rattle.query_names.specs.Checked.{Checked, Meant, bad, faults, good, known_map, unless}
use Rattle.query_names.specs.Schema.{create, trigger_made}
use Rattle.db_files.specs.Schema.{SchemaRow, IsTriggerRow}
use Rattle.db_pages.specs.Language.{language, others}
use Rattle.db_pages.specs.Schema.{IsCreateOf}
use Rattle.db_pages.proofs.StandingTexts.{none_other, other_kept}
use Rattle.db_pages.proofs.StoredIndexes.{quiet}
use Rattle.db_pages.proofs.StoredNames.{named_same}
use Rattle.db_pages.proofs.StoredViews.{not_mapped}

-- a trigger, and the schema's row that tells it
pub record TriggerListing : Type 0 where
  pub trigger : Trigger
  pub row : SchemaRow

-- the trigger of a definition, whose row has this rowid
abbrev pub trigger_of : TriggerDefinition → ℤ → Trigger
trigger_of d rowid = record { definition = d; rowid = rowid }

-- The row has the text of a CREATE TRIGGER that isn't refused, and no page, and the trigger fits what its ON names.
pub record IsTriggerTold (db : Database) (row : SchemaRow) (d : TriggerDefinition) : Type 0 where
  pub sql : List ℕ
  pub sql_is : row.sql ≡ Some sql
  pub kind_is : row.kind ≡ codes "trigger"
  pub name_is : folded row.name ≡ folded d.name
  pub table_is : folded row.table ≡ folded d.target
  pub root_is : row.root ≡ 0
  pub creates : IsCreateOf sql (new.Trigger d)
  pub free : is_reserved d.name ≡ false
  pub fits : trigger_made (object db d.target) d ≡ good (ATrigger d)

-- ---- definitions that aren't refused

-- the name may be given, and it fits what its ON names
accepted : (db : Database) (d : TriggerDefinition) → faults (create db (new.Trigger d)) ≡ [] → (is_reserved d.name ≡ false) × (faults (trigger_made (object db d.target) d) ≡ [])
accepted db d none =
    let free = quiet (is_reserved d.name) Misuse (unless (is_some (object db d.name)) Exists (known_map (with_object db d.name) (trigger_made (object db d.target) d))) none in
    let fresh = quiet (is_some (object db d.name)) Exists (known_map (with_object db d.name) (trigger_made (object db d.target) d)) free.1 in
    (free.0, not_mapped (with_object db d.name) (trigger_made (object db d.target) d) fresh.1)

on_table : (d : TriggerDefinition) (instead : Bool) (places : Checked (List ℕ)) → faults (unless instead Misuse (known_map (λ _. ATrigger d) places)) ≡ []
    → unless instead Misuse (known_map (λ _. ATrigger d) places) ≡ good (ATrigger d)
on_table d true (Meant x rs) none = absurd cc
on_table d false (Meant x rs) none = ap (λ (ss : List Refusal). Meant (ATrigger d) ss) none

on_view : (d : TriggerDefinition) (early : Bool) → faults (unless early Misuse (good (ATrigger d))) ≡ [] → unless early Misuse (good (ATrigger d)) ≡ good (ATrigger d)
on_view d true none = absurd cc
on_view d false none = refl

not_refused : {A : Type 0} (o : Object) → faults (bad o NoSuch) ≡ [] → A
not_refused o none = absurd cc

-- what isn't refused is the trigger of the definition
made_good : (found : Option Object) (d : TriggerDefinition) → faults (trigger_made found d) ≡ [] → trigger_made found d ≡ good (ATrigger d)
made_good (Some (ATable t)) d none = on_table d _ _ none
made_good (Some (AView v)) d none = on_view d _ none
made_good (Some (AnIndex i)) d none = not_refused (ATrigger d) none
made_good (Some (ATrigger g)) d none = not_refused (ATrigger d) none
made_good None d none = not_refused (ATrigger d) none

-- what fits beside the other objects fits in the database
fits_there : (db : Database) (d : TriggerDefinition) → faults (trigger_made (object (others db d.name) d.target) d) ≡ [] → trigger_made (object db d.target) d ≡ good (ATrigger d)
fits_there db d none = by_test (is_same_name d.name d.target) refl
  where
    by_test : (same : Bool) → is_same_name d.name d.target ≡ same → trigger_made (object db d.target) d ≡ good (ATrigger d)
    by_test true is =
        let gone : object (others db d.name) d.target ≡ None = ap (λ n. find name_order n (others db d.name)) (sym (named_same d.name d.target is)) ∙ none_other db d.name in
        not_refused (ATrigger d) (sym (ap (λ (o : Option Object). faults (trigger_made o d)) gone) ∙ none)
    by_test false is =
        ap (λ (o : Option Object). trigger_made o d) (sym (other_kept db d.name d.target is)) ∙ made_good (object (others db d.name) d.target) d none

pub trigger_told : (db : Database) (row : SchemaRow) (d : TriggerDefinition) → IsTriggerRow language db row d → IsTriggerTold db row d
trigger_told db row d is =
    let accepts = accepted (others db d.name) d is.text.accepts in
    record {
      sql = is.text.text;
      sql_is = is.text.sql_is;
      kind_is = is.kind;
      name_is = is.name;
      table_is = is.table;
      root_is = is.root;
      creates = is.text.creates;
      free = accepts.0;
      fits = fits_there db d accepts.1;
    }
