-- The views and triggers that rows of the schema table tell.
use Rattle.std.proofs.Common.{◌≡◌, refl, sym, ap, subst, ◌∙◌, true, false, [], ◌∷◌, ◌++◌}
use Rattle.std.specs.Prelude.{Result, Ok, Err, IfErr, IfOk, MatchResult, OnOk}
use Rattle.sqlval.specs.declared.fault.Fault.{Fault}
use Rattle.sqlval.specs.declared.fault.Fault.TheVariants as fault
use Rattle.sql_syntax.specs.declared.create.Create.{Create}
use Rattle.sql_syntax.specs.declared.create.NewObject.TheVariants as new
use Rattle.sql_syntax.specs.declared.create.TriggerDefinition.{TriggerDefinition}
use Rattle.sql_syntax.specs.declared.create.ViewDefinition.{ViewDefinition}
use Rattle.sql_syntax.specs.declared.statement.Statement.{Statement}
use Rattle.sql_syntax.specs.declared.statement.Statement.TheVariants as statement
use Rattle.catalog.specs.Listed.{Listed, is_name_of, names_listed}
use Rattle.catalog.specs.declared.tables.Trigger.{Trigger}
use Rattle.catalog.specs.declared.tables.View.{View}
use Rattle.query_names.specs.Scopes.{is_doubled}
use Rattle.db_pages.specs.Schema.{IsCreateOf, TriggerTold, ViewTold}
use Rattle.db_load.specs.Loading.{IsOfRow, IsOfTriggerRow, IsTextOf, TellsTrigger, TellsView}
use Rattle.db_load.specs.Reading.{AddsTold, FindsParts}
use Rattle.db_load.specs.declared.schema.SchemaKind.TheVariants as kind
use Rattle.db_load.specs.declared.schema.SchemaRow.{SchemaRow}
use Rattle.db_load.proofs.ToldAdded.{trigger_adds, view_adds}
use Rattle.db_load.proofs.SchemaTables.{text_creates}

-- ---- a view

-- the view of a row is listed after the others
pub view_listed : {Y : Type 0} (v : View) (old new : Listed) (result : Result Y Fault) → is_name_of old v.definition.name ≡ false
    → OnOk result (new ≡ record old { views = old.views ++ v ∷ [] }) → IfErr result (λ f. f ≡ fault.Memory)
    → MatchResult result (λ done. AddsTold (ViewTold v) old new) (λ f. f ≡ fault.Memory)
view_listed v old new (Ok y) fresh added refused = view_adds v old new fresh added
view_listed v old new (Err f) fresh added refused = refused

-- where it is, its name was new
pub view_added : {Y : Type 0} (v : View) (old new : Listed) (result : Result Y Fault) → is_name_of old v.definition.name ≡ false
    → OnOk result (new ≡ record old { views = old.views ++ v ∷ [] }) → OnOk result (AddsTold (ViewTold v) old new)
view_added v old new (Ok y) fresh added = view_adds v old new fresh added
view_added v old new (Err f) fresh added = tt

-- and the row tells it
pub view_found : {Y : Type 0} (row : SchemaRow) (v : View) (old new : Listed) (result : Result Y Fault) → row.kind ≡ kind.View → TellsView v row
    → OnOk result (AddsTold (ViewTold v) old new) → OnOk result (FindsParts true row old new)
view_found row v old new (Ok y) its_kind tells adds = record { item = ViewTold v; pass = refl; tells = (its_kind, tells); due = tt; adds = adds }
view_found row v old new (Err f) its_kind tells adds = tt

-- a view is its definition and its rowid
pub view_is : (v found : View) → found.definition ≡ v.definition → found.rowid ≡ v.rowid → found ≡ v
view_is v found definition rowid = λ i. record { definition = definition i; rowid = rowid i }

-- the view with the parts of a row and the definition in its text is what the row tells
pub view_told : (row : SchemaRow) (s : Statement) (d : ViewDefinition) (result : Result View Fault) → IsTextOf row s → (made : Create) × (s ≡ statement.Create made) × (made.object ≡ new.View d)
    → IfOk result (λ v. IsOfRow row d.name × (is_doubled (names_listed d) ≡ false) × (v.definition ≡ d) × (v.rowid ≡ row.rowid)) → IfOk result (λ v. TellsView v row)
view_told row s d (Err f) it found made = tt
view_told row s d (Ok v) it found made =
    let same : v.definition ≡ d = made.2 in record {
      text = it.text;
      text_is = it.text_is;
      creates = subst (λ (x : ViewDefinition). IsCreateOf it.text (new.View x)) (sym same) (text_creates row s found.0 (new.View d) it found.1 found.2);
      names = subst (λ (x : ViewDefinition). IsOfRow row x.name) (sym same) made.0;
      once = ap (λ (x : ViewDefinition). is_doubled (names_listed x)) same ∙ made.1;
      rowid_is = made.3;
    }

-- ---- a trigger

-- the trigger of a row is listed after the others
pub trigger_listed : {Y : Type 0} (g : Trigger) (old new : Listed) (result : Result Y Fault) → is_name_of old g.definition.name ≡ false
    → OnOk result (new ≡ record old { triggers = old.triggers ++ g ∷ [] }) → IfErr result (λ f. f ≡ fault.Memory)
    → MatchResult result (λ done. AddsTold (TriggerTold g) old new) (λ f. f ≡ fault.Memory)
trigger_listed g old new (Ok y) fresh added refused = trigger_adds g old new fresh added
trigger_listed g old new (Err f) fresh added refused = refused

-- where it is, its name was new
pub trigger_added : {Y : Type 0} (g : Trigger) (old new : Listed) (result : Result Y Fault) → is_name_of old g.definition.name ≡ false
    → OnOk result (new ≡ record old { triggers = old.triggers ++ g ∷ [] }) → OnOk result (AddsTold (TriggerTold g) old new)
trigger_added g old new (Ok y) fresh added = trigger_adds g old new fresh added
trigger_added g old new (Err f) fresh added = tt

-- and the row tells it
pub trigger_found : {Y : Type 0} (row : SchemaRow) (g : Trigger) (old new : Listed) (result : Result Y Fault) → row.kind ≡ kind.Trigger → TellsTrigger g row
    → OnOk result (AddsTold (TriggerTold g) old new) → OnOk result (FindsParts true row old new)
trigger_found row g old new (Ok y) its_kind tells adds = record { item = TriggerTold g; pass = refl; tells = (its_kind, tells); due = tt; adds = adds }
trigger_found row g old new (Err f) its_kind tells adds = tt

-- a trigger is its definition and its rowid
pub trigger_is : (g found : Trigger) → found.definition ≡ g.definition → found.rowid ≡ g.rowid → found ≡ g
trigger_is g found definition rowid = λ i. record { definition = definition i; rowid = rowid i }

-- the trigger with the parts of a row and the definition in its text is what the row tells
pub trigger_told : (row : SchemaRow) (s : Statement) (d : TriggerDefinition) (result : Result Trigger Fault) → IsTextOf row s
    → (made : Create) × (s ≡ statement.Create made) × (made.object ≡ new.Trigger d)
    → IfOk result (λ g. IsOfTriggerRow row d × (g.definition ≡ d) × (g.rowid ≡ row.rowid)) → IfOk result (λ g. TellsTrigger g row)
trigger_told row s d (Err f) it found made = tt
trigger_told row s d (Ok g) it found made =
    let same : g.definition ≡ d = made.1 in record {
      text = it.text;
      text_is = it.text_is;
      creates = subst (λ (x : TriggerDefinition). IsCreateOf it.text (new.Trigger x)) (sym same) (text_creates row s found.0 (new.Trigger d) it found.1 found.2);
      names = subst (λ (x : TriggerDefinition). IsOfTriggerRow row x) (sym same) made.0;
      rowid_is = made.2;
    }
