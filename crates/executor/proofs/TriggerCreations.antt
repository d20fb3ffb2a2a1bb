-- What a CREATE TRIGGER comes to on the database that pages hold.
use Rattle.std.proofs.Common.{◌≡◌, ◌⊎◌, inl, inr, refl, sym, ap, subst, ◌∙◌, ℕ, ℤ, false, codes, map, List, [], ◌∷◌, ◌++◌, append-nil, append_assoc, length, None, Some}
use Rattle.sqlval.specs.Refusals.{refusal_of}
use Rattle.sqlval.specs.declared.fault.Fault.{Fault}
use Rattle.sqlval.specs.declared.fault.Fault.TheVariants as fault
use Rattle.sql_syntax.specs.declared.create.NewObject.TheVariants as object
use Rattle.sql_syntax.specs.declared.create.TriggerDefinition.{TriggerDefinition}
use Rattle.sql_syntax.specs.declared.statement.Statement.{Statement}
use Rattle.sql_syntax.specs.declared.statement.Statement.TheVariants as statement
use Rattle.pages.specs.Calls.{IsOutsideOrFull}
use Rattle.pages.specs.Map.{PageMap}
use Rattle.tree_table.specs.Calls.{Stands}
use Rattle.tree_table.specs.Rows.{payload_at, with_row}
use Rattle.db_layout.specs.Layout.{ReplacesTrees, TreesStand}
use Rattle.catalog.specs.Database.{ATrigger, Database, with_object}
use Rattle.catalog.specs.Listed.{Listed, rowids_of}
use Rattle.catalog.specs.NewViews.{ListsNewTrigger, with_trigger}
use Rattle.catalog.specs.UnusedRowids.{is_among}
use Rattle.catalog.specs.declared.tables.Trigger.{Trigger}
use Rattle.query_names.specs.Checked.{Checked}
use Rattle.query_names.specs.Schema.{create}
use Rattle.query_bind.specs.Triggers.{IsTriggerOn, IsTriggerRefusal, MakesListedTrigger, RefusesTriggerAsDefined}
use Rattle.db_pages.specs.Schema.{AreRowsOf, IsCreateOf, IsTriggerRow, Told, TriggerTold, ViewTold, all_told, schema_row, tables_told}
use Rattle.db_pages.specs.Stored.{Stores}
use Rattle.executor.specs.Changing.{IsChangeRefusal, IsMade}
use Rattle.executor.specs.Holding.{HoldsTrees}
use Rattle.executor.specs.Listing.{AreTooLong, IsAdded}
use Rattle.executor.specs.Works.{Reaches, change_made, of_known}
use Rattle.executor.proofs.Creations.{refused_work}
use Rattle.executor.proofs.HeldTrees.{schema_stands, stores_of, trees_held, with_schema}
use Rattle.executor.proofs.Targets.{one_more_fits}
use Rattle.executor.proofs.Telling.{as_rows, as_told, free_at, map_append, more_pages, one_more, told_as, treeless_told}

-- what follows for every listed database, and for the trees of its file
pub record Laws : Type 0 where
  pub lists : ListsNewTrigger
  pub makes : MakesListedTrigger
  pub refuses : RefusesTriggerAsDefined
  pub stand : TreesStand
  pub give_way : ReplacesTrees

abbrev pub creating : List ℕ → TriggerDefinition → Statement
creating sql d = statement.Create (record { sql = sql; object = object.Trigger d })

module _ (laws : Laws) (old : PageMap) (size : ℕ) (l : Listed) (db : Database) (held : Stores old size l db) (sql : List ℕ) (d : TriggerDefinition) where
  -- its names are refused
  pub refused_names : (f : Fault) → (f ≡ fault.Memory) ⊎ IsTriggerRefusal l d (refusal_of f) → IsChangeRefusal (creating sql d) db f
  refused_names f (inl memory) = inl (inl (inl memory))
  refused_names f (inr why) = inr (inl (refused_work (create db (object.Trigger d)) (refusal_of f) (laws.refuses held.rows_at l db d (refusal_of f) held.of_listed.lists why)))

  abbrev trees : HoldsTrees old size held.rows_at l.tables held.schema
  trees = trees_held old size l db held

  pub schema_stand : Stands old size 1 held.schema held.schema_used held.free
  schema_stand = schema_stands old size held.rows_at l.tables held.schema trees laws.stand

  pub none_at : (rowid : ℤ) → is_among rowid (rowids_of l) ≡ false → payload_at rowid held.schema ≡ None
  none_at rowid unused = free_at (length old) l held.schema rowid held.tell unused

  -- no rowid is free for its row
  pub refused_rowid : {X : Type 0} (f : Fault) → (f ≡ fault.Memory) ⊎ ((f ≡ fault.RowidFull) × X) → IsChangeRefusal (creating sql d) db f
  refused_rowid f (inl memory) = inl (inl (inl memory))
  refused_rowid f (inr (full, taken)) = inr (inr (inr (record { is = full; why = tt })))

  module _ (is : IsTriggerOn l d) where
    abbrev made : Database
    made = with_object db d.name (ATrigger d)

    reached : Reaches (change_made (creating sql d) db) made
    reached = subst (λ (k : Checked Database). Reaches (of_known k) made) (sym (laws.makes held.rows_at l db d held.of_listed.lists is)) refl

    -- its row isn't added
    pub refused_row : (f : Fault) → IsOutsideOrFull f ⊎ AreTooLong (schema_row (codes "trigger") d.name d.target 0 (Some sql)) f → IsChangeRefusal (creating sql d) db f
    refused_row f (inl full) = inl full
    refused_row f (inr (what, long)) = inr (inr (inl (record { is = what; why = inr (record { made = made; reaches = reached; long = long }) })))

    module _ (creates : IsCreateOf sql (object.Trigger d)) (new : PageMap) (rowid : ℤ) (unused : is_among rowid (rowids_of l) ≡ false)
        (added : IsAdded old new size (schema_row (codes "trigger") d.name d.target 0 (Some sql)) held.schema held.schema_used held.free rowid) where
      abbrev t : Trigger
      t = record { definition = d; rowid = rowid }

      new_row : IsTriggerRow t added.entry
      new_row = record {
        sql = sql;
        creates = creates;
        free = is.free;
        rowid_is = added.rowid_is;
        name = d.name;
        name_is = refl;
        target_name = d.target;
        target_name_is = refl;
        row_is = added.is;
      }

      all_are : all_told (with_trigger t l) ≡ all_told l ++ TriggerTold t ∷ []
      all_are =
          ap (λ (ts : List Told). tables_told l.tables ++ (map ViewTold l.views ++ ts)) (map_append TriggerTold l.triggers (t ∷ []))
          ∙ (ap (λ (ts : List Told). tables_told l.tables ++ ts) (sym (append_assoc (map ViewTold l.views) (map TriggerTold l.triggers) (TriggerTold t ∷ [])))
          ∙ sym (append_assoc (tables_told l.tables) (treeless_told l) (TriggerTold t ∷ [])))

      told : AreRowsOf (length new) (with_trigger t l) (with_row added.entry held.schema)
      told = as_rows (length new) (with_trigger t l) (all_told l ++ TriggerTold t ∷ []) (with_row added.entry held.schema) all_are
          (one_more (length new) (all_told l) [] (TriggerTold t) added.entry held.schema
          (told_as (length new) (all_told l) (all_told l ++ []) held.schema (sym (append-nil (all_told l)))
          (more_pages (length old) (length new) added.becomes.moves.longer (all_told l) held.schema (as_told (length old) l held.schema held.tell)))
          (subst (λ z. payload_at z held.schema ≡ None) (sym added.rowid_is) (none_at rowid unused)) new_row)

      pub creates_it : (listed : Listed) → listed ≡ with_trigger t l → IsMade (creating sql d) db new size listed
      creates_it listed same = record {
        made = made;
        reaches = reached;
        stored = subst (λ (x : Listed). Stores new size x made) (sym same)
            (stores_of new size held.rows_at (with_trigger t l) (with_row added.entry held.schema) made
            (with_schema old size held.rows_at l.tables held.schema trees laws.give_way new (with_row added.entry held.schema) added.becomes)
            (laws.lists held.rows_at l db t held.of_listed is.new) told held.keys (one_more_fits l l.triggers t held.targets is.fits));
      }
