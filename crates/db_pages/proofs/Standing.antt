-- Pages that store a database stand for it.
use Rattle.std.proofs.Common.{◌≡◌, ap, ◌∙◌, ℕ, length, Some}
use Rattle.std.specs.List.{AllByRecursion}
use Rattle.sqlval.specs.Lists.{sorted}
use Rattle.pages.specs.Map.{PageMap}
use Rattle.catalog.specs.Database.{Database, name_order}
use Rattle.catalog.specs.Listed.{Listed, table_named}
use Rattle.catalog.specs.declared.tables.Index.{Index}
use Rattle.catalog.specs.declared.tables.Table.{Table}
use Rattle.catalog.specs.declared.tables.Trigger.{Trigger}
use Rattle.catalog.proofs.NamedDatabases.{listed_in_order}
use Rattle.query_bind.specs.Triggers.{FitsTarget, KnowsTriggers}
use Rattle.db_files.specs.Stands.{HasSchema, StandsFor}
use Rattle.db_pages.specs.Language.{language}
use Rattle.db_pages.specs.Schema.{HasKeyIndexes, IndexTold, TriggerTold}
use Rattle.db_pages.specs.Standing.{StoredStand}
use Rattle.db_pages.specs.Stored.{IsCounted, Stores}
use Rattle.db_pages.proofs.AutomaticObjects.{due_are, each_named}
use Rattle.db_pages.proofs.StandingRows.{FitsIn, rows_named, rows_read, rows_say, rows_told}
use Rattle.db_pages.proofs.StandingTrees.{found_fit, in_order_told, is_freelist, is_headed, is_shared, told_trees, useds_of}
use Rattle.db_pages.proofs.StoredApart.{all_both, all_so}
use Rattle.db_pages.proofs.ToldObjects.{IsKept, told_kept, told_names}
use Rattle.db_pages.proofs.ToldTables.{OfTable, each_of, told_each}

module _ (knows : KnowsTriggers) (pages : PageMap) (size : ℕ) (l : Listed) (db : Database) (stored : Stores pages size l db) where
  are_kept : AllByRecursion (IsKept stored.rows_at db) stored.tell.told
  are_kept = told_kept stored.rows_at l db stored.of_listed stored.tell.told stored.tell.all

  -- the database has what the keys of its tables ask for, and what its triggers are on
  are_fit : AllByRecursion (FitsIn db) stored.tell.told
  are_fit =
      told_each (FitsIn db) l stored.tell.told stored.tell.all
      (all_both HasKeyIndexes (λ (t : Table). table_named t.name l.tables ≡ Some t) (OfTable (FitsIn db))
      (λ t has found. (due_are stored.rows_at l db stored.of_listed t found has, each_of (λ (i : Index). FitsIn db (IndexTold t i)) (λ i. tt) t.indexes))
      l.tables stored.keys (each_named stored.rows_at l db stored.of_listed)) (λ v. tt)
      (all_so (λ (g : Trigger). FitsTarget l g.definition) (λ (g : Trigger). FitsIn db (TriggerTold g)) (λ g fits. knows stored.rows_at l db g.definition stored.of_listed.lists ∙ fits)
      l.triggers stored.targets)

  has_schema : HasSchema language size pages (rows_told (length pages) stored.tell.told stored.schema stored.tell.each) db stored.schema_used
  has_schema = record {
    entries = stored.schema;
    tree = stored.shared.trees.0;
    read = rows_read (length pages) stored.tell.told stored.schema stored.tell.each;
    objects = record {
      names = ap (sorted name_order) (rows_named (length pages) stored.tell.told stored.schema stored.tell.each)
          ∙ told_names stored.rows_at l db stored.of_listed stored.tell.told stored.tell.all;
      each = rows_say stored.rows_at db (length pages) stored.tell.told stored.schema stored.tell.each are_kept are_fit;
    };
    in_order = listed_in_order stored.rows_at l db stored.of_listed.named stored.of_listed.lists (λ name t found. found_fit stored.rows_at name t l.tables stored.held stored.each found);
  }

  pub stands : IsCounted pages → StandsFor language size pages db
  stands counted =
      let trees = in_order_told pages size l db stored in
      record {
        header = stored.header;
        rows = rows_told (length pages) stored.tell.told stored.schema stored.tell.each;
        schema_used = stored.schema_used;
        trees_used = useds_of trees.0;
        trunks = stored.shared.has.trunks;
        headed = is_headed pages size l db stored counted;
        schema = has_schema;
        trees = told_trees pages size l db stored stored.tell.told stored.schema trees.0 stored.tell.each are_kept trees.1;
        freelist = is_freelist pages size l db stored;
        shared = is_shared pages size l db stored trees.0 trees.2;
      }

pub stand_if_stored : KnowsTriggers → StoredStand
stand_if_stored knows pages size l db stored counted = stands knows pages size l db stored counted
