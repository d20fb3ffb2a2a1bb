-- The automatic indexes that the rows of stored pages tell: each is one that a key of its table asks for, whose row is among them.
use Rattle.std.proofs.Common.{◌≡◌, sym, subst, ℕ, List, map, true, Some}
use Rattle.std.specs.List.{AllByRecursion}
use Rattle.sqlval.specs.Lists.{is_rising}
use Rattle.sqlval.specs.Names.{folded}
use Rattle.pages.specs.Map.{PageMap}
use Rattle.catalog.specs.Database.{AnIndex, Database, Name, name_order}
use Rattle.catalog.specs.Listed.{Listed, as_index, named_among, table_named}
use Rattle.catalog.specs.declared.tables.Index.{Index}
use Rattle.catalog.specs.declared.tables.Table.{Table}
use Rattle.catalog.specs.declared.tables.Trigger.{Trigger}
use Rattle.db_pages.specs.Schema.{HasKeyIndexes, IndexTold, TriggerTold, due_objects}
use Rattle.db_pages.specs.Stored.{Stores}
use Rattle.db_pages.proofs.AutomaticObjects.{each_due, each_named}
use Rattle.db_pages.proofs.StoredApart.{all_both, all_so}
use Rattle.db_pages.proofs.StoredNames.{sorted_different}
use Rattle.db_pages.proofs.StoredShares.{AllApart}
use Rattle.db_pages.proofs.ToldObjects.{told_name, told_names}
use Rattle.db_pages.proofs.ToldTables.{IsDueAmong, OfTable, due_named, dues_found, each_of, told_each}

module _ (pages : PageMap) (size : ℕ) (l : Listed) (db : Database) (stored : Stores pages size l db) where
  -- no two rows tell one name
  names_apart : AllApart (map (λ one. folded (told_name one)) stored.tell.told)
  names_apart =
      sorted_different (map (λ one. folded (told_name one)) stored.tell.told)
      (subst (λ (ns : List Name). is_rising name_order ns ≡ true) (sym (told_names stored.rows_at l db stored.of_listed stored.tell.told stored.tell.all)) stored.of_listed.named.rising)

  abbrev IsFoundWithKeys : Table → Type 0
  IsFoundWithKeys t = HasKeyIndexes t × (table_named t.name l.tables ≡ Some t)

  of_table : (t : Table) → IsFoundWithKeys t → due_named t.name stored.tell.told ≡ Some (due_objects t) → OfTable (IsDueAmong stored.tell.told) t
  of_table t is due = (
    tt,
    all_so (λ (i : Index). i.is_automatic ≡ true → named_among i.name (due_objects t) ≡ Some (AnIndex (as_index t i))) (λ (i : Index). IsDueAmong stored.tell.told (IndexTold t i))
        (λ i asked. (due, asked)) t.indexes (each_due stored.rows_at l db stored.of_listed t is.1 is.0),
  )

  pub told_due : AllByRecursion (IsDueAmong stored.tell.told) stored.tell.told
  told_due =
      told_each (IsDueAmong stored.tell.told) l stored.tell.told stored.tell.all
      (all_both IsFoundWithKeys (λ (t : Table). due_named t.name stored.tell.told ≡ Some (due_objects t)) (OfTable (IsDueAmong stored.tell.told)) of_table l.tables
      (all_both HasKeyIndexes (λ (t : Table). table_named t.name l.tables ≡ Some t) IsFoundWithKeys (λ t has found. (has, found)) l.tables stored.keys (each_named stored.rows_at l db stored.of_listed))
      (dues_found l stored.tell.told stored.tell.all names_apart))
      (λ v. tt) (each_of (λ (g : Trigger). IsDueAmong stored.tell.told (TriggerTold g)) (λ g. tt) l.triggers)
