-- the indexes of the keys so far are listed
use Rattle.std.proofs.Common.{◌≡◌, [], Some, IsTrue, Ok}
use Rattle.std.specs.Prelude.{⊤}
use Rattle.pages.specs.Calls.{Causes}
use Rattle.catalog.specs.Database.{Database}
use Rattle.catalog.specs.Listed.{table_named, listed_in, tables_of}
use Rattle.catalog.specs.declared.tables.Table.{Table}
use Rattle.executor.specs.Holding.{AreNewNames, HoldsListed, IsKeyed}
use Rattle.executor.specs.Listing.{AreAfter}
use Rattle.executor.proofs.creating.list_keys.Given as goal

abbrev pub invariant-keys : goal.invariant-keys
invariant-keys g l =
    let pages = g.P.Pages in
    let size = (pages.limits (pages.below l.fn.pages)).page in
    (pages.below l.pages ≡ pages.below l.fn.pages)
    × Causes {T = ⊤} (Ok tt) (pages.failures l.fn.pages) (pages.failures l.pages) ⊥
    × (IsTrue (pages.tells (pages.below l.fn.pages)) → (db : Database) (held : HoldsListed (pages.map l.fn.pages) size (listed_in l.fn.catalog) db) (table : Table) → table_named l.name (tables_of l.fn.catalog) ≡ Some table
    → table.indexes ≡ [] → held.rows_at table.root ≡ [] → AreNewNames (listed_in l.fn.catalog) table.name → IsKeyed (pages.map l.pages) size (listed_in l.fn.catalog) db table l.place (listed_in l.listed))
    × (AreAfter (listed_in l.fn.catalog) → AreAfter (listed_in l.listed))
