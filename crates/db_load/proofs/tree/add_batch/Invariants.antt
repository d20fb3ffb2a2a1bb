-- What the rows up to here tell is listed.
use Rattle.std.specs.Prelude.{List, ◌++◌, drop, take}
use Rattle.tree_leaf.specs.Leaf.{Entry}
use Rattle.catalog.specs.Listed.{Listed, listed_in}
use Rattle.db_load.specs.Reading.{AreIndexed, Finds, IsLoading}
use Rattle.db_load.proofs.tree.add_batch.Given as goal

abbrev pub invariant-rows : goal.invariant-rows
invariant-rows l =
    ((listed : Listed) (after : List Entry) → AreIndexed listed → IsLoading l.tables l.size listed (l.batch ++ after) (listed_in l.initial.catalog)
    → IsLoading l.tables l.size listed (drop l.index l.batch ++ after) (listed_in l.catalog))
    × Finds l.tables l.size (take l.index l.batch) (listed_in l.initial.catalog) (listed_in l.catalog)
