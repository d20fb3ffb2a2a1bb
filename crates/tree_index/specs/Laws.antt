-- What follows for an index's tree.
use Rattle.std.specs.Prelude.{ℕ, List}
use Rattle.sqlval.specs.declared.collation.Collation.{Collation}
use Rattle.pages.specs.Map.{PageMap}
use Rattle.tree_store.specs.Staying.{AreKept}
use Rattle.tree_index.specs.Entries.{Entry}
use Rattle.tree_index.specs.Tree.{IsIndexTree}

-- a tree stays where what trees see of its pages stays
abbrev pub TreesStay : Type 0
TreesStay = (old new : PageMap) (size root : ℕ) (columns : List Collation) (entries : List Entry) (used : List ℕ) → AreKept old new size used
    → IsIndexTree old size root columns entries used → IsIndexTree new size root columns entries used
