-- A tree whose pages are leaves of whole rows is one page.
use Rattle.std.proofs.Common.{ℕ, zero, suc, subst, List}
use Rattle.tree_leaf.specs.Leaf.{Entry}
use Rattle.pages.specs.Map.{PageMap, Has}
use Rattle.tree_table.specs.Tree.{Tree, IsTableTree, Lies, top}

-- the page at the top is there
top_there : (pages : PageMap) (usable depth : ℕ) (tree : Tree depth) → Lies pages usable depth tree → Has pages (top depth tree)
top_there pages usable zero tree lies = lies.says.has
top_there pages usable (suc depth) tree lies = lies.0.has

-- the page of a tree's root is there
pub root_there : (pages : PageMap) (usable root : ℕ) (rows : List Entry) (used : List ℕ) → IsTableTree pages usable root rows used → Has pages root
root_there pages usable root rows used is = subst (Has pages) is.root_is (top_there pages usable is.depth is.tree is.lies)
