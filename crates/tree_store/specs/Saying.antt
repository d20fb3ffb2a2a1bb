-- What the pages of a tree say, by their numbers (Database File Format, "B-tree Pages").
use Rattle.std.specs.Prelude.{ℕ}
use Rattle.pages.specs.Map.{PageMap, page_at, Has}
use Rattle.pages.specs.Counting.{start_of}
use Rattle.tree_page.specs.Node.{Node, IsNode}

-- the page of this number says this
pub record Says (map : PageMap) (number : ℕ) (node : Node) : Type 0 where
  pub has : Has map number
  pub node_is : IsNode (page_at map number) (start_of number) node
