-- What holds of each page that says something.
use Rattle.std.specs.Prelude.{◌≡◌, ℕ, List, length, drop}
use Rattle.tree_page.specs.Node.{Node, IsNode}

-- a page says one thing
abbrev pub SaysOne : Type 0
SaysOne = (page : List ℕ) (start : ℕ) (a b : Node) → IsNode page start a → IsNode page start b → a ≡ b

-- what stands before a page's header doesn't matter: the bytes from there on, and the page's length, say all of it
abbrev pub StaysAfterFront : Type 0
StaysAfterFront = (old new : List ℕ) (start : ℕ) (node : Node) → drop start new ≡ drop start old → length new ≡ length old → IsNode old start node → IsNode new start node
