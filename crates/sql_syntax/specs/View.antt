-- What a node stands for.
use Rattle.sql_syntax.specs.Tree as tree
use Rattle.sql_syntax.specs.Tree.{Tree, trees}
use Rattle.sql_syntax.specs.declared.expr.Node.{Node}
use Rattle.sql_syntax.specs.declared.expr.Node.TheVariants as code

abbrev pub tree_of : Node → Tree
tree_of code.Null = tree.Null
tree_of (code.Integer n) = tree.Integer n
tree_of (code.Text z) = tree.Text z
tree_of (code.Blob z) = tree.Blob z
tree_of (code.Column s c) = tree.Column s c
tree_of (code.Paren e) = tree.Paren e.value
tree_of (code.Negated e) = tree.Negated e.value
tree_of (code.Not e) = tree.Not e.value
tree_of (code.Binary o a b) = tree.Binary o a.value b.value
tree_of (code.Between n a b c) = tree.Between n a.value b.value c.value
tree_of (code.In n a es) = tree.In n a.value (trees es.items)
tree_of (code.Collate e c) = tree.Collate e.value c
tree_of (code.Call f es) = tree.Call f (trees es.items)
tree_of (code.CallAll f) = tree.CallAll f
tree_of (code.Raise r z) = tree.Raise r z
