-- What a node stands for.
use Rattle.query_terms.specs.Terms as tree
use Rattle.query_terms.specs.Terms.{Term, terms}
use Rattle.query_terms.specs.declared.tree.Node.{Node}
use Rattle.query_terms.specs.declared.tree.Node.TheVariants as code

abbrev pub tree_of : Node → Term
tree_of (code.Const v) = tree.Const v
tree_of (code.Digits n) = tree.Digits n
tree_of (code.Cell s p a c) = tree.Cell s p a c
tree_of (code.Key k e) = tree.Key k e.value
tree_of (code.Apply f es) = tree.Apply f (terms es.items)
tree_of (code.Total g e) = tree.Total g e.value
tree_of (code.One o e) = tree.One o e.value
tree_of (code.Two o a b) = tree.Two o a.value b.value
tree_of (code.Collate c e) = tree.Collate c e.value
tree_of (code.In n a es) = tree.In n a.value (terms es.items)
tree_of (code.Between n a b c) = tree.Between n a.value b.value c.value
tree_of (code.Raise k t) = tree.Raise k t
