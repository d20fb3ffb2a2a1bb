-- How many forms of an expression stand one over another: the limit on expressions speaks of it.
use Rattle.std.specs.Prelude.{ℕ, suc, max, List, [], ◌∷◌}
use Rattle.sql_syntax.specs.Tree as tree
use Rattle.sql_syntax.specs.Tree.{Tree, Trees}

-- A row's parentheses are no form of their own; `-5` is two forms.
abbrev mutual
  pub deep : Tree → ℕ
  deep tree.Null = 1
  deep (tree.Integer n) = 1
  deep (tree.Text z) = 1
  deep (tree.Blob z) = 1
  deep (tree.Column s c) = 1
  deep (tree.Paren e) = suc (deep e)
  deep (tree.Negated e) = suc (deep e)
  deep (tree.Not e) = suc (deep e)
  deep (tree.Binary o a b) = suc (max (deep a) (deep b))
  deep (tree.Between n a b c) = suc (max (deep a) (max (deep b) (deep c)))
  deep (tree.In n a es) = suc (max (deep a) (deepest es))
  deep (tree.Collate e c) = suc (deep e)
  deep (tree.Call f es) = suc (deepest es)
  deep (tree.CallAll f) = 1
  deep (tree.Raise r z) = 1

  -- the greatest of their depths
  pub deepest : Trees → ℕ
  deepest tree.End = 0
  deepest (tree.More e es) = max (deep e) (deepest es)

-- the trees of a list
abbrev pub list_of : Trees → List Tree
list_of tree.End = []
list_of (tree.More e es) = e ∷ list_of es
