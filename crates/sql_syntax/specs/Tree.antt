-- Expressions as plain data.
use Rattle.std.specs.Prelude.{ℕ, ◌+◌, Bool, Option, List, [], ◌∷◌}
use Rattle.sql_syntax.specs.declared.expr.Operator.{Operator}
use Rattle.sql_syntax.specs.declared.expr.RaiseAction.{RaiseAction}

-- An expression (SQL As Understood By SQLite, "expr").
mutual
  pub data Tree : Type 0 where
    Null : Tree
    Integer : ℕ → Tree
    Text : List ℕ → Tree
    Blob : List ℕ → Tree
    -- the source, where it is written, and the column
    Column : Option (List ℕ) → List ℕ → Tree
    Paren : Tree → Tree
    Negated : Tree → Tree
    Not : Tree → Tree
    Binary : Operator → Tree → Tree → Tree
    -- whether NOT is written, the operand, the least and the greatest
    Between : Bool → Tree → Tree → Tree → Tree
    -- whether NOT is written, the operand, and the list
    In : Bool → Tree → Trees → Tree
    Collate : Tree → List ℕ → Tree
    Call : List ℕ → Trees → Tree
    -- a function of `*`
    CallAll : List ℕ → Tree
    Raise : RaiseAction → List ℕ → Tree

  pub data Trees : Type 0 where
    End : Trees
    More : Tree → Trees → Trees

abbrev pub trees : List Tree → Trees
trees [] = End
trees (e ∷ es) = More e (trees es)

-- How many forms stand one over another, and how many items a list has, all together: the measure of recursions. It falls
-- to each part, and from a list to its rest.
abbrev mutual
  pub size : Tree → ℕ
  size Null = 0
  size (Integer n) = 0
  size (Text z) = 0
  size (Blob z) = 0
  size (Column s c) = 0
  size (Paren e) = size e + 1
  size (Negated e) = size e + 1
  size (Not e) = size e + 1
  size (Binary o a b) = size a + size b + 1
  size (Between n a b c) = size a + size b + size c + 1
  size (In n a es) = size a + size_in es + 1
  size (Collate e c) = size e + 1
  size (Call f es) = size_in es + 1
  size (CallAll f) = 0
  size (Raise r z) = 0

  pub size_in : Trees → ℕ
  size_in End = 0
  size_in (More e es) = size e + size_in es + 1
