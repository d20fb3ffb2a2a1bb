-- The limits on expressions.
use Rattle.std.specs.Prelude.{Bool, true, nat_le, List, Option, Some, None}
use Rattle.sql_syntax.specs.Tree.{Tree, trees}
use Rattle.sql_expr.specs.Depth.{deep, deepest}

-- no limit
abbrev pub unlimited : {A : Type 0} → A → Bool
unlimited a = true

-- no more than 100 forms one over another
abbrev pub is_shallow : Tree → Bool
is_shallow e = nat_le (deep e) 100

-- the same of each of a list
abbrev pub are_shallow : List Tree → Bool
are_shallow es = nat_le (deepest (trees es)) 100

-- the limits of a part that may be left out
abbrev pub if_given : {A : Type 0} → (A → Bool) → Option A → Bool
if_given limits None = true
if_given limits (Some a) = limits a
