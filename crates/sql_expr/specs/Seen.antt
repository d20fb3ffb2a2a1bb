-- What contracts see of expressions in memory of their own, and of lists of them.
use Rattle.sql_expr.specs.Reading as spec
use Rattle.sql_expr.specs.declared.forms.Boxed.{Boxed}
use Rattle.sql_expr.specs.declared.levels.Deep.{Deep}
use Rattle.sql_expr.specs.declared.levels.Deeps.{Deeps}

abbrev pub seen_all : Deeps → spec.Deeps
seen_all d = record { trees = d.trees.items; depth = d.depth }

abbrev pub deep_of : Boxed → Deep
deep_of b = record { tree = b.tree.value; depth = b.depth }
