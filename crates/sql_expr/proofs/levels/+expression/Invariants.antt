-- Each form is nested in less room; within one form, rules come one after another.
use Rattle.std.proofs.Common.{◌≡◌, ◌-◌, ◌+◌, ◌*◌, length}
use Rattle.sql_expr.specs.Symbols.{seen}
use Rattle.sql_expr.specs.Reading as spec
use Rattle.sql_expr.specs.Reading.{level_at}
use Rattle.sql_expr.proofs.levels.+expression.Given as goal

abbrev pub decreases-among : goal.decreases-among
decreases-among l = l.room * 64 + 5

abbrev pub decreases-atom : goal.decreases-atom
decreases-atom l = l.room * 64 + 9

abbrev pub decreases-between : goal.decreases-between
decreases-between l = l.room * 64 + 5

abbrev pub decreases-call : goal.decreases-call
decreases-call l = l.room * 64 + 5

abbrev pub decreases-items : goal.decreases-items
decreases-items l = l.room * 64 + 4

abbrev pub decreases-items_from : goal.decreases-items_from
decreases-items_from l = l.room * 64 + 3

abbrev pub decreases-climb : goal.decreases-climb
decreases-climb l = l.room * 64 + 11 + (l.to - l.from)

abbrev pub decreases-ladder : goal.decreases-ladder
decreases-ladder l = l.room * 64 + 22

abbrev pub decreases-level : goal.decreases-level
decreases-level l = l.room * 64 + 63

abbrev pub decreases-named : goal.decreases-named
decreases-named l = l.room * 64 + 6

abbrev pub decreases-nested : goal.decreases-nested
decreases-nested l = l.room * 64

abbrev pub decreases-operand : goal.decreases-operand
decreases-operand l = l.room * 64 + 5

abbrev pub decreases-paren : goal.decreases-paren
decreases-paren l = l.room * 64 + 5

abbrev pub decreases-prefix : goal.decreases-prefix
decreases-prefix l = l.room * 64 + 10

abbrev pub decreases-tail : goal.decreases-tail
decreases-tail l = l.room * 64 + 9

abbrev pub decreases-tails : goal.decreases-tails
decreases-tails l = l.room * 64 + 10

abbrev pub invariant-items_from-items : goal.invariant-items_from-items
invariant-items_from-items l =
    spec.items_from (level_at (l.room - 1)) l.room (seen l.spelled l.tokens)
    ≡ spec.items_upto (level_at (l.room - 1)) l.room (length (seen l.spelled l.tokens) - l.counter) (record { trees = l.trees.items; depth = l.depth }) (seen l.spelled l.rest)

abbrev pub invariant-tails-tails : goal.invariant-tails-tails
invariant-tails-tails l =
    spec.tails (level_at (l.room - 1)) l.room l.room l.rank l.fn.first (seen l.spelled l.tokens)
    ≡ spec.tails (level_at (l.room - 1)) l.room (l.room - l.counter) l.rank l.left (seen l.spelled l.rest)
