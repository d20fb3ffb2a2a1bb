-- what is left of the groups decides
use Rattle.std.proofs.Common.{◌≡◌, ◌-◌, ◌≤◌, drop, length, map}
use Rattle.sqlval.specs.Lists.{groups}
use Rattle.query_terms.specs.Rows.{picked_rows}
use Rattle.query_answer.specs.Groups.{have_same_keys, of_group, of_runs}
use Rattle.query_answer.specs.Nesting.{shown}
use Rattle.query_terms.proofs.InOrder.{left}
use Rattle.query_answer.proofs.grouping.each_group.Given as goal

abbrev pub invariant-groups : goal.invariant-groups
invariant-groups l =
    (left (of_group l.loops.reading.now (picked_rows l.loops.sources.now l.loops.outer.now) l.loops.sources.now) (groups (have_same_keys l.orders) (drop l.start l.rows)) (map shown l.found.items) ≡ of_runs l.loops.reading.now (picked_rows l.loops.sources.now l.loops.outer.now) l.loops.sources.now l.orders l.rows)
    × (l.start ≤ length l.rows)

abbrev pub decreases-groups : goal.decreases-groups
decreases-groups l = length l.rows - l.start
