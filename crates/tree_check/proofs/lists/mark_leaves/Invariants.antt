use Rattle.std.proofs.Common.{◌+◌, ◌*◌, ◌-◌, drop}
use Rattle.tree_check.specs.Exact.{Checks}
use Rattle.tree_check.specs.Trunks.{AreListed}
use Rattle.tree_check.proofs.Trunking.{HasListed}
use Rattle.tree_check.proofs.lists.mark_leaves.Given as goal

abbrev pub invariant-leaves : goal.invariant-leaves
invariant-leaves l =
    HasListed l.fn.marks.items l.marks.items (λ map old new result. Checks (AreListed map (drop 8 l.bytes) l.fn.len) (λ leaves. leaves) old new result)
    (λ map old new result. Checks (AreListed map (drop (8 + 4 * l.index) l.bytes) (l.fn.len - l.index)) (λ leaves. leaves) old new result)
