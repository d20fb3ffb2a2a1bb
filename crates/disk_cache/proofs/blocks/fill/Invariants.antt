-- as many as were added, and those so far are as they were
use Rattle.std.proofs.Common.{ℕ, List, ◌+◌, ◌≤◌, length}
use Rattle.disk_cache.specs.Kept.{AreKept}
use Rattle.disk_cache.proofs.blocks.fill.Given as goal

abbrev pub invariant-blocks-2 : goal.invariant-blocks-2
invariant-blocks-2 l = (length l.blocks.items ≤ length l.fn.blocks.items + l.counter)
    × ((content : List ℕ) (end : ℕ) → AreKept content end l.fn.blocks.items → AreKept content end l.blocks.items)
