use Rattle.std.proofs.Common.{◌≡◌, ◌≤◌, ◌+◌, ◌++◌, length, reverse}
use Rattle.std.specs.Prelude.{vec_capacity}
use Rattle.pager.proofs.pieces.cut.Given as goal

abbrev pub invariant-items : goal.invariant-items
invariant-items g l = record {
  low : l.at ≤ length l.piece.items;
  room : length l.rest.items + length l.piece.items ≤ vec_capacity l.rest + l.at;
  same : l.piece.items ++ reverse l.rest.items ≡ l.fn.piece.items;
}

abbrev pub decreases-items : goal.decreases-items
decreases-items g l = length l.piece.items
