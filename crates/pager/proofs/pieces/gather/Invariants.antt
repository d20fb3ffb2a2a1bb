use Rattle.std.proofs.Common.{◌≡◌, ◌≤◌, ◌-◌, ◌++◌, length, drop}
use Rattle.std.specs.Prelude.{vec_capacity}
use Rattle.pager.specs.Pieces.{all_items}
use Rattle.pager.proofs.pieces.gather.Given as goal

abbrev pub invariant-pieces : goal.invariant-pieces
invariant-pieces g l = record {
  low : l.piece ≤ length l.pieces.items;
  same : l.all.items ++ all_items (drop l.piece l.pieces.items) ≡ all_items l.fn.pieces.items;
  count : length l.pieces.items ≡ length l.fn.pieces.items;
  room : l.len ≤ vec_capacity l.all;
}

abbrev pub decreases-pieces : goal.decreases-pieces
decreases-pieces g l = length l.pieces.items - l.piece
