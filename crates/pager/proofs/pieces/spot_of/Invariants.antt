use Rattle.std.proofs.Common.{◌≡◌, ◌+◌, ◌-◌, length, take}
use Rattle.pager.specs.Pieces.{all_items}
use Rattle.pager.proofs.pieces.spot_of.Given as goal

abbrev pub invariant-pieces : goal.invariant-pieces
invariant-pieces g l = l.place ≡ length (all_items (take l.piece l.pieces)) + l.at

abbrev pub decreases-pieces : goal.decreases-pieces
decreases-pieces g l = length l.pieces - l.piece
