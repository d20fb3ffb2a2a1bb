-- what the pages of the pieces so far are
use Rattle.std.proofs.Common.{◌≡◌, length, take}
use Rattle.pager.specs.Pieces.{all_items}
use Rattle.pager.specs.Undo.{NumbersRise}
use Rattle.pager.specs.Writers.{AreBelow}
use Rattle.pager.proofs.saved.place_in.Given as goal

abbrev pub invariant-loop-piece : goal.invariant-loop-piece
invariant-loop-piece l = record {
  before : l.before ≡ length (all_items (take l.piece-index l.pieces));
  below : NumbersRise 0 (all_items l.pieces) → AreBelow l.number (all_items (take l.piece-index l.pieces));
}
