use Rattle.std.proofs.Common.{◌∙◌, ap}
use Rattle.pager.specs.Pieces.{all_items}
use Rattle.pager.proofs.Joining.{empty_in}
use Rattle.pager.proofs.pieces.have_piece.Goals as goal

pub returns-clause-same : goal.returns-clause-same
returns-clause-same g c = ap all_items c.in_ok-push.ensures.items ∙ empty_in c.args.pieces.now.items c.new.result c.new.ensures.items
