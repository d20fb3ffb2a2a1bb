use Rattle.std.proofs.Common.{◌≡◌, get_or, ap, subst}
use Rattle.pager.specs.Pieces.{IsSpot, InPieces}
use Rattle.pager.proofs.Joining.{spot_read}
use Rattle.pager.proofs.pieces.Pieces.at.Goals as goal

pub returns : goal.returns
returns g c =
    let spot = c.spot_of-spot.result in
    let ps = c.self.inside.pieces.items in
    let is = subst (λ qs. IsSpot qs c.args.place spot.piece spot.at) c.deref.ensures.value c.spot_of-spot.ensures in
    let shown = ap (λ (v : InPieces _). v.items) c.self.view_is in
    subst (λ xs. c.index-2.result.now ≡ get_or xs c.args.place c.index-2.result.now) shown (spot_read ps c.args.place spot.piece spot.at c.index.result.now c.index.ensures c.index-2.result.now is c.index-2.ensures)
