use Rattle.std.proofs.Common.{◌≡◌, ◌∙◌, get_or, length, set, sym, ap, subst}
use Rattle.std.proofs.lemmas.List.{length-set}
use Rattle.pager.specs.Pieces.{IsSpot, InPieces, all_items}
use Rattle.pager.proofs.Joining.{spot_read, spot_set}
use Rattle.pager.proofs.pieces.Pieces.replace.Goals as goal

pub invariant_of-self : goal.invariant_of-self
invariant_of-self g c =
    let spot = c.spot_of-spot.result in
    let ps = c.self.inside.pieces.items in
    let is = subst (λ qs. IsSpot qs c.args.place spot.piece spot.at) c.deref.ensures.value c.spot_of-spot.ensures in
    let after = spot_set ps c.args.place spot.piece spot.at c.index_mut.result.now c.index_mut.ensures.value c.exchange.new.piece c.args.item is c.exchange.ensures.items in
    (c.self.invariant.0 ∙ sym (ap length after ∙ length-set (all_items ps) c.args.place c.args.item), c.self.invariant.1)

pub returns-clause-items : goal.returns-clause-items
returns-clause-items g c =
    let spot = c.spot_of-spot.result in
    let ps = c.self.inside.pieces.items in
    let is = subst (λ qs. IsSpot qs c.args.place spot.piece spot.at) c.deref.ensures.value c.spot_of-spot.ensures in
    let shown = ap (λ (v : InPieces _). v.items) c.self.view_is in
    spot_set ps c.args.place spot.piece spot.at c.index_mut.result.now c.index_mut.ensures.value c.exchange.new.piece c.args.item is c.exchange.ensures.items ∙ ap (λ xs. set xs c.args.place c.args.item) shown

pub returns-clause-was : goal.returns-clause-was
returns-clause-was g c =
    let spot = c.spot_of-spot.result in
    let ps = c.self.inside.pieces.items in
    let is = subst (λ qs. IsSpot qs c.args.place spot.piece spot.at) c.deref.ensures.value c.spot_of-spot.ensures in
    let shown = ap (λ (v : InPieces _). v.items) c.self.view_is in
    subst (λ xs. c.exchange.result ≡ get_or xs c.args.place c.exchange.result) shown (spot_read ps c.args.place spot.piece spot.at c.index_mut.result.now c.index_mut.ensures.value c.exchange.result is c.exchange.ensures.was)
