use Rattle.std.proofs.Common.{◌≡◌, ◌<◌, ◌∙◌, length, set, rules, sym, ap, subst}
use Rattle.std.proofs.lemmas.List.{length-set, nil_from_length}
use Rattle.pager.specs.Pieces.{IsSpot, all_items}
use Rattle.pager.proofs.Joining.{empty_out, spot_read, spot_remove}
use Rattle.pager.proofs.pieces.take.Goals as goal

pub returns-then-is_empty-clause-taken : goal.returns-then-is_empty-clause-taken
returns-then-is_empty-clause-taken g c =
    let spot = c.spot_of-spot.result in
    let ps = c.args.pieces.now.items in
    let is = subst (λ qs. IsSpot qs c.args.place spot.piece spot.at) c.deref.ensures.value c.spot_of-spot.ensures in
    spot_read ps c.args.place spot.piece spot.at c.index_mut.result.now c.index_mut.ensures.value c.remove-item.result is c.remove-item.ensures.value

pub returns-else-is_empty-clause-taken : goal.returns-else-is_empty-clause-taken
returns-else-is_empty-clause-taken g c =
    let spot = c.spot_of-spot.result in
    let ps = c.args.pieces.now.items in
    let is = subst (λ qs. IsSpot qs c.args.place spot.piece spot.at) c.deref.ensures.value c.spot_of-spot.ensures in
    spot_read ps c.args.place spot.piece spot.at c.index_mut.result.now c.index_mut.ensures.value c.remove-item.result is c.remove-item.ensures.value

pub returns-else-is_empty-clause-left : goal.returns-else-is_empty-clause-left
returns-else-is_empty-clause-left g c =
    let spot = c.spot_of-spot.result in
    let ps = c.args.pieces.now.items in
    let is = subst (λ qs. IsSpot qs c.args.place spot.piece spot.at) c.deref.ensures.value c.spot_of-spot.ensures in
    spot_remove ps c.args.place spot.piece spot.at c.index_mut.result.now c.index_mut.ensures.value c.remove-item.new.self is c.remove-item.ensures.items

pub returns-then-is_empty-clause-left : goal.returns-then-is_empty-clause-left
returns-then-is_empty-clause-left g c =
    let spot = c.spot_of-spot.result in
    let ps = c.args.pieces.now.items in
    let is = subst (λ qs. IsSpot qs c.args.place spot.piece spot.at) c.deref.ensures.value c.spot_of-spot.ensures in
    let left = spot_remove ps c.args.place spot.piece spot.at c.index_mut.result.now c.index_mut.ensures.value c.remove-item.new.self is c.remove-item.ensures.items in
    let none : length c.index.result.now.items ≡ 0 = search rules in
    let within : spot.piece < length (set ps spot.piece c.remove-item.new.self) = subst (λ n. spot.piece < n) (sym (length-set ps spot.piece c.remove-item.new.self)) is.within in
    ap all_items c.remove.ensures.items ∙ empty_out (set ps spot.piece c.remove-item.new.self) spot.piece c.index.result.now within c.index.ensures (nil_from_length c.index.result.now.items none) ∙ left
