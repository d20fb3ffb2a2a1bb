use Rattle.std.proofs.Common.{◌≡◌, ◌<◌, ◌≤◌, ◌+◌, ◌∙◌, length, set, rules, sym, ap, subst, arith}
use Rattle.std.specs.Prelude.{vec_capacity}
use Rattle.std.specs.List.{insert}
use Rattle.pager.specs.Pieces.{all_items}
use Rattle.pager.proofs.Joining.{cut_in_two, same_set}
use Rattle.pager.proofs.pieces.cut_full.Goals as goal

pub returns-in_err-rest-clause-same : goal.returns-in_err-rest-clause-same
returns-in_err-rest-clause-same g c =
    let within : c.args.piece < length c.reserve.new.self.items = subst (λ ps. c.args.piece < length ps) (sym c.reserve.ensures.items) c.requires in
    same_set c.reserve.new.self.items c.args.piece c.index_mut.result.now c.cut.new.piece within c.index_mut.ensures.value c.in_err-rest.ensures.refused ∙ ap all_items c.reserve.ensures.items

pub returns-clause-same : goal.returns-clause-same
returns-clause-same g c =
    let within : c.args.piece < length c.reserve.new.self.items = subst (λ ps. c.args.piece < length ps) (sym c.reserve.ensures.items) c.requires in
    let room : c.reserve.new.self.len + 1 ≤ vec_capacity c.reserve.new.self = search rules in
    let free : c.reserve.new.self.len < vec_capacity c.reserve.new.self = omega (arith, room) in
    let put : c.insert.new.self.items ≡ insert (set c.reserve.new.self.items c.args.piece c.cut.new.piece) (c.args.piece + 1) c.in_ok-rest.rest = (let ok = c.insert.ensures.succeeds free in search rules) in
    ap all_items put
    ∙ cut_in_two c.reserve.new.self.items c.args.piece c.index_mut.result.now c.cut.new.piece c.in_ok-rest.rest within c.index_mut.ensures.value c.in_ok-rest.ensures.cut
    ∙ ap all_items c.reserve.ensures.items
