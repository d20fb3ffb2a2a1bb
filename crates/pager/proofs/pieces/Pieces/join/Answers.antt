use Rattle.std.proofs.Common.{◌≡◌, ◌<◌, ◌∙◌, length, set, rules, sym, ap, arith}
use Rattle.pager.specs.Pieces.{InPieces, all_items}
use Rattle.pager.proofs.Joining.{items_alone}
use Rattle.pager.proofs.pieces.Pieces.join.Goals as goal

pub index_mut-requires : goal.index_mut-requires
index_mut-requires g c =
    let many : 1 < c.self.inside.pieces.len = search rules in
    let old = c.self.inside.pieces.ok.0 in
    let new = c.gather.new.pieces.ok.0 in
    let count = c.gather.ensures.count in
    let left = c.truncate.ensures.len in
    omega (arith, many, old, new, count, left)

pub invariant_of-self-2 : goal.invariant_of-self-2
invariant_of-self-2 g c =
    let many : 1 < c.self.inside.pieces.len = search rules in
    let some : 0 < length c.gather.new.pieces.items = (let old = c.self.inside.pieces.ok.0 in let count = c.gather.ensures.count in omega (arith, many, old, count)) in
    let after : all_items (set c.truncate.new.self.items 0 c.in_ok-all.all) ≡ all_items c.self.inside.pieces.items =
    ap (λ qs. all_items (set qs 0 c.in_ok-all.all)) c.truncate.ensures.items ∙ items_alone c.gather.new.pieces.items c.in_ok-all.all some ∙ c.in_ok-all.ensures.gathered in
    (c.self.invariant.0 ∙ sym (ap length after), c.self.invariant.1)

pub returns-clause-same : goal.returns-clause-same
returns-clause-same g c =
    let many : 1 < c.self.inside.pieces.len = search rules in
    let some : 0 < length c.gather.new.pieces.items = (let old = c.self.inside.pieces.ok.0 in let count = c.gather.ensures.count in omega (arith, many, old, count)) in
    ap (λ qs. all_items (set qs 0 c.in_ok-all.all)) c.truncate.ensures.items ∙ items_alone c.gather.new.pieces.items c.in_ok-all.all some ∙ c.in_ok-all.ensures.gathered ∙ ap (λ (v : InPieces _). v.items) c.self.view_is
