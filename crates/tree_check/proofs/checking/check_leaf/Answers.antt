use Rattle.std.proofs.Common.{◌≡◌, List, Vec, Global, Ok, Err, subst, rules}
use Rattle.std.proofs.lemmas.Int.{to_z-of_z}
use Rattle.std.specs.Int.{w128}
use Rattle.std.specs.List.{flat_map}
use Rattle.tree_page.specs.Cells.{Pairwise}
use Rattle.tree_check.specs.Exact.{Checks}
use Rattle.tree_check.specs.Subtrees.{ReadsLeaf}
use Rattle.tree_check.specs.Tails.{IsTailOn}
use Rattle.tree_check.specs.declared.chains.Tail.{Tail}
use Rattle.tree_check.proofs.Parting.{told_after, can_after}
use Rattle.tree_check.proofs.LeafChecks.{top_refused, leaf_refused, leaf_checks, bounded}
use Rattle.tree_check.proofs.checking.check_leaf.Goals as goal

abbrev items_of : Vec Tail Global → List Tail
items_of tails = tails.items

pub returns-in_err-mark-clause-checked : goal.returns-in_err-mark-clause-checked
returns-in_err-mark-clause-checked g c = λ map size told can.
    top_refused map size c.args.page 0 c.args.low c.args.high c.args.marks.now.items c.mark.new.marks.items c.mark.new.marks.items c.in_err-mark.field-0.0 c.from_residual.result (c.in_err-mark.ensures.checked map can.long) c.from_residual.ensures.1

pub returns-in_err-tails-clause-checked : goal.returns-in_err-tails-clause-checked
returns-in_err-tails-clause-checked g c = λ map size told can.
    (let reads = bounded (λ low high. ReadsLeaf items_of map c.args.page low high (Err c.in_err-tails.field-0.0)) _ _ c.args.low c.args.high
    (to_z-of_z w128 c.args.low c.ranges.low) (to_z-of_z w128 c.args.high c.ranges.high) (c.in_err-tails.ensures.read map size told can.whole) in
    leaf_refused items_of map size c.args.page c.args.low c.args.high c.args.marks.now.items c.mark.new.marks.items c.in_err-tails.field-0.0 c.from_residual-in_err-tails.result reads c.from_residual-in_err-tails.ensures.1)

pub returns-clause-checked : goal.returns-clause-checked
returns-clause-checked g c = λ map size told can.
    (let p = g.P.Pages in
    let stays = c.in_ok-tails.ensures.stays in
    let reads = bounded (λ low high. ReadsLeaf items_of map c.args.page low high (Ok c.in_ok-tails.tails)) _ _ c.args.low c.args.high
    (to_z-of_z w128 c.args.low c.ranges.low) (to_z-of_z w128 c.args.high c.ranges.high) (c.in_ok-tails.ensures.read map size told can.whole) in
    let now = told_after p.below p.tells p.limits p.map c.args.pages.now c.read_leaf.new.pages map size stays.kept stays.same told in
    let all : c.as_slice.result.now ≡ c.in_ok-tails.tails.items = search rules in
    let chains = subst (λ (l : List Tail). Checks (Pairwise (IsTailOn map size) l) (flat_map (λ chain. chain.pages)) c.mark.new.marks.items c.check_tails.new.marks.items c.check_tails.result) all
    (c.check_tails.ensures.checked map size now (can_after map size c.args.marks.now.items c.mark.new.marks.items c.in_ok-mark.ensures.long can)) in
    leaf_checks map size c.args.page c.args.low c.args.high c.in_ok-tails.tails.items c.args.marks.now.items c.mark.new.marks.items c.check_tails.new.marks.items c.check_tails.result can
    (c.in_ok-mark.ensures.checked map can.long) reads chains)
