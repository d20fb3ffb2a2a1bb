use Rattle.std.proofs.Common.{◌∙◌, ℕ, List, drop, Ok, Err, refl, ap, subst}
use Rattle.pages.specs.Map.{Has, page_at}
use Rattle.tree_check.specs.Exact.{Checks}
use Rattle.tree_check.specs.Trunks.{AreListed, TellsList}
use Rattle.tree_check.proofs.Links.{large_size}
use Rattle.tree_check.proofs.Trunking.{these, trunk_refused, leaves_refused, trunk_checked}
use Rattle.tree_check.proofs.lists.check_trunk.Goals as goal

pub returns-in_err-mark-clause-checked : goal.returns-in_err-mark-clause-checked
returns-in_err-mark-clause-checked g c = λ map size told can.
    trunk_refused map size c.args.trunk c.args.left c.args.marks.now.items c.mark.new.marks.items c.in_err-mark.field-0.0 c.from_residual.result c.from_residual.ensures.1
    (λ has free. c.in_err-mark.ensures.checked map can.long c.args.trunk (record { is = refl; has = has }) free)

pub returns-in_err-mark_leaves-clause-checked : goal.returns-in_err-mark_leaves-clause-checked
returns-in_err-mark_leaves-clause-checked g c = λ map size told can.
    (let marked = c.in_ok-mark.ensures.checked map can.long in
    let read = c.in_ok-load.ensures.bytes told.told ∙ ap (λ m. page_at m c.args.trunk) told.map_is in
    let tells = subst (λ (l : List ℕ). TellsList l c.args.left c.in-Some.listed) (c.loaded.ensures ∙ read) c.in-Some.ensures.found in
    let sized = can.whole c.args.trunk (subst (Has map) marked.0.is.is marked.0.is.has) in
    let small = (large_size size can.sized).1 in
    let leaves = subst (λ (l : List ℕ). Checks (AreListed map (drop 8 l) c.in-Some.listed.len) these c.mark.new.marks.items c.mark_leaves.new.marks.items (Err c.in_err-mark_leaves.field-0.0)) (c.loaded-2.ensures ∙ read)
    (c.in_err-mark_leaves.ensures.checked map (c.in_ok-mark.ensures.long ∙ can.long)) in
    leaves_refused map size c.args.trunk c.args.left c.in-Some.listed small sized tells c.args.marks.now.items c.mark.new.marks.items c.mark_leaves.new.marks.items c.in_err-mark_leaves.field-0.0 c.from_residual-in_err-mark_leaves.result
    marked leaves c.from_residual-in_err-mark_leaves.ensures.1)

pub returns-clause-checked : goal.returns-clause-checked
returns-clause-checked g c = λ map size told can.
    (let marked = c.in_ok-mark.ensures.checked map can.long in
    let read = c.in_ok-load.ensures.bytes told.told ∙ ap (λ m. page_at m c.args.trunk) told.map_is in
    let tells = subst (λ (l : List ℕ). TellsList l c.args.left c.in-Some.listed) (c.loaded.ensures ∙ read) c.in-Some.ensures.found in
    let sized = can.whole c.args.trunk (subst (Has map) marked.0.is.is marked.0.is.has) in
    let small = (large_size size can.sized).1 in
    let leaves = subst (λ (l : List ℕ). Checks (AreListed map (drop 8 l) c.in-Some.listed.len) these c.mark.new.marks.items c.mark_leaves.new.marks.items (Ok tt)) (c.loaded-2.ensures ∙ read)
    (c.in_ok-mark_leaves.ensures.checked map (c.in_ok-mark.ensures.long ∙ can.long)) in
    trunk_checked map size c.args.trunk c.args.left c.in-Some.listed small sized tells c.args.marks.now.items c.mark.new.marks.items c.mark_leaves.new.marks.items marked leaves)
