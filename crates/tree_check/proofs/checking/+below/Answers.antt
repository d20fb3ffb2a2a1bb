use Rattle.std.proofs.Common.{◌≡◌, ◌-◌, ◌∙◌, ℕ, List, Ok, sym, subst, rules, arith}
use Rattle.std.proofs.lemmas.Int.{to_z-of_z}
use Rattle.std.specs.Int.{w128}
use Rattle.tree_table.specs.Tree.{pages_of}
use Rattle.tree_page.specs.declared.items.Key.{Key}
use Rattle.tree_check.specs.Exact.{Checks}
use Rattle.tree_check.specs.Subtrees.{IsSubtree, AreSubtrees, keys_in, pages_beside}
use Rattle.tree_check.proofs.Parting.{told_after, can_after}
use Rattle.tree_check.proofs.Running.{goes_on, ends}
use Rattle.tree_check.proofs.LeafChecks.{top_refused, bounded}
use Rattle.tree_check.proofs.KidChecks.{page_checks, page_refused, kid_then, kid_stops, last_checks}
use Rattle.tree_check.proofs.checking.+below.Goals as goal

pub check_below-returns-then-depth-eq0-clause-checked : goal.check_below-returns-then-depth-eq0-clause-checked
check_below-returns-then-depth-eq0-clause-checked g t c = λ map size told can.
    subst (λ (d : ℕ). Checks (IsSubtree map size c.args.page d c.args.low c.args.high) (pages_of d) c.args.marks.now.items c.check_leaf.new.marks.items c.check_leaf.result) (sym c.if-depth-eq0.true)
    (bounded (λ low high. Checks (IsSubtree map size c.args.page 0 low high) (pages_of 0) c.args.marks.now.items c.check_leaf.new.marks.items c.check_leaf.result) _ _ c.args.low c.args.high
    (to_z-of_z w128 c.args.low c.ranges.low) (to_z-of_z w128 c.args.high c.ranges.high) (c.check_leaf.ensures.checked map size told can))

pub check_below-returns-in_err-mark-clause-checked : goal.check_below-returns-in_err-mark-clause-checked
check_below-returns-in_err-mark-clause-checked g t c = λ map size told can.
    top_refused map size c.args.page c.args.depth c.args.low c.args.high c.args.marks.now.items c.mark.new.marks.items c.mark.new.marks.items c.in_err-mark.field-0.0 c.from_residual.result
    (c.in_err-mark.ensures.checked map can.long) c.from_residual.ensures.1

pub check_below-returns-in_err-kids-clause-checked : goal.check_below-returns-in_err-kids-clause-checked
check_below-returns-in_err-kids-clause-checked g t c = λ map size told can.
    page_refused map size c.args.page c.args.depth c.args.low c.args.high c.args.marks.now.items c.mark.new.marks.items c.in_err-kids.field-0.0 c.from_residual-in_err-kids.result
    (omega (arith, c.if-depth-eq0.false)) (c.in_err-kids.ensures.read map size told can.whole) c.from_residual-in_err-kids.ensures.1

pub check_below-returns-clause-checked : goal.check_below-returns-clause-checked
check_below-returns-clause-checked g t c = λ map size told can.
    (let p = g.P.Pages in
    let stays = c.in_ok-kids.ensures.stays in
    let now = told_after p.below p.tells p.limits p.map c.args.pages.now c.read_kids.new.pages map size stays.kept stays.same told in
    let after = can_after map size c.args.marks.now.items c.mark.new.marks.items c.in_ok-mark.ensures.long can in
    let all : c.as_slice.result.now ≡ c.in_ok-kids.kids.keys.items = search rules in
    let kids = c.in_ok-kids.kids in
    let below = bounded (λ low high. Checks (AreSubtrees map size (keys_in c.as_slice.result.now) kids.last (c.args.depth - 1) low high) (pages_beside (c.args.depth - 1)) c.mark.new.marks.items c.check_kids.new.marks.items c.check_kids.result)
    _ _ c.args.low c.args.high (to_z-of_z w128 c.args.low c.ranges.low) (to_z-of_z w128 c.args.high c.ranges.high) (c.check_kids.ensures.checked map size now after) in
    page_checks map size c.args.page c.args.depth c.args.low c.args.high (keys_in kids.keys.items) kids.last c.args.marks.now.items c.mark.new.marks.items c.check_kids.new.marks.items c.check_kids.result
    (omega (arith, c.if-depth-eq0.false)) (c.in_ok-mark.ensures.checked map can.long) (c.in_ok-kids.ensures.read map size told can.whole)
    (subst (λ (l : List Key). Checks (AreSubtrees map size (keys_in l) kids.last (c.args.depth - 1) c.args.low c.args.high) (pages_beside (c.args.depth - 1)) c.mark.new.marks.items c.check_kids.new.marks.items c.check_kids.result) all below))

pub check_kids-returns-in_err-check_below-clause-checked : goal.check_kids-returns-in_err-check_below-clause-checked
check_kids-returns-in_err-check_below-clause-checked g t c = λ map size told can.
    (let p = g.P.Pages in
    let key = to_z-of_z w128 c.key_wide-key.result (record { sfits = c.key_wide-key.type_inv }) ∙ c.key_wide-key.ensures in
    bounded (λ low high. Checks (AreSubtrees map size (keys_in c.args.kids.now) c.args.last c.args.depth low high) (pages_beside c.args.depth) c.args.marks.now.items c.check_below.new.marks.items c.from_residual.result)
    _ _ c.args.low c.args.high (to_z-of_z w128 c.args.low c.ranges.low) (to_z-of_z w128 c.args.high c.ranges.high)
    (ends p.below p.tells p.limits p.map p.count p.failures c.args.pages.now c.kids.pages c.args.marks.now.items c.kids.marks.items _ _ c.kids.invariant c.check_below.new.marks.items c.from_residual.result
    (λ map size told can. kid_stops map size c.kids.rest.now _ _ c.args.last c.args.depth _ _ c.kids.marks.items c.check_below.new.marks.items c.check_below.new.marks.items c.in_err-check_below.field-0.0 c.from_residual.result
    c.in-len1-up.len_at_least key (c.in_err-check_below.ensures.checked map size told can) c.from_residual.ensures.1)
    map size told can))

pub check_kids-kids-preserved : goal.check_kids-kids-preserved
check_kids-kids-preserved g t c =
    let p = g.P.Pages in
    let key = to_z-of_z w128 c.key_wide-key.result (record { sfits = c.key_wide-key.type_inv }) ∙ c.key_wide-key.ensures in
    goes_on p.below p.tells p.limits p.map p.count p.failures c.args.pages.now c.kids.pages c.args.marks.now.items c.kids.marks.items _ _ c.kids.invariant
    (Ok tt) c.check_below.new.pages c.check_below.new.marks.items _ c.in_ok-check_below.ensures.stays c.in_ok-check_below.ensures.long
    (λ map size told can after result rest. kid_then map size c.kids.rest.now _ _ c.args.last c.args.depth _ _ c.kids.marks.items c.check_below.new.marks.items c.in-len1-up.len_at_least key
    (c.in_ok-check_below.ensures.checked map size told can) after result rest)

pub check_kids-returns-clause-checked : goal.check_kids-returns-clause-checked
check_kids-returns-clause-checked g t c = λ map size told can.
    (let p = g.P.Pages in
    bounded (λ low high. Checks (AreSubtrees map size (keys_in c.args.kids.now) c.args.last c.args.depth low high) (pages_beside c.args.depth) c.args.marks.now.items c.check_below-2.new.marks.items c.check_below-2.result)
    _ _ c.args.low c.args.high (to_z-of_z w128 c.args.low c.ranges.low) (to_z-of_z w128 c.args.high c.ranges.high)
    (ends p.below p.tells p.limits p.map p.count p.failures c.args.pages.now c.kids.pages c.args.marks.now.items c.kids.marks.items _ _ c.kids.invariant c.check_below-2.new.marks.items c.check_below-2.result
    (λ map size told can. last_checks map size c.kids.rest.now c.args.last c.args.depth _ _ c.kids.marks.items c.check_below-2.new.marks.items c.check_below-2.result c.in_default.len_below
    (c.check_below-2.ensures.checked map size told can))
    map size told can))
