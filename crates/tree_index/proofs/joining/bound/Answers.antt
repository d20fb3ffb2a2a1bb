use Rattle.std.proofs.Common.{◌≡◌, ◌-◌, ◌∙◌, ◌++◌, ℕ, zero, suc, [], ◌∷◌, sym, ap, subst, arith}
use Rattle.std.specs.Int.{w32, to_be_bytes}
use Rattle.pages.specs.Map.{PageMap, page_at, IsThere}
use Rattle.tree_index.specs.Joining.{Binds, Merges}
use Rattle.tree_index.specs.Tree.{top}
use Rattle.tree_index.proofs.Beside.{left_there, right_there, binds_leaves, binds_inner, said_left}
use Rattle.tree_index.proofs.Readings.{refused, since}
use Rattle.tree_index.proofs.Subtrees.{told, entries_between}
use Rattle.tree_index.proofs.joining.bound.Goals as goal

pub returns-then-depth-eq0-clause-bound : goal.returns-then-depth-eq0-clause-bound
returns-then-depth-eq0-clause-bound g c = λ told_it.
    (let gs = g.P.Pages in
    let old = gs.map c.args.pages.now in
    let size = (gs.limits (gs.below c.args.pages.now)).page in
    subst (λ (d : ℕ). Binds old size c.args.left c.args.entry.now c.args.right d c.merged_around.result) (sym c.if-depth-eq0.true)
    (λ a b held free is d. binds_leaves old size c.args.left c.args.right a b free is c.args.entry.now held d c.merged_around.result
    (c.merged_around.ensures.merged told_it (left_there old size c.args.left c.args.right zero a b free is) (right_there old size c.args.left c.args.right zero a b free is))))

pub returns-in_err-last-clause-bound : goal.returns-in_err-last-clause-bound
returns-in_err-last-clause-bound g c = λ told_it.
    (let gs = g.P.Pages in
    let old = gs.map c.args.pages.now in
    let size = (gs.limits (gs.below c.args.pages.now)).page in
    let fewer = c.args.depth - 1 in
    let more : c.args.depth ≡ suc fewer = omega (arith, c.if-depth-eq0.false) in
    subst (λ (d : ℕ). Binds old size c.args.left c.args.entry.now c.args.right d c.from_residual.result) (sym more)
    (λ a b held free is d. refused _ _ c.in_err-last.field-0.0 c.from_residual.ensures.1
    (c.in_err-last.ensures.found told_it (said_left old size c.args.left c.args.right fewer a b free is) (top fewer a.last) (entries_between a.kids) (is.free_are).whole
    (told old size c.args.left (suc fewer) a is.left_is is.lies_left).has)))

pub returns-clause-bound : goal.returns-clause-bound
returns-clause-bound g c = λ told_it.
    (let gs = g.P.Pages in
    let old = gs.map c.args.pages.now in
    let size = (gs.limits (gs.below c.args.pages.now)).page in
    let fewer = c.args.depth - 1 in
    let more : c.args.depth ≡ suc fewer = omega (arith, c.if-depth-eq0.false) in
    let stays = c.in_ok-last.ensures.stays in
    let merges = since gs.below gs.tells gs.limits gs.map (λ (m : PageMap) (k : ℕ). IsThere m k c.args.left → IsThere m k c.args.right → Merges (page_at m c.args.left) (c.as_slice.result.now ∷ []) (page_at m c.args.right) c.merged_around-2.result)
    c.args.pages.now c.last_kid_of.new.pages stays.kept stays.same c.merged_around-2.ensures.merged told_it in
    subst (λ (d : ℕ). Binds old size c.args.left c.args.entry.now c.args.right d c.merged_around-2.result) (sym more)
    (λ a b held free is d.
    (let last = c.in_ok-last.ensures.found told_it (said_left old size c.args.left c.args.right fewer a b free is) (top fewer a.last) (entries_between a.kids) (is.free_are).whole
    (told old size c.args.left (suc fewer) a is.left_is is.lies_left).has in
    let cell : c.as_slice.result.now ≡ to_be_bytes w32 (top fewer a.last) ++ c.args.entry.now = c.as_slice.ensures.value ∙ c.in_ok-cell.ensures.is ∙ ap (λ (n : ℕ). to_be_bytes w32 n ++ c.args.entry.now) last in
    binds_inner old size c.args.left c.args.right fewer a b free is c.args.entry.now held d c.as_slice.result.now cell c.merged_around-2.result
    (merges (left_there old size c.args.left c.args.right (suc fewer) a b free is) (right_there old size c.args.left c.args.right (suc fewer) a b free is)))))
