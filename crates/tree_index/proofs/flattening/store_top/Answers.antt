use Rattle.std.proofs.Common.{rules, ◌≡◌, true, [], length, IsTrue, ap, sym, subst}
use Rattle.tree_index.specs.Flattening.{Flattens}
use Rattle.tree_index.proofs.Readings.{full_err}
use Rattle.tree_index.proofs.Rooting.{none_left, not_true}
use Rattle.tree_index.proofs.StoredTops.{top_refused, top_stored, top_built}
use Rattle.tree_index.proofs.flattening.store_top.Goals.{else-deep-via-then-deep+else-not-is_empty, else-deep-via-else-deep}
use Rattle.tree_index.proofs.flattening.store_top.Goals as goal

pub returns-in_err-store_root-clause-stored : goal.returns-in_err-store_root-clause-stored
returns-in_err-store_root-clause-stored g c = λ told old columns entries all used free is sorted deep plan.
    (let gs = g.P.Pages in
    let first = c.args.pages.now in
    full_err _ c.from_residual.result c.in_err-store_root.field-0.0 c.from_residual.ensures.1
    (top_refused old (gs.limits (gs.below first)).page c.args.root columns entries all used free is sorted (gs.map first) c.args.packed.now c.args.deep deep plan (gs.map c.store_root.new.pages) c.in_err-store_root.field-0.0
    (c.in_err-store_root.ensures.rooted told)))

pub returns-then-not-is_empty-clause-stored : goal.returns-then-not-is_empty-clause-stored
returns-then-not-is_empty-clause-stored g c = λ told old columns entries all used free is sorted deep plan.
    (let gs = g.P.Pages in
    let first = c.args.pages.now in
    let size = (gs.limits (gs.below first)).page in
    let put = gs.map c.store_root.new.pages in
    let new = gs.map c.flatten.new.pages in
    let kept = c.in_ok-store_root.ensures.kept in
    let flattens = subst (λ k. Flattens put new (gs.limits k).page c.args.root c.flatten.result) kept (c.flatten.ensures.flattened (subst (λ k. IsTrue (gs.tells k)) (sym kept) told)) in
    let some : length c.args.packed.now.pieces.items ≡ 0 → ⊥ = search rules in
    top_built old size c.args.root columns entries all used free is sorted (gs.map first) c.args.packed.now c.args.deep deep plan put new c.flatten.result (λ none. some (ap length none)) (c.in_ok-store_root.ensures.rooted told) flattens)

pub returns-clause-stored : goal.returns-clause-stored
returns-clause-stored g c = λ told old columns entries all used free is sorted deep plan.
    (let gs = g.P.Pages in
    let first = c.args.pages.now in
    let size = (gs.limits (gs.below first)).page in
    let put = gs.map c.store_root.new.pages in
    let lone : c.args.deep ≡ true → c.args.packed.now.pieces.items ≡ [] = λ so. elim c.else-deep.branch [
      | else-deep-via-then-deep+else-not-is_empty w ↦ (let none : length c.args.packed.now.pieces.items ≡ 0 = search rules in none_left c.args.packed.now.pieces.items none)
      | else-deep-via-else-deep w ↦ absurd (not_true so w.if-deep.false)
    ] in
    top_stored old size c.args.root columns entries all used free is sorted (gs.map first) c.args.packed.now c.args.deep deep plan put lone (c.in_ok-store_root.ensures.rooted told))
