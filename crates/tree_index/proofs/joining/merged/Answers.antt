use Rattle.std.proofs.Common.{rules, ◌≡◌, ◌∙◌, ℕ, List, [], IsTrue, sym, ap, subst}
use Rattle.pages.specs.Map.{PageMap, page_at}
use Rattle.tree_index.specs.Joining.{Merges}
use Rattle.tree_index.proofs.Merging.{merges}
use Rattle.tree_index.proofs.joining.merged.Goals as goal

pub returns-clause-merged : goal.returns-clause-merged
returns-clause-merged g c = λ told is_left is_right.
    (let gs = g.P.Pages in
    let old = gs.map c.args.pages.now in
    let stays = c.in_ok-load.ensures.stays in
    let told_mid = subst (λ k. IsTrue (gs.tells k)) (sym stays.kept) told in
    let left : c.as_slice.result.now ≡ page_at old c.args.left = (let same : c.as_slice.result.now ≡ c.loaded.result.now = search rules in same ∙ c.loaded.ensures ∙ c.in_ok-load.ensures.bytes told) in
    let right : c.loaded-2.result.now ≡ page_at old c.args.right = c.loaded-2.ensures ∙ c.in_ok-load-2.ensures.bytes told_mid ∙ ap (λ (m : PageMap). page_at m c.args.right) stays.same in
    subst (λ (bytes : List ℕ). Merges bytes [] (page_at old c.args.right) c.join.result) left
    (subst (λ (bytes : List ℕ). Merges c.as_slice.result.now [] bytes c.join.result) right (merges c.as_slice.result.now [] c.loaded-2.result.now c.join.result c.join.ensures.joined)))
