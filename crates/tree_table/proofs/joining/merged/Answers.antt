use Rattle.std.proofs.Common.{rules, ◌≡◌, ◌∙◌, ℕ, List, IsTrue, sym, ap, subst}
use Rattle.pages.specs.Map.{PageMap, page_at}
use Rattle.tree_table.specs.Joining.{MergesRows, MergesKeys}
use Rattle.tree_table.proofs.joining.merged.Goals as goal

pub returns-clause-rows : goal.returns-clause-rows
returns-clause-rows g c = λ told is_left is_right.
    (let gs = g.P.Pages in
    let old = gs.map c.args.pages.now in
    let stays = c.in_ok-load.ensures.stays in
    let told_mid = subst (λ k. IsTrue (gs.tells k)) (sym stays.kept) told in
    let left : c.as_slice.result.now ≡ page_at old c.args.pair.now.left = (let same : c.as_slice.result.now ≡ c.loaded.result.now = search rules in same ∙ c.loaded.ensures ∙ c.in_ok-load.ensures.bytes told) in
    let right : c.loaded-2.result.now ≡ page_at old c.args.pair.now.right = c.loaded-2.ensures ∙ c.in_ok-load-2.ensures.bytes told_mid ∙ ap (λ (m : PageMap). page_at m c.args.pair.now.right) stays.same in
    subst (λ (bytes : List ℕ). MergesRows bytes (page_at old c.args.pair.now.right) c.merged_in.result) left
    (subst (λ (bytes : List ℕ). MergesRows c.as_slice.result.now bytes c.merged_in.result) right c.merged_in.ensures.rows))

pub returns-clause-keys : goal.returns-clause-keys
returns-clause-keys g c = λ told is_left is_right.
    (let gs = g.P.Pages in
    let old = gs.map c.args.pages.now in
    let stays = c.in_ok-load.ensures.stays in
    let told_mid = subst (λ k. IsTrue (gs.tells k)) (sym stays.kept) told in
    let left : c.as_slice.result.now ≡ page_at old c.args.pair.now.left = (let same : c.as_slice.result.now ≡ c.loaded.result.now = search rules in same ∙ c.loaded.ensures ∙ c.in_ok-load.ensures.bytes told) in
    let right : c.loaded-2.result.now ≡ page_at old c.args.pair.now.right = c.loaded-2.ensures ∙ c.in_ok-load-2.ensures.bytes told_mid ∙ ap (λ (m : PageMap). page_at m c.args.pair.now.right) stays.same in
    subst (λ (bytes : List ℕ). MergesKeys bytes c.args.pair.now.cell.items (page_at old c.args.pair.now.right) c.merged_in.result) left
    (subst (λ (bytes : List ℕ). MergesKeys c.as_slice.result.now c.args.pair.now.cell.items bytes c.merged_in.result) right
    (subst (λ (bytes : List ℕ). MergesKeys c.as_slice.result.now bytes c.loaded-2.result.now c.merged_in.result) c.as_slice-2.ensures.value c.merged_in.ensures.keys)))
