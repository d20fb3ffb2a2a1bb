use Rattle.std.proofs.Common.{rules, ◌≡◌, ◌∙◌, ℕ, List, [], IsTrue, length, take, sym, ap, subst, inl}
use Rattle.std.specs.Prelude.{OnOk, IfErr}
use Rattle.sqlval.specs.Faults.{IsOutside}
use Rattle.sqlval.specs.PageSizes.{IsPageSize}
use Rattle.tree_leaf.specs.Leaf.{IsTableLeaf}
use Rattle.pages.specs.Counting.{start_of}
use Rattle.pages.specs.Map.{PageMap, page_at, with_page, IsThere}
use Rattle.tree_store.specs.Storing.{CanStand}
use Rattle.tree_table.proofs.Clearing.{standing, root_left, put_cleared, with_limits}
use Rattle.tree_table.proofs.LeafRows.{refused}
use Rattle.tree_table.proofs.freeing.clear.Goals as goal

pub returns-in_err-free_below-clause-cleared : goal.returns-in_err-free_below-clause-cleared
returns-in_err-free_below-clause-cleared g c = λ told rows used free is.
    (let gs = g.P.Pages in
    let old = c.args.pages.now in
    refused _ _ c.in_err-free_below.field-0.0 c.from_residual.ensures.1
    (c.in_err-free_below.ensures.freed told is.tree.depth is.tree.tree free (standing (gs.map old) (gs.limits (gs.below old)).page c.args.root rows used free is)))

pub returns-in_err-load-clause-cleared : goal.returns-in_err-load-clause-cleared
returns-in_err-load-clause-cleared g c = λ told rows used free is.
    (let gs = g.P.Pages in
    let old = c.args.pages.now in
    let size = (gs.limits (gs.below old)).page in
    let mid = gs.map c.free_below.new.pages in
    let given = c.in_ok-free_below.ensures.freed told is.tree.depth is.tree.tree free (standing (gs.map old) size c.args.root rows used free is) in
    let refusal = with_limits gs.below gs.tells gs.limits (λ (n : ℕ). IsThere mid n c.args.root → IsOutside c.in_err-load.field-0.0) old c.free_below.new.pages c.in_ok-free_below.ensures.kept c.in_err-load.ensures.refusal told in
    refused _ _ c.in_err-load.field-0.0 c.from_residual-in_err-load.ensures.1 (refusal (root_left (gs.map old) mid size c.args.root rows used free is given)))

pub returns-in_err-page-clause-cleared : goal.returns-in_err-page-clause-cleared
returns-in_err-page-clause-cleared g c = λ told rows used free is.
    (let gs = g.P.Pages in
    let old = c.args.pages.now in
    let size = (gs.limits (gs.below old)).page in
    let mid = gs.map c.free_below.new.pages in
    let given = c.in_ok-free_below.ensures.freed told is.tree.depth is.tree.tree free (standing (gs.map old) size c.args.root rows used free is) in
    let told_mid = subst (λ k. IsTrue (gs.tells k)) (sym c.in_ok-free_below.ensures.kept) told in
    let bytes : c.loaded.result.now ≡ page_at mid c.args.root = c.loaded.ensures ∙ c.in_ok-load.ensures.bytes told_mid in
    let long : length c.loaded.result.now ≡ size = ap length bytes ∙ (root_left (gs.map old) mid size c.args.root rows used free is given).whole in
    refused _ _ c.in_err-page.field-0.0 c.from_residual-in_err-page.ensures.1 (inl (c.in_err-page.ensures.refused (subst IsPageSize (sym long) is.sized))))

pub returns-clause-cleared : goal.returns-clause-cleared
returns-clause-cleared g c = λ told rows used free is.
    (let gs = g.P.Pages in
    let old = c.args.pages.now in
    let size = (gs.limits (gs.below old)).page in
    let root = c.args.root in
    let mid = gs.map c.free_below.new.pages in
    let new = gs.map c.put.new.self in
    let stays = c.in_ok-load.ensures.stays in
    let kept = stays.kept ∙ c.in_ok-free_below.ensures.kept in
    let given = c.in_ok-free_below.ensures.freed told is.tree.depth is.tree.tree free (standing (gs.map old) size root rows used free is) in
    let told_mid = subst (λ k. IsTrue (gs.tells k)) (sym c.in_ok-free_below.ensures.kept) told in
    let told_seen = subst (λ k. IsTrue (gs.tells k)) (sym kept) told in
    let read : c.loaded.result.now ≡ page_at mid root = c.loaded.ensures ∙ c.in_ok-load.ensures.bytes told_mid in
    let bytes : c.as_slice.result.now ≡ c.in_ok-page.page.items = search rules in
    let can : CanStand mid size root c.as_slice.result.now = record {
      sized = ap length bytes ∙ c.in_ok-page.ensures.size ∙ ap length read ∙ (root_left (gs.map old) mid size root rows used free is given).whole;
      front = ap (take (start_of root)) bytes ∙ c.in_ok-page.ensures.front ∙ ap (take (start_of root)) read;
    } in
    let leaf = subst (λ (l : List ℕ). IsTableLeaf l (start_of root) []) (sym bytes) c.in_ok-page.ensures.leaf in
    let put = subst (λ (m : PageMap). OnOk c.put.result (new ≡ with_page m root c.as_slice.result.now)) stays.same (c.put.ensures.done told_seen) in
    let refusal = subst (λ (m : PageMap). IsThere m size root → length c.as_slice.result.now ≡ size → IfErr c.put.result IsOutside) stays.same
    (with_limits gs.below gs.tells gs.limits (λ (n : ℕ). IsThere (gs.map c.load.new.self) n root → length c.as_slice.result.now ≡ n → IfErr c.put.result IsOutside) old c.load.new.self kept c.put.ensures.refusal told) in
    put_cleared (gs.map old) mid new size root rows used free c.as_slice.result.now c.put.result is given can leaf put refusal)
