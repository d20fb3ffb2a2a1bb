use Rattle.std.proofs.Common.{rules, ◌≡◌, ℕ, List, IsTrue, length, sym, subst, inl}
use Rattle.std.specs.Prelude.{IfErr}
use Rattle.sqlval.specs.Faults.{IsOutside}
use Rattle.sqlval.specs.PageSizes.{IsPageSize}
use Rattle.pages.specs.Map.{IsThere}
use Rattle.tree_index.specs.Freeing.{IsEmptyPage}
use Rattle.tree_index.proofs.Clearing.{with_limits}
use Rattle.tree_index.proofs.Emptied.{standing, put_cleared}
use Rattle.tree_index.proofs.Readings.{refused}
use Rattle.tree_index.proofs.freeing.clear.Goals as goal

pub returns-in_err-leaf-clause-cleared : goal.returns-in_err-leaf-clause-cleared
returns-in_err-leaf-clause-cleared g c = λ told columns entries used free is.
    refused _ _ c.in_err-leaf.field-0.0 c.from_residual.ensures.1 (inl (c.in_err-leaf.ensures.refused (subst IsPageSize (sym c.page_size.ensures) is.sized)))

pub returns-in_err-free_below-clause-cleared : goal.returns-in_err-free_below-clause-cleared
returns-in_err-free_below-clause-cleared g c = λ told columns entries used free is.
    (let gs = g.P.Pages in
    let old = c.args.pages.now in
    refused _ _ c.in_err-free_below.field-0.0 c.from_residual-in_err-free_below.ensures.1
    (c.in_err-free_below.ensures.freed told is.tree.depth is.tree.tree free (standing (gs.map old) (gs.limits (gs.below old)).page c.args.root columns entries used free is)))

pub returns-clause-cleared : goal.returns-clause-cleared
returns-clause-cleared g c = λ told columns entries used free is.
    (let gs = g.P.Pages in
    let old = c.args.pages.now in
    let size = (gs.limits (gs.below old)).page in
    let root = c.args.root in
    let mid = gs.map c.free_below.new.pages in
    let new = gs.map c.put.new.self in
    let given = c.in_ok-free_below.ensures.freed told is.tree.depth is.tree.tree free (standing (gs.map old) size root columns entries used free is) in
    let told_mid = subst (λ k. IsTrue (gs.tells k)) (sym c.in_ok-free_below.ensures.kept) told in
    let bytes : c.as_slice.result.now ≡ c.in_ok-leaf.leaf.items = search rules in
    let page = subst (λ (them : List ℕ). IsEmptyPage size them) (sym bytes) (subst (λ (n : ℕ). IsEmptyPage n c.in_ok-leaf.leaf.items) c.page_size.ensures c.in_ok-leaf.ensures.is) in
    let refusal = with_limits gs.below gs.tells gs.limits (λ (n : ℕ). IsThere mid n root → length c.as_slice.result.now ≡ n → IfErr c.put.result IsOutside) old c.free_below.new.pages c.in_ok-free_below.ensures.kept c.put.ensures.refusal told in
    put_cleared (gs.map old) mid new size root columns entries used free c.as_slice.result.now c.put.result is given page (c.put.ensures.done told_mid) refusal)
