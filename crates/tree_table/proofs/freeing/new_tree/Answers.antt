use Rattle.std.proofs.Common.{rules, ◌≡◌, ◌∙◌, ℕ, List, [], IsTrue, length, sym, ap, subst, inl}
use Rattle.sqlval.specs.Faults.{IsOutside}
use Rattle.tree_leaf.specs.Leaf.{IsTableLeaf}
use Rattle.pages.specs.Map.{IsThere}
use Rattle.tree_overflow.proofs.Laying.{taken_from}
use Rattle.tree_table.proofs.Emptied.{made_on, refused_memory}
use Rattle.tree_table.proofs.Exits.{full_err}
use Rattle.tree_table.proofs.freeing.new_tree.Goals as goal

pub returns-in_err-page-clause-made : goal.returns-in_err-page-clause-made
returns-in_err-page-clause-made g c = λ told free are sized.
    (let size = (g.P.Pages.limits (g.P.Pages.below c.args.pages.now)).page in
    full_err _ _ c.in_err-page.field-0.0 c.from_residual.ensures.1 (inl (inl (refused_memory size c.page_size.result 0 c.in_err-page.field-0.0 sized c.page_size.ensures c.in_err-page.ensures.refused))))

pub returns-in_err-put-clause-made : goal.returns-in_err-put-clause-made
returns-in_err-put-clause-made g c = λ told free are sized.
    (let pages = g.P.Pages in
    let old = pages.map c.args.pages.now in
    let mid = pages.map c.take.new.pages in
    let size = (pages.limits (pages.below c.args.pages.now)).page in
    let root = c.in_ok-root.root in
    let from = taken_from old mid size free root are (c.in_ok-root.ensures.taken told free are) in
    let told_mid = subst (λ k. IsTrue (pages.tells k)) (sym c.in_ok-root.ensures.kept) told in
    let bytes : c.as_slice.result.now ≡ c.in_ok-page.page.items = search rules in
    let long : length c.as_slice.result.now ≡ size = ap length bytes ∙ c.in_ok-page.ensures.leaf.1 ∙ c.page_size.ensures in
    let refusal = subst (λ k. IsThere mid (pages.limits k).page root → length c.as_slice.result.now ≡ (pages.limits k).page → IsOutside c.in_err-put.field-0.0) c.in_ok-root.ensures.kept (c.in_err-put.ensures.refusal told_mid) in
    full_err _ _ c.in_err-put.field-0.0 c.from_residual-in_err-put.ensures.1 (inl (refusal (record { has = from.there; whole = (from.are).whole root from.there }) long)))

pub returns-clause-made : goal.returns-clause-made
returns-clause-made g c = λ told free are sized.
    (let pages = g.P.Pages in
    let old = pages.map c.args.pages.now in
    let mid = pages.map c.take.new.pages in
    let size = (pages.limits (pages.below c.args.pages.now)).page in
    let root = c.in_ok-root.root in
    let told_mid = subst (λ k. IsTrue (pages.tells k)) (sym c.in_ok-root.ensures.kept) told in
    let bytes : c.as_slice.result.now ≡ c.in_ok-page.page.items = search rules in
    let long : length c.as_slice.result.now ≡ size = ap length bytes ∙ c.in_ok-page.ensures.leaf.1 ∙ c.page_size.ensures in
    let leaf = subst (λ (l : List ℕ). IsTableLeaf l 0 []) (sym bytes) c.in_ok-page.ensures.leaf.0 in
    made_on old mid (pages.map c.put.new.self) size root c.as_slice.result.now free sized are (c.in_ok-root.ensures.taken told free are) long leaf (c.in_ok-put.ensures.done told_mid))
