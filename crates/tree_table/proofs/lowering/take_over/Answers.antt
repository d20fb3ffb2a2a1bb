use Rattle.std.proofs.Common.{rules, ◌≡◌, ◌∙◌, ℕ, IsTrue, Ok, Err, sym, subst}
use Rattle.pages.specs.Map.{PageMap, page_at}
use Rattle.freelist.specs.Calls.{Gives}
use Rattle.tree_store.specs.Storing.{Rewrites}
use Rattle.tree_table.proofs.Descents.{since}
use Rattle.tree_table.proofs.LeafRows.{refused}
use Rattle.tree_table.proofs.TakingOver.{child_there, put_or, over_or}
use Rattle.tree_table.proofs.lowering.take_over.Goals as goal

pub returns-in_err-load-clause-taken : goal.returns-in_err-load-clause-taken
returns-in_err-load-clause-taken g c = λ told free are two.
    (let gs = g.P.Pages in
    let old = gs.map c.args.pages.now in
    let size = (gs.limits (gs.below c.args.pages.now)).page in
    refused _ _ c.in_err-load.field-0.0 c.from_residual.ensures.1 (c.in_err-load.ensures.refusal told (child_there old size c.args.number c.args.child free are two)))

pub returns-in_err-put_node-clause-taken : goal.returns-in_err-put_node-clause-taken
returns-in_err-put_node-clause-taken g c = λ told free are two.
    (let gs = g.P.Pages in
    let old = gs.map c.args.pages.now in
    let size = (gs.limits (gs.below c.args.pages.now)).page in
    let stays = c.in_ok-load.ensures.stays in
    let mid = gs.map c.put_node.new.pages in
    let bytes = c.as_slice.result.now in
    let is : bytes ≡ page_at old c.args.child = (let same : bytes ≡ c.loaded.result.now = search rules in same ∙ c.loaded.ensures ∙ c.in_ok-load.ensures.bytes told) in
    let rewrites = since gs.below gs.tells gs.limits gs.map c.args.pages.now c.load.new.self (λ (m : PageMap) (n : ℕ). Rewrites m mid n c.args.number bytes (Err c.in_err-put_node.field-0.0)) stays.kept stays.same
    c.in_err-put_node.ensures.rewritten told in
    refused _ _ c.in_err-put_node.field-0.0 c.from_residual-in_err-put_node.ensures.1 (put_or old size c.args.number c.args.child free are two mid bytes (Err c.in_err-put_node.field-0.0) is rewrites))

pub returns-clause-taken : goal.returns-clause-taken
returns-clause-taken g c = λ told free are two.
    (let gs = g.P.Pages in
    let old = gs.map c.args.pages.now in
    let size = (gs.limits (gs.below c.args.pages.now)).page in
    let stays = c.in_ok-load.ensures.stays in
    let mid = gs.map c.put_node.new.pages in
    let new = gs.map c.give.new.pages in
    let bytes = c.as_slice.result.now in
    let is : bytes ≡ page_at old c.args.child = (let same : bytes ≡ c.loaded.result.now = search rules in same ∙ c.loaded.ensures ∙ c.in_ok-load.ensures.bytes told) in
    let rewrites = since gs.below gs.tells gs.limits gs.map c.args.pages.now c.load.new.self (λ (m : PageMap) (n : ℕ). Rewrites m mid n c.args.number bytes (Ok tt)) stays.kept stays.same
    c.in_ok-put_node.ensures.rewritten told in
    let r = put_or old size c.args.number c.args.child free are two mid bytes (Ok tt) is rewrites in
    let kept = c.in_ok-put_node.ensures.kept ∙ stays.kept in
    let told_mid = subst (λ k. IsTrue (gs.tells k)) (sym kept) told in
    let gives = subst (λ k. Gives mid new (gs.limits k).page c.args.child c.give.result) kept (c.give.ensures.given told_mid) in
    over_or old size c.args.number c.args.child free are two mid bytes is r new c.give.result gives)
