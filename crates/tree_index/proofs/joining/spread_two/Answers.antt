use Rattle.std.proofs.Common.{◌≡◌, ◌∙◌, suc, IsTrue, Ok, Err, sym, subst}
use Rattle.pages.specs.Map.{page_at, IsThere}
use Rattle.tree_index.specs.Freeing.{below_of}
use Rattle.tree_index.specs.Growing.{IsPlanned}
use Rattle.tree_index.specs.Joining.{entries_around}
use Rattle.tree_index.proofs.Readings.{full_err, outside_full}
use Rattle.tree_index.proofs.Spreading.{stores_two, memory_full}
use Rattle.tree_index.proofs.TwoPlans.{store_two, page_there, spread_or}
use Rattle.tree_index.proofs.Widening.{planned_since}
use Rattle.tree_index.proofs.joining.spread_two.Goals as goal

pub returns-in_err-fan-clause-spread : goal.returns-in_err-fan-clause-spread
returns-in_err-fan-clause-spread g c = λ told old ways depth t free entries under sized lt left_is right_is plan.
    (let gs = g.P.Pages in
    let mid = gs.map c.args.pages.now in
    let size = (gs.limits (gs.below c.args.pages.now)).page in
    let new = gs.map c.store.new.pages in
    full_err (IsPlanned old new size (suc depth) (entries_around depth c.args.place entries t) (below_of (suc depth) t) free) c.from_residual.result c.in_err-fan.field-0.0 c.from_residual.ensures.1
    (store_two old size c.args.number ways depth t free under sized c.args.place lt mid entries c.args.packed.now plan new (Err c.in_err-fan.field-0.0)
    (stores_two mid new size _ _ c.args.left c.args.right left_is right_is c.args.packed.now (Err c.in_err-fan.field-0.0) (c.in_err-fan.ensures.stored told))))

pub returns-in_err-load-clause-spread : goal.returns-in_err-load-clause-spread
returns-in_err-load-clause-spread g c = λ told old ways depth t free entries under sized lt left_is right_is plan.
    (let gs = g.P.Pages in
    let mid = gs.map c.args.pages.now in
    let size = (gs.limits (gs.below c.args.pages.now)).page in
    let new = gs.map c.store.new.pages in
    let fan = c.in_ok-fan.fan in
    let is = store_two old size c.args.number ways depth t free under sized c.args.place lt mid entries c.args.packed.now plan new (Ok fan)
    (stores_two mid new size _ _ c.args.left c.args.right left_is right_is c.args.packed.now (Ok fan) (c.in_ok-fan.ensures.stored told)) in
    let told_new = subst (λ k. IsTrue (gs.tells k)) (sym c.in_ok-fan.ensures.kept) told in
    outside_full (IsPlanned old (gs.map c.load.new.self) size (suc depth) (entries_around depth c.args.place entries t) (below_of (suc depth) t) free) c.from_residual-in_err-load.result c.in_err-load.field-0.0 c.from_residual-in_err-load.ensures.1
    (c.in_err-load.ensures.refusal told_new (subst (λ k. IsThere new (gs.limits k).page c.args.number) (sym c.in_ok-fan.ensures.kept)
    (page_there old size c.args.number ways depth t free under sized c.args.place lt mid entries c.args.packed.now plan new fan is))))

pub returns-clause-spread : goal.returns-clause-spread
returns-clause-spread g c = λ told old ways depth t free entries under sized lt left_is right_is plan.
    (let gs = g.P.Pages in
    let mid = gs.map c.args.pages.now in
    let size = (gs.limits (gs.below c.args.pages.now)).page in
    let new = gs.map c.store.new.pages in
    let fan = c.in_ok-fan.fan in
    let is = store_two old size c.args.number ways depth t free under sized c.args.place lt mid entries c.args.packed.now plan new (Ok fan)
    (stores_two mid new size _ _ c.args.left c.args.right left_is right_is c.args.packed.now (Ok fan) (c.in_ok-fan.ensures.stored told)) in
    let told_new = subst (λ k. IsTrue (gs.tells k)) (sym c.in_ok-fan.ensures.kept) told in
    let bytes : c.loaded.result.now ≡ page_at new c.args.number = c.loaded.ensures ∙ c.in_ok-load.ensures.bytes told_new in
    planned_since old new (gs.map c.load.new.self) size (suc depth) (entries_around depth c.args.place entries t) (below_of (suc depth) t) free c.fanned_two.result (c.in_ok-load.ensures.stays).same
    (memory_full _ c.fanned_two.result
    (spread_or old size c.args.number ways depth t free under sized c.args.place lt mid entries c.args.packed.now plan new fan is c.loaded.result.now c.fanned_two.result bytes c.fanned_two.ensures.fans)))
