use Rattle.std.proofs.Common.{rules, ◌≡◌, ◌∙◌, IsTrue, suc, Ok, Err, inl, sym, subst}
use Rattle.pages.specs.Map.{page_at, IsThere}
use Rattle.tree_index.specs.Growing.{IsChanged}
use Rattle.tree_index.specs.declared.growing.Change.TheVariants.{Spread}
use Rattle.tree_index.proofs.Readings.{full_err, outside_full}
use Rattle.tree_index.proofs.Widening.{store_refused, widened_same, page_there, widened_spread, changed_since, no_cells}
use Rattle.tree_index.proofs.growing.widened.Goals as goal

pub returns-in_err-fan-clause-widened : goal.returns-in_err-fan-clause-widened
returns-in_err-fan-clause-widened g c = λ told old ways columns x y payload rest depth t free under leads record_is long way changes.
    (let pages = g.P.Pages in
    let mid = pages.map c.args.pages.now in
    let size = (pages.limits (pages.below c.args.pages.now)).page in
    let new = pages.map c.store.new.pages in
    let fault = c.in_err-fan.field-0.0 in
    full_err (IsChanged old new size c.args.number (suc ways) columns x y rest (suc depth) t free) c.from_residual.result fault c.from_residual.ensures.1
    (store_refused old size c.args.number ways columns x y payload rest depth t free under leads record_is long c.args.place c.args.child way mid c.args.packed.now c.args.deep changes new fault (c.in_err-fan.ensures.stored told)))

pub returns-then-is_empty-clause-widened : goal.returns-then-is_empty-clause-widened
returns-then-is_empty-clause-widened g c = λ told old ways columns x y payload rest depth t free under leads record_is long way changes.
    (let pages = g.P.Pages in
    let mid = pages.map c.args.pages.now in
    let size = (pages.limits (pages.below c.args.pages.now)).page in
    let new = pages.map c.store.new.pages in
    widened_same old size c.args.number ways columns x y payload rest depth t free under leads record_is long c.args.place c.args.child way mid c.args.packed.now c.args.deep changes new c.in_ok-fan.fan (c.in_ok-fan.ensures.stored told)
    (no_cells c.in_ok-fan.fan (search rules)))

pub returns-in_err-load-clause-widened : goal.returns-in_err-load-clause-widened
returns-in_err-load-clause-widened g c = λ told old ways columns x y payload rest depth t free under leads record_is long way changes.
    (let pages = g.P.Pages in
    let mid = pages.map c.args.pages.now in
    let size = (pages.limits (pages.below c.args.pages.now)).page in
    let new = pages.map c.store.new.pages in
    let told_new = subst (λ k. IsTrue (pages.tells k)) (sym c.in_ok-fan.ensures.kept) told in
    outside_full (IsChanged old (pages.map c.load.new.self) size c.args.number (suc ways) columns x y rest (suc depth) t free) c.from_residual-in_err-load.result c.in_err-load.field-0.0 c.from_residual-in_err-load.ensures.1
    (c.in_err-load.ensures.refusal told_new (subst (λ k. IsThere new (pages.limits k).page c.args.number) (sym c.in_ok-fan.ensures.kept)
    (page_there old size c.args.number ways columns x y payload rest depth t free under leads record_is long c.args.place c.args.child way mid c.args.packed.now c.args.deep changes new c.in_ok-fan.fan (c.in_ok-fan.ensures.stored told)))))

pub returns-in_err-packed-clause-widened : goal.returns-in_err-packed-clause-widened
returns-in_err-packed-clause-widened g c = λ told old ways columns x y payload rest depth t free under leads record_is long way changes.
    (let pages = g.P.Pages in
    let mid = pages.map c.args.pages.now in
    let size = (pages.limits (pages.below c.args.pages.now)).page in
    let new = pages.map c.store.new.pages in
    let told_new = subst (λ k. IsTrue (pages.tells k)) (sym c.in_ok-fan.ensures.kept) told in
    let bytes : c.loaded.result.now ≡ page_at new c.args.number = c.loaded.ensures ∙ c.in_ok-load.ensures.bytes told_new in
    let fault = c.in_err-packed.field-0.0 in
    full_err (IsChanged old (pages.map c.load.new.self) size c.args.number (suc ways) columns x y rest (suc depth) t free) c.from_residual-in_err-packed.result fault c.from_residual-in_err-packed.ensures.1
    (inl (inl (widened_spread old size c.args.number ways columns x y payload rest depth t free under leads record_is long c.args.place c.args.child way mid c.args.packed.now c.args.deep changes new c.in_ok-fan.fan (c.in_ok-fan.ensures.stored told)
    c.loaded.result.now (Err fault) bytes c.in_err-packed.ensures.fans))))

pub returns-clause-widened : goal.returns-clause-widened
returns-clause-widened g c = λ told old ways columns x y payload rest depth t free under leads record_is long way changes.
    (let pages = g.P.Pages in
    let mid = pages.map c.args.pages.now in
    let size = (pages.limits (pages.below c.args.pages.now)).page in
    let new = pages.map c.store.new.pages in
    let told_new = subst (λ k. IsTrue (pages.tells k)) (sym c.in_ok-fan.ensures.kept) told in
    let bytes : c.loaded.result.now ≡ page_at new c.args.number = c.loaded.ensures ∙ c.in_ok-load.ensures.bytes told_new in
    let packed = c.in_ok-packed.packed in
    changed_since old new (pages.map c.load.new.self) size c.args.number (suc ways) columns x y rest (suc depth) t free (Spread packed c.args.deep) (c.in_ok-load.ensures.stays).same
    (widened_spread old size c.args.number ways columns x y payload rest depth t free under leads record_is long c.args.place c.args.child way mid c.args.packed.now c.args.deep changes new c.in_ok-fan.fan (c.in_ok-fan.ensures.stored told)
    c.loaded.result.now (Ok packed) bytes c.in_ok-packed.ensures.fans))
