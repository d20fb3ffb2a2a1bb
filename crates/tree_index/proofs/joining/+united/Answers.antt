use Rattle.std.proofs.Common.{◌≡◌, ◌-◌, ◌∙◌, ◌++◌, ℕ, zero, suc, [], ◌∷◌, IsTrue, Ok, Err, sym, subst, arith}
use Rattle.pages.specs.Map.{PageMap}
use Rattle.tree_store.specs.Storing.{Stores}
use Rattle.tree_index.specs.Freeing.{below_of}
use Rattle.tree_index.specs.Growing.{IsPlanned}
use Rattle.tree_index.specs.Joining.{Unites, FindsKid, Seams}
use Rattle.tree_index.specs.Tree.{entries_of}
use Rattle.tree_index.proofs.Beside.{left_there, right_there, unites_leaves}
use Rattle.tree_index.proofs.Readings.{full_err, outside_full, since}
use Rattle.tree_index.proofs.Seams.{seamed_or}
use Rattle.tree_index.proofs.Spreading.{outside_or_full}
use Rattle.tree_index.proofs.Uniting.{last_unread, last_read, first_unread, first_read, inner_or, stored_or}
use Rattle.tree_index.proofs.Widening.{planned_since}
use Rattle.tree_index.proofs.joining.+united.Goals as goal

pub returns-then-depth-eq0-clause-united : goal.returns-then-depth-eq0-clause-united
returns-then-depth-eq0-clause-united g n c = λ told.
    (let gs = g.P.Pages in
    let old = gs.map c.args.pages.now in
    let size = (gs.limits (gs.below c.args.pages.now)).page in
    let new = gs.map c.merged.new.pages in
    subst (λ (d : ℕ). Unites old new size c.args.left c.args.right d c.merged.result) (sym c.if-depth-eq0.true)
    (λ a b free is. planned_since old old new size zero (entries_of zero a ++ entries_of zero b) (below_of zero a ++ below_of zero b) free c.merged.result (c.merged.ensures.stays).same
    (outside_or_full _ c.merged.result (unites_leaves old size c.args.left c.args.right a b free is c.merged.result
    (c.merged.ensures.merged told (left_there old size c.args.left c.args.right zero a b free is) (right_there old size c.args.left c.args.right zero a b free is))))))

pub returns-in_err-last-clause-united : goal.returns-in_err-last-clause-united
returns-in_err-last-clause-united g n c = λ told.
    (let gs = g.P.Pages in
    let old = gs.map c.args.pages.now in
    let size = (gs.limits (gs.below c.args.pages.now)).page in
    let new = gs.map c.last_kid_of.new.pages in
    let fewer = c.args.depth - 1 in
    let more : c.args.depth ≡ suc fewer = omega (arith, c.if-depth-eq0.false) in
    subst (λ (d : ℕ). Unites old new size c.args.left c.args.right d c.from_residual.result) (sym more)
    (λ a b free is. outside_full (IsPlanned old new size (suc fewer) (entries_of (suc fewer) a ++ entries_of (suc fewer) b) (below_of (suc fewer) a ++ below_of (suc fewer) b) free)
    c.from_residual.result c.in_err-last.field-0.0 c.from_residual.ensures.1 (last_unread old size c.args.left c.args.right fewer a b free is c.in_err-last.field-0.0 (c.in_err-last.ensures.found told))))

pub returns-in_err-first-clause-united : goal.returns-in_err-first-clause-united
returns-in_err-first-clause-united g n c = λ told.
    (let gs = g.P.Pages in
    let old = gs.map c.args.pages.now in
    let size = (gs.limits (gs.below c.args.pages.now)).page in
    let new = gs.map c.kid_of.new.pages in
    let fewer = c.args.depth - 1 in
    let more : c.args.depth ≡ suc fewer = omega (arith, c.if-depth-eq0.false) in
    let one = c.in_ok-last.ensures.stays in
    let finds = since gs.below gs.tells gs.limits gs.map (λ (m : PageMap) (k : ℕ). FindsKid m k c.args.right 0 (Err c.in_err-first.field-0.0)) c.args.pages.now c.last_kid_of.new.pages one.kept one.same c.in_err-first.ensures.found told in
    subst (λ (d : ℕ). Unites old new size c.args.left c.args.right d c.from_residual-in_err-first.result) (sym more)
    (λ a b free is. outside_full (IsPlanned old new size (suc fewer) (entries_of (suc fewer) a ++ entries_of (suc fewer) b) (below_of (suc fewer) a ++ below_of (suc fewer) b) free)
    c.from_residual-in_err-first.result c.in_err-first.field-0.0 c.from_residual-in_err-first.ensures.1 (first_unread old size c.args.left c.args.right fewer a b free is c.in_err-first.field-0.0 finds)))

pub returns-in_err-packed-clause-united : goal.returns-in_err-packed-clause-united
returns-in_err-packed-clause-united g n c = λ told.
    (let gs = g.P.Pages in
    let old = gs.map c.args.pages.now in
    let size = (gs.limits (gs.below c.args.pages.now)).page in
    let new = gs.map c.united.new.pages in
    let fewer = c.args.depth - 1 in
    let more : c.args.depth ≡ suc fewer = omega (arith, c.if-depth-eq0.false) in
    let one = c.in_ok-last.ensures.stays in
    let two = c.in_ok-first.ensures.stays in
    let finds = since gs.below gs.tells gs.limits gs.map (λ (m : PageMap) (k : ℕ). FindsKid m k c.args.right 0 (Ok c.in_ok-first.first)) c.args.pages.now c.last_kid_of.new.pages one.kept one.same c.in_ok-first.ensures.found told in
    let unites = since gs.below gs.tells gs.limits gs.map (λ (m : PageMap) (k : ℕ). Unites m new k c.in_ok-last.last c.in_ok-first.first fewer (Err c.in_err-packed.field-0.0)) c.args.pages.now c.kid_of.new.pages (two.kept ∙ one.kept) (two.same ∙ one.same)
    c.in_err-packed.ensures.united told in
    subst (λ (d : ℕ). Unites old new size c.args.left c.args.right d c.from_residual-in_err-packed.result) (sym more)
    (λ a b free is. full_err (IsPlanned old new size (suc fewer) (entries_of (suc fewer) a ++ entries_of (suc fewer) b) (below_of (suc fewer) a ++ below_of (suc fewer) b) free)
    c.from_residual-in_err-packed.result c.in_err-packed.field-0.0 c.from_residual-in_err-packed.ensures.1
    (inner_or old size c.args.left c.args.right fewer a b free is c.in_ok-last.last c.in_ok-first.first (last_read old size c.args.left c.args.right fewer a b free is c.in_ok-last.last (c.in_ok-last.ensures.found told))
    (first_read old size c.args.left c.args.right fewer a b free is c.in_ok-first.first finds) new (Err c.in_err-packed.field-0.0) unites)))

pub returns-in_err-fan-clause-united : goal.returns-in_err-fan-clause-united
returns-in_err-fan-clause-united g n c = λ told.
    (let gs = g.P.Pages in
    let old = gs.map c.args.pages.now in
    let size = (gs.limits (gs.below c.args.pages.now)).page in
    let mid = gs.map c.united.new.pages in
    let new = gs.map c.store.new.pages in
    let fewer = c.args.depth - 1 in
    let more : c.args.depth ≡ suc fewer = omega (arith, c.if-depth-eq0.false) in
    let one = c.in_ok-last.ensures.stays in
    let two = c.in_ok-first.ensures.stays in
    let packed = c.in_ok-packed.packed in
    let finds = since gs.below gs.tells gs.limits gs.map (λ (m : PageMap) (k : ℕ). FindsKid m k c.args.right 0 (Ok c.in_ok-first.first)) c.args.pages.now c.last_kid_of.new.pages one.kept one.same c.in_ok-first.ensures.found told in
    let unites = since gs.below gs.tells gs.limits gs.map (λ (m : PageMap) (k : ℕ). Unites m mid k c.in_ok-last.last c.in_ok-first.first fewer (Ok packed)) c.args.pages.now c.kid_of.new.pages (two.kept ∙ one.kept) (two.same ∙ one.same)
    c.in_ok-packed.ensures.united told in
    let kept = c.in_ok-packed.ensures.kept ∙ two.kept ∙ one.kept in
    let told_mid = subst (λ k. IsTrue (gs.tells k)) (sym kept) told in
    let stores = subst (λ k. Stores mid new (gs.limits k).page (c.in_ok-last.last ∷ c.in_ok-first.first ∷ []) packed (Err c.in_err-fan.field-0.0)) kept (c.in_err-fan.ensures.stored told_mid) in
    subst (λ (d : ℕ). Unites old new size c.args.left c.args.right d c.from_residual-in_err-fan.result) (sym more)
    (λ a b free is.
    (let last_is = last_read old size c.args.left c.args.right fewer a b free is c.in_ok-last.last (c.in_ok-last.ensures.found told) in
    let first_is = first_read old size c.args.left c.args.right fewer a b free is c.in_ok-first.first finds in
    let plan = inner_or old size c.args.left c.args.right fewer a b free is c.in_ok-last.last c.in_ok-first.first last_is first_is mid (Ok packed) unites in
    full_err (IsPlanned old new size (suc fewer) (entries_of (suc fewer) a ++ entries_of (suc fewer) b) (below_of (suc fewer) a ++ below_of (suc fewer) b) free)
    c.from_residual-in_err-fan.result c.in_err-fan.field-0.0 c.from_residual-in_err-fan.ensures.1
    (stored_or old size c.args.left c.args.right fewer a b free is c.in_ok-last.last c.in_ok-first.first last_is first_is mid packed plan new (Err c.in_err-fan.field-0.0) stores))))

pub returns-clause-united : goal.returns-clause-united
returns-clause-united g n c = λ told.
    (let gs = g.P.Pages in
    let old = gs.map c.args.pages.now in
    let size = (gs.limits (gs.below c.args.pages.now)).page in
    let mid = gs.map c.united.new.pages in
    let new = gs.map c.store.new.pages in
    let end = gs.map c.seamed.new.pages in
    let fewer = c.args.depth - 1 in
    let more : c.args.depth ≡ suc fewer = omega (arith, c.if-depth-eq0.false) in
    let one = c.in_ok-last.ensures.stays in
    let two = c.in_ok-first.ensures.stays in
    let packed = c.in_ok-packed.packed in
    let fan = c.in_ok-fan.fan in
    let finds = since gs.below gs.tells gs.limits gs.map (λ (m : PageMap) (k : ℕ). FindsKid m k c.args.right 0 (Ok c.in_ok-first.first)) c.args.pages.now c.last_kid_of.new.pages one.kept one.same c.in_ok-first.ensures.found told in
    let unites = since gs.below gs.tells gs.limits gs.map (λ (m : PageMap) (k : ℕ). Unites m mid k c.in_ok-last.last c.in_ok-first.first fewer (Ok packed)) c.args.pages.now c.kid_of.new.pages (two.kept ∙ one.kept) (two.same ∙ one.same)
    c.in_ok-packed.ensures.united told in
    let kept = c.in_ok-packed.ensures.kept ∙ two.kept ∙ one.kept in
    let told_mid = subst (λ k. IsTrue (gs.tells k)) (sym kept) told in
    let stores = subst (λ k. Stores mid new (gs.limits k).page (c.in_ok-last.last ∷ c.in_ok-first.first ∷ []) packed (Ok fan)) kept (c.in_ok-fan.ensures.stored told_mid) in
    let kept_new = c.in_ok-fan.ensures.kept ∙ kept in
    let told_new = subst (λ k. IsTrue (gs.tells k)) (sym kept_new) told in
    let seams = subst (λ k. Seams new (gs.limits k).page c.args.left fan c.args.right c.seamed.result) kept_new (c.seamed.ensures.seams told_new) in
    subst (λ (d : ℕ). Unites old end size c.args.left c.args.right d c.seamed.result) (sym more)
    (λ a b free is.
    (let last_is = last_read old size c.args.left c.args.right fewer a b free is c.in_ok-last.last (c.in_ok-last.ensures.found told) in
    let first_is = first_read old size c.args.left c.args.right fewer a b free is c.in_ok-first.first finds in
    let plan = inner_or old size c.args.left c.args.right fewer a b free is c.in_ok-last.last c.in_ok-first.first last_is first_is mid (Ok packed) unites in
    let stored = stored_or old size c.args.left c.args.right fewer a b free is c.in_ok-last.last c.in_ok-first.first last_is first_is mid packed plan new (Ok fan) stores in
    planned_since old new end size (suc fewer) (entries_of (suc fewer) a ++ entries_of (suc fewer) b) (below_of (suc fewer) a ++ below_of (suc fewer) b) free c.seamed.result (c.seamed.ensures.stays).same
    (outside_or_full _ c.seamed.result (seamed_or old size c.args.left c.args.right fewer a b free is mid packed plan new fan stored c.seamed.result seams)))))
