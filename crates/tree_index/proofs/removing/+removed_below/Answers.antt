use Rattle.std.proofs.Common.{◌≡◌, ◌-◌, ◌∙◌, ℕ, suc, IsTrue, Ok, Err, sym, subst, arith}
use Rattle.pages.specs.Map.{PageMap}
use Rattle.tree_index.specs.Growing.{StepsFrom}
use Rattle.tree_index.specs.Removing.{TakesAt, IsLessened, Lessens, Narrows}
use Rattle.tree_index.specs.declared.placing.Step.{Step}
use Rattle.tree_index.specs.declared.removing.Loss.{Loss}
use Rattle.tree_index.specs.declared.removing.Loss.TheVariants.{Still, Done}
use Rattle.tree_index.proofs.Readings.{full_err, since}
use Rattle.tree_index.proofs.Removals.{found_taken, here_still, leaf_ends, down_refused, down_still, down_done, down_spread}
use Rattle.tree_index.proofs.Widening.{step_refused}
use Rattle.tree_index.proofs.removing.+removed_below.Goals as goal

pub returns-in_err-place-clause-lessens : goal.returns-in_err-place-clause-lessens
returns-in_err-place-clause-lessens g n c = λ told t free under long.
    (let gs = g.P.Pages in
    let old = gs.map c.args.pages.now in
    let size = (gs.limits (gs.below c.args.pages.now)).page in
    let columns = c.args.key.columns.now in
    let x = c.args.key.values.now in
    let rest = c.args.rest.now in
    full_err (IsLessened old (gs.map c.step_from.new.pages) size c.args.number columns x rest c.args.depth t free) c.from_residual.result c.in_err-place.field-0.0 c.from_residual.ensures.1
    (step_refused old size c.args.number c.args.depth columns x c.args.depth t free under c.in_err-place.field-0.0 (c.in_err-place.ensures.found told)))

pub returns-in-Found-clause-lessens : goal.returns-in-Found-clause-lessens
returns-in-Found-clause-lessens g n c = λ told t free under long.
    (let gs = g.P.Pages in
    let old = gs.map c.args.pages.now in
    let size = (gs.limits (gs.below c.args.pages.now)).page in
    let columns = c.args.key.columns.now in
    let x = c.args.key.values.now in
    let rest = c.args.rest.now in
    let stays = c.in_ok-place.ensures.stays in
    let new = gs.map c.taken_out.new.pages in
    let steps = subst (λ (s : Step). StepsFrom old size c.args.number columns x (Ok s)) c.in-Found.is (c.in_ok-place.ensures.found told) in
    let takes = since gs.below gs.tells gs.limits gs.map (λ (m : PageMap) (k : ℕ). TakesAt m new k c.args.number c.in-Found.place c.args.depth columns rest c.taken_out.result) c.args.pages.now c.step_from.new.pages stays.kept stays.same
    c.taken_out.ensures.taken told in
    found_taken columns x rest long old size c.args.number new c.in-Found.place c.args.depth t free under steps c.taken_out.result takes)

pub returns-in-Here-clause-lessens : goal.returns-in-Here-clause-lessens
returns-in-Here-clause-lessens g n c = λ told t free under long.
    (let gs = g.P.Pages in
    let old = gs.map c.args.pages.now in
    let size = (gs.limits (gs.below c.args.pages.now)).page in
    let columns = c.args.key.columns.now in
    let x = c.args.key.values.now in
    let rest = c.args.rest.now in
    let stays = c.in_ok-place.ensures.stays in
    let steps = subst (λ (s : Step). StepsFrom old size c.args.number columns x (Ok s)) c.in-Here.is (c.in_ok-place.ensures.found told) in
    (here_still columns x rest long old size c.args.number c.in-Here.field-0 c.args.depth t free under steps, stays.same))

pub returns-then-depth-eq0-clause-lessens : goal.returns-then-depth-eq0-clause-lessens
returns-then-depth-eq0-clause-lessens g n c = λ told t free under long.
    (let gs = g.P.Pages in
    let old = gs.map c.args.pages.now in
    let size = (gs.limits (gs.below c.args.pages.now)).page in
    let columns = c.args.key.columns.now in
    let x = c.args.key.values.now in
    let rest = c.args.rest.now in
    let steps = subst (λ (s : Step). StepsFrom old size c.args.number columns x (Ok s)) c.in-Down.is (c.in_ok-place.ensures.found told) in
    absurd (leaf_ends columns x rest long old size c.args.number c.in-Down.place c.in-Down.child c.args.depth c.if-depth-eq0.true t free under steps))

pub returns-in_err-loss-clause-lessens : goal.returns-in_err-loss-clause-lessens
returns-in_err-loss-clause-lessens g n c = λ told.
    (let gs = g.P.Pages in
    let old = gs.map c.args.pages.now in
    let size = (gs.limits (gs.below c.args.pages.now)).page in
    let columns = c.args.key.columns.now in
    let x = c.args.key.values.now in
    let rest = c.args.rest.now in
    let stays = c.in_ok-place.ensures.stays in
    let steps = subst (λ (s : Step). StepsFrom old size c.args.number columns x (Ok s)) c.in-Down.is (c.in_ok-place.ensures.found told) in
    let mid = gs.map c.removed_below.new.pages in
    let fewer = c.args.depth - 1 in
    let more : c.args.depth ≡ suc fewer = omega (arith, c.if-depth-eq0.false) in
    let lessens = since gs.below gs.tells gs.limits gs.map (λ (m : PageMap) (k : ℕ). Lessens m mid k c.in-Down.child fewer columns x rest (Err c.in_err-loss.field-0.0)) c.args.pages.now c.step_from.new.pages stays.kept stays.same c.in_err-loss.ensures.lessens told in
    subst (λ (d : ℕ). Lessens old mid size c.args.number d columns x rest c.from_residual-in_err-loss.result) (sym more)
    (λ t free under long. full_err (IsLessened old mid size c.args.number columns x rest (suc fewer) t free) c.from_residual-in_err-loss.result c.in_err-loss.field-0.0 c.from_residual-in_err-loss.ensures.1
    (down_refused columns x rest long old size c.args.number fewer c.in-Down.place c.in-Down.child steps mid c.in_err-loss.field-0.0 lessens t free under)))

pub returns-in-Spread-clause-lessens : goal.returns-in-Spread-clause-lessens
returns-in-Spread-clause-lessens g n c = λ told.
    (let gs = g.P.Pages in
    let old = gs.map c.args.pages.now in
    let size = (gs.limits (gs.below c.args.pages.now)).page in
    let columns = c.args.key.columns.now in
    let x = c.args.key.values.now in
    let rest = c.args.rest.now in
    let stays = c.in_ok-place.ensures.stays in
    let steps = subst (λ (s : Step). StepsFrom old size c.args.number columns x (Ok s)) c.in-Down.is (c.in_ok-place.ensures.found told) in
    let mid = gs.map c.removed_below.new.pages in
    let new = gs.map c.narrowed.new.pages in
    let fewer = c.args.depth - 1 in
    let more : c.args.depth ≡ suc fewer = omega (arith, c.if-depth-eq0.false) in
    let lessens = since gs.below gs.tells gs.limits gs.map (λ (m : PageMap) (k : ℕ). Lessens m mid k c.in-Down.child fewer columns x rest (Ok c.in_ok-loss.loss)) c.args.pages.now c.step_from.new.pages stays.kept stays.same c.in_ok-loss.ensures.lessens told in
    let now = subst (λ (loss : Loss). Lessens old mid size c.in-Down.child fewer columns x rest (Ok loss)) c.in-Spread.is lessens in
    let kept = c.in_ok-loss.ensures.kept ∙ stays.kept in
    let told_mid = subst (λ k. IsTrue (gs.tells k)) (sym kept) told in
    let narrows = subst (λ k. Narrows mid new (gs.limits k).page c.args.number c.in-Down.place c.in-Down.child c.in-Spread.packed fewer c.narrowed.result) kept (c.narrowed.ensures.narrowed told_mid) in
    subst (λ (d : ℕ). Lessens old new size c.args.number d columns x rest c.narrowed.result) (sym more)
    (λ t free under long. down_spread columns x rest long old size c.args.number fewer c.in-Down.place c.in-Down.child steps mid new c.in-Spread.packed now c.narrowed.result narrows t free under long))

pub returns-in-Done-clause-lessens : goal.returns-in-Done-clause-lessens
returns-in-Done-clause-lessens g n c = λ told.
    (let gs = g.P.Pages in
    let old = gs.map c.args.pages.now in
    let size = (gs.limits (gs.below c.args.pages.now)).page in
    let columns = c.args.key.columns.now in
    let x = c.args.key.values.now in
    let rest = c.args.rest.now in
    let stays = c.in_ok-place.ensures.stays in
    let steps = subst (λ (s : Step). StepsFrom old size c.args.number columns x (Ok s)) c.in-Down.is (c.in_ok-place.ensures.found told) in
    let mid = gs.map c.removed_below.new.pages in
    let fewer = c.args.depth - 1 in
    let more : c.args.depth ≡ suc fewer = omega (arith, c.if-depth-eq0.false) in
    let lessens = since gs.below gs.tells gs.limits gs.map (λ (m : PageMap) (k : ℕ). Lessens m mid k c.in-Down.child fewer columns x rest (Ok c.in_ok-loss.loss)) c.args.pages.now c.step_from.new.pages stays.kept stays.same c.in_ok-loss.ensures.lessens told in
    let now = subst (λ (loss : Loss). Lessens old mid size c.in-Down.child fewer columns x rest (Ok loss)) c.in-Done.is lessens in
    subst (λ (d : ℕ). Lessens old mid size c.args.number d columns x rest (Ok (Done c.in-Done.more))) (sym more)
    (λ t free under long. down_done columns x rest long old size c.args.number fewer c.in-Down.place c.in-Down.child steps mid c.in-Done.more now t free under long))

pub returns-in-Still-clause-lessens : goal.returns-in-Still-clause-lessens
returns-in-Still-clause-lessens g n c = λ told.
    (let gs = g.P.Pages in
    let old = gs.map c.args.pages.now in
    let size = (gs.limits (gs.below c.args.pages.now)).page in
    let columns = c.args.key.columns.now in
    let x = c.args.key.values.now in
    let rest = c.args.rest.now in
    let stays = c.in_ok-place.ensures.stays in
    let steps = subst (λ (s : Step). StepsFrom old size c.args.number columns x (Ok s)) c.in-Down.is (c.in_ok-place.ensures.found told) in
    let mid = gs.map c.removed_below.new.pages in
    let fewer = c.args.depth - 1 in
    let more : c.args.depth ≡ suc fewer = omega (arith, c.if-depth-eq0.false) in
    let lessens = since gs.below gs.tells gs.limits gs.map (λ (m : PageMap) (k : ℕ). Lessens m mid k c.in-Down.child fewer columns x rest (Ok c.in_ok-loss.loss)) c.args.pages.now c.step_from.new.pages stays.kept stays.same c.in_ok-loss.ensures.lessens told in
    let now = subst (λ (loss : Loss). Lessens old mid size c.in-Down.child fewer columns x rest (Ok loss)) c.in-Still.is lessens in
    subst (λ (d : ℕ). Lessens old mid size c.args.number d columns x rest (Ok Still)) (sym more)
    (λ t free under long. down_still columns x rest long old size c.args.number fewer c.in-Down.place c.in-Down.child steps mid now t free under long))
