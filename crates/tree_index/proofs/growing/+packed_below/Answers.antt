use Rattle.std.proofs.Common.{◌≡◌, ◌-◌, ◌∙◌, ℕ, nat_eq, suc, IsTrue, Ok, Err, sym, subst, arith}
use Rattle.pages.specs.Map.{PageMap}
use Rattle.tree_index.specs.Growing.{IsUnder, IsChanged, Changes, PutsOnLeaf, StepsFrom, Widens}
use Rattle.tree_index.specs.declared.growing.Change.{Change}
use Rattle.tree_index.specs.declared.growing.Change.TheVariants.{There, Same}
use Rattle.tree_index.specs.declared.placing.Step.{Step}
use Rattle.tree_index.proofs.Readings.{full_err, since}
use Rattle.tree_index.proofs.Widening.{step_refused, step_found, step_here, down_deep, down, down_spread, changed_ways, changed_or_ways, not_there, not_same}
use Rattle.tree_index.proofs.growing.+packed_below.Goals as goal

pub returns-in_err-step_from-clause-changes : goal.returns-in_err-step_from-clause-changes
returns-in_err-step_from-clause-changes g n c = λ told y depth t free under leads record_is long.
    (let gs = g.P.Pages in
    let old = c.args.pages.now in
    let base = gs.map old in
    let size = (gs.limits (gs.below old)).page in
    let columns = c.args.new.key.columns.now in
    let x = c.args.new.key.values.now in
    let payload = c.args.new.payload.now in
    let rest = c.args.rest.now in
    full_err (IsChanged base (gs.map c.step_from.new.pages) size c.args.number c.args.ways columns x y rest depth t free) c.from_residual.result c.in_err-step_from.field-0.0 c.from_residual.ensures.1
    (step_refused base size c.args.number c.args.ways columns x depth t free under c.in_err-step_from.field-0.0 (c.in_err-step_from.ensures.found told)))

pub returns-in-Found-clause-changes : goal.returns-in-Found-clause-changes
returns-in-Found-clause-changes g n c = λ told y depth t free under leads record_is long.
    (let gs = g.P.Pages in
    let old = c.args.pages.now in
    let base = gs.map old in
    let size = (gs.limits (gs.below old)).page in
    let columns = c.args.new.key.columns.now in
    let x = c.args.new.key.values.now in
    let payload = c.args.new.payload.now in
    let rest = c.args.rest.now in
    let stays = c.in_ok-step_from.ensures.stays in
    let steps = subst (λ (s : Step). StepsFrom base size c.args.number columns x (Ok s)) c.in-Found.is (c.in_ok-step_from.ensures.found told) in
    (step_found base size c.args.number c.args.ways columns x c.in-Found.field-0 depth t free under steps, stays.same))

pub returns-in-Here-clause-changes : goal.returns-in-Here-clause-changes
returns-in-Here-clause-changes g n c = λ told y depth t free under leads record_is long.
    (let gs = g.P.Pages in
    let old = c.args.pages.now in
    let base = gs.map old in
    let size = (gs.limits (gs.below old)).page in
    let columns = c.args.new.key.columns.now in
    let x = c.args.new.key.values.now in
    let payload = c.args.new.payload.now in
    let rest = c.args.rest.now in
    let stays = c.in_ok-step_from.ensures.stays in
    let steps = subst (λ (s : Step). StepsFrom base size c.args.number columns x (Ok s)) c.in-Here.is (c.in_ok-step_from.ensures.found told) in
    let new = gs.map c.put_run.new.pages in
    let deep = nat_eq c.args.ways 0 in
    let changes = since gs.below gs.tells gs.limits gs.map (λ (m : PageMap) (k : ℕ). PutsOnLeaf m new k c.args.number c.in-Here.place deep columns payload rest c.put_run.result) old c.step_from.new.pages stays.kept stays.same c.put_run.ensures.changed told in
    step_here base size c.args.number c.args.ways columns x new c.in-Here.place y payload rest depth t free under leads record_is long steps c.put_run.result changes)

pub returns-then-ways-eq0-clause-changes : goal.returns-then-ways-eq0-clause-changes
returns-then-ways-eq0-clause-changes g n c = λ told y depth t free under leads record_is long.
    (let gs = g.P.Pages in
    let old = c.args.pages.now in
    let base = gs.map old in
    let size = (gs.limits (gs.below old)).page in
    let columns = c.args.new.key.columns.now in
    let x = c.args.new.key.values.now in
    let payload = c.args.new.payload.now in
    let rest = c.args.rest.now in
    let stays = c.in_ok-step_from.ensures.stays in
    let steps = subst (λ (s : Step). StepsFrom base size c.args.number columns x (Ok s)) c.in-Down.is (c.in_ok-step_from.ensures.found told) in
    absurd (down_deep base size c.args.number c.args.ways columns x c.in-Down.place c.in-Down.child depth t free under steps c.if-ways-eq0.true))

pub returns-in_err-change-clause-changes : goal.returns-in_err-change-clause-changes
returns-in_err-change-clause-changes g n c = λ told y depth t free under leads record_is long.
    (let gs = g.P.Pages in
    let old = c.args.pages.now in
    let base = gs.map old in
    let size = (gs.limits (gs.below old)).page in
    let columns = c.args.new.key.columns.now in
    let x = c.args.new.key.values.now in
    let payload = c.args.new.payload.now in
    let rest = c.args.rest.now in
    let stays = c.in_ok-step_from.ensures.stays in
    let steps = subst (λ (s : Step). StepsFrom base size c.args.number columns x (Ok s)) c.in-Down.is (c.in_ok-step_from.ensures.found told) in
    let mid = gs.map c.packed_below.new.pages in
    let fewer = c.args.ways - 1 in
    let fewer_is : c.args.ways ≡ suc fewer = omega (arith, c.if-ways-eq0.false) in
    let under_now = subst (λ (k : ℕ). IsUnder base size c.args.number k columns depth t free) fewer_is under in
    let changes = since gs.below gs.tells gs.limits gs.map (λ (m : PageMap) (k : ℕ). Changes m mid k c.in-Down.child fewer columns x payload rest (Err c.in_err-change.field-0.0)) old c.step_from.new.pages stays.kept stays.same c.in_err-change.ensures.changes told in
    full_err (IsChanged base mid size c.args.number c.args.ways columns x y rest depth t free) c.from_residual-in_err-change.result c.in_err-change.field-0.0 c.from_residual-in_err-change.ensures.1
    (down base size c.args.number fewer columns x y payload rest leads record_is long c.in-Down.place c.in-Down.child steps mid depth t free under_now (Err c.in_err-change.field-0.0) changes))

pub returns-in-Same-clause-changes : goal.returns-in-Same-clause-changes
returns-in-Same-clause-changes g n c = λ told y depth t free under leads record_is long.
    (let gs = g.P.Pages in
    let old = c.args.pages.now in
    let base = gs.map old in
    let size = (gs.limits (gs.below old)).page in
    let columns = c.args.new.key.columns.now in
    let x = c.args.new.key.values.now in
    let payload = c.args.new.payload.now in
    let rest = c.args.rest.now in
    let stays = c.in_ok-step_from.ensures.stays in
    let steps = subst (λ (s : Step). StepsFrom base size c.args.number columns x (Ok s)) c.in-Down.is (c.in_ok-step_from.ensures.found told) in
    let mid = gs.map c.packed_below.new.pages in
    let fewer = c.args.ways - 1 in
    let fewer_is : c.args.ways ≡ suc fewer = omega (arith, c.if-ways-eq0.false) in
    let under_now = subst (λ (k : ℕ). IsUnder base size c.args.number k columns depth t free) fewer_is under in
    let changes = since gs.below gs.tells gs.limits gs.map (λ (m : PageMap) (k : ℕ). Changes m mid k c.in-Down.child fewer columns x payload rest (Ok c.in_ok-change.change)) old c.step_from.new.pages stays.kept stays.same c.in_ok-change.ensures.changes told in
    let now = subst (λ (change : Change). Changes base mid size c.in-Down.child fewer columns x payload rest (Ok change)) c.in-Same.is changes in
    changed_ways base mid size c.args.number (suc fewer) c.args.ways columns x y rest depth t free (Same c.in-Same.more) (sym fewer_is)
    (down base size c.args.number fewer columns x y payload rest leads record_is long c.in-Down.place c.in-Down.child steps mid depth t free under_now (Ok (Same c.in-Same.more)) now (not_same c.in-Same.more)))

pub returns-in-There-clause-changes : goal.returns-in-There-clause-changes
returns-in-There-clause-changes g n c = λ told y depth t free under leads record_is long.
    (let gs = g.P.Pages in
    let old = c.args.pages.now in
    let base = gs.map old in
    let size = (gs.limits (gs.below old)).page in
    let columns = c.args.new.key.columns.now in
    let x = c.args.new.key.values.now in
    let payload = c.args.new.payload.now in
    let rest = c.args.rest.now in
    let stays = c.in_ok-step_from.ensures.stays in
    let steps = subst (λ (s : Step). StepsFrom base size c.args.number columns x (Ok s)) c.in-Down.is (c.in_ok-step_from.ensures.found told) in
    let mid = gs.map c.packed_below.new.pages in
    let fewer = c.args.ways - 1 in
    let fewer_is : c.args.ways ≡ suc fewer = omega (arith, c.if-ways-eq0.false) in
    let under_now = subst (λ (k : ℕ). IsUnder base size c.args.number k columns depth t free) fewer_is under in
    let changes = since gs.below gs.tells gs.limits gs.map (λ (m : PageMap) (k : ℕ). Changes m mid k c.in-Down.child fewer columns x payload rest (Ok c.in_ok-change.change)) old c.step_from.new.pages stays.kept stays.same c.in_ok-change.ensures.changes told in
    let now = subst (λ (change : Change). Changes base mid size c.in-Down.child fewer columns x payload rest (Ok change)) c.in-There.is changes in
    changed_ways base mid size c.args.number (suc fewer) c.args.ways columns x y rest depth t free There (sym fewer_is)
    (down base size c.args.number fewer columns x y payload rest leads record_is long c.in-Down.place c.in-Down.child steps mid depth t free under_now (Ok There) now not_there))

pub returns-in-Spread-clause-changes : goal.returns-in-Spread-clause-changes
returns-in-Spread-clause-changes g n c = λ told y depth t free under leads record_is long.
    (let gs = g.P.Pages in
    let old = c.args.pages.now in
    let base = gs.map old in
    let size = (gs.limits (gs.below old)).page in
    let columns = c.args.new.key.columns.now in
    let x = c.args.new.key.values.now in
    let payload = c.args.new.payload.now in
    let rest = c.args.rest.now in
    let stays = c.in_ok-step_from.ensures.stays in
    let steps = subst (λ (s : Step). StepsFrom base size c.args.number columns x (Ok s)) c.in-Down.is (c.in_ok-step_from.ensures.found told) in
    let mid = gs.map c.packed_below.new.pages in
    let fewer = c.args.ways - 1 in
    let fewer_is : c.args.ways ≡ suc fewer = omega (arith, c.if-ways-eq0.false) in
    let under_now = subst (λ (k : ℕ). IsUnder base size c.args.number k columns depth t free) fewer_is under in
    let changes = since gs.below gs.tells gs.limits gs.map (λ (m : PageMap) (k : ℕ). Changes m mid k c.in-Down.child fewer columns x payload rest (Ok c.in_ok-change.change)) old c.step_from.new.pages stays.kept stays.same c.in_ok-change.ensures.changes told in
    let new = gs.map c.widened.new.pages in
    let now = subst (λ (change : Change). Changes base mid size c.in-Down.child fewer columns x payload rest (Ok change)) c.in-Spread.is changes in
    let kept = c.in_ok-change.ensures.kept ∙ stays.kept in
    let told_mid = subst (λ k. IsTrue (gs.tells k)) (sym kept) told in
    let widens = subst (λ k. Widens mid new (gs.limits k).page c.args.number c.in-Down.place c.in-Down.child c.in-Spread.packed c.in-Spread.deep c.widened.result) kept (c.widened.ensures.widened told_mid) in
    changed_or_ways base new size c.args.number (suc fewer) c.args.ways columns x y rest depth t free c.widened.result (sym fewer_is)
    (down_spread base size c.args.number fewer columns x y payload rest leads record_is long c.in-Down.place c.in-Down.child steps mid new depth t free under_now c.in-Spread.packed c.in-Spread.deep now c.widened.result widens))
