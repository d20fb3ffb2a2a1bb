use Rattle.std.proofs.Common.{◌==◌, ◌∙◌, ℕ, IsTrue, Ok, Err, sym, subst}
use Rattle.pages.specs.Map.{PageMap}
use Rattle.tree_index.specs.Flattening.{StoresTop}
use Rattle.tree_index.specs.Removing.{IsFirstRemoved, Lessens}
use Rattle.tree_index.specs.declared.removing.Loss.{Loss}
use Rattle.tree_index.proofs.Readings.{full_err, since}
use Rattle.tree_index.proofs.Removed.{depth_read, removed_still, removed_done, removed_spread, removal_refused, same_19, other_19}
use Rattle.tree_index.proofs.removing.removed.Goals as goal

pub returns-in_err-removed_below-clause-removed : goal.returns-in_err-removed_below-clause-removed
returns-in_err-removed_below-clause-removed g c = λ told entries used free is long.
    (let gs = g.P.Pages in
    let old = gs.map c.args.pages.now in
    let size = (gs.limits (gs.below c.args.pages.now)).page in
    let columns = c.args.key.columns.now in
    let x = c.args.key.values.now in
    let rest = c.args.rest.now in
    let stays = c.in_ok-depth.ensures.stays in
    let depth = c.in_ok-depth.depth in
    let depth_is = depth_read old size c.args.root columns entries used free is depth (c.in_ok-depth.ensures.found told) in
    let mid = gs.map c.removed_below.new.pages in
    let lessens = since gs.below gs.tells gs.limits gs.map (λ (m : PageMap) (k : ℕ). Lessens m mid k c.args.root depth columns x rest (Err c.in_err-removed_below.field-0.0)) c.args.pages.now c.depth_below.new.pages stays.kept stays.same c.in_err-removed_below.ensures.lessens told in
    full_err (IsFirstRemoved old mid size c.args.root columns x rest entries used free) c.from_residual-in_err-removed_below.result c.in_err-removed_below.field-0.0 c.from_residual-in_err-removed_below.ensures.1
    (removal_refused old size c.args.root columns entries used free is x rest long depth depth_is mid c.in_err-removed_below.field-0.0 lessens))

pub returns-in-Still-clause-removed : goal.returns-in-Still-clause-removed
returns-in-Still-clause-removed g c = λ told entries used free is long.
    (let gs = g.P.Pages in
    let old = gs.map c.args.pages.now in
    let size = (gs.limits (gs.below c.args.pages.now)).page in
    let columns = c.args.key.columns.now in
    let x = c.args.key.values.now in
    let rest = c.args.rest.now in
    let stays = c.in_ok-depth.ensures.stays in
    let depth = c.in_ok-depth.depth in
    let depth_is = depth_read old size c.args.root columns entries used free is depth (c.in_ok-depth.ensures.found told) in
    let mid = gs.map c.removed_below.new.pages in
    let lessens = since gs.below gs.tells gs.limits gs.map (λ (m : PageMap) (k : ℕ). Lessens m mid k c.args.root depth columns x rest (Ok c.in_ok-removed_below.field-0)) c.args.pages.now c.depth_below.new.pages stays.kept stays.same c.in_ok-removed_below.ensures.lessens told in
    let now = subst (λ (loss : Loss). Lessens old mid size c.args.root depth columns x rest (Ok loss)) c.in-Still.is lessens in
    removed_still old size c.args.root columns entries used free is x rest long depth depth_is mid now)

pub returns-in-Done-clause-removed : goal.returns-in-Done-clause-removed
returns-in-Done-clause-removed g c = λ told entries used free is long.
    (let gs = g.P.Pages in
    let old = gs.map c.args.pages.now in
    let size = (gs.limits (gs.below c.args.pages.now)).page in
    let columns = c.args.key.columns.now in
    let x = c.args.key.values.now in
    let rest = c.args.rest.now in
    let stays = c.in_ok-depth.ensures.stays in
    let depth = c.in_ok-depth.depth in
    let depth_is = depth_read old size c.args.root columns entries used free is depth (c.in_ok-depth.ensures.found told) in
    let mid = gs.map c.removed_below.new.pages in
    let lessens = since gs.below gs.tells gs.limits gs.map (λ (m : PageMap) (k : ℕ). Lessens m mid k c.args.root depth columns x rest (Ok c.in_ok-removed_below.field-0)) c.args.pages.now c.depth_below.new.pages stays.kept stays.same c.in_ok-removed_below.ensures.lessens told in
    let now = subst (λ (loss : Loss). Lessens old mid size c.args.root depth columns x rest (Ok loss)) c.in-Done.is lessens in
    removed_done old size c.args.root columns entries used free is x rest long depth depth_is mid c.in-Done.more now)

pub returns-in_err-settle-in-Spread-clause-removed : goal.returns-in_err-settle-in-Spread-clause-removed
returns-in_err-settle-in-Spread-clause-removed g c = λ told entries used free is long.
    (let gs = g.P.Pages in
    let old = gs.map c.args.pages.now in
    let size = (gs.limits (gs.below c.args.pages.now)).page in
    let columns = c.args.key.columns.now in
    let x = c.args.key.values.now in
    let rest = c.args.rest.now in
    let stays = c.in_ok-depth.ensures.stays in
    let depth = c.in_ok-depth.depth in
    let packed = c.in-Spread.packed in
    let deep = depth == 19 in
    let depth_is = depth_read old size c.args.root columns entries used free is depth (c.in_ok-depth.ensures.found told) in
    let mid = gs.map c.removed_below.new.pages in
    let lessens = since gs.below gs.tells gs.limits gs.map (λ (m : PageMap) (k : ℕ). Lessens m mid k c.args.root depth columns x rest (Ok c.in_ok-removed_below.field-0)) c.args.pages.now c.depth_below.new.pages stays.kept stays.same c.in_ok-removed_below.ensures.lessens told in
    let now = subst (λ (loss : Loss). Lessens old mid size c.args.root depth columns x rest (Ok loss)) c.in-Spread.is lessens in
    let new = gs.map c.settle.new.pages in
    let kept = c.in_ok-removed_below.ensures.kept ∙ stays.kept in
    let told_mid = subst (λ k. IsTrue (gs.tells k)) (sym kept) told in
    let settles = subst (λ k. StoresTop mid new (gs.limits k).page c.args.root packed deep (Err c.in_err-settle-in-Spread.field-0.0)) kept (c.in_err-settle-in-Spread.ensures.settled told_mid) in
    full_err (IsFirstRemoved old new size c.args.root columns x rest entries used free) c.from_residual-in_err-settle-in-Spread.result c.in_err-settle-in-Spread.field-0.0 c.from_residual-in_err-settle-in-Spread.ensures.1
    (removed_spread old size c.args.root columns entries used free is x rest long depth depth_is mid packed now new deep (Err c.in_err-settle-in-Spread.field-0.0) (same_19 depth) (other_19 depth) settles))

pub returns-clause-removed : goal.returns-clause-removed
returns-clause-removed g c = λ told entries used free is long.
    (let gs = g.P.Pages in
    let old = gs.map c.args.pages.now in
    let size = (gs.limits (gs.below c.args.pages.now)).page in
    let columns = c.args.key.columns.now in
    let x = c.args.key.values.now in
    let rest = c.args.rest.now in
    let stays = c.in_ok-depth.ensures.stays in
    let depth = c.in_ok-depth.depth in
    let packed = c.in-Spread.packed in
    let deep = depth == 19 in
    let depth_is = depth_read old size c.args.root columns entries used free is depth (c.in_ok-depth.ensures.found told) in
    let mid = gs.map c.removed_below.new.pages in
    let lessens = since gs.below gs.tells gs.limits gs.map (λ (m : PageMap) (k : ℕ). Lessens m mid k c.args.root depth columns x rest (Ok c.in_ok-removed_below.field-0)) c.args.pages.now c.depth_below.new.pages stays.kept stays.same c.in_ok-removed_below.ensures.lessens told in
    let now = subst (λ (loss : Loss). Lessens old mid size c.args.root depth columns x rest (Ok loss)) c.in-Spread.is lessens in
    let new = gs.map c.settle.new.pages in
    let kept = c.in_ok-removed_below.ensures.kept ∙ stays.kept in
    let told_mid = subst (λ k. IsTrue (gs.tells k)) (sym kept) told in
    let settles = subst (λ k. StoresTop mid new (gs.limits k).page c.args.root packed deep (Ok tt)) kept (c.in_ok-settle-in-Spread.ensures.settled told_mid) in
    removed_spread old size c.args.root columns entries used free is x rest long depth depth_is mid packed now new deep (Ok tt) (same_19 depth) (other_19 depth) settles)
