use Rattle.std.proofs.Common.{◌-◌, ℕ, Option, Ok, Err, subst, arith}
use Rattle.tree_index.specs.Comparing.{FindsChild}
use Rattle.tree_index.specs.Removing.{FindsDepth}
use Rattle.tree_index.proofs.Depths.{child_unread, no_child, not_flat, one_deeper}
use Rattle.tree_index.proofs.Readings.{refused, since}
use Rattle.tree_index.proofs.removing.+depth_below.Goals as goal

pub returns-in_err-child-clause-found : goal.returns-in_err-child-clause-found
returns-in_err-child-clause-found g n c = λ told depth t whole at lies le.
    (let gs = g.P.Pages in
    let pages = gs.map c.args.pages.now in
    let size = (gs.limits (gs.below c.args.pages.now)).page in
    refused _ _ c.in_err-child.field-0.0 c.from_residual.ensures.1 (child_unread pages size c.args.number whole depth t at lies c.in_err-child.field-0.0 (c.in_err-child.ensures.found told)))

pub returns-in_default-clause-found : goal.returns-in_default-clause-found
returns-in_default-clause-found g n c = λ told depth t whole at lies le.
    (let gs = g.P.Pages in
    let pages = gs.map c.args.pages.now in
    let size = (gs.limits (gs.below c.args.pages.now)).page in
    no_child pages size c.args.number whole c.in_ok-child.field-0 c.in_default.not-Some depth t at lies (c.in_ok-child.ensures.found told))

pub returns-then-ways-eq0-clause-found : goal.returns-then-ways-eq0-clause-found
returns-then-ways-eq0-clause-found g n c = λ told depth t whole at lies le.
    (let gs = g.P.Pages in
    let pages = gs.map c.args.pages.now in
    let size = (gs.limits (gs.below c.args.pages.now)).page in
    let finds = subst (λ (found : Option ℕ). FindsChild pages size c.args.number 0 (Ok found)) c.in-Some.is (c.in_ok-child.ensures.found told) in
    absurd (not_flat pages size c.args.number whole c.in-Some.child depth t at lies finds (omega (arith, le, c.if-ways-eq0.true))))

pub returns-in_err-depth_below-clause-found : goal.returns-in_err-depth_below-clause-found
returns-in_err-depth_below-clause-found g n c = λ told depth t whole at lies le.
    (let gs = g.P.Pages in
    let pages = gs.map c.args.pages.now in
    let size = (gs.limits (gs.below c.args.pages.now)).page in
    let stays = c.in_ok-child.ensures.stays in
    let fewer = c.args.ways - 1 in
    let finds = subst (λ (found : Option ℕ). FindsChild pages size c.args.number 0 (Ok found)) c.in-Some.is (c.in_ok-child.ensures.found told) in
    let depths = since gs.below gs.tells gs.limits gs.map (λ m k. FindsDepth m k c.in-Some.child fewer (Err c.in_err-depth_below.field-0.0)) c.args.pages.now c.child_of.new.pages stays.kept stays.same c.in_err-depth_below.ensures.found told in
    refused _ _ c.in_err-depth_below.field-0.0 c.from_residual-in_err-depth_below.ensures.1
    (one_deeper pages size c.args.number whole c.in-Some.child fewer depth t at lies (omega (arith, le, c.if-ways-eq0.false)) finds (Err c.in_err-depth_below.field-0.0) depths))

pub returns-clause-found : goal.returns-clause-found
returns-clause-found g n c = λ told depth t whole at lies le.
    (let gs = g.P.Pages in
    let pages = gs.map c.args.pages.now in
    let size = (gs.limits (gs.below c.args.pages.now)).page in
    let stays = c.in_ok-child.ensures.stays in
    let fewer = c.args.ways - 1 in
    let finds = subst (λ (found : Option ℕ). FindsChild pages size c.args.number 0 (Ok found)) c.in-Some.is (c.in_ok-child.ensures.found told) in
    let depths = since gs.below gs.tells gs.limits gs.map (λ m k. FindsDepth m k c.in-Some.child fewer (Ok c.in_ok-depth_below.field-0)) c.args.pages.now c.child_of.new.pages stays.kept stays.same c.in_ok-depth_below.ensures.found told in
    one_deeper pages size c.args.number whole c.in-Some.child fewer depth t at lies (omega (arith, le, c.if-ways-eq0.false)) finds (Ok c.in_ok-depth_below.field-0) depths)
