use Rattle.std.proofs.Common.{ℕ, arith, Ok, Option, subst}
use Rattle.tree_check.specs.Subtrees.{FindsLeft}
use Rattle.tree_overflow.proofs.ReadChains.{unrefused, stays_done, stays_after}
use Rattle.tree_check.proofs.Parting.{told_after}
use Rattle.tree_check.proofs.LeftEdge.{edge_on, edge_ends, edge_stops}
use Rattle.tree_check.proofs.branches.depth_of.Goals as goal

pub returns-in_err-left_child-clause-found : goal.returns-in_err-left_child-clause-found
returns-in_err-left_child-clause-found g c = λ map size told whole depth few under.
    (let p = g.P.Pages in
    let now = told_after p.below p.tells p.limits p.map c.args.pages.now c.levels.pages map size c.levels.invariant.stays.kept c.levels.invariant.stays.same told in
    edge_stops map c.levels.page depth c.levels.depth c.in_err-left_child.field-0.0 c.from_residual.result (c.levels.invariant.edge map size told whole depth few under)
    (c.in_err-left_child.ensures.found map size now whole) c.from_residual.ensures.1)

pub returns-in-None-clause-found : goal.returns-in-None-clause-found
returns-in-None-clause-found g c = λ map size told whole depth few under.
    (let p = g.P.Pages in
    let now = told_after p.below p.tells p.limits p.map c.args.pages.now c.levels.pages map size c.levels.invariant.stays.kept c.levels.invariant.stays.same told in
    edge_ends map c.levels.page depth c.levels.depth (c.levels.invariant.edge map size told whole depth few under) (subst (λ (l : Option ℕ). FindsLeft map c.levels.page (Ok l)) c.in-None.is (c.in_ok-left_child.ensures.found map size now whole)))

pub levels-preserved : goal.levels-preserved
levels-preserved g c =
    let p = g.P.Pages in
    record {
      stays = stays_done p.below p.map p.count p.failures (Ok c.in_ok-left_child.field-0) c.args.pages.now c.left_child.new.pages
          (stays_after p.below p.map p.count p.failures unrefused (Ok c.in_ok-left_child.field-0) c.args.pages.now c.levels.pages c.left_child.new.pages c.levels.invariant.stays c.in_ok-left_child.ensures.stays);
      edge = λ map size told whole depth few under. (
          let now = told_after p.below p.tells p.limits p.map c.args.pages.now c.levels.pages map size c.levels.invariant.stays.kept c.levels.invariant.stays.same told in
          edge_on map c.levels.page depth c.levels.depth c.in-Some.child (c.levels.invariant.edge map size told whole depth few under) (subst (λ (l : Option ℕ). FindsLeft map c.levels.page (Ok l)) c.in-Some.is (c.in_ok-left_child.ensures.found map size now whole)));
    }

pub returns-clause-found : goal.returns-clause-found
returns-clause-found g c = λ map size told whole depth few under.
    (let on = c.levels.invariant.edge map size told whole depth few under in
    let count = on.depth_is in
    absurd (omega (arith, few, count, c.levels-test.false)))
