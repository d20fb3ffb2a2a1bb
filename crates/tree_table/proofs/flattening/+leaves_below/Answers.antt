use Rattle.std.proofs.Common.{◌≤◌, ◌-◌, ◌∙◌, ℕ, Ok, Err, IsTrue, sym, subst, arith}
use Rattle.std.specs.Prelude.{MatchResult}
use Rattle.sqlval.specs.Faults.{IsOutside}
use Rattle.pages.specs.Map.{PageMap}
use Rattle.tree_table.specs.Flattening.{BecomeBeside, Opens, FindsLeaves}
use Rattle.tree_table.proofs.Descents.{since}
use Rattle.tree_table.proofs.Flattened.{last_refused, are_leaves, by_depth, leaves_then}
use Rattle.tree_table.proofs.LeafRows.{refused}
use Rattle.tree_table.proofs.flattening.+leaves_below.Goals as goal

pub returns-in_err-parts_of-clause-found : goal.returns-in_err-parts_of-clause-found
returns-in_err-parts_of-clause-found g n c = λ told depth low high rows used free is le.
    (let gs = g.P.Pages in
    let first = c.args.pages.now in
    refused _ c.from_residual.result c.in_err-parts_of.field-0.0 c.from_residual.ensures.1
    (last_refused (gs.map first) (gs.limits (gs.below first)).page low high rows used free c.args.fan depth c.in_err-parts_of.field-0.0 is (c.in_err-parts_of.ensures.found told)))

pub returns-in-Cells-clause-found : goal.returns-in-Cells-clause-found
returns-in-Cells-clause-found g n c = λ told depth low high rows used free is le.
    (let gs = g.P.Pages in
    let first = c.args.pages.now in
    let size = (gs.limits (gs.below first)).page in
    subst (λ (m : PageMap). BecomeBeside (gs.map first) m size 0 low high rows used free c.args.fan) (sym c.in_ok-parts_of.ensures.stays.same)
    (are_leaves (gs.map first) size low high rows used free c.args.fan depth c.in-Cells.field-0 c.in_ok-parts_of.field-0 is (c.in_ok-parts_of.ensures.found told) c.in-Cells.is))

pub returns-then-ways-eq0-clause-found : goal.returns-then-ways-eq0-clause-found
returns-then-ways-eq0-clause-found g n c = λ told depth low high rows used free is le.
    (let gs = g.P.Pages in
    let first = c.args.pages.now in
    let size = (gs.limits (gs.below first)).page in
    absurd (by_depth (gs.map first) size low high rows used free c.args.fan depth c.in-Children.field-0 c.in_ok-parts_of.field-0 (λ (deep : ℕ). deep ≤ c.args.ways → ⊥) is (c.in_ok-parts_of.ensures.found told) c.in-Children.is
    (λ less more few. omega (arith, few, c.if-ways-eq0.true)) le))

pub returns-in_err-below-clause-found : goal.returns-in_err-below-clause-found
returns-in_err-below-clause-found g n c = λ told depth low high rows used free is le.
    (let gs = g.P.Pages in
    let first = c.args.pages.now in
    let old = gs.map first in
    let size = (gs.limits (gs.below first)).page in
    let stays = c.in_ok-parts_of.ensures.stays in
    let fault = c.in_err-below.field-0.0 in
    let opens = since gs.below gs.tells gs.limits gs.map first c.parts_of.new.pages (λ (m : PageMap) (n : ℕ). Opens m (gs.map c.opened.new.pages) n c.args.fan (Err fault)) stays.kept stays.same c.in_err-below.ensures.opened told in
    refused _ c.from_residual-in_err-below.result fault c.from_residual-in_err-below.ensures.1
    (by_depth old size low high rows used free c.args.fan depth c.in-Children.field-0 c.in_ok-parts_of.field-0 (λ (deep : ℕ). IsOutside fault) is (c.in_ok-parts_of.ensures.found told) c.in-Children.is
    (λ less more. opens less low high rows used free more)))

pub returns-clause-found : goal.returns-clause-found
returns-clause-found g n c = λ told depth low high rows used free is le.
    (let gs = g.P.Pages in
    let first = c.args.pages.now in
    let old = gs.map first in
    let size = (gs.limits (gs.below first)).page in
    let stays = c.in_ok-parts_of.ensures.stays in
    let mid = gs.map c.opened.new.pages in
    let new = gs.map c.leaves_below.new.pages in
    let below = c.in_ok-below.below in
    let result = c.leaves_below.result in
    let opens = since gs.below gs.tells gs.limits gs.map first c.parts_of.new.pages (λ (m : PageMap) (n : ℕ). Opens m mid n c.args.fan (Ok below)) stays.kept stays.same c.in_ok-below.ensures.opened told in
    let kept = c.in_ok-below.ensures.kept ∙ stays.kept in
    let finds = subst (λ k. FindsLeaves mid new (gs.limits k).page below (c.args.ways - 1) result) kept (c.leaves_below.ensures.found (subst (λ k. IsTrue (gs.tells k)) (sym kept) told)) in
    by_depth old size low high rows used free c.args.fan depth c.in-Children.field-0 c.in_ok-parts_of.field-0 (λ (deep : ℕ). deep ≤ c.args.ways → MatchResult result (BecomeBeside old new size 0 low high rows used free) IsOutside)
    is (c.in_ok-parts_of.ensures.found told) c.in-Children.is
    (λ less more few. leaves_then old mid new size less c.args.ways low high rows used free below result (opens less low high rows used free more) finds few) le)
