use Rattle.std.proofs.Common.{◌≡◌, ℕ, map, subst, arith}
use Rattle.pages.specs.Map.{PageMap}
use Rattle.std.specs.Prelude.{MatchResult}
use Rattle.sqlval.specs.Faults.{IsOutside}
use Rattle.tree_page.specs.Node.{Between}
use Rattle.tree_index.specs.Joining.{FindsKid}
use Rattle.tree_index.proofs.Readings.{refused, since, child_after, said_counted, locals_mapped}
use Rattle.tree_index.proofs.joining.last_kid_of.Goals as goal

pub returns-in_err-len-clause-found : goal.returns-in_err-len-clause-found
returns-in_err-len-clause-found g c = λ told said last entries whole has.
    refused _ _ c.in_err-len.field-0.0 c.from_residual.ensures.1 (c.in_err-len.ensures.counted told (Between said last) entries whole has)

pub returns-clause-found : goal.returns-clause-found
returns-clause-found g c = λ told said last entries whole has.
    (let gs = g.P.Pages in
    let pages = gs.map c.args.pages.now in
    let size = (gs.limits (gs.below c.args.pages.now)).page in
    let stays = c.in_ok-len.ensures.stays in
    let count = c.in_ok-len.ensures.counted told (Between said last) entries whole has in
    let same = said_counted pages size (map (λ kid. kid.1) said) entries has.held in
    let mapped = locals_mapped said in
    let finds = since gs.below gs.tells gs.limits gs.map (λ (m : PageMap) (k : ℕ). FindsKid m k c.args.number c.in_ok-len.len c.kid_of.result) c.args.pages.now c.len_of.new.pages stays.kept stays.same c.kid_of.ensures.found told in
    subst (λ (n : ℕ). MatchResult c.kid_of.result (λ child. child ≡ n) IsOutside) (child_after c.in_ok-len.len said last (omega (arith, count, same, mapped))) (finds said last whole has.says))
