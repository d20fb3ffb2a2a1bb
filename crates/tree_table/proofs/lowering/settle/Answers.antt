use Rattle.std.proofs.Common.{◌∙◌, ℕ, sym}
use Rattle.pages.specs.Map.{PageMap}
use Rattle.tree_table.specs.Freeing.{ClearsTree}
use Rattle.tree_table.specs.Lowering.{LowersRoot}
use Rattle.tree_table.proofs.Descents.{since}
use Rattle.tree_table.proofs.LeafRows.{refused}
use Rattle.tree_table.proofs.Settled.{cleared_settles, lowered_settles, some_not_none}
use Rattle.tree_table.proofs.lowering.settle.Goals as goal

pub returns-in_err-last-clause-settled : goal.returns-in_err-last-clause-settled
returns-in_err-last-clause-settled g c = λ told rows used free is.
    refused _ _ c.in_err-last.field-0.0 c.from_residual.ensures.1 (c.in_err-last.ensures.found told rows used (is.free_are).whole is.tree)

pub returns-in-None-clause-settled : goal.returns-in-None-clause-settled
returns-in-None-clause-settled g c = λ told rows used free is.
    (let gs = g.P.Pages in
    let first = c.args.pages.now in
    let stays = c.in_ok-last.ensures.stays in
    let new = gs.map c.clear.new.pages in
    let clears = since gs.below gs.tells gs.limits gs.map first c.last.new.pages (λ (m : PageMap) (n : ℕ). ClearsTree m new n c.args.root c.clear.result) stays.kept stays.same c.clear.ensures.cleared told in
    cleared_settles (gs.map first) new (gs.limits (gs.below first)).page c.args.root is.tree.depth rows used free c.in_ok-last.field-0 (c.in_ok-last.ensures.found told rows used (is.free_are).whole is.tree) c.in-None.is c.clear.result
    (clears rows used free is))

pub returns-in-Some-clause-settled : goal.returns-in-Some-clause-settled
returns-in-Some-clause-settled g c = λ told rows used free is.
    (let gs = g.P.Pages in
    let first = c.args.pages.now in
    let stays = c.in_ok-last.ensures.stays in
    let new = gs.map c.lower.new.pages in
    let lowers = since gs.below gs.tells gs.limits gs.map first c.last.new.pages (λ (m : PageMap) (n : ℕ). LowersRoot m new n c.args.root c.lower.result) stays.kept stays.same c.lower.ensures.lowered told in
    lowered_settles (gs.map first) new (gs.limits (gs.below first)).page c.args.root is.tree.depth rows used free c.in_ok-last.field-0 (c.in_ok-last.ensures.found told rows used (is.free_are).whole is.tree)
    (λ none. some_not_none (sym c.in-Some.is ∙ none)) c.lower.result (lowers rows used free is))
