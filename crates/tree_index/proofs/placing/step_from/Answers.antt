use Rattle.std.proofs.Common.{◌∙◌, ap}
use Rattle.tree_page.specs.Payload.{index_most}
use Rattle.tree_index.specs.Growing.{StepsFrom}
use Rattle.tree_index.proofs.Readings.{since}
use Rattle.tree_index.proofs.placing.step_from.Goals as goal

pub returns-in-Some-clause-found : goal.returns-in-Some-clause-found
returns-in-Some-clause-found g c = λ told.
    (let gs = g.P.Pages in
    let old = c.args.pages.now in
    let most = c.most_in-most.ensures ∙ ap index_most (c.page_size.ensures ∙ ap (λ k. (gs.limits k).page) c.in_ok-load.ensures.stays.kept) in
    c.in-Some.ensures.found (gs.map old) (gs.limits (gs.below old)).page (c.loaded.ensures ∙ c.in_ok-load.ensures.bytes told) most)

pub returns-clause-found : goal.returns-clause-found
returns-clause-found g c =
    (let gs = g.P.Pages in
    let stays = c.in_ok-load.ensures.stays in
    since gs.below gs.tells gs.limits gs.map (λ m n. StepsFrom m n c.args.number c.args.key.columns.now c.args.key.values.now c.step_over_chains.result) c.args.pages.now c.load.new.self stays.kept stays.same
    c.step_over_chains.ensures.found)
