use Rattle.std.proofs.Common.{◌∙◌, ℕ, Bool, Ok, Err, ap, subst}
use Rattle.pages.specs.Map.{PageMap}
use Rattle.tree_page.specs.Payload.{index_most}
use Rattle.tree_store.specs.Storing.{TakesOff}
use Rattle.tree_index.proofs.Readings.{refused, since}
use Rattle.tree_index.proofs.RunOff.{leaf_is_there, next_refused, next_still, next_taken}
use Rattle.tree_index.proofs.taking.next_off.Goals as goal

pub returns-in_err-load-clause-taken : goal.returns-in_err-load-clause-taken
returns-in_err-load-clause-taken g c = λ told ways t free under sized sorted long.
    (let gs = g.P.Pages in
    let old = gs.map c.args.pages.now in
    let size = (gs.limits (gs.below c.args.pages.now)).page in
    refused _ _ c.in_err-load.field-0.0 c.from_residual.ensures.1 (c.in_err-load.ensures.refusal told (leaf_is_there old size c.args.number ways t free under)))

pub returns-in_default-clause-taken : goal.returns-in_default-clause-taken
returns-in_default-clause-taken g c = λ told ways t free under sized sorted long. c.in_ok-load.ensures.stays.same

pub returns-in_err-take_off-clause-taken : goal.returns-in_err-take_off-clause-taken
returns-in_err-take_off-clause-taken g c = λ told ways t free under sized sorted long.
    (let gs = g.P.Pages in
    let old = gs.map c.args.pages.now in
    let size = (gs.limits (gs.below c.args.pages.now)).page in
    let number = c.args.number in
    let place = c.in-Some.place in
    let columns = c.args.key.columns.now in
    let x = c.args.key.values.now in
    let stays = c.in_ok-load.ensures.stays in
    let most = c.most_in-most.ensures ∙ ap index_most (c.page_size.ensures ∙ ap (λ k. (gs.limits k).page) stays.kept) in
    let whole = c.in-Some.ensures.found old size (c.loaded.ensures ∙ c.in_ok-load.ensures.bytes told) most in
    let new = gs.map c.take_off.new.pages in
    let fault = c.in_err-take_off.field-0.0 in
    let takes = since gs.below gs.tells gs.limits gs.map (λ (m : PageMap) (k : ℕ). TakesOff m new k number place (Err fault)) c.args.pages.now c.load.new.self stays.kept stays.same c.in_err-take_off.ensures.taken told in
    refused _ _ fault c.from_residual-in_err-take_off.ensures.1 (next_refused old size number ways t free under sized columns x place whole new fault takes))

pub returns-then-branch-clause-taken : goal.returns-then-branch-clause-taken
returns-then-branch-clause-taken g c = λ told ways t free under sized sorted long.
    (let gs = g.P.Pages in
    let old = gs.map c.args.pages.now in
    let size = (gs.limits (gs.below c.args.pages.now)).page in
    let number = c.args.number in
    let place = c.in-Some.place in
    let columns = c.args.key.columns.now in
    let x = c.args.key.values.now in
    let stays = c.in_ok-load.ensures.stays in
    let most = c.most_in-most.ensures ∙ ap index_most (c.page_size.ensures ∙ ap (λ k. (gs.limits k).page) stays.kept) in
    let whole = c.in-Some.ensures.found old size (c.loaded.ensures ∙ c.in_ok-load.ensures.bytes told) most in
    let new = gs.map c.take_off.new.pages in
    let takes = since gs.below gs.tells gs.limits gs.map (λ (m : PageMap) (k : ℕ). TakesOff m new k number place (Ok c.in_ok-take_off.field-0)) c.args.pages.now c.load.new.self stays.kept stays.same c.in_ok-take_off.ensures.taken told in
    next_taken old size number ways t free under sized columns x place whole sorted long new (subst (λ (b : Bool). TakesOff old new size number place (Ok b)) c.if-branch.true takes))

pub returns-clause-taken : goal.returns-clause-taken
returns-clause-taken g c = λ told ways t free under sized sorted long.
    (let gs = g.P.Pages in
    let old = gs.map c.args.pages.now in
    let size = (gs.limits (gs.below c.args.pages.now)).page in
    let number = c.args.number in
    let place = c.in-Some.place in
    let columns = c.args.key.columns.now in
    let x = c.args.key.values.now in
    let stays = c.in_ok-load.ensures.stays in
    let most = c.most_in-most.ensures ∙ ap index_most (c.page_size.ensures ∙ ap (λ k. (gs.limits k).page) stays.kept) in
    let whole = c.in-Some.ensures.found old size (c.loaded.ensures ∙ c.in_ok-load.ensures.bytes told) most in
    let new = gs.map c.take_off.new.pages in
    let takes = since gs.below gs.tells gs.limits gs.map (λ (m : PageMap) (k : ℕ). TakesOff m new k number place (Ok c.in_ok-take_off.field-0)) c.args.pages.now c.load.new.self stays.kept stays.same c.in_ok-take_off.ensures.taken told in
    next_still old size number ways t free under sized columns x place whole new (subst (λ (b : Bool). TakesOff old new size number place (Ok b)) c.if-branch.false takes))
