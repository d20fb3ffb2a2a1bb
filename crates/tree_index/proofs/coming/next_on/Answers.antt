use Rattle.std.proofs.Common.{◌≡◌, ◌∙◌, ℕ, Bool, List, IfSome, Ok, Err, ap, subst}
use Rattle.std.specs.Global.{Vec}
use Rattle.std.specs.Prelude.{Option}
use Rattle.pages.specs.Map.{PageMap}
use Rattle.tree_page.specs.Payload.{index_most}
use Rattle.tree_store.specs.Storing.{PlacesOn}
use Rattle.tree_index.specs.Coming.{IsWholeCell}
use Rattle.tree_index.proofs.Readings.{refused, since}
use Rattle.tree_index.proofs.RunOff.{leaf_is_there}
use Rattle.tree_index.proofs.RunOn.{next_put, next_unput, next_unwritten}
use Rattle.tree_index.proofs.coming.next_on.Goals as goal

pub returns-in_err-load-clause-put : goal.returns-in_err-load-clause-put
returns-in_err-load-clause-put g c = λ told ways t free under sized sorted long.
    (let gs = g.P.Pages in
    let old = gs.map c.args.pages.now in
    let size = (gs.limits (gs.below c.args.pages.now)).page in
    refused _ _ c.in_err-load.field-0.0 c.from_residual.ensures.1 (c.in_err-load.ensures.refusal told (leaf_is_there old size c.args.number ways t free under)))

pub returns-in_default-clause-put : goal.returns-in_default-clause-put
returns-in_default-clause-put g c = λ told ways t free under sized sorted long. c.in_ok-load.ensures.stays.same

pub returns-in_default-2-clause-put : goal.returns-in_default-2-clause-put
returns-in_default-2-clause-put g c = λ told ways t free under sized sorted long. c.in_ok-load.ensures.stays.same

pub returns-in_err-place_on-clause-put : goal.returns-in_err-place_on-clause-put
returns-in_err-place_on-clause-put g c = λ told ways t free under sized sorted long.
    (let gs = g.P.Pages in
    let old = gs.map c.args.pages.now in
    let size = (gs.limits (gs.below c.args.pages.now)).page in
    let number = c.args.number in
    let place = c.in-Some.place in
    let columns = c.args.key.columns.now in
    let x = c.args.key.values.now in
    let stays = c.in_ok-load.ensures.stays in
    let most = c.most_in-most.ensures ∙ ap index_most (c.page_size.ensures ∙ ap (λ k. (gs.limits k).page) stays.kept) in
    let between = c.in-Some.ensures.found old size (c.loaded.ensures ∙ c.in_ok-load.ensures.bytes told) most in
    let cell = c.in-Some-2.cell.items in
    let is : IsWholeCell size x cell =
    subst (λ (found : Option (Vec ℕ)). IfSome found (λ cell. (usable : ℕ) → c.most_in-most.result ≡ index_most usable → IsWholeCell usable x cell.items)) c.in-Some-2.is c.in_ok-cell.ensures.is size most in
    let new = gs.map c.place_on.new.pages in
    let fault = c.in_err-place_on.field-0.0 in
    let places = since gs.below gs.tells gs.limits gs.map (λ (m : PageMap) (k : ℕ). PlacesOn m new k number place c.as_slice.result.now (Err fault)) c.args.pages.now c.load.new.self stays.kept stays.same c.in_err-place_on.ensures.placed told in
    refused _ _ fault c.from_residual-in_err-place_on.ensures.1
    (next_unwritten old size number ways t free under sized columns x place between sorted cell is new fault (subst (λ (l : List ℕ). PlacesOn old new size number place l (Err fault)) c.as_slice.ensures.value places)))

pub returns-then-branch-clause-put : goal.returns-then-branch-clause-put
returns-then-branch-clause-put g c = λ told ways t free under sized sorted long.
    (let gs = g.P.Pages in
    let old = gs.map c.args.pages.now in
    let size = (gs.limits (gs.below c.args.pages.now)).page in
    let number = c.args.number in
    let place = c.in-Some.place in
    let columns = c.args.key.columns.now in
    let x = c.args.key.values.now in
    let stays = c.in_ok-load.ensures.stays in
    let most = c.most_in-most.ensures ∙ ap index_most (c.page_size.ensures ∙ ap (λ k. (gs.limits k).page) stays.kept) in
    let between = c.in-Some.ensures.found old size (c.loaded.ensures ∙ c.in_ok-load.ensures.bytes told) most in
    let cell = c.in-Some-2.cell.items in
    let is : IsWholeCell size x cell =
    subst (λ (found : Option (Vec ℕ)). IfSome found (λ cell. (usable : ℕ) → c.most_in-most.result ≡ index_most usable → IsWholeCell usable x cell.items)) c.in-Some-2.is c.in_ok-cell.ensures.is size most in
    let new = gs.map c.place_on.new.pages in
    let places = since gs.below gs.tells gs.limits gs.map (λ (m : PageMap) (k : ℕ). PlacesOn m new k number place c.as_slice.result.now (Ok c.in_ok-place_on.field-0)) c.args.pages.now c.load.new.self stays.kept stays.same c.in_ok-place_on.ensures.placed told in
    next_put old size number ways t free under sized columns x place between sorted cell is new
    (subst (λ (b : Bool). PlacesOn old new size number place cell (Ok b)) c.if-branch.true (subst (λ (l : List ℕ). PlacesOn old new size number place l (Ok c.in_ok-place_on.field-0)) c.as_slice.ensures.value places)))

pub returns-clause-put : goal.returns-clause-put
returns-clause-put g c = λ told ways t free under sized sorted long.
    (let gs = g.P.Pages in
    let old = gs.map c.args.pages.now in
    let size = (gs.limits (gs.below c.args.pages.now)).page in
    let number = c.args.number in
    let place = c.in-Some.place in
    let columns = c.args.key.columns.now in
    let x = c.args.key.values.now in
    let stays = c.in_ok-load.ensures.stays in
    let most = c.most_in-most.ensures ∙ ap index_most (c.page_size.ensures ∙ ap (λ k. (gs.limits k).page) stays.kept) in
    let between = c.in-Some.ensures.found old size (c.loaded.ensures ∙ c.in_ok-load.ensures.bytes told) most in
    let cell = c.in-Some-2.cell.items in
    let is : IsWholeCell size x cell =
    subst (λ (found : Option (Vec ℕ)). IfSome found (λ cell. (usable : ℕ) → c.most_in-most.result ≡ index_most usable → IsWholeCell usable x cell.items)) c.in-Some-2.is c.in_ok-cell.ensures.is size most in
    let new = gs.map c.place_on.new.pages in
    let places = since gs.below gs.tells gs.limits gs.map (λ (m : PageMap) (k : ℕ). PlacesOn m new k number place c.as_slice.result.now (Ok c.in_ok-place_on.field-0)) c.args.pages.now c.load.new.self stays.kept stays.same c.in_ok-place_on.ensures.placed told in
    next_unput old size number ways t free under sized columns x place between sorted cell is new
    (subst (λ (b : Bool). PlacesOn old new size number place cell (Ok b)) c.if-branch.false (subst (λ (l : List ℕ). PlacesOn old new size number place l (Ok c.in_ok-place_on.field-0)) c.as_slice.ensures.value places)))
