use Rattle.std.proofs.Common.{◌≡◌, ◌∙◌, ◌-◌, ℕ, ap}
use Rattle.pages.specs.Map.{PageMap, page_at}
use Rattle.tree_page.specs.Payload.{table_most}
use Rattle.tree_store.specs.Storing.{TakesOff}
use Rattle.tree_table.proofs.Descents.{since}
use Rattle.tree_table.proofs.LeafRows.{refused}
use Rattle.tree_table.proofs.TakenRows.{row_taken, short_row, taken_there}
use Rattle.tree_table.proofs.runs.taken_off.Goals as goal

pub returns-in_err-load-clause-taken : goal.returns-in_err-load-clause-taken
returns-in_err-load-clause-taken g c = λ told ways rowid low t high free under lt same.
    (let gs = g.P.Pages in
    let old = gs.map c.args.pages.now in
    let size = (gs.limits (gs.below c.args.pages.now)).page in
    refused _ c.from_residual.result c.in_err-load.field-0.0 c.from_residual.ensures.1
    (c.in_err-load.ensures.refusal told (taken_there old size c.args.number ways rowid low t high free under c.args.place lt same)))

pub returns-clause-taken : goal.returns-clause-taken
returns-clause-taken g c = λ told ways rowid low t high free under lt same.
    (let gs = g.P.Pages in
    let pages = c.args.pages.now in
    let old = gs.map pages in
    let new = gs.map c.take_off.new.pages in
    let size = (gs.limits (gs.below pages)).page in
    let number = c.args.number in
    let place = c.args.place in
    let stays = c.in_ok-load.ensures.stays in
    let read : c.loaded.result.now ≡ page_at old number = c.loaded.ensures ∙ c.in_ok-load.ensures.bytes told in
    let most : c.saturating_sub-most.result ≡ table_most size = c.saturating_sub-most.ensures ∙ ap (λ (n : ℕ). n - 35) c.page_size.ensures ∙ ap (λ k. (gs.limits k).page - 35) stays.kept in
    let short = short_row old size number ways rowid low t high free under place lt same c.loaded.result.now c.saturating_sub-most.result read most (c.are_short.ensures c.if-not-are_short.false) in
    let takes = since gs.below gs.tells gs.limits gs.map pages c.load.new.self (λ (m : PageMap) (n : ℕ). TakesOff m new n number place c.take_off.result) stays.kept stays.same c.take_off.ensures.taken told in
    row_taken old size number ways rowid low t high free under place lt same short c.args.changes.now (c.is_one_change.ensures c.if-not-is_one_change.false) new c.take_off.result takes)
