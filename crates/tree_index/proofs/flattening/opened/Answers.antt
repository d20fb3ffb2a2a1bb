use Rattle.std.proofs.Common.{◌∙◌, ℕ, Ok, Err}
use Rattle.pages.specs.Map.{PageMap}
use Rattle.tree_store.specs.Steps.{GivesAll}
use Rattle.tree_index.proofs.Readings.{refused, since}
use Rattle.tree_index.proofs.Openings.{numbers_gone, below_read, opened_or}
use Rattle.tree_index.proofs.flattening.opened.Goals as goal

pub returns-in_err-below-clause-opened : goal.returns-in_err-below-clause-opened
returns-in_err-below-clause-opened g c = λ told depth entries used free is.
    (let gs = g.P.Pages in
    let first = c.args.pages.now in
    let old = gs.map first in
    let size = (gs.limits (gs.below first)).page in
    refused _ c.from_residual.result c.in_err-below.field-0.0 c.from_residual.ensures.1
    (below_read old size depth entries used free c.args.fan.now is (Err c.in_err-below.field-0.0) (c.in_err-below.ensures.read told)))

pub returns-in_err-give_all-clause-opened : goal.returns-in_err-give_all-clause-opened
returns-in_err-give_all-clause-opened g c = λ told depth entries used free is.
    (let gs = g.P.Pages in
    let first = c.args.pages.now in
    let old = gs.map first in
    let size = (gs.limits (gs.below first)).page in
    let fan = c.args.fan.now in
    let stays = c.in_ok-below.ensures.stays in
    let new = gs.map c.give_all.new.pages in
    let fan_is = below_read old size depth entries used free fan is (Ok c.in_ok-below.below) (c.in_ok-below.ensures.read told) in
    let numbers = c.as_slice.result.now in
    let numbers_are = numbers_gone old size depth entries used free fan is numbers (c.as_slice.ensures.value ∙ c.in_ok-numbers.ensures.are size is.said is.fan_is.cells) in
    let gives = since gs.below gs.tells gs.limits gs.map (λ (m : PageMap) (n : ℕ). GivesAll m new n numbers (Err c.in_err-give_all.field-0.0)) first c.fan_below.new.pages stays.kept stays.same c.in_err-give_all.ensures.given told in
    refused _ c.from_residual-in_err-give_all.result c.in_err-give_all.field-0.0 c.from_residual-in_err-give_all.ensures.1
    (opened_or old size depth entries used free fan is new numbers c.in_ok-below.below (Err c.in_err-give_all.field-0.0) numbers_are gives fan_is))

pub returns-clause-opened : goal.returns-clause-opened
returns-clause-opened g c = λ told depth entries used free is.
    (let gs = g.P.Pages in
    let first = c.args.pages.now in
    let old = gs.map first in
    let size = (gs.limits (gs.below first)).page in
    let fan = c.args.fan.now in
    let stays = c.in_ok-below.ensures.stays in
    let new = gs.map c.give_all.new.pages in
    let fan_is = below_read old size depth entries used free fan is (Ok c.in_ok-below.below) (c.in_ok-below.ensures.read told) in
    let numbers = c.as_slice.result.now in
    let numbers_are = numbers_gone old size depth entries used free fan is numbers (c.as_slice.ensures.value ∙ c.in_ok-numbers.ensures.are size is.said is.fan_is.cells) in
    let gives = since gs.below gs.tells gs.limits gs.map (λ (m : PageMap) (n : ℕ). GivesAll m new n numbers (Ok tt)) first c.fan_below.new.pages stays.kept stays.same c.in_ok-give_all.ensures.given told in
    opened_or old size depth entries used free fan is new numbers c.in_ok-below.below (Ok tt) numbers_are gives fan_is)
