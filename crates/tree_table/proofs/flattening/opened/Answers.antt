use Rattle.std.proofs.Common.{◌≡◌, ◌∙◌, ◌++◌, ℕ, suc, ℤ, [], ◌∷◌, map, Ok, Err, ap}
use Rattle.pages.specs.Map.{PageMap}
use Rattle.tree_store.specs.Sides.{children}
use Rattle.tree_store.specs.Steps.{GivesAll}
use Rattle.tree_table.specs.Tree.{top}
use Rattle.tree_table.proofs.Descents.{since}
use Rattle.tree_table.proofs.LeafRows.{refused}
use Rattle.tree_table.proofs.Openings.{gone, below_read, opened_or}
use Rattle.tree_table.proofs.flattening.opened.Goals as goal

pub returns-in_err-below-clause-opened : goal.returns-in_err-below-clause-opened
returns-in_err-below-clause-opened g c = λ told depth low high rows used free is.
    (let gs = g.P.Pages in
    let first = c.args.pages.now in
    let old = gs.map first in
    let size = (gs.limits (gs.below first)).page in
    refused _ c.from_residual.result c.in_err-below.field-0.0 c.from_residual.ensures.1
    (below_read old size depth low high rows used free c.args.fan.now is (Err c.in_err-below.field-0.0) (c.in_err-below.ensures.read told)))

pub returns-in_err-give_all-clause-opened : goal.returns-in_err-give_all-clause-opened
returns-in_err-give_all-clause-opened g c = λ told depth low high rows used free is.
    (let gs = g.P.Pages in
    let first = c.args.pages.now in
    let old = gs.map first in
    let size = (gs.limits (gs.below first)).page in
    let fan = c.args.fan.now in
    let stays = c.in_ok-below.ensures.stays in
    let new = gs.map c.give_all.new.pages in
    let fan_is = below_read old size depth low high rows used free fan is (Ok c.in_ok-below.below) (c.in_ok-below.ensures.read told) in
    let numbers = c.as_slice.result.now in
    let numbers_are : numbers ≡ gone old size depth low high rows used free fan is = (
    c.as_slice.ensures.value ∙ c.in_ok-numbers.ensures.are (children (top (suc depth)) is.kids) is.fan_is.cells
    ∙ ap (λ (n : ℕ). map (λ (kid : ℕ × ℤ). kid.0) (children (top (suc depth)) is.kids) ++ n ∷ []) is.fan_is.last_is) in
    let gives = since gs.below gs.tells gs.limits gs.map first c.fan_below.new.pages (λ (m : PageMap) (n : ℕ). GivesAll m new n numbers (Err c.in_err-give_all.field-0.0)) stays.kept stays.same c.in_err-give_all.ensures.given told in
    refused _ c.from_residual-in_err-give_all.result c.in_err-give_all.field-0.0 c.from_residual-in_err-give_all.ensures.1
    (opened_or old size depth low high rows used free fan is new numbers c.in_ok-below.below (Err c.in_err-give_all.field-0.0) numbers_are gives fan_is))

pub returns-clause-opened : goal.returns-clause-opened
returns-clause-opened g c = λ told depth low high rows used free is.
    (let gs = g.P.Pages in
    let first = c.args.pages.now in
    let old = gs.map first in
    let size = (gs.limits (gs.below first)).page in
    let fan = c.args.fan.now in
    let stays = c.in_ok-below.ensures.stays in
    let new = gs.map c.give_all.new.pages in
    let fan_is = below_read old size depth low high rows used free fan is (Ok c.in_ok-below.below) (c.in_ok-below.ensures.read told) in
    let numbers = c.as_slice.result.now in
    let numbers_are : numbers ≡ gone old size depth low high rows used free fan is = (
    c.as_slice.ensures.value ∙ c.in_ok-numbers.ensures.are (children (top (suc depth)) is.kids) is.fan_is.cells
    ∙ ap (λ (n : ℕ). map (λ (kid : ℕ × ℤ). kid.0) (children (top (suc depth)) is.kids) ++ n ∷ []) is.fan_is.last_is) in
    let gives = since gs.below gs.tells gs.limits gs.map first c.fan_below.new.pages (λ (m : PageMap) (n : ℕ). GivesAll m new n numbers (Ok tt)) stays.kept stays.same c.in_ok-give_all.ensures.given told in
    opened_or old size depth low high rows used free fan is new numbers c.in_ok-below.below (Ok tt) numbers_are gives fan_is)
