use Rattle.std.proofs.Common.{◌∙◌, ℕ, Ok, Err}
use Rattle.pages.specs.Map.{PageMap}
use Rattle.tree_table.specs.Freeing.{FindsParts, ReadsChild}
use Rattle.tree_table.proofs.Clearing.{standing, parts_refused}
use Rattle.tree_table.proofs.Descents.{since}
use Rattle.tree_table.proofs.LeafRows.{refused}
use Rattle.tree_table.proofs.Trimmed.{deep, second_unread, second_told}
use Rattle.tree_table.proofs.lowering.ends_bare.Goals as goal

pub returns-in_err-parts_of-clause-found : goal.returns-in_err-parts_of-clause-found
returns-in_err-parts_of-clause-found g c = λ told rows used free is.
    (let gs = g.P.Pages in
    let first = c.args.pages.now in
    let old = gs.map first in
    let size = (gs.limits (gs.below first)).page in
    refused _ _ c.in_err-parts_of.field-0.0 c.from_residual.ensures.1
    (parts_refused old size c.args.root 19 is.tree.depth is.tree.tree free c.in_err-parts_of.field-0.0 (standing old size c.args.root rows used free is) (c.in_err-parts_of.ensures.found told)))

pub returns-in_err-second-clause-found : goal.returns-in_err-second-clause-found
returns-in_err-second-clause-found g c = λ told rows used free is.
    (let gs = g.P.Pages in
    let first = c.args.pages.now in
    let old = gs.map first in
    let size = (gs.limits (gs.below first)).page in
    let root = c.args.root in
    let stays = c.in_ok-parts_of.ensures.stays in
    let two = c.are_two.ensures.two c.if-not-are_two.false in
    let reads = since gs.below gs.tells gs.limits gs.map first c.parts_of.new.pages (λ (m : PageMap) (n : ℕ). ReadsChild m n root 1 (Err c.in_err-second.field-0.0)) stays.kept stays.same c.in_err-second.ensures.read told in
    refused _ _ c.in_err-second.field-0.0 c.from_residual-in_err-second.ensures.1
    (second_unread old size root rows used free is c.in_ok-parts_of.field-0 (c.in_ok-parts_of.ensures.found told) two c.in_err-second.field-0.0 reads))

pub returns-in_err-parts_of-2-clause-found : goal.returns-in_err-parts_of-2-clause-found
returns-in_err-parts_of-2-clause-found g c = λ told rows used free is.
    (let gs = g.P.Pages in
    let first = c.args.pages.now in
    let old = gs.map first in
    let size = (gs.limits (gs.below first)).page in
    let root = c.args.root in
    let second = c.in_ok-second.second in
    let stays = c.in_ok-parts_of.ensures.stays in
    let still = c.in_ok-second.ensures.stays in
    let two = c.are_two.ensures.two c.if-not-are_two.false in
    let reads = since gs.below gs.tells gs.limits gs.map first c.parts_of.new.pages (λ (m : PageMap) (n : ℕ). ReadsChild m n root 1 (Ok second)) stays.kept stays.same c.in_ok-second.ensures.read told in
    let told_second = second_told old size root rows used free is c.in_ok-parts_of.field-0 (c.in_ok-parts_of.ensures.found told) two second reads in
    let finds = since gs.below gs.tells gs.limits gs.map first c.child_of.new.pages (λ (m : PageMap) (n : ℕ). FindsParts m n second (Err c.in_err-parts_of-2.field-0.0)) (still.kept ∙ stays.kept) (still.same ∙ stays.same)
    c.in_err-parts_of-2.ensures.found told in
    refused _ _ c.in_err-parts_of-2.field-0.0 c.from_residual-in_err-parts_of-2.ensures.1 (finds told_second.node (is.free_are).whole told_second.says told_second.ours))

pub returns-clause-found : goal.returns-clause-found
returns-clause-found g c = λ told rows used free is bare.
    (let gs = g.P.Pages in
    let first = c.args.pages.now in
    let old = gs.map first in
    let size = (gs.limits (gs.below first)).page in
    deep old size c.args.root rows used free is c.in_ok-parts_of.field-0 (c.in_ok-parts_of.ensures.found told) (c.are_two.ensures.two c.if-not-are_two.false))
