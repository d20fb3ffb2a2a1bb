use Rattle.std.proofs.Common.{◌≤◌, ◌∙◌, ℕ, pos, Ok, Err, sym, arith}
use Rattle.pages.specs.Map.{PageMap}
use Rattle.tree_page.specs.Node.{Node}
use Rattle.tree_store.specs.Saying.{Says}
use Rattle.tree_table.specs.Lowering.{FindsLone, TakesOver}
use Rattle.tree_table.proofs.Descents.{since}
use Rattle.tree_table.proofs.LeafRows.{refused}
use Rattle.tree_table.proofs.Lowered.{root_says, child_says, lowered_at, lowered_below}
use Rattle.tree_table.proofs.Roots.{root_under}
use Rattle.tree_table.proofs.Settled.{unchanged, lower_becomes}
use Rattle.tree_table.proofs.lowering.lower.Goals as goal

pub returns-in_err-child-clause-lowered : goal.returns-in_err-child-clause-lowered
returns-in_err-child-clause-lowered g c = λ told rows used free is.
    (let gs = g.P.Pages in
    let first = c.args.pages.now in
    let old = gs.map first in
    let size = (gs.limits (gs.below first)).page in
    let root = c.args.root in
    let whole = (is.free_are).whole in
    let depth = is.tree.depth in
    let tree = is.tree.tree in
    let under = root_under old size root (pos 0) rows used free is in
    let says = root_says old old size root is.tree.low is.tree.high free is.free_are depth tree is.tree.root_is is.tree.lies in
    refused _ _ c.in_err-child.field-0.0 c.from_residual.ensures.1 (c.in_err-child.ensures.found told says.0 whole says.1))

pub returns-in_default-clause-lowered : goal.returns-in_default-clause-lowered
returns-in_default-clause-lowered g c = λ told rows used free is.
    (let gs = g.P.Pages in
    let first = c.args.pages.now in
    let old = gs.map first in
    let size = (gs.limits (gs.below first)).page in
    let root = c.args.root in
    let whole = (is.free_are).whole in
    let depth = is.tree.depth in
    let tree = is.tree.tree in
    let under = root_under old size root (pos 0) rows used free is in
    unchanged old (gs.map c.lone_child.new.pages) size root rows used free is (c.in_ok-child.ensures.stays).same)

pub returns-then-root-gt1-clause-lowered : goal.returns-then-root-gt1-clause-lowered
returns-then-root-gt1-clause-lowered g c = λ told rows used free is.
    (let gs = g.P.Pages in
    let first = c.args.pages.now in
    let old = gs.map first in
    let size = (gs.limits (gs.below first)).page in
    let root = c.args.root in
    let whole = (is.free_are).whole in
    let depth = is.tree.depth in
    let tree = is.tree.tree in
    let under = root_under old size root (pos 0) rows used free is in
    let stays = c.in_ok-child.ensures.stays in
    let child = c.in-Some.child in
    let lone = λ (node : Node) (says : Says old root node). sym c.in-Some.is ∙ c.in_ok-child.ensures.found told node whole says in
    let new = gs.map c.take_over.new.pages in
    let takes = since gs.below gs.tells gs.limits gs.map first c.lone_child.new.pages (λ (m : PageMap) (n : ℕ). TakesOver m new n root child c.take_over.result) stays.kept stays.same c.take_over.ensures.taken told in
    lower_becomes old new size root rows used free is is.tree.low is.tree.high c.take_over.result
    (lowered_at old new size root is.tree.low is.tree.high free is.free_are depth tree is.tree.root_is is.tree.lies is.tree.sorted under.apart under.first c.if-root-gt1.true child lone c.take_over.result takes))

pub returns-in_err-below-clause-lowered : goal.returns-in_err-below-clause-lowered
returns-in_err-below-clause-lowered g c = λ told rows used free is.
    (let gs = g.P.Pages in
    let first = c.args.pages.now in
    let old = gs.map first in
    let size = (gs.limits (gs.below first)).page in
    let root = c.args.root in
    let whole = (is.free_are).whole in
    let depth = is.tree.depth in
    let tree = is.tree.tree in
    let under = root_under old size root (pos 0) rows used free is in
    let stays = c.in_ok-child.ensures.stays in
    let child = c.in-Some.child in
    let lone = λ (node : Node) (says : Says old root node). sym c.in-Some.is ∙ c.in_ok-child.ensures.found told node whole says in
    let says = child_says old old size root is.tree.low is.tree.high free is.free_are depth tree is.tree.root_is is.tree.lies child lone in
    let finds = since gs.below gs.tells gs.limits gs.map first c.lone_child.new.pages (λ (m : PageMap) (n : ℕ). FindsLone m n child (Err c.in_err-below.field-0.0)) stays.kept stays.same c.in_err-below.ensures.found told in
    refused _ _ c.in_err-below.field-0.0 c.from_residual-in_err-below.ensures.1 (finds says.0 whole says.1))

pub returns-in_default-2-clause-lowered : goal.returns-in_default-2-clause-lowered
returns-in_default-2-clause-lowered g c = λ told rows used free is.
    (let gs = g.P.Pages in
    let first = c.args.pages.now in
    let old = gs.map first in
    let size = (gs.limits (gs.below first)).page in
    let root = c.args.root in
    let whole = (is.free_are).whole in
    let depth = is.tree.depth in
    let tree = is.tree.tree in
    let under = root_under old size root (pos 0) rows used free is in
    let stays = c.in_ok-child.ensures.stays in
    let child = c.in-Some.child in
    let lone = λ (node : Node) (says : Says old root node). sym c.in-Some.is ∙ c.in_ok-child.ensures.found told node whole says in
    unchanged old (gs.map c.lone_child-2.new.pages) size root rows used free is ((c.in_ok-below.ensures.stays).same ∙ stays.same))

pub returns-clause-lowered : goal.returns-clause-lowered
returns-clause-lowered g c = λ told rows used free is.
    (let gs = g.P.Pages in
    let first = c.args.pages.now in
    let old = gs.map first in
    let size = (gs.limits (gs.below first)).page in
    let root = c.args.root in
    let whole = (is.free_are).whole in
    let depth = is.tree.depth in
    let tree = is.tree.tree in
    let under = root_under old size root (pos 0) rows used free is in
    let stays = c.in_ok-child.ensures.stays in
    let child = c.in-Some.child in
    let lone = λ (node : Node) (says : Says old root node). sym c.in-Some.is ∙ c.in_ok-child.ensures.found told node whole says in
    let new = gs.map c.take_over-2.new.pages in
    let still = c.in_ok-below.ensures.stays in
    let below = c.in-Some-2.below in
    let finds = since gs.below gs.tells gs.limits gs.map first c.lone_child.new.pages (λ (m : PageMap) (n : ℕ). FindsLone m n child (Ok c.in_ok-below.field-0)) stays.kept stays.same c.in_ok-below.ensures.found told in
    let lone_below = λ (node : Node) (says : Says old child node). sym c.in-Some-2.is ∙ finds node whole says in
    let takes = since gs.below gs.tells gs.limits gs.map first c.lone_child-2.new.pages (λ (m : PageMap) (n : ℕ). TakesOver m new n child below c.take_over-2.result) (still.kept ∙ stays.kept) (still.same ∙ stays.same)
    c.take_over-2.ensures.taken told in
    let near : root ≤ 1 = omega (arith, c.if-root-gt1.false) in
    lower_becomes old new size root rows used free is is.tree.low is.tree.high c.take_over-2.result
    (lowered_below old new size root is.tree.low is.tree.high free is.free_are depth tree is.tree.root_is is.tree.lies is.tree.sorted under.apart under.first near child lone below lone_below c.take_over-2.result takes))
