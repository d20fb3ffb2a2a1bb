use Rattle.std.proofs.Common.{◌∙◌, ℕ, Ok, Err, arith}
use Rattle.sqlval.specs.Faults.{IsOutside}
use Rattle.pages.specs.Map.{PageMap}
use Rattle.freelist.proofs.Causing.{causes_after}
use Rattle.tree_table.specs.Freeing.{AreGivenBack, FreesRows}
use Rattle.tree_table.specs.Growing.{below_of}
use Rattle.tree_table.specs.Tree.{Tree}
use Rattle.tree_table.proofs.Clearing.{parts_refused, leaf_given, way_long, by_kids, turn_unread, turn_unfreed, turn, all_gone}
use Rattle.tree_table.proofs.FoundRows.{since}
use Rattle.tree_table.proofs.LeafRows.{refused}
use Rattle.tree_table.proofs.freeing.+free_below.Goals as goal

pub returns-in_err-len-clause-freed : goal.returns-in_err-len-clause-freed
returns-in_err-len-clause-freed g n c = λ told depth t free is.
    (let gs = g.P.Pages in
    let old = c.args.pages.now in
    refused _ _ c.in_err-len.field-0.0 c.from_residual.ensures.1
    (parts_refused (gs.map old) (gs.limits (gs.below old)).page c.args.number c.args.ways depth t free c.in_err-len.field-0.0 is (c.in_err-len.ensures.found told)))

pub returns-in-Cells-clause-freed : goal.returns-in-Cells-clause-freed
returns-in-Cells-clause-freed g n c = λ told depth t free is.
    (let gs = g.P.Pages in
    let old = c.args.pages.now in
    let stays = c.in_ok-len.ensures.stays in
    let new = gs.map c.free_rows.new.pages in
    leaf_given (gs.map old) new (gs.limits (gs.below old)).page c.args.number c.args.ways c.in-Cells.len depth t free c.in_ok-len.field-0 c.free_rows.result is (c.in_ok-len.ensures.found told) c.in-Cells.is
    (since gs.below gs.tells gs.limits gs.map (λ (m : PageMap) (k : ℕ). FreesRows m new k c.args.number c.in-Cells.len c.free_rows.result) old c.parts_of.new.pages stays.kept stays.same c.free_rows.ensures.freed told))

pub returns-then-ways-eq0-clause-freed : goal.returns-then-ways-eq0-clause-freed
returns-then-ways-eq0-clause-freed g n c = λ told depth t free is.
    (let gs = g.P.Pages in
    let old = c.args.pages.now in
    absurd (way_long (gs.map old) (gs.limits (gs.below old)).page c.args.number c.args.ways c.in-Children.len depth t free c.in_ok-len.field-0 is (c.in_ok-len.ensures.found told) c.in-Children.is c.if-ways-eq0.true))

pub returns-in_err-child-clause-freed : goal.returns-in_err-child-clause-freed
returns-in_err-child-clause-freed g n c = λ told depth t free is.
    (let gs = g.P.Pages in
    let old = c.args.pages.now in
    let finds = c.in_ok-len.ensures.found told in
    refused _ _ c.in_err-child.field-0.0 c.from_residual-in_err-child.ensures.1
    (by_kids (gs.map old) (gs.limits (gs.below old)).page c.args.number c.args.ways c.in-Children.len depth t free c.in_ok-len.field-0 (λ (depth : ℕ) (t : Tree depth). IsOutside c.in_err-child.field-0.0) is finds c.in-Children.is
    (λ less u beside counted. turn_unread gs.below gs.tells gs.limits gs.map gs.failures old c.children.pages c.args.number c.args.ways c.in-Children.len c.children.place c.children.invariant c.children-test.true told less u free beside counted c.in_err-child.field-0.0 c.in_err-child.ensures.read)))

pub returns-in_err-free_below-clause-freed : goal.returns-in_err-free_below-clause-freed
returns-in_err-free_below-clause-freed g n c = λ told depth t free is.
    (let gs = g.P.Pages in
    let old = c.args.pages.now in
    let finds = c.in_ok-len.ensures.found told in
    let stays = c.in_ok-child.ensures.stays in
    refused _ _ c.in_err-free_below.field-0.0 c.from_residual-in_err-free_below.ensures.1
    (by_kids (gs.map old) (gs.limits (gs.below old)).page c.args.number c.args.ways c.in-Children.len depth t free c.in_ok-len.field-0 (λ (depth : ℕ) (t : Tree depth). IsOutside c.in_err-free_below.field-0.0) is finds c.in-Children.is
    (λ less u beside counted. turn_unfreed gs.below gs.tells gs.limits gs.map gs.failures old c.children.pages c.args.number c.args.ways c.in-Children.len c.children.place c.children.invariant c.children-test.true told less u free beside counted c.child_of.new.pages c.free_below.new.pages c.in_ok-child.child c.in_ok-child.ensures.read stays.kept stays.same c.in_err-free_below.field-0.0 c.in_err-free_below.ensures.freed)))

pub returns-in_err-give-clause-freed : goal.returns-in_err-give-clause-freed
returns-in_err-give-clause-freed g n c = λ told depth t free is.
    (let gs = g.P.Pages in
    let old = c.args.pages.now in
    let finds = c.in_ok-len.ensures.found told in
    let stays = c.in_ok-child.ensures.stays in
    refused _ _ c.in_err-give.field-0.0 c.from_residual-in_err-give.ensures.1
    (by_kids (gs.map old) (gs.limits (gs.below old)).page c.args.number c.args.ways c.in-Children.len depth t free c.in_ok-len.field-0 (λ (depth : ℕ) (t : Tree depth). IsOutside c.in_err-give.field-0.0) is finds c.in-Children.is
    (λ less u beside counted. turn gs.below gs.tells gs.limits gs.map gs.failures old c.children.pages c.args.number c.args.ways c.in-Children.len c.children.place c.children.invariant c.children-test.true told less u free beside counted c.child_of.new.pages c.free_below.new.pages c.in_ok-child.child c.in_ok-child.ensures.read stays.kept stays.same c.give.new.pages (Err c.in_err-give.field-0.0) c.in_ok-free_below.ensures.freed
    c.in_ok-free_below.ensures.kept c.in_err-give.ensures.given)))

pub children-preserved : goal.children-preserved
children-preserved g n c =
    let gs = g.P.Pages in
    let old = c.args.pages.now in
    let has = c.children.invariant in
    let stays = c.in_ok-child.ensures.stays in
    record {
      kept = c.in_ok-give.ensures.kept ∙ c.in_ok-free_below.ensures.kept ∙ stays.kept ∙ has.kept;
      causes = causes_after (Ok tt) (Ok tt) (gs.failures old) (gs.failures c.free_below.new.pages) (gs.failures c.give.new.pages) ⊥ ⊥
          (causes_after (Ok c.in_ok-child.child) (Ok tt) (gs.failures old) (gs.failures c.child_of.new.pages) (gs.failures c.free_below.new.pages) ⊥ ⊥
          (causes_after (Ok tt) (Ok c.in_ok-child.child) (gs.failures old) (gs.failures c.children.pages) (gs.failures c.child_of.new.pages) ⊥ ⊥ has.causes stays.causes) c.in_ok-free_below.ensures.causes) c.in_ok-give.ensures.causes;
      given = λ told less u free beside counted.
          turn gs.below gs.tells gs.limits gs.map gs.failures old c.children.pages c.args.number c.args.ways c.in-Children.len c.children.place c.children.invariant c.children-test.true told less u free beside counted c.child_of.new.pages c.free_below.new.pages c.in_ok-child.child c.in_ok-child.ensures.read stays.kept stays.same c.give.new.pages (Ok tt) c.in_ok-free_below.ensures.freed c.in_ok-free_below.ensures.kept
          c.in_ok-give.ensures.given;
    }

pub returns-clause-freed : goal.returns-clause-freed
returns-clause-freed g n c = λ told depth t free is.
    (let gs = g.P.Pages in
    let old = c.args.pages.now in
    let finds = c.in_ok-len.ensures.found told in
    by_kids (gs.map old) (gs.limits (gs.below old)).page c.args.number c.args.ways c.in-Children.len depth t free c.in_ok-len.field-0 (λ (depth : ℕ) (t : Tree depth). AreGivenBack (gs.map old) (gs.map c.children.pages) (gs.limits (gs.below old)).page (below_of depth t) free) is finds c.in-Children.is
    (λ less u beside counted. all_gone gs.below gs.tells gs.limits gs.map gs.failures old c.children.pages c.args.number c.args.ways c.in-Children.len c.children.place c.children.invariant (omega (arith, c.children-test.false)) told less u free beside counted))
