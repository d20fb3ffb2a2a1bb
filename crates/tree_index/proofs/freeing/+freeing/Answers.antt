use Rattle.std.proofs.Common.{◌∙◌, sym, subst, ℕ, Ok, Err, arith}
use Rattle.pages.specs.Map.{PageMap}
use Rattle.freelist.proofs.Causing.{causes_after}
use Rattle.tree_index.specs.Comparing.{FindsChild}
use Rattle.tree_index.specs.Freeing.{FreesEntries, FreesKids}
use Rattle.tree_index.proofs.Clearing.{hold_entries, leaf_given, not_leaf, kids_given, no_child, a_child, turn_unread, turn_some, turn_unfreed, turn, all_gone, with_limits}
use Rattle.tree_index.proofs.Readings.{refused, since}
use Rattle.tree_index.proofs.Subtrees.{told, entries_at}
use Rattle.tree_index.proofs.freeing.+freeing.Goals as goal

pub free_below-returns-in_err-len-clause-freed : goal.free_below-returns-in_err-len-clause-freed
free_below-returns-in_err-len-clause-freed g n c = λ told_it depth t free is.
    (let gs = g.P.Pages in
    let old = gs.map c.args.pages.now in
    let size = (gs.limits (gs.below c.args.pages.now)).page in
    let top = told old size c.args.number depth t is.top_is is.lies in
    refused _ _ c.in_err-len.field-0.0 c.from_residual.ensures.1 (c.in_err-len.ensures.counted told_it top.node (entries_at depth t) (is.free_are).whole top.has))

pub free_below-returns-in_err-first-clause-freed : goal.free_below-returns-in_err-first-clause-freed
free_below-returns-in_err-first-clause-freed g n c = λ told_it depth t free is.
    (let gs = g.P.Pages in
    let old = gs.map c.args.pages.now in
    let size = (gs.limits (gs.below c.args.pages.now)).page in
    let top = told old size c.args.number depth t is.top_is is.lies in
    let one = c.in_ok-len.ensures.stays in
    let finds = since gs.below gs.tells gs.limits gs.map (λ (m : PageMap) (k : ℕ). FindsChild m k c.args.number 0 (Err c.in_err-first.field-0.0)) c.args.pages.now c.len_of.new.pages one.kept one.same c.in_err-first.ensures.found told_it in
    refused _ _ c.in_err-first.field-0.0 c.from_residual-in_err-first.ensures.1 (finds top.node (is.free_are).whole top.has.says top.has.ours))

pub free_below-returns-in_err-free_entries-clause-freed : goal.free_below-returns-in_err-free_entries-clause-freed
free_below-returns-in_err-free_entries-clause-freed g n c = λ told_it depth t free is.
    (let gs = g.P.Pages in
    let old = gs.map c.args.pages.now in
    let size = (gs.limits (gs.below c.args.pages.now)).page in
    let top = told old size c.args.number depth t is.top_is is.lies in
    let one = c.in_ok-len.ensures.stays in
    let two = c.in_ok-first.ensures.stays in
    let counted = c.in_ok-len.ensures.counted told_it top.node (entries_at depth t) (is.free_are).whole top.has in
    let frees = since gs.below gs.tells gs.limits gs.map (λ (m : PageMap) (k : ℕ). FreesEntries m (gs.map c.free_entries.new.pages) k c.args.number c.in_ok-len.len (Err c.in_err-free_entries.field-0.0)) c.args.pages.now c.child_of.new.pages
    (two.kept ∙ one.kept) (two.same ∙ one.same) c.in_err-free_entries.ensures.freed told_it in
    refused _ _ c.in_err-free_entries.field-0.0 c.from_residual-in_err-free_entries.ensures.1
    (frees top.node (entries_at depth t) free (hold_entries old size c.args.number c.args.ways depth t free is) counted))

pub free_below-returns-then-is_none-clause-freed : goal.free_below-returns-then-is_none-clause-freed
free_below-returns-then-is_none-clause-freed g n c = λ told_it depth t free is.
    (let gs = g.P.Pages in
    let old = gs.map c.args.pages.now in
    let size = (gs.limits (gs.below c.args.pages.now)).page in
    let top = told old size c.args.number depth t is.top_is is.lies in
    let one = c.in_ok-len.ensures.stays in
    let two = c.in_ok-first.ensures.stays in
    let counted = c.in_ok-len.ensures.counted told_it top.node (entries_at depth t) (is.free_are).whole top.has in
    let finds = since gs.below gs.tells gs.limits gs.map (λ (m : PageMap) (k : ℕ). FindsChild m k c.args.number 0 (Ok c.in_ok-first.first)) c.args.pages.now c.len_of.new.pages one.kept one.same c.in_ok-first.ensures.found told_it in
    let first = finds top.node (is.free_are).whole top.has.says top.has.ours in
    let frees = since gs.below gs.tells gs.limits gs.map (λ (m : PageMap) (k : ℕ). FreesEntries m (gs.map c.free_entries.new.pages) k c.args.number c.in_ok-len.len (Ok tt)) c.args.pages.now c.child_of.new.pages
    (two.kept ∙ one.kept) (two.same ∙ one.same) c.in_ok-free_entries.ensures.freed told_it in
    leaf_given old size c.args.number c.args.ways (gs.map c.free_entries.new.pages) depth t free is (sym (no_child c.in_ok-first.first c.is_none.result c.is_none.ensures c.if-is_none.true) ∙ first)
    (frees top.node (entries_at depth t) free (hold_entries old size c.args.number c.args.ways depth t free is) counted))

pub free_below-returns-then-ways-eq0-clause-freed : goal.free_below-returns-then-ways-eq0-clause-freed
free_below-returns-then-ways-eq0-clause-freed g n c = λ told_it depth t free is.
    (let gs = g.P.Pages in
    let old = gs.map c.args.pages.now in
    let size = (gs.limits (gs.below c.args.pages.now)).page in
    let top = told old size c.args.number depth t is.top_is is.lies in
    let one = c.in_ok-len.ensures.stays in
    let finds = since gs.below gs.tells gs.limits gs.map (λ (m : PageMap) (k : ℕ). FindsChild m k c.args.number 0 (Ok c.in_ok-first.first)) c.args.pages.now c.len_of.new.pages one.kept one.same c.in_ok-first.ensures.found told_it in
    let first = finds top.node (is.free_are).whole top.has.says top.has.ours in
    absurd (not_leaf old size c.args.number c.args.ways depth t free is (λ none. a_child c.in_ok-first.first c.is_none.result c.is_none.ensures c.if-is_none.false (first ∙ none)) c.if-ways-eq0.true))

pub free_below-returns-clause-freed : goal.free_below-returns-clause-freed
free_below-returns-clause-freed g n c = λ told_it depth t free is.
    (let gs = g.P.Pages in
    let old = gs.map c.args.pages.now in
    let mid = gs.map c.free_entries.new.pages in
    let new = gs.map c.free_kids.new.pages in
    let size = (gs.limits (gs.below c.args.pages.now)).page in
    let top = told old size c.args.number depth t is.top_is is.lies in
    let one = c.in_ok-len.ensures.stays in
    let two = c.in_ok-first.ensures.stays in
    let counted = c.in_ok-len.ensures.counted told_it top.node (entries_at depth t) (is.free_are).whole top.has in
    let finds = since gs.below gs.tells gs.limits gs.map (λ (m : PageMap) (k : ℕ). FindsChild m k c.args.number 0 (Ok c.in_ok-first.first)) c.args.pages.now c.len_of.new.pages one.kept one.same c.in_ok-first.ensures.found told_it in
    let first = finds top.node (is.free_are).whole top.has.says top.has.ours in
    let frees = since gs.below gs.tells gs.limits gs.map (λ (m : PageMap) (k : ℕ). FreesEntries m mid k c.args.number c.in_ok-len.len (Ok tt)) c.args.pages.now c.child_of.new.pages
    (two.kept ∙ one.kept) (two.same ∙ one.same) c.in_ok-free_entries.ensures.freed told_it in
    let kids = with_limits gs.below gs.tells gs.limits (λ (k : ℕ). FreesKids mid new k c.args.number c.saturating_add.result c.args.ways c.free_kids.result) c.args.pages.now c.free_entries.new.pages
    (c.in_ok-free_entries.ensures.kept ∙ two.kept ∙ one.kept) c.free_kids.ensures.freed told_it in
    kids_given old size c.args.number c.args.ways mid new c.in_ok-len.len c.saturating_add.result depth t free c.free_kids.result is
    (λ none. a_child c.in_ok-first.first c.is_none.result c.is_none.ensures c.if-is_none.false (first ∙ none)) counted c.saturating_add.ensures
    (frees top.node (entries_at depth t) free (hold_entries old size c.args.number c.args.ways depth t free is) counted) kids)

pub free_kids-returns-in_err-child-clause-freed : goal.free_kids-returns-in_err-child-clause-freed
free_kids-returns-in_err-child-clause-freed g n c = λ told depth kids last free is counted.
    (let gs = g.P.Pages in
    refused _ _ c.in_err-child.field-0.0 c.from_residual.ensures.1
    (turn_unread gs.below gs.tells gs.limits gs.map gs.failures c.args.pages.now c.kids.pages c.args.number c.args.ways c.args.count c.kids.place c.kids.invariant c.kids-test.true told depth kids last free is counted
    c.in_err-child.field-0.0 c.in_err-child.ensures.found))

pub free_kids-returns-in_default-clause-freed : goal.free_kids-returns-in_default-clause-freed
free_kids-returns-in_default-clause-freed g n c = λ told depth kids last free is counted.
    (let gs = g.P.Pages in
    absurd (c.in_default.not-Some _
    (turn_some gs.below gs.tells gs.limits gs.map gs.failures c.args.pages.now c.kids.pages c.args.number c.args.ways c.args.count c.kids.place c.kids.invariant c.kids-test.true told depth kids last free is counted
    c.in_ok-child.field-0 c.in_ok-child.ensures.found)))

pub free_kids-returns-in_err-free_below-clause-freed : goal.free_kids-returns-in_err-free_below-clause-freed
free_kids-returns-in_err-free_below-clause-freed g n c = λ told depth kids last free is counted.
    (let gs = g.P.Pages in
    let stays = c.in_ok-child.ensures.stays in
    refused _ _ c.in_err-free_below.field-0.0 c.from_residual-in_err-free_below.ensures.1
    (turn_unfreed gs.below gs.tells gs.limits gs.map gs.failures c.args.pages.now c.kids.pages c.args.number c.args.ways c.args.count c.kids.place c.kids.invariant c.kids-test.true told depth kids last free is counted
    c.child_of.new.pages c.free_below.new.pages c.in-Some.child (λ told_now. subst (λ child. FindsChild (gs.map c.kids.pages) (gs.limits (gs.below c.kids.pages)).page c.args.number c.kids.place (Ok child)) c.in-Some.is (c.in_ok-child.ensures.found told_now))
    stays.kept stays.same c.in_err-free_below.field-0.0 c.in_err-free_below.ensures.freed))

pub free_kids-returns-in_err-give-clause-freed : goal.free_kids-returns-in_err-give-clause-freed
free_kids-returns-in_err-give-clause-freed g n c = λ told depth kids last free is counted.
    (let gs = g.P.Pages in
    let stays = c.in_ok-child.ensures.stays in
    refused _ _ c.in_err-give.field-0.0 c.from_residual-in_err-give.ensures.1
    (turn gs.below gs.tells gs.limits gs.map gs.failures c.args.pages.now c.kids.pages c.args.number c.args.ways c.args.count c.kids.place c.kids.invariant c.kids-test.true told depth kids last free is counted
    c.child_of.new.pages c.free_below.new.pages c.in-Some.child (λ told_now. subst (λ child. FindsChild (gs.map c.kids.pages) (gs.limits (gs.below c.kids.pages)).page c.args.number c.kids.place (Ok child)) c.in-Some.is (c.in_ok-child.ensures.found told_now))
    stays.kept stays.same c.give.new.pages (Err c.in_err-give.field-0.0) c.in_ok-free_below.ensures.freed c.in_ok-free_below.ensures.kept c.in_err-give.ensures.given))

pub free_kids-kids-preserved : goal.free_kids-kids-preserved
free_kids-kids-preserved g n c =
    let gs = g.P.Pages in
    let old = c.args.pages.now in
    let has = c.kids.invariant in
    let stays = c.in_ok-child.ensures.stays in
    record {
      kept = c.in_ok-give.ensures.kept ∙ c.in_ok-free_below.ensures.kept ∙ stays.kept ∙ has.kept;
      causes = causes_after (Ok tt) (Ok tt) (gs.failures old) (gs.failures c.free_below.new.pages) (gs.failures c.give.new.pages) ⊥ ⊥
          (causes_after (Ok c.in_ok-child.field-0) (Ok tt) (gs.failures old) (gs.failures c.child_of.new.pages) (gs.failures c.free_below.new.pages) ⊥ ⊥
          (causes_after (Ok tt) (Ok c.in_ok-child.field-0) (gs.failures old) (gs.failures c.kids.pages) (gs.failures c.child_of.new.pages) ⊥ ⊥ has.causes stays.causes) c.in_ok-free_below.ensures.causes) c.in_ok-give.ensures.causes;
      given = λ told depth kids last free is counted.
          turn gs.below gs.tells gs.limits gs.map gs.failures old c.kids.pages c.args.number c.args.ways c.args.count c.kids.place c.kids.invariant c.kids-test.true told depth kids last free is counted
          c.child_of.new.pages c.free_below.new.pages c.in-Some.child (λ told_now. subst (λ child. FindsChild (gs.map c.kids.pages) (gs.limits (gs.below c.kids.pages)).page c.args.number c.kids.place (Ok child)) c.in-Some.is (c.in_ok-child.ensures.found told_now))
          stays.kept stays.same c.give.new.pages (Ok tt) c.in_ok-free_below.ensures.freed c.in_ok-free_below.ensures.kept c.in_ok-give.ensures.given;
    }

pub free_kids-returns-clause-freed : goal.free_kids-returns-clause-freed
free_kids-returns-clause-freed g n c = λ told depth kids last free is counted.
    (let gs = g.P.Pages in
    all_gone gs.below gs.tells gs.limits gs.map gs.failures c.args.pages.now c.kids.pages c.args.number c.args.ways c.args.count c.kids.place c.kids.invariant (omega (arith, c.kids-test.false)) told depth kids last free is counted)
