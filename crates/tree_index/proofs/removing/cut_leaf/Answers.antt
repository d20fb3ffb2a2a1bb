use Rattle.std.proofs.Common.{◌≡◌, ◌∙◌, zero, Bool, IsTrue, Ok, Err, sym, ap, subst}
use Rattle.pages.specs.Map.{PageMap, page_at, IsThere}
use Rattle.tree_store.specs.Storing.{TakesOff}
use Rattle.tree_index.specs.Freeing.{below_of}
use Rattle.tree_index.specs.Joining.{without_at}
use Rattle.tree_index.specs.Tree.{entries_of}
use Rattle.tree_index.proofs.Readings.{refused}
use Rattle.tree_index.proofs.Taken.{entry_freed, leaf_there, leaf_cut, leaf_off, leaf_still, leaf_unwritten, cut_since}
use Rattle.tree_index.proofs.removing.cut_leaf.Goals as goal

pub returns-in_err-free_entry-clause-cut : goal.returns-in_err-free_entry-clause-cut
returns-in_err-free_entry-clause-cut g c = λ told ways t free under sized lt.
    (let gs = g.P.Pages in
    let old = gs.map c.args.pages.now in
    let size = (gs.limits (gs.below c.args.pages.now)).page in
    let number = c.args.number in
    let place = c.args.place in
    refused _ _ c.in_err-free_entry.field-0.0 c.from_residual.ensures.1
    (entry_freed old size number ways zero t free under place lt (gs.map c.free_entry.new.pages) (Err c.in_err-free_entry.field-0.0) (c.in_err-free_entry.ensures.freed told)))

pub returns-in_err-take_off-clause-cut : goal.returns-in_err-take_off-clause-cut
returns-in_err-take_off-clause-cut g c = λ told ways t free under sized lt.
    (let gs = g.P.Pages in
    let old = gs.map c.args.pages.now in
    let size = (gs.limits (gs.below c.args.pages.now)).page in
    let number = c.args.number in
    let place = c.args.place in
    let mid = gs.map c.free_entry.new.pages in
    let given = entry_freed old size number ways zero t free under place lt mid (Ok tt) (c.in_ok-free_entry.ensures.freed told) in
    let kept = c.in_ok-free_entry.ensures.kept in
    let told_mid = subst (λ k. IsTrue (gs.tells k)) (sym kept) told in
    let new = gs.map c.take_off.new.pages in
    let takes = subst (λ k. TakesOff mid new (gs.limits k).page number place (Err c.in_err-take_off.field-0.0)) kept (c.in_err-take_off.ensures.taken told_mid) in
    refused _ _ c.in_err-take_off.field-0.0 c.from_residual-in_err-take_off.ensures.1 (leaf_unwritten old size number ways t free under sized place lt mid given new c.in_err-take_off.field-0.0 takes))

pub returns-then-branch-clause-cut : goal.returns-then-branch-clause-cut
returns-then-branch-clause-cut g c = λ told ways t free under sized lt.
    (let gs = g.P.Pages in
    let old = gs.map c.args.pages.now in
    let size = (gs.limits (gs.below c.args.pages.now)).page in
    let number = c.args.number in
    let place = c.args.place in
    let mid = gs.map c.free_entry.new.pages in
    let given = entry_freed old size number ways zero t free under place lt mid (Ok tt) (c.in_ok-free_entry.ensures.freed told) in
    let kept = c.in_ok-free_entry.ensures.kept in
    let told_mid = subst (λ k. IsTrue (gs.tells k)) (sym kept) told in
    let new = gs.map c.take_off.new.pages in
    let takes = subst (λ k. TakesOff mid new (gs.limits k).page number place (Ok c.in_ok-take_off.field-0)) kept (c.in_ok-take_off.ensures.taken told_mid) in
    leaf_off old size number ways t free under sized place lt mid given new (subst (λ (b : Bool). TakesOff mid new size number place (Ok b)) c.if-branch.true takes))

pub returns-in_err-load-clause-cut : goal.returns-in_err-load-clause-cut
returns-in_err-load-clause-cut g c = λ told ways t free under sized lt.
    (let gs = g.P.Pages in
    let old = gs.map c.args.pages.now in
    let size = (gs.limits (gs.below c.args.pages.now)).page in
    let number = c.args.number in
    let place = c.args.place in
    let mid = gs.map c.free_entry.new.pages in
    let given = entry_freed old size number ways zero t free under place lt mid (Ok tt) (c.in_ok-free_entry.ensures.freed told) in
    let kept = c.in_ok-free_entry.ensures.kept in
    let told_mid = subst (λ k. IsTrue (gs.tells k)) (sym kept) told in
    let new = gs.map c.take_off.new.pages in
    let takes = subst (λ k. TakesOff mid new (gs.limits k).page number place (Ok c.in_ok-take_off.field-0)) kept (c.in_ok-take_off.ensures.taken told_mid) in
    let same = leaf_still old size number ways t free under sized place lt mid given new (subst (λ (b : Bool). TakesOff mid new size number place (Ok b)) c.if-branch.false takes) in
    let kept_new = c.in_ok-take_off.ensures.kept ∙ kept in
    let told_new = subst (λ k. IsTrue (gs.tells k)) (sym kept_new) told in
    refused _ _ c.in_err-load.field-0.0 c.from_residual-in_err-load.ensures.1
    (c.in_err-load.ensures.refusal told_new (subst (λ k. IsThere new (gs.limits k).page number) (sym kept_new) (subst (λ (m : PageMap). IsThere m size number) (sym same) (leaf_there old size number ways t free under sized place lt mid given)))))

pub returns-in_err-packed-clause-cut : goal.returns-in_err-packed-clause-cut
returns-in_err-packed-clause-cut g c = λ told ways t free under sized lt.
    (let gs = g.P.Pages in
    let old = gs.map c.args.pages.now in
    let size = (gs.limits (gs.below c.args.pages.now)).page in
    let number = c.args.number in
    let place = c.args.place in
    let mid = gs.map c.free_entry.new.pages in
    let given = entry_freed old size number ways zero t free under place lt mid (Ok tt) (c.in_ok-free_entry.ensures.freed told) in
    let kept = c.in_ok-free_entry.ensures.kept in
    let told_mid = subst (λ k. IsTrue (gs.tells k)) (sym kept) told in
    let new = gs.map c.take_off.new.pages in
    let takes = subst (λ k. TakesOff mid new (gs.limits k).page number place (Ok c.in_ok-take_off.field-0)) kept (c.in_ok-take_off.ensures.taken told_mid) in
    let same = leaf_still old size number ways t free under sized place lt mid given new (subst (λ (b : Bool). TakesOff mid new size number place (Ok b)) c.if-branch.false takes) in
    let kept_new = c.in_ok-take_off.ensures.kept ∙ kept in
    let told_new = subst (λ k. IsTrue (gs.tells k)) (sym kept_new) told in
    let bytes : c.loaded.result.now ≡ page_at mid number = c.loaded.ensures ∙ c.in_ok-load.ensures.bytes told_new ∙ ap (λ (m : PageMap). page_at m number) same in
    let cut = leaf_cut old size number ways t free under sized place lt mid given c.loaded.result.now (Err c.in_err-packed.field-0.0) bytes c.in_err-packed.ensures.spliced in
    refused _ _ c.in_err-packed.field-0.0 c.from_residual-in_err-packed.ensures.1 cut)

pub returns-clause-cut : goal.returns-clause-cut
returns-clause-cut g c = λ told ways t free under sized lt.
    (let gs = g.P.Pages in
    let old = gs.map c.args.pages.now in
    let size = (gs.limits (gs.below c.args.pages.now)).page in
    let number = c.args.number in
    let place = c.args.place in
    let mid = gs.map c.free_entry.new.pages in
    let given = entry_freed old size number ways zero t free under place lt mid (Ok tt) (c.in_ok-free_entry.ensures.freed told) in
    let kept = c.in_ok-free_entry.ensures.kept in
    let told_mid = subst (λ k. IsTrue (gs.tells k)) (sym kept) told in
    let new = gs.map c.take_off.new.pages in
    let takes = subst (λ k. TakesOff mid new (gs.limits k).page number place (Ok c.in_ok-take_off.field-0)) kept (c.in_ok-take_off.ensures.taken told_mid) in
    let same = leaf_still old size number ways t free under sized place lt mid given new (subst (λ (b : Bool). TakesOff mid new size number place (Ok b)) c.if-branch.false takes) in
    let kept_new = c.in_ok-take_off.ensures.kept ∙ kept in
    let told_new = subst (λ k. IsTrue (gs.tells k)) (sym kept_new) told in
    let bytes : c.loaded.result.now ≡ page_at mid number = c.loaded.ensures ∙ c.in_ok-load.ensures.bytes told_new ∙ ap (λ (m : PageMap). page_at m number) same in
    let cut = leaf_cut old size number ways t free under sized place lt mid given c.loaded.result.now (Ok c.in_ok-packed.packed) bytes c.in_ok-packed.ensures.spliced in
    cut_since old mid (gs.map c.load.new.self) size zero (without_at place (entries_of zero t)) (below_of zero t) free (Ok c.in_ok-packed.packed) ((c.in_ok-load.ensures.stays).same ∙ same) cut)
