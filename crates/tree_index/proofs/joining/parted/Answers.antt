use Rattle.std.proofs.Common.{◌∙◌, ◌++◌, ℕ, suc, IsTrue, Ok, Err, sym, subst}
use Rattle.pages.specs.Map.{PageMap}
use Rattle.tree_index.specs.Freeing.{FreesEntry, below_of}
use Rattle.tree_index.specs.Growing.{IsPlanned}
use Rattle.tree_index.specs.Joining.{FindsKid, Unites, SpreadsTwo, entries_around}
use Rattle.tree_index.specs.Tree.{entries_of}
use Rattle.tree_index.proofs.Joined.{a, b, in_between, kid_unread, left_read, right_read, united_or, parted_or}
use Rattle.tree_index.proofs.Readings.{full_err, outside_full, since}
use Rattle.tree_index.proofs.Taken.{entry_freed}
use Rattle.tree_index.proofs.joining.parted.Goals as goal

pub returns-in_err-left-clause-parted : goal.returns-in_err-left-clause-parted
returns-in_err-left-clause-parted g c = λ told ways t free under sized lt.
    (let gs = g.P.Pages in
    let old = gs.map c.args.pages.now in
    let size = (gs.limits (gs.below c.args.pages.now)).page in
    let depth = c.args.depth in
    let one_tree = a old size c.args.number ways depth t free under sized c.args.place lt in
    let other_tree = b old size c.args.number ways depth t free under sized c.args.place lt in
    outside_full (IsPlanned old (gs.map c.kid_of.new.pages) size (suc depth) (entries_around depth c.args.place (entries_of depth one_tree ++ entries_of depth other_tree) t) (below_of (suc depth) t) free) c.from_residual.result c.in_err-left.field-0.0 c.from_residual.ensures.1
    (kid_unread old size c.args.number ways depth t free under sized c.args.place lt c.args.place c.in_err-left.field-0.0 (c.in_err-left.ensures.found told)))

pub returns-in_err-right-clause-parted : goal.returns-in_err-right-clause-parted
returns-in_err-right-clause-parted g c = λ told ways t free under sized lt.
    (let gs = g.P.Pages in
    let old = gs.map c.args.pages.now in
    let size = (gs.limits (gs.below c.args.pages.now)).page in
    let depth = c.args.depth in
    let one_tree = a old size c.args.number ways depth t free under sized c.args.place lt in
    let other_tree = b old size c.args.number ways depth t free under sized c.args.place lt in
    let one = c.in_ok-left.ensures.stays in
    let finds = since gs.below gs.tells gs.limits gs.map (λ (m : PageMap) (k : ℕ). FindsKid m k c.args.number c.saturating_add.result (Err c.in_err-right.field-0.0)) c.args.pages.now c.kid_of.new.pages one.kept one.same c.in_err-right.ensures.found told in
    outside_full (IsPlanned old (gs.map c.kid_of-2.new.pages) size (suc depth) (entries_around depth c.args.place (entries_of depth one_tree ++ entries_of depth other_tree) t) (below_of (suc depth) t) free) c.from_residual-in_err-right.result c.in_err-right.field-0.0 c.from_residual-in_err-right.ensures.1
    (kid_unread old size c.args.number ways depth t free under sized c.args.place lt c.saturating_add.result c.in_err-right.field-0.0 finds))

pub returns-in_err-free_entry-clause-parted : goal.returns-in_err-free_entry-clause-parted
returns-in_err-free_entry-clause-parted g c = λ told ways t free under sized lt.
    (let gs = g.P.Pages in
    let old = gs.map c.args.pages.now in
    let size = (gs.limits (gs.below c.args.pages.now)).page in
    let depth = c.args.depth in
    let one_tree = a old size c.args.number ways depth t free under sized c.args.place lt in
    let other_tree = b old size c.args.number ways depth t free under sized c.args.place lt in
    let one = c.in_ok-left.ensures.stays in
    let two = c.in_ok-right.ensures.stays in
    let mid = gs.map c.free_entry.new.pages in
    let frees = since gs.below gs.tells gs.limits gs.map (λ (m : PageMap) (k : ℕ). FreesEntry m mid k c.args.number c.args.place (Err c.in_err-free_entry.field-0.0)) c.args.pages.now c.kid_of-2.new.pages (two.kept ∙ one.kept) (two.same ∙ one.same)
    c.in_err-free_entry.ensures.freed told in
    outside_full (IsPlanned old mid size (suc depth) (entries_around depth c.args.place (entries_of depth one_tree ++ entries_of depth other_tree) t) (below_of (suc depth) t) free) c.from_residual-in_err-free_entry.result c.in_err-free_entry.field-0.0 c.from_residual-in_err-free_entry.ensures.1
    (entry_freed old size c.args.number ways (suc depth) t free under c.args.place (in_between old size c.args.number ways depth t free under sized c.args.place lt) mid (Err c.in_err-free_entry.field-0.0) frees))

pub returns-in_err-packed-clause-parted : goal.returns-in_err-packed-clause-parted
returns-in_err-packed-clause-parted g c = λ told ways t free under sized lt.
    (let gs = g.P.Pages in
    let old = gs.map c.args.pages.now in
    let size = (gs.limits (gs.below c.args.pages.now)).page in
    let depth = c.args.depth in
    let one_tree = a old size c.args.number ways depth t free under sized c.args.place lt in
    let other_tree = b old size c.args.number ways depth t free under sized c.args.place lt in
    let one = c.in_ok-left.ensures.stays in
    let two = c.in_ok-right.ensures.stays in
    let left_is = left_read old size c.args.number ways depth t free under sized c.args.place lt c.in_ok-left.left (c.in_ok-left.ensures.found told) in
    let finds = since gs.below gs.tells gs.limits gs.map (λ (m : PageMap) (k : ℕ). FindsKid m k c.args.number c.saturating_add.result (Ok c.in_ok-right.right)) c.args.pages.now c.kid_of.new.pages one.kept one.same c.in_ok-right.ensures.found told in
    let right_is = right_read old size c.args.number ways depth t free under sized c.args.place lt c.saturating_add.result c.in_ok-right.right c.saturating_add.ensures finds in
    let mid = gs.map c.free_entry.new.pages in
    let frees = since gs.below gs.tells gs.limits gs.map (λ (m : PageMap) (k : ℕ). FreesEntry m mid k c.args.number c.args.place (Ok tt)) c.args.pages.now c.kid_of-2.new.pages (two.kept ∙ one.kept) (two.same ∙ one.same)
    c.in_ok-free_entry.ensures.freed told in
    let given = entry_freed old size c.args.number ways (suc depth) t free under c.args.place (in_between old size c.args.number ways depth t free under sized c.args.place lt) mid (Ok tt) frees in
    let kept = c.in_ok-free_entry.ensures.kept ∙ two.kept ∙ one.kept in
    let told_mid = subst (λ k. IsTrue (gs.tells k)) (sym kept) told in
    let new = gs.map c.united.new.pages in
    let unites = subst (λ k. Unites mid new (gs.limits k).page c.in_ok-left.left c.in_ok-right.right depth (Err c.in_err-packed.field-0.0)) kept (c.in_err-packed.ensures.united told_mid) in
    full_err (IsPlanned old new size (suc depth) (entries_around depth c.args.place (entries_of depth one_tree ++ entries_of depth other_tree) t) (below_of (suc depth) t) free) c.from_residual-in_err-packed.result c.in_err-packed.field-0.0 c.from_residual-in_err-packed.ensures.1
    (united_or old size c.args.number ways depth t free under sized c.args.place lt c.in_ok-left.left c.in_ok-right.right left_is right_is mid given new (Err c.in_err-packed.field-0.0) unites))

pub returns-clause-parted : goal.returns-clause-parted
returns-clause-parted g c = λ told ways t free under sized lt.
    (let gs = g.P.Pages in
    let old = gs.map c.args.pages.now in
    let size = (gs.limits (gs.below c.args.pages.now)).page in
    let depth = c.args.depth in
    let one = c.in_ok-left.ensures.stays in
    let two = c.in_ok-right.ensures.stays in
    let left_is = left_read old size c.args.number ways depth t free under sized c.args.place lt c.in_ok-left.left (c.in_ok-left.ensures.found told) in
    let finds = since gs.below gs.tells gs.limits gs.map (λ (m : PageMap) (k : ℕ). FindsKid m k c.args.number c.saturating_add.result (Ok c.in_ok-right.right)) c.args.pages.now c.kid_of.new.pages one.kept one.same c.in_ok-right.ensures.found told in
    let right_is = right_read old size c.args.number ways depth t free under sized c.args.place lt c.saturating_add.result c.in_ok-right.right c.saturating_add.ensures finds in
    let mid = gs.map c.free_entry.new.pages in
    let frees = since gs.below gs.tells gs.limits gs.map (λ (m : PageMap) (k : ℕ). FreesEntry m mid k c.args.number c.args.place (Ok tt)) c.args.pages.now c.kid_of-2.new.pages (two.kept ∙ one.kept) (two.same ∙ one.same)
    c.in_ok-free_entry.ensures.freed told in
    let given = entry_freed old size c.args.number ways (suc depth) t free under c.args.place (in_between old size c.args.number ways depth t free under sized c.args.place lt) mid (Ok tt) frees in
    let kept = c.in_ok-free_entry.ensures.kept ∙ two.kept ∙ one.kept in
    let told_mid = subst (λ k. IsTrue (gs.tells k)) (sym kept) told in
    let new = gs.map c.united.new.pages in
    let unites = subst (λ k. Unites mid new (gs.limits k).page c.in_ok-left.left c.in_ok-right.right depth (Ok c.in_ok-packed.packed)) kept (c.in_ok-packed.ensures.united told_mid) in
    let plan = united_or old size c.args.number ways depth t free under sized c.args.place lt c.in_ok-left.left c.in_ok-right.right left_is right_is mid given new (Ok c.in_ok-packed.packed) unites in
    let kept_new = c.in_ok-packed.ensures.kept ∙ kept in
    let told_new = subst (λ k. IsTrue (gs.tells k)) (sym kept_new) told in
    let last = gs.map c.spread_two.new.pages in
    let spreads = subst (λ k. SpreadsTwo new last (gs.limits k).page c.args.number c.args.place c.in_ok-left.left c.in_ok-right.right c.in_ok-packed.packed c.spread_two.result) kept_new (c.spread_two.ensures.spread told_new) in
    parted_or old size c.args.number ways depth t free under sized c.args.place lt c.in_ok-left.left c.in_ok-right.right left_is right_is new last c.in_ok-packed.packed plan c.spread_two.result spreads)
