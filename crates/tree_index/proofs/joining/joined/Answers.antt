use Rattle.std.proofs.Common.{◌∙◌, ℕ, suc, List, Ok, Err, sym, subst}
use Rattle.pages.specs.Map.{PageMap}
use Rattle.tree_index.specs.Freeing.{below_of}
use Rattle.tree_index.specs.Growing.{IsPlanned, IsDivider}
use Rattle.tree_index.specs.Joining.{FindsKid, GivesEntry, Binds, SpreadsTwo}
use Rattle.tree_index.specs.Tree.{entries_of}
use Rattle.tree_index.proofs.Joined.{kid_unread, left_read, right_read, entry_or, bound_or, joined_or, held}
use Rattle.tree_index.proofs.Readings.{outside_full, since}
use Rattle.tree_index.proofs.joining.joined.Goals as goal

pub returns-in_err-left-clause-joined : goal.returns-in_err-left-clause-joined
returns-in_err-left-clause-joined g c = λ told ways t free under sized lt.
    (let gs = g.P.Pages in
    let old = gs.map c.args.pages.now in
    let size = (gs.limits (gs.below c.args.pages.now)).page in
    let depth = c.args.depth in
    outside_full (IsPlanned old (gs.map c.kid_of.new.pages) size (suc depth) (entries_of (suc depth) t) (below_of (suc depth) t) free) c.from_residual.result c.in_err-left.field-0.0 c.from_residual.ensures.1
    (kid_unread old size c.args.number ways depth t free under sized c.args.place lt c.args.place c.in_err-left.field-0.0 (c.in_err-left.ensures.found told)))

pub returns-in_err-right-clause-joined : goal.returns-in_err-right-clause-joined
returns-in_err-right-clause-joined g c = λ told ways t free under sized lt.
    (let gs = g.P.Pages in
    let old = gs.map c.args.pages.now in
    let size = (gs.limits (gs.below c.args.pages.now)).page in
    let depth = c.args.depth in
    let one = c.in_ok-left.ensures.stays in
    let finds = since gs.below gs.tells gs.limits gs.map (λ (m : PageMap) (k : ℕ). FindsKid m k c.args.number c.saturating_add.result (Err c.in_err-right.field-0.0)) c.args.pages.now c.kid_of.new.pages one.kept one.same c.in_err-right.ensures.found told in
    outside_full (IsPlanned old (gs.map c.kid_of-2.new.pages) size (suc depth) (entries_of (suc depth) t) (below_of (suc depth) t) free) c.from_residual-in_err-right.result c.in_err-right.field-0.0 c.from_residual-in_err-right.ensures.1
    (kid_unread old size c.args.number ways depth t free under sized c.args.place lt c.saturating_add.result c.in_err-right.field-0.0 finds))

pub returns-in_err-entry-clause-joined : goal.returns-in_err-entry-clause-joined
returns-in_err-entry-clause-joined g c = λ told ways t free under sized lt.
    (let gs = g.P.Pages in
    let old = gs.map c.args.pages.now in
    let size = (gs.limits (gs.below c.args.pages.now)).page in
    let depth = c.args.depth in
    let one = c.in_ok-left.ensures.stays in
    let two = c.in_ok-right.ensures.stays in
    let gives = since gs.below gs.tells gs.limits gs.map (λ (m : PageMap) (k : ℕ). GivesEntry m k c.args.number c.args.place (Err c.in_err-entry.field-0.0)) c.args.pages.now c.kid_of-2.new.pages (two.kept ∙ one.kept) (two.same ∙ one.same)
    c.in_err-entry.ensures.given told in
    outside_full (IsPlanned old (gs.map c.entry_at.new.pages) size (suc depth) (entries_of (suc depth) t) (below_of (suc depth) t) free) c.from_residual-in_err-entry.result c.in_err-entry.field-0.0 c.from_residual-in_err-entry.ensures.1
    (entry_or old size c.args.number ways depth t free under sized c.args.place lt (Err c.in_err-entry.field-0.0) gives))

pub returns-in_err-packed-clause-joined : goal.returns-in_err-packed-clause-joined
returns-in_err-packed-clause-joined g c = λ told ways t free under sized lt.
    (let gs = g.P.Pages in
    let old = gs.map c.args.pages.now in
    let size = (gs.limits (gs.below c.args.pages.now)).page in
    let depth = c.args.depth in
    let one = c.in_ok-left.ensures.stays in
    let two = c.in_ok-right.ensures.stays in
    let three = c.in_ok-entry.ensures.stays in
    let left_is = left_read old size c.args.number ways depth t free under sized c.args.place lt c.in_ok-left.left (c.in_ok-left.ensures.found told) in
    let finds = since gs.below gs.tells gs.limits gs.map (λ (m : PageMap) (k : ℕ). FindsKid m k c.args.number c.saturating_add.result (Ok c.in_ok-right.right)) c.args.pages.now c.kid_of.new.pages one.kept one.same c.in_ok-right.ensures.found told in
    let right_is = right_read old size c.args.number ways depth t free under sized c.args.place lt c.saturating_add.result c.in_ok-right.right c.saturating_add.ensures finds in
    let gives = since gs.below gs.tells gs.limits gs.map (λ (m : PageMap) (k : ℕ). GivesEntry m k c.args.number c.args.place (Ok c.in_ok-entry.entry)) c.args.pages.now c.kid_of-2.new.pages (two.kept ∙ one.kept) (two.same ∙ one.same)
    c.in_ok-entry.ensures.given told in
    let d = entry_or old size c.args.number ways depth t free under sized c.args.place lt (Ok c.in_ok-entry.entry) gives in
    let cell = subst (λ (bytes : List ℕ). IsDivider old size bytes (held old size c.args.number ways depth t free under sized c.args.place lt)) (sym c.as_slice.ensures.value) d in
    let binds = since gs.below gs.tells gs.limits gs.map (λ (m : PageMap) (k : ℕ). Binds m k c.in_ok-left.left c.as_slice.result.now c.in_ok-right.right depth (Err c.in_err-packed.field-0.0)) c.args.pages.now c.entry_at.new.pages
    (three.kept ∙ two.kept ∙ one.kept) (three.same ∙ two.same ∙ one.same) c.in_err-packed.ensures.bound told in
    outside_full (IsPlanned old (gs.map c.bound.new.pages) size (suc depth) (entries_of (suc depth) t) (below_of (suc depth) t) free) c.from_residual-in_err-packed.result c.in_err-packed.field-0.0 c.from_residual-in_err-packed.ensures.1
    (bound_or old size c.args.number ways depth t free under sized c.args.place lt c.in_ok-left.left c.in_ok-right.right left_is right_is c.as_slice.result.now cell (Err c.in_err-packed.field-0.0) binds))

pub returns-clause-joined : goal.returns-clause-joined
returns-clause-joined g c = λ told ways t free under sized lt.
    (let gs = g.P.Pages in
    let old = gs.map c.args.pages.now in
    let size = (gs.limits (gs.below c.args.pages.now)).page in
    let depth = c.args.depth in
    let one = c.in_ok-left.ensures.stays in
    let two = c.in_ok-right.ensures.stays in
    let three = c.in_ok-entry.ensures.stays in
    let four = c.in_ok-packed.ensures.stays in
    let left_is = left_read old size c.args.number ways depth t free under sized c.args.place lt c.in_ok-left.left (c.in_ok-left.ensures.found told) in
    let finds = since gs.below gs.tells gs.limits gs.map (λ (m : PageMap) (k : ℕ). FindsKid m k c.args.number c.saturating_add.result (Ok c.in_ok-right.right)) c.args.pages.now c.kid_of.new.pages one.kept one.same c.in_ok-right.ensures.found told in
    let right_is = right_read old size c.args.number ways depth t free under sized c.args.place lt c.saturating_add.result c.in_ok-right.right c.saturating_add.ensures finds in
    let gives = since gs.below gs.tells gs.limits gs.map (λ (m : PageMap) (k : ℕ). GivesEntry m k c.args.number c.args.place (Ok c.in_ok-entry.entry)) c.args.pages.now c.kid_of-2.new.pages (two.kept ∙ one.kept) (two.same ∙ one.same)
    c.in_ok-entry.ensures.given told in
    let d = entry_or old size c.args.number ways depth t free under sized c.args.place lt (Ok c.in_ok-entry.entry) gives in
    let cell = subst (λ (bytes : List ℕ). IsDivider old size bytes (held old size c.args.number ways depth t free under sized c.args.place lt)) (sym c.as_slice.ensures.value) d in
    let kept = three.kept ∙ two.kept ∙ one.kept in
    let same = three.same ∙ two.same ∙ one.same in
    let binds = since gs.below gs.tells gs.limits gs.map (λ (m : PageMap) (k : ℕ). Binds m k c.in_ok-left.left c.as_slice.result.now c.in_ok-right.right depth (Ok c.in_ok-packed.packed)) c.args.pages.now c.entry_at.new.pages kept same
    c.in_ok-packed.ensures.bound told in
    let plan = bound_or old size c.args.number ways depth t free under sized c.args.place lt c.in_ok-left.left c.in_ok-right.right left_is right_is c.as_slice.result.now cell (Ok c.in_ok-packed.packed) binds in
    let new = gs.map c.spread_two.new.pages in
    let spreads = since gs.below gs.tells gs.limits gs.map (λ (m : PageMap) (k : ℕ). SpreadsTwo m new k c.args.number c.args.place c.in_ok-left.left c.in_ok-right.right c.in_ok-packed.packed c.spread_two.result) c.args.pages.now c.bound.new.pages
    (four.kept ∙ kept) (four.same ∙ same) c.spread_two.ensures.spread told in
    joined_or old size c.args.number ways depth t free under sized c.args.place lt c.in_ok-left.left c.in_ok-right.right left_is right_is new c.in_ok-packed.packed plan c.spread_two.result spreads)
