use Rattle.std.proofs.Common.{◌-◌, ℕ, IsTrue, sym, subst, arith}
use Rattle.pages.specs.Counting.{start_of}
use Rattle.tree_pack.specs.Building.{Fits}
use Rattle.tree_store.specs.Storing.{cells_of}
use Rattle.tree_index.specs.Flattening.{BuildsOver}
use Rattle.tree_index.proofs.Readings.{full_err}
use Rattle.tree_index.proofs.Flattened.{none_between, raised_or, built_over}
use Rattle.tree_index.proofs.Rooting.{not_true}
use Rattle.tree_index.proofs.flattening.+build_over.Goals as goal

pub returns-then-branch-clause-built : goal.returns-then-branch-clause-built
returns-then-branch-clause-built g n c = λ told depth entries used free is has far unfree most.
    (let gs = g.P.Pages in
    let first = c.args.pages.now in
    let size = (gs.limits (gs.below first)).page in
    let root = c.args.root in
    let fan = c.args.fan.now in
    let fit = subst (λ (k : ℕ). Fits k (start_of root) 4 (cells_of fan)) c.page_size.ensures (c.in_ok-fits_root.ensures.fits.0 c.if-branch.true) in
    raised_or (gs.map first) size depth root entries used free fan is has far unfree (gs.map c.raise.new.pages) c.args.levels c.raise.result fit (c.raise.ensures.raised told))

pub returns-then-levels-eq0-clause-built : goal.returns-then-levels-eq0-clause-built
returns-then-levels-eq0-clause-built g n c = λ told depth entries used free is has far unfree most.
    (let gs = g.P.Pages in
    let first = c.args.pages.now in
    let size = (gs.limits (gs.below first)).page in
    let root = c.args.root in
    let fan = c.args.fan.now in
    let fit = none_between (gs.map first) size depth root entries used free fan is has far unfree c.args.levels c.if-levels-eq0.true most in
    absurd (not_true (c.in_ok-fits_root.ensures.fits.1 (subst (λ (k : ℕ). Fits k (start_of root) 4 (cells_of fan)) (sym c.page_size.ensures) fit)) c.if-branch.false))

pub returns-in_err-above-clause-built : goal.returns-in_err-above-clause-built
returns-in_err-above-clause-built g n c = λ told depth entries used free is has far unfree most.
    full_err _ c.from_residual-in_err-above.result c.in_err-above.field-0.0 c.from_residual-in_err-above.ensures.1 (c.in_err-above.ensures.gathered told depth entries used free is)

pub returns-clause-built : goal.returns-clause-built
returns-clause-built g n c = λ told depth entries used free is has far unfree most.
    (let gs = g.P.Pages in
    let first = c.args.pages.now in
    let size = (gs.limits (gs.below first)).page in
    let mid = gs.map c.gathered.new.pages in
    let new = gs.map c.build_over.new.pages in
    let above = c.in_ok-above.above in
    let kept = c.in_ok-above.ensures.kept in
    let builds = subst (λ k. BuildsOver mid new (gs.limits k).page c.args.root above (c.args.levels - 1) c.build_over.result) kept (c.build_over.ensures.built (subst (λ k. IsTrue (gs.tells k)) (sym kept) told)) in
    built_over (gs.map first) mid new size depth c.args.root entries used free c.args.fan.now above c.args.levels c.build_over.result (c.in_ok-above.ensures.gathered told depth entries used free is) builds
    (λ none. omega (arith, c.if-levels-eq0.false, none)) has far unfree most)
