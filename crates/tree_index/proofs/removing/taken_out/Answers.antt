use Rattle.std.proofs.Common.{◌≡◌, ◌-◌, ℕ, suc, Ok, sym, subst, arith}
use Rattle.tree_index.specs.Removing.{TakesAt}
use Rattle.tree_index.specs.declared.removing.Loss.TheVariants.{Spread}
use Rattle.tree_index.proofs.Readings.{full_err}
use Rattle.tree_index.proofs.removing.taken_out.Goals as goal

pub returns-then-depth-eq0-clause-taken : goal.returns-then-depth-eq0-clause-taken
returns-then-depth-eq0-clause-taken g c = λ told.
    (let gs = g.P.Pages in
    let old = gs.map c.args.pages.now in
    let size = (gs.limits (gs.below c.args.pages.now)).page in
    subst (λ (d : ℕ). TakesAt old (gs.map c.cut_run.new.pages) size c.args.number c.args.place d c.args.columns.now c.args.rest.now c.cut_run.result) (sym c.if-depth-eq0.true) (c.cut_run.ensures.taken told))

pub returns-in_err-packed-clause-taken : goal.returns-in_err-packed-clause-taken
returns-in_err-packed-clause-taken g c = λ told.
    (let gs = g.P.Pages in
    let old = gs.map c.args.pages.now in
    let size = (gs.limits (gs.below c.args.pages.now)).page in
    let fewer = c.args.depth - 1 in
    let more : c.args.depth ≡ suc fewer = omega (arith, c.if-depth-eq0.false) in
    subst (λ (d : ℕ). TakesAt old (gs.map c.parted.new.pages) size c.args.number c.args.place d c.args.columns.now c.args.rest.now c.from_residual.result) (sym more)
    (λ ways t free under sized lt rise long. full_err _ c.from_residual.result c.in_err-packed.field-0.0 c.from_residual.ensures.1 (c.in_err-packed.ensures.parted told ways t free under sized lt)))

pub returns-clause-taken : goal.returns-clause-taken
returns-clause-taken g c = λ told.
    (let gs = g.P.Pages in
    let old = gs.map c.args.pages.now in
    let size = (gs.limits (gs.below c.args.pages.now)).page in
    let fewer = c.args.depth - 1 in
    let more : c.args.depth ≡ suc fewer = omega (arith, c.if-depth-eq0.false) in
    subst (λ (d : ℕ). TakesAt old (gs.map c.parted.new.pages) size c.args.number c.args.place d c.args.columns.now c.args.rest.now (Ok (Spread c.in_ok-packed.packed))) (sym more)
    (λ ways t free under sized lt rise long. c.in_ok-packed.ensures.parted told ways t free under sized lt))
