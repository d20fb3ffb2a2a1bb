use Rattle.std.proofs.Common.{ℤ, Ok, Err, subst, w64, arith}
use Rattle.std.proofs.lemmas.Int.{to_z-of_z}
use Rattle.tree_overflow.proofs.ReadChains.{stays_after}
use Rattle.tree_table.proofs.Coming.{at_root, goes_down, ends_here, refused_here, too_deep}
use Rattle.tree_table.proofs.Stayed.{stays_passed, stays_ok, stays_but, damage_other}
use Rattle.tree_table.proofs.way.find_leaf.Goals as goal
use Rattle.sqlval.specs.declared.fault.Fault.TheVariants.{Damaged}
use Rattle.sqlval.specs.declared.fault.Damage.TheVariants as Damage
use Rattle.tree_table.specs.Ways.{IsAbout, FindsLeaf}
use Rattle.tree_table.specs.declared.way.Step.{Step}

pub levels-init : goal.levels-init
levels-init g c = at_root g.P.Pages.below g.P.Pages.tells g.P.Pages.limits g.P.Pages.map g.P.Pages.count g.P.Pages.failures c.args.pages.now c.args.root _

pub returns-in_err-place-clause-found : goal.returns-in_err-place-clause-found
returns-in_err-place-clause-found g c = λ told.
    (let pages = g.P.Pages in
    let plain = to_z-of_z w64 c.args.rowid c.ranges.rowid in
    subst (λ (z : ℤ). FindsLeaf (pages.map c.args.pages.now) (pages.limits (pages.below c.args.pages.now)).page c.args.root z c.from_residual.result) plain
    (refused_here pages.below pages.tells pages.limits pages.map pages.count pages.failures c.args.pages.now c.levels.pages c.args.root _ c.levels.counter c.levels.way c.in_err-place.field-0.0 c.from_residual.result
    c.levels.invariant c.in_err-place.ensures.found c.from_residual.ensures.1 told))

pub returns-in_err-place-clause-stays : goal.returns-in_err-place-clause-stays
returns-in_err-place-clause-stays g c =
    let pages = g.P.Pages in
    stays_after pages.below pages.map pages.count pages.failures _ c.from_residual.result c.args.pages.now c.levels.pages c.step_from.new.pages c.levels.invariant.stays
    (stays_passed {S = Step} pages.below pages.map pages.count pages.failures c.in_err-place.field-0.0 c.from_residual.result c.levels.pages c.step_from.new.pages c.in_err-place.ensures.stays c.from_residual.ensures.1)

pub returns-in-AtLeaf-clause-found : goal.returns-in-AtLeaf-clause-found
returns-in-AtLeaf-clause-found g c = λ told.
    (let pages = g.P.Pages in
    let plain = to_z-of_z w64 c.args.rowid c.ranges.rowid in
    subst (λ (z : ℤ). FindsLeaf (pages.map c.args.pages.now) (pages.limits (pages.below c.args.pages.now)).page c.args.root z (Ok (record { way = c.levels.way; place = c.in-AtLeaf.place }))) plain
    (ends_here pages.below pages.tells pages.limits pages.map pages.count pages.failures c.args.pages.now c.levels.pages c.args.root _ c.levels.counter c.in-AtLeaf.place c.levels.way c.in_ok-place.field-0 c.in-AtLeaf.is c.levels.invariant c.in_ok-place.ensures.found told))

pub returns-in-AtLeaf-clause-about : goal.returns-in-AtLeaf-clause-about
returns-in-AtLeaf-clause-about g c =
    (let plain = to_z-of_z w64 c.args.rowid c.ranges.rowid in subst (λ (z : ℤ). IsAbout z c.levels.way) plain c.levels.invariant.about)

pub returns-in-AtLeaf-clause-stays : goal.returns-in-AtLeaf-clause-stays
returns-in-AtLeaf-clause-stays g c =
    let pages = g.P.Pages in
    stays_after pages.below pages.map pages.count pages.failures _ (Ok (record { way = c.levels.way; place = c.in-AtLeaf.place })) c.args.pages.now c.levels.pages c.step_from.new.pages c.levels.invariant.stays
    (stays_ok pages.below pages.map pages.count pages.failures c.in_ok-place.field-0 (record { way = c.levels.way; place = c.in-AtLeaf.place }) c.levels.pages c.step_from.new.pages c.in_ok-place.ensures.stays)

pub levels-preserved : goal.levels-preserved
levels-preserved g c =
    let pages = g.P.Pages in
    goes_down pages.below pages.tells pages.limits pages.map pages.count pages.failures c.args.pages.now c.levels.pages c.step_from.new.pages c.args.root _ c.levels.counter c.levels.way c.in-Down.down c.in_ok-place.field-0 c.in-Down.is c.levels.invariant
    c.in_ok-place.ensures.found c.in_ok-place.ensures.about c.in_ok-place.ensures.stays

pub returns-clause-found : goal.returns-clause-found
returns-clause-found g c = λ told.
    (let pages = g.P.Pages in
    let plain = to_z-of_z w64 c.args.rowid c.ranges.rowid in
    subst (λ (z : ℤ). FindsLeaf (pages.map c.args.pages.now) (pages.limits (pages.below c.args.pages.now)).page c.args.root z (Err (Damaged Damage.Depth c.args.root))) plain
    (too_deep pages.below pages.tells pages.limits pages.map pages.count pages.failures c.args.pages.now c.levels.pages c.args.root _ c.levels.counter c.levels.way (Err (Damaged Damage.Depth c.args.root)) c.levels.invariant (omega (arith, c.levels-test.false)) told))

pub returns-clause-stays : goal.returns-clause-stays
returns-clause-stays g c =
    (let pages = g.P.Pages in stays_but pages.below pages.map pages.count pages.failures tt (Damaged Damage.Depth c.args.root) c.args.pages.now c.levels.pages c.levels.invariant.stays (damage_other Damage.Depth c.args.root))
