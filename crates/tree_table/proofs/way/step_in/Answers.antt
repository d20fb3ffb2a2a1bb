use Rattle.std.proofs.Common.{IsTrue, false, ◌≡◌, ◌∙◌, ℕ, ℤ, Ok, Err, sym, ap, subst, w64}
use Rattle.std.proofs.lemmas.Int.{to_z-of_z}
use Rattle.tree_page.specs.Reading.{below}
use Rattle.tree_page.specs.Node.{IsNode}
use Rattle.tree_table.specs.Ways.{IsAbout, IsStepAbout}
use Rattle.tree_table.specs.declared.way.Way.{Way}
use Rattle.tree_table.specs.declared.way.Step.{Step}
use Rattle.tree_table.specs.declared.way.Step.TheVariants.{Down}
use Rattle.tree_table.proofs.StepsDown.{ok_is, not_refused, at_leaf, going_down, on_page}
use Rattle.tree_table.proofs.way.step_in.Goals as goal

not_so : IsTrue false → ⊥
not_so e = cc

pub returns-in_err-page-clause-only : goal.returns-in_err-page-clause-only
returns-in_err-page-clause-only c = λ node numbers is numbered rising about.
    absurd (c.in_err-page.ensures.only node (subst (λ (n : ℕ). IsNode c.args.bytes.now n node) (sym c.start_of.ensures) is))

pub returns-in_err-place-clause-only : goal.returns-in_err-place-clause-only
returns-in_err-place-clause-only c = λ node numbers is numbered rising about.
    absurd (not_refused _ _ (c.in_err-place.ensures.only node numbers (on_page c.in_ok-page.page c.args.bytes.now _ c.start_of.result node c.in_ok-page.ensures.place c.start_of.ensures is) numbered rising))

pub returns-in_err-down-in-TableInterior-clause-only : goal.returns-in_err-down-in-TableInterior-clause-only
returns-in_err-down-in-TableInterior-clause-only c = λ node numbers is numbered rising about.
    (let on = on_page c.in_ok-page.page c.args.bytes.now _ c.start_of.result node c.in_ok-page.ensures.place c.start_of.ensures is in
    let at = ok_is _ _ (c.in_ok-place.ensures.only node numbers on numbered rising) in
    let plain = to_z-of_z w64 c.args.rowid c.ranges.rowid in
    let down = going_down c.in_ok-page.page.bytes c.in_ok-page.page.start c.args.rowid c.args.way node numbers c.in_ok-place.place (Err c.in_err-down-in-TableInterior.field-0.0) on (c.in-TableInterior.ensures node on) numbered
    (at ∙ ap (λ (z : ℤ). below z numbers) plain) c.in_err-down-in-TableInterior.ensures.only in
    absurd (not_refused _ _ down.1))

pub returns-then-not-is_about-clause-only : goal.returns-then-not-is_about-clause-only
returns-then-not-is_about-clause-only c = λ node numbers is numbered rising about.
    (let on = on_page c.in_ok-page.page c.args.bytes.now _ c.start_of.result node c.in_ok-page.ensures.place c.start_of.ensures is in
    let at = ok_is _ _ (c.in_ok-place.ensures.only node numbers on numbered rising) in
    let plain = to_z-of_z w64 c.args.rowid c.ranges.rowid in
    let down = going_down c.in_ok-page.page.bytes c.in_ok-page.page.start c.args.rowid c.args.way node numbers c.in_ok-place.place (Ok c.in_ok-down-in-TableInterior.down) on (c.in-TableInterior.ensures node on) numbered
    (at ∙ ap (λ (z : ℤ). below z numbers) plain) c.in_ok-down-in-TableInterior.ensures.only in
    let same : c.in_ok-down-in-TableInterior.down ≡ down.0 = ok_is _ _ down.1 in
    let there : IsStepAbout c.args.rowid (Down c.in_ok-down-in-TableInterior.down) =
    subst (λ (way : Way). IsStepAbout c.args.rowid (Down way)) (sym same) (subst (λ (step : Step). IsStepAbout c.args.rowid step) (sym down.2) about) in
    absurd (not_so (c.if-not-is_about.ensures.no (subst (λ (z : ℤ). IsAbout z c.in_ok-down-in-TableInterior.down) (sym plain) there))))

pub returns-in-TableLeaf-clause-only : goal.returns-in-TableLeaf-clause-only
returns-in-TableLeaf-clause-only c = λ node numbers is numbered rising about.
    (let on = on_page c.in_ok-page.page c.args.bytes.now _ c.start_of.result node c.in_ok-page.ensures.place c.start_of.ensures is in
    let at = ok_is _ _ (c.in_ok-place.ensures.only node numbers on numbered rising) in
    let plain = to_z-of_z w64 c.args.rowid c.ranges.rowid in
    ap (λ (step : Step). Ok step) (at_leaf c.args.rowid c.args.way node numbers c.in_ok-place.place (c.in-TableLeaf.ensures node on) numbered (at ∙ ap (λ (z : ℤ). below z numbers) plain)))

pub returns-else-not-is_about-clause-only : goal.returns-else-not-is_about-clause-only
returns-else-not-is_about-clause-only c = λ node numbers is numbered rising about.
    (let on = on_page c.in_ok-page.page c.args.bytes.now _ c.start_of.result node c.in_ok-page.ensures.place c.start_of.ensures is in
    let at = ok_is _ _ (c.in_ok-place.ensures.only node numbers on numbered rising) in
    let plain = to_z-of_z w64 c.args.rowid c.ranges.rowid in
    let down = going_down c.in_ok-page.page.bytes c.in_ok-page.page.start c.args.rowid c.args.way node numbers c.in_ok-place.place (Ok c.in_ok-down-in-TableInterior.down) on (c.in-TableInterior.ensures node on) numbered
    (at ∙ ap (λ (z : ℤ). below z numbers) plain) c.in_ok-down-in-TableInterior.ensures.only in
    ap (λ (way : Way). Ok (Down way)) (ok_is _ _ down.1) ∙ ap (λ (step : Step). Ok step) down.2)
