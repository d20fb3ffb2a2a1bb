use Rattle.std.proofs.Common.{◌≡◌, ◌+◌, ◌∙◌, suc, false, length, subst, sym, ap, arith}
use Rattle.std.specs.Prelude.{replicate}
use Rattle.std.proofs.lemmas.List.{length-replicate}
use Rattle.tree_check.specs.Checks.{CanMark}
use Rattle.db_load.specs.Uses.{AreAllMarked}
use Rattle.db_load.proofs.MarkedUses.{AreNone, all_loaded, marks_refused, unmarked, uses_not_loaded}
use Rattle.db_load.proofs.SchemaTables.{err_not_ok}
use Rattle.db_load.proofs.loading.load_marked.Goals as goal

pub returns-in_err-catalog-clause-loaded : goal.returns-in_err-catalog-clause-loaded
returns-in_err-catalog-clause-loaded g c = λ map page told whole size_is sized.
    (let old = c.in_ok-marks.marks.items in
    let is : old ≡ replicate (c.args.size + 1) false = c.in_ok-marks.ensures.items_if_clones_equal (λ y same. same) in
    let none = subst AreNone (sym is) (unmarked (c.args.size + 1)) in
    let long : length old ≡ suc (length map) = ap length is ∙ (length-replicate (c.args.size + 1) false ∙ (omega (arith, sized))) in
    let can : CanMark map page old = record { whole = whole; long = long; sized = size_is } in
    uses_not_loaded map page c.args.header old c.load_uses.new.marks.items none long c.in_err-catalog.field-0.0 c.from_residual-in_err-catalog.result c.from_residual-in_err-catalog.ensures.1
    (c.in_err-catalog.ensures.loaded map page told can sized))

pub returns-in_err-check_marks-clause-loaded : goal.returns-in_err-check_marks-clause-loaded
returns-in_err-check_marks-clause-loaded g c = λ map page told whole size_is sized.
    (let old = c.in_ok-marks.marks.items in
    let is : old ≡ replicate (c.args.size + 1) false = c.in_ok-marks.ensures.items_if_clones_equal (λ y same. same) in
    let none = subst AreNone (sym is) (unmarked (c.args.size + 1)) in
    let long : length old ≡ suc (length map) = ap length is ∙ (length-replicate (c.args.size + 1) false ∙ (omega (arith, sized))) in
    let can : CanMark map page old = record { whole = whole; long = long; sized = size_is } in
    marks_refused map page c.args.header old c.load_uses.new.marks.items none long c.in_err-check_marks.field-0.0 c.from_residual-in_err-check_marks.result c.in_ok-catalog.catalog c.from_residual-in_err-check_marks.ensures.1
    (c.in_ok-catalog.ensures.loaded map page told can sized)
    (λ all. err_not_ok _ _ (c.in_err-check_marks.ensures.only (subst AreAllMarked (sym c.deref.ensures.value) all))))

pub returns-clause-loaded : goal.returns-clause-loaded
returns-clause-loaded g c = λ map page told whole size_is sized.
    (let old = c.in_ok-marks.marks.items in
    let is : old ≡ replicate (c.args.size + 1) false = c.in_ok-marks.ensures.items_if_clones_equal (λ y same. same) in
    let none = subst AreNone (sym is) (unmarked (c.args.size + 1)) in
    let long : length old ≡ suc (length map) = ap length is ∙ (length-replicate (c.args.size + 1) false ∙ (omega (arith, sized))) in
    let can : CanMark map page old = record { whole = whole; long = long; sized = size_is } in
    all_loaded map page c.args.header old c.load_uses.new.marks.items none long c.in_ok-catalog.catalog (c.in_ok-catalog.ensures.loaded map page told can sized)
    (subst AreAllMarked c.deref.ensures.value c.in_ok-check_marks.ensures.found))
