use Rattle.std.proofs.Common.{◌≡◌, ◌+◌, drop, false, refl, rules, subst, sym}
use Rattle.std.proofs.lemmas.List.{drop_all}
use Rattle.pager.specs.Pruning.{AreNew}
use Rattle.pager.specs.Views.{view_at}
use Rattle.pager.proofs.NewPages.{left_more, page_refused, passed_none, passed_one, reads_more}
use Rattle.pager.proofs.pruning.is_one_shown.Goals as goal

pub pages-init : goal.pages-init
pages-init g c = passed_none c.args.log.now c.args.snapshot c.args.pages.now.items

pub returns-in_err-is_shown-clause-refused : goal.returns-in_err-is_shown-clause-refused
returns-in_err-is_shown-clause-refused g c told within all numbered =
    let items = c.args.pages.now.items in
    let place = c.pages.place in
    let page = c.at.result.now in
    page_refused c.args.log.now c.pages.log c.args.snapshot page (drop (place + 1) items) (drop place items) c.in_err-is_shown.field-0.0 c.from_residual.result c.pages.invariant.reads (left_more items place page (search rules) c.at.ensures)
    (c.pages.invariant.numbered numbered) c.from_residual.ensures.1 c.in_err-is_shown.ensures.refused told within all

pub pages-preserved : goal.pages-preserved
pages-preserved g c =
    let items = c.args.pages.now.items in
    let place = c.pages.place in
    let page = c.at.result.now in
    let is = c.in_ok-is_shown.field-0 in
    let none : is ≡ false = search rules in
    let kept = c.in_ok-is_shown.ensures.kept in
    passed_one c.args.log.now c.pages.log c.is_shown.new.log c.args.snapshot page (drop (place + 1) items) is c.pages.invariant.reads
    (reads_more is c.args.log.now c.pages.log c.is_shown.new.log c.pages.invariant.reads kept.0 kept.1 kept.2 c.in_ok-is_shown.ensures.cause) c.in_ok-is_shown.ensures.shown items (drop place items) c.pages.invariant
    (left_more items place page (search rules) c.at.ensures) none

pub returns-clause-none : goal.returns-clause-none
returns-clause-none g c told within none =
    let items = c.args.pages.now.items in
    c.pages.invariant.none told within (subst (λ left. AreNew (view_at c.args.log.now c.args.snapshot) left left) (sym (drop_all c.pages.place items (search rules))) refl)
