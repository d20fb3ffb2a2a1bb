use Rattle.std.proofs.Common.{◌≡◌, ◌+◌, drop, rules, false, true}
use Rattle.std.proofs.lemmas.List.{drop_all}
use Rattle.pager.proofs.NewPages.{copied_all, copied_none, copied_one, left_more, page_refused, reads_more, skipped_one}
use Rattle.pager.proofs.pruning.new_pages.Goals as goal

pub pages-init : goal.pages-init
pages-init g c = copied_none c.args.log.now c.args.snapshot c.args.pages.now.items c.new-new.result.items c.new-new.ensures.items

pub returns-in_err-is_shown-clause-refused : goal.returns-in_err-is_shown-clause-refused
returns-in_err-is_shown-clause-refused g c told within all numbered =
    let items = c.args.pages.now.items in
    let place = c.pages.place in
    let page = c.at-page.result.now in
    page_refused c.args.log.now c.pages.log c.args.snapshot page (drop (place + 1) items) (drop place items) c.in_err-is_shown.field-0.0 c.from_residual.result c.pages.invariant.reads (left_more items place page (search rules) c.at-page.ensures)
    (c.pages.invariant.numbered numbered) c.from_residual.ensures.1 c.in_err-is_shown.ensures.refused told within all

pub pages-preserved-in_ok-push : goal.pages-preserved-in_ok-push
pages-preserved-in_ok-push g c =
    let items = c.args.pages.now.items in
    let place = c.pages.place in
    let page = c.at-page.result.now in
    let none : c.in_ok-is_shown.field-0 ≡ false = search rules in
    let cause = c.in_ok-is_shown.ensures.cause in
    let kept = c.in_ok-is_shown.ensures.kept in
    copied_one c.args.log.now c.pages.log c.is_shown.new.log c.args.snapshot page (drop (place + 1) items) c.in_ok-is_shown.field-0 c.pages.invariant.reads
    (reads_more c.in_ok-is_shown.field-0 c.args.log.now c.pages.log c.is_shown.new.log c.pages.invariant.reads kept.0 kept.1 kept.2 cause) c.in_ok-is_shown.ensures.shown items (drop place items) c.pages.new.items c.push.new.self.items
    c.in_ok-copy_of.field-0 c.pages.invariant (left_more items place page (search rules) c.at-page.ensures) none c.in_ok-copy_of.ensures.0 c.in_ok-copy_of.ensures.1 c.in_ok-push.ensures.items

pub pages-preserved : goal.pages-preserved
pages-preserved g c =
    let items = c.args.pages.now.items in
    let place = c.pages.place in
    let page = c.at-page.result.now in
    let shown : c.in_ok-is_shown.field-0 ≡ true = search rules in
    let cause = c.in_ok-is_shown.ensures.cause in
    let kept = c.in_ok-is_shown.ensures.kept in
    skipped_one c.args.log.now c.pages.log c.is_shown.new.log c.args.snapshot page (drop (place + 1) items) c.in_ok-is_shown.field-0 c.pages.invariant.reads
    (reads_more c.in_ok-is_shown.field-0 c.args.log.now c.pages.log c.is_shown.new.log c.pages.invariant.reads kept.0 kept.1 kept.2 cause) c.in_ok-is_shown.ensures.shown items (drop place items) c.pages.new.items
    c.pages.invariant (left_more items place page (search rules) c.at-page.ensures) shown

pub returns-clause-new : goal.returns-clause-new
returns-clause-new g c = (let items = c.args.pages.now.items in copied_all c.args.log.now c.pages.log c.args.snapshot items (drop c.pages.place items) c.pages.new.items c.pages.invariant (drop_all c.pages.place items (search rules))).0

pub returns-clause-some : goal.returns-clause-some
returns-clause-some g c = (let items = c.args.pages.now.items in copied_all c.args.log.now c.pages.log c.args.snapshot items (drop c.pages.place items) c.pages.new.items c.pages.invariant (drop_all c.pages.place items (search rules))).1
