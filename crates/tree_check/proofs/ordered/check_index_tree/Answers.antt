use Rattle.std.proofs.Common.{◌≡◌, [], refl, rules, subst, List}
use Rattle.sqlval.specs.declared.value.Value.{Value}
use Rattle.tree_check.proofs.OrderedTrees.{ChecksUnder}
use Rattle.tree_check.proofs.Parting.{told_after}
use Rattle.tree_check.proofs.WholeIndexes.{index_found, index_only, index_same, index_refused}
use Rattle.tree_check.proofs.ordered.check_index_tree.Goals as goal

pub returns-in_err-depth-clause-only : goal.returns-in_err-depth-clause-only
returns-in_err-depth-clause-only g c = λ told can unmarked.
    (let p = g.P.Pages in
    let old = c.args.pages.now in
    let size = (p.limits (p.below old)).page in
    index_refused (p.map old) size c.args.root c.args.columns.now c.args.marks.now.items c.in_err-depth.field-0.0 c.from_residual.result
    (c.in_err-depth.ensures.found (p.map old) size (record { told = told; map_is = refl; size_is = refl }) can.whole) unmarked c.from_residual.ensures.1)

pub returns-clause-found : goal.returns-clause-found
returns-clause-found g c = λ told can.
    (let p = g.P.Pages in
    let old = c.args.pages.now in
    let size = (p.limits (p.below old)).page in
    let stays = c.in_ok-depth.ensures.stays in
    let now = told_after p.below p.tells p.limits p.map old c.depth_of.new.pages (p.map old) size stays.kept stays.same (record { told = told; map_is = refl; size_is = refl }) in
    let none : c.new-last.result ≡ [] = search rules in
    let checked = subst (λ (l : List Value). ChecksUnder (p.map old) size c.args.root c.in_ok-depth.depth c.args.columns.now l c.check_under.new.last c.args.marks.now.items c.check_under.new.marks.items c.check_under.result) none
    (c.check_under.ensures.checked (p.map old) size now can) in
    index_found (p.map old) size c.args.root c.in_ok-depth.depth c.args.columns.now c.check_under.new.last c.args.marks.now.items c.check_under.new.marks.items c.check_under.result c.in_ok-depth.ensures.few
    checked)

pub returns-clause-only : goal.returns-clause-only
returns-clause-only g c = λ told can unmarked.
    (let p = g.P.Pages in
    let old = c.args.pages.now in
    let size = (p.limits (p.below old)).page in
    let stays = c.in_ok-depth.ensures.stays in
    let now = told_after p.below p.tells p.limits p.map old c.depth_of.new.pages (p.map old) size stays.kept stays.same (record { told = told; map_is = refl; size_is = refl }) in
    let none : c.new-last.result ≡ [] = search rules in
    let checked = subst (λ (l : List Value). ChecksUnder (p.map old) size c.args.root c.in_ok-depth.depth c.args.columns.now l c.check_under.new.last c.args.marks.now.items c.check_under.new.marks.items c.check_under.result) none
    (c.check_under.ensures.checked (p.map old) size now can) in
    index_only (p.map old) size c.args.root c.in_ok-depth.depth c.args.columns.now c.check_under.new.last c.args.marks.now.items c.check_under.new.marks.items c.check_under.result
    (c.in_ok-depth.ensures.found (p.map old) size (record { told = told; map_is = refl; size_is = refl }) can.whole) checked unmarked)

pub returns-clause-same : goal.returns-clause-same
returns-clause-same g c = λ told can.
    (let p = g.P.Pages in
    let old = c.args.pages.now in
    let size = (p.limits (p.below old)).page in
    let stays = c.in_ok-depth.ensures.stays in
    let now = told_after p.below p.tells p.limits p.map old c.depth_of.new.pages (p.map old) size stays.kept stays.same (record { told = told; map_is = refl; size_is = refl }) in
    let none : c.new-last.result ≡ [] = search rules in
    let checked = subst (λ (l : List Value). ChecksUnder (p.map old) size c.args.root c.in_ok-depth.depth c.args.columns.now l c.check_under.new.last c.args.marks.now.items c.check_under.new.marks.items c.check_under.result) none
    (c.check_under.ensures.checked (p.map old) size now can) in
    index_same (p.map old) size c.args.root c.in_ok-depth.depth c.args.columns.now c.check_under.new.last c.args.marks.now.items c.check_under.new.marks.items c.check_under.result
    (c.in_ok-depth.ensures.found (p.map old) size (record { told = told; map_is = refl; size_is = refl }) can.whole) checked)
