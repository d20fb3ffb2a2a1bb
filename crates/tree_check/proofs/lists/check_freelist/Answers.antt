use Rattle.std.proofs.Common.{refl}
use Rattle.tree_check.proofs.Trunking.{list_found, list_only, list_same}
use Rattle.tree_check.proofs.lists.check_freelist.Goals as goal

pub returns-clause-found : goal.returns-clause-found
returns-clause-found g c = λ told can.
    (let p = g.P.Pages in
    let old = c.args.pages.now in
    let size = (p.limits (p.below old)).page in
    list_found (p.map old) size c.args.first c.args.count c.args.marks.now.items c.check_trunks.new.marks.items c.check_trunks.result
    (c.check_trunks.ensures.checked (p.map old) size (record { told = told; map_is = refl; size_is = refl }) can))

pub returns-clause-only : goal.returns-clause-only
returns-clause-only g c = λ told can unmarked.
    (let p = g.P.Pages in
    let old = c.args.pages.now in
    let size = (p.limits (p.below old)).page in
    list_only (p.map old) size c.args.first c.args.count c.args.marks.now.items c.check_trunks.new.marks.items c.check_trunks.result
    (c.check_trunks.ensures.checked (p.map old) size (record { told = told; map_is = refl; size_is = refl }) can) unmarked)

pub returns-clause-same : goal.returns-clause-same
returns-clause-same g c = λ told can.
    (let p = g.P.Pages in
    let old = c.args.pages.now in
    let size = (p.limits (p.below old)).page in
    list_same (p.map old) size c.args.first c.args.count c.args.marks.now.items c.check_trunks.new.marks.items c.check_trunks.result
    (c.check_trunks.ensures.checked (p.map old) size (record { told = told; map_is = refl; size_is = refl }) can))
