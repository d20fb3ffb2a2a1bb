use Rattle.std.proofs.Common.{ℕ, refl, sym, subst}
use Rattle.pages.specs.Map.{page_at}
use Rattle.tree_check.specs.Exact.{AreTold}
use Rattle.tree_check.proofs.Parting.{told_after}
use Rattle.db_load.specs.Uses.{IsFirstHeader}
use Rattle.db_load.proofs.StoredUses.{first_header, first_there, found_by, listed_by, page_sized}
use Rattle.db_load.proofs.TreeTables.{if_refused}
use Rattle.db_load.proofs.loading.load_checked.Goals as goal

pub returns-in_err-check_whole-clause-listed : goal.returns-in_err-check_whole-clause-listed
returns-in_err-check_whole-clause-listed g c = λ l database told sized stored counted.
    (let p = g.P.Pages in
    let old = c.args.pages.now in
    let map = p.map old in
    let page = (p.limits (p.below old)).page in
    if_refused c.from_residual.result c.in_err-check_whole.field-0.0 c.from_residual.ensures.1
    (c.in_err-check_whole.ensures.only map page (record { told = told; map_is = refl; size_is = refl }) sized stored.shared.whole))

pub returns-in_err-header-clause-listed : goal.returns-in_err-header-clause-listed
returns-in_err-header-clause-listed g c = λ l database told sized stored counted.
    (let p = g.P.Pages in
    let old = c.args.pages.now in
    let map = p.map old in
    let page = (p.limits (p.below old)).page in
    let stays = c.in_ok-check_whole.ensures.stays in
    let now = told_after p.below p.tells p.limits p.map old c.check_whole.new.pages map page stays.kept stays.same (record { told = told; map_is = refl; size_is = refl }) in
    let first = subst (λ (n : ℕ). IsFirstHeader (page_at map 1) page n stored.header) (sym sized) (first_header map page l database stored counted) in
    if_refused c.from_residual-in_err-header.result c.in_err-header.field-0.0 c.from_residual-in_err-header.ensures.1
    (c.in_err-header.ensures.only map page stored.header now (first_there map page stored.header stored.shared.whole stored.header_is) first))

pub returns-clause-listed : goal.returns-clause-listed
returns-clause-listed g c = λ l database told sized stored counted.
    (let p = g.P.Pages in
    let old = c.args.pages.now in
    let map = p.map old in
    let page = (p.limits (p.below old)).page in
    let stays = c.in_ok-check_whole.ensures.stays in
    let later = c.in_ok-header.ensures.stays in
    let now = told_after p.below p.tells p.limits p.map old c.check_whole.new.pages map page stays.kept stays.same (record { told = told; map_is = refl; size_is = refl }) in
    let then = told_after p.below p.tells p.limits p.map c.check_whole.new.pages c.read_header.new.pages map page later.kept later.same now in
    let first = subst (λ (n : ℕ). IsFirstHeader (page_at map 1) page n stored.header) (sym sized) (first_header map page l database stored counted) in
    let same = c.in_ok-header.ensures.only map page stored.header now (first_there map page stored.header stored.shared.whole stored.header_is) first in
    listed_by map page l database stored c.in_ok-header.header c.load_marked.result same
    (c.load_marked.ensures.loaded map page then stored.shared.whole (page_sized (page_at map 1) page c.args.size stored.header first) sized))

pub returns-clause-found : goal.returns-clause-found
returns-clause-found g c = λ told sized.
    (let p = g.P.Pages in
    let old = c.args.pages.now in
    let map = p.map old in
    let page = (p.limits (p.below old)).page in
    let before : AreTold p.below p.tells p.limits p.map old map page = record { told = told; map_is = refl; size_is = refl } in
    let stays = c.in_ok-check_whole.ensures.stays in
    let later = c.in_ok-header.ensures.stays in
    let now = told_after p.below p.tells p.limits p.map old c.check_whole.new.pages map page stays.kept stays.same before in
    let then = told_after p.below p.tells p.limits p.map c.check_whole.new.pages c.read_header.new.pages map page later.kept later.same now in
    let first = c.in_ok-header.ensures.found map page now in
    let whole = c.in_ok-check_whole.ensures.found map page before sized in
    found_by c.listed_tables_are_a_database.ensures.exists map page c.in_ok-header.header c.load_marked.result whole (subst (λ (n : ℕ). IsFirstHeader (page_at map 1) page n c.in_ok-header.header) sized first)
    (c.load_marked.ensures.loaded map page then whole (page_sized (page_at map 1) page c.args.size c.in_ok-header.header first) sized))
