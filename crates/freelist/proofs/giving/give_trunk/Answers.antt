use Rattle.std.proofs.Common.{◌≡◌, ◌∙◌, ℕ, List, [], length, sym, ap, subst}
use Rattle.freelist.proofs.Causing.{memory_alone}
use Rattle.freelist.proofs.Taken.{hundred, one_there}
use Rattle.freelist.proofs.Given.{trunk_given, done_or}
use Rattle.pages.specs.Map.{with_page}
use Rattle.freelist.specs.Calls.{IsGiven}
use Rattle.freelist.specs.PageBytes.{IsTrunkPage}
use Rattle.freelist.proofs.giving.give_trunk.Goals as goal

pub returns-in_err-trunk-clause-causes : goal.returns-in_err-trunk-clause-causes
returns-in_err-trunk-clause-causes g c = memory_alone c.from_residual.result c.in_err-trunk.field-0.0 (g.P.Pages.failures c.args.pages.now) c.from_residual.ensures.1 c.in_err-trunk.ensures.refusal

pub returns-clause-given : goal.returns-clause-given
returns-clause-given g c = λ told front free are behind has other.
    (let pages = g.P.Pages in
    let old = pages.map c.args.pages.now in
    let new = pages.map c.put_both.new.pages in
    let size = (pages.limits (pages.below c.args.pages.now)).page in
    let one = one_there old size free are in
    let heads = c.set_header.ensures.reheads (hundred old size free c.args.first.now c.args.header front are) in
    let same : length c.as_slice.result.now ≡ length c.args.first.now = ap length c.as_slice.ensures.value ∙ c.in_ok-trunk.ensures.size in
    let whole : length c.args.first.now ≡ size = ap length front.first_is ∙ one.whole in
    done_or (new ≡ with_page (with_page old c.args.page c.as_slice.result.now) 1 c.set_header.new.page) (IsGiven old new size free c.args.page) c.put_both.result (c.put_both.ensures.done told)
    (λ is. trunk_given old new size c.args.first.now c.set_header.new.page c.as_slice.result.now c.args.header c.args.page free are front behind has other
    (λ large. subst (λ (l : List ℕ). IsTrunkPage l c.args.header.freelist_trunk []) (sym c.as_slice.ensures.value) (c.in_ok-trunk.ensures.trunk large)) same heads is)
    (c.put_both.ensures.refusal told behind (record { has = has; whole = are.whole c.args.page has }) one (same ∙ whole) (heads.same ∙ whole)))
