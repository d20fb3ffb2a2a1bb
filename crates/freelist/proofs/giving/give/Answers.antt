use Rattle.std.proofs.Common.{◌∙◌, ℕ, List, sym, subst}
use Rattle.db_header.specs.Header.{IsHeader}
use Rattle.freelist.proofs.Causing.{causes_still}
use Rattle.freelist.proofs.giving.give.Goals as goal

pub returns-in_default-clause-given : goal.returns-in_default-clause-given
returns-in_default-clause-given g c = λ told free are behind has other.
    (let front = (are.has).header_is in
    absurd (c.in_default.not-Some (are.has).header (c.header_in.ensures.only (are.has).header (subst (λ (l : List ℕ). IsHeader l (are.has).header) (sym (c.as_slice.ensures.value ∙ c.in_ok-first.ensures.bytes told)) front))))

pub returns-clause-causes : goal.returns-clause-causes
returns-clause-causes g c =
    let pages = g.P.Pages in
    causes_still c.page_of.result c.give_told.result (pages.failures c.args.pages.now) (pages.failures c.page_of.new.pages) (pages.failures c.give_told.new.pages) ⊥
    c.page_of.ensures.stays.causes c.give_told.ensures.causes
