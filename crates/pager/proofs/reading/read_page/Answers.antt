use Rattle.std.proofs.Common.{◌≡◌, sym, subst, length, rules}
use Rattle.pager.specs.Views.{ViewHas, view_at}
use Rattle.pager.proofs.PageReads.{filled, refused_on}
use Rattle.pager.proofs.reading.read_page.Goals as goal

pub returns-in_err-read_into-clause-there : goal.returns-in_err-read_into-clause-there
returns-in_err-read_into-clause-there g c bytes told until there =
    let whole : length c.as_mut_slice.result.now ≡ c.args.log.now.state.page_size = search rules in
    refused_on c.from_residual-in_err-read_into.result _ c.from_residual-in_err-read_into.ensures.1 (c.in_err-read_into.ensures.there bytes whole told until there)

pub returns-clause-read : goal.returns-clause-read
returns-clause-read g c told until =
    let whole : length c.read_into.new.page ≡ c.in_ok-page.page.len = search rules in
    subst (ViewHas (view_at c.args.log.now c.args.snapshot) c.args.number) (sym (filled c.read_into.new.page c.in_ok-page.page.items c.in_ok-page.page.len whole))
    (c.in_ok-read_into.ensures.read told until)
