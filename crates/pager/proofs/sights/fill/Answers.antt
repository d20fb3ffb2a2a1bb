use Rattle.std.proofs.Common.{◌≡◌, sym, subst, length, rules}
use Rattle.pager.specs.Views.{ViewHas, view_at}
use Rattle.pager.proofs.PageReads.{filled, read_there}
use Rattle.pager.proofs.sights.fill.Goals as goal

pub returns-clause-read : goal.returns-clause-read
returns-clause-read g c told until =
    let whole : length c.read_into.new.page ≡ c.resize.new.self.len = search rules in
    read_there c.read_into.result _ _ (subst (ViewHas (view_at c.args.log.now c.args.snapshot) c.args.number) (sym (filled c.read_into.new.page c.resize.new.self.items c.resize.new.self.len whole)))
    (c.read_into.ensures.read told until)

pub returns-clause-there : goal.returns-clause-there
returns-clause-there g c bytes told until there =
    let whole : length c.as_mut_slice.result.now ≡ c.args.log.now.state.page_size = search rules in
    c.read_into.ensures.there bytes whole told until there
