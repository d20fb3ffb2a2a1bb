use Rattle.std.proofs.Common.{◌≡◌, ◌∙◌, ◌<◌, ◌^◌, length, rules, ap}
use Rattle.pages.specs.Map.{with_page}
use Rattle.freelist.specs.Calls.{IsGiven}
use Rattle.freelist.proofs.Taken.{hundred, begins, stands_alone, page_there, one_there}
use Rattle.freelist.proofs.Given.{leaf_given, done_or}
use Rattle.freelist.proofs.giving.give_leaf.Goals as goal

pub returns-clause-given : goal.returns-clause-given
returns-clause-given g c = λ told front trunk some next leads free are behind has other.
    (let fits : c.args.header.freelist_count < 2 ^ 32 = search rules in
    let near : c.args.page < 2 ^ 32 = search rules in
    let pages = g.P.Pages in
    let old = pages.map c.args.pages.now in
    let new = pages.map c.put_both.new.pages in
    let size = (pages.limits (pages.below c.args.pages.now)).page in
    let it = c.args.header.freelist_trunk in
    let b = begins old size free c.args.first.now c.args.header front are some in
    let there = page_there old size free c.args.header b.0 b.1 are b.2 in
    let one = one_there old size free are in
    let heads = c.set_header.ensures.reheads (hundred old size free c.args.first.now c.args.header front are) in
    done_or (new ≡ with_page (with_page old it c.put_leaf.new.page) 1 c.set_header.new.page) (IsGiven old new size free c.args.page) c.put_both.result (c.put_both.ensures.done told)
    (λ is. leaf_given old new size c.args.first.now c.set_header.new.page c.args.trunk.now c.put_leaf.new.page c.args.header next c.args.len c.args.page free are front some fits trunk leads c.requires.room near
    c.put_leaf.ensures.listed c.put_leaf.ensures.same has heads is)
    (c.put_both.ensures.refusal told (stands_alone old size free c.args.header b.0 b.1 are b.2).behind there one (c.put_leaf.ensures.same ∙ ap length trunk ∙ there.whole) (heads.same ∙ ap length front.first_is ∙ one.whole)))
