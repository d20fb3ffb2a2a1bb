use Rattle.std.proofs.Common.{◌≡◌, ◌∙◌, ◌<◌, ◌^◌, rules, sym, ap}
use Rattle.std.specs.Prelude.{⊤}
use Rattle.pages.specs.Map.{PageMap, page_at}
use Rattle.freelist.specs.Calls.{IsGiven}
use Rattle.freelist.proofs.Taken.{begins, page_there, front_since, leads_to, told_trunk}
use Rattle.freelist.proofs.Given.{passed_on, given_since}
use Rattle.freelist.proofs.giving.give_listed.Goals as goal

pub returns-in_err-trunk-clause-given : goal.returns-in_err-trunk-clause-given
returns-in_err-trunk-clause-given g c = λ told front free are behind has other.
    (let pages = g.P.Pages in
    let old = pages.map c.args.pages.now in
    let size = (pages.limits (pages.below c.args.pages.now)).page in
    let b = begins old size free c.args.first.now c.args.header front are c.requires.some in
    passed_on (λ (done : ⊤). IsGiven old (pages.map c.page_of.new.pages) size free c.args.page) c.from_residual.result c.in_err-trunk.field-0.0 c.from_residual.ensures.1
    (c.in_err-trunk.ensures.refusal told (page_there old size free c.args.header b.0 b.1 are b.2)))

pub returns-in_default-clause-given : goal.returns-in_default-clause-given
returns-in_default-clause-given g c = λ told front free are behind has other.
    (let fits : c.args.header.freelist_count < 2 ^ 32 = search rules in
    let pages = g.P.Pages in
    let old = pages.map c.args.pages.now in
    let found = told_trunk old (pages.limits (pages.below c.args.pages.now)).page free c.args.first.now c.as_slice.result.now c.args.header c.listed.result are front c.requires.some fits
    (c.as_slice.ensures.value ∙ c.in_ok-trunk.ensures.bytes told) c.listed.ensures.only in
    absurd (c.in_default.not-Some found.0 found.1))

pub returns-then-has_room-clause-given : goal.returns-then-has_room-clause-given
returns-then-has_room-clause-given g c = λ told front.
    (let pages = g.P.Pages in
    let old = c.args.pages.now in
    let mid = c.page_of.new.pages in
    let stays = c.page_of.ensures.stays in
    let items_is : c.in_ok-trunk.trunk.items ≡ page_at (pages.map mid) c.args.header.freelist_trunk = c.in_ok-trunk.ensures.bytes told ∙ ap (λ (m : PageMap). page_at m c.args.header.freelist_trunk) (sym stays.same) in
    let leads = leads_to (page_at (pages.map mid) c.args.header.freelist_trunk) c.as_slice.result.now c.in-Some.field-0-0 c.in-Some.len (c.as_slice.ensures.value ∙ items_is) c.in-Some.ensures.only in
    given_since pages.tells pages.limits (pages.below old) (pages.below mid) (pages.map old) (pages.map mid) (pages.map c.give_leaf.new.pages) c.args.page c.give_leaf.result stays.kept stays.same
    (λ tells. c.give_leaf.ensures.given tells (front_since (pages.map old) (pages.map mid) c.args.first.now c.args.header stays.same front) (c.as_mut_slice.ensures.value ∙ items_is) c.requires.some c.in-Some.field-0-0 leads) told)
