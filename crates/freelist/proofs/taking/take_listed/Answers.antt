use Rattle.std.proofs.Common.{◌≡◌, ◌∙◌, ◌<◌, ◌^◌, ℕ, rules, sym, ap, subst}
use Rattle.pages.specs.Map.{PageMap, page_at}
use Rattle.freelist.specs.Calls.{IsTaken}
use Rattle.freelist.specs.PageBytes.{LeadsTo}
use Rattle.freelist.proofs.Taken.{refused, begins, page_there, since, front_since, leads_to, told_trunk}
use Rattle.freelist.proofs.taking.take_listed.Goals as goal

pub returns-in_err-trunk-clause-taken : goal.returns-in_err-trunk-clause-taken
returns-in_err-trunk-clause-taken g c = λ told front free are.
    (let pages = g.P.Pages in
    let old = pages.map c.args.pages.now in
    let size = (pages.limits (pages.below c.args.pages.now)).page in
    let b = begins old size free c.args.first.now c.args.header front are c.requires.some in
    refused (IsTaken old (pages.map c.page_of.new.pages) size free) c.from_residual.result c.in_err-trunk.field-0.0 c.from_residual.ensures.1 (c.in_err-trunk.ensures.refusal told (page_there old size free c.args.header b.0 b.1 are b.2)))

pub returns-in_default-clause-taken : goal.returns-in_default-clause-taken
returns-in_default-clause-taken g c = λ told front free are.
    (let fits : c.args.header.freelist_count < 2 ^ 32 = search rules in
    let pages = g.P.Pages in
    let old = pages.map c.args.pages.now in
    let found = told_trunk old (pages.limits (pages.below c.args.pages.now)).page free c.args.first.now c.as_slice.result.now c.args.header c.listed.result are front c.requires.some fits
    (c.as_slice.ensures.value ∙ c.in_ok-trunk.ensures.bytes told) c.listed.ensures.only in
    absurd (c.in_default.not-Some found.0 found.1))

pub returns-then-len-eq0-clause-taken : goal.returns-then-len-eq0-clause-taken
returns-then-len-eq0-clause-taken g c = λ told front.
    (let pages = g.P.Pages in
    let old = c.args.pages.now in
    let mid = c.page_of.new.pages in
    let stays = c.page_of.ensures.stays in
    let is : c.as_slice.result.now ≡ page_at (pages.map mid) c.args.header.freelist_trunk = c.as_slice.ensures.value ∙ c.in_ok-trunk.ensures.bytes told ∙ ap (λ (m : PageMap). page_at m c.args.header.freelist_trunk) (sym stays.same) in
    let leads = leads_to (page_at (pages.map mid) c.args.header.freelist_trunk) c.as_slice.result.now c.in-Some.next c.in-Some.len is c.in-Some.ensures.only in
    let none : LeadsTo (page_at (pages.map mid) c.args.header.freelist_trunk) c.in-Some.next 0 = subst (λ (n : ℕ). LeadsTo (page_at (pages.map mid) c.args.header.freelist_trunk) c.in-Some.next n) c.if-len-eq0.true leads in
    since pages.tells pages.limits (pages.below old) (pages.below mid) (pages.map old) (pages.map mid) (pages.map c.take_trunk.new.pages) c.take_trunk.result stays.kept stays.same
    (λ tells. c.take_trunk.ensures.taken tells (front_since (pages.map old) (pages.map mid) c.args.first.now c.args.header stays.same front) none) told)

pub returns-clause-taken : goal.returns-clause-taken
returns-clause-taken g c = λ told front.
    (let pages = g.P.Pages in
    let old = c.args.pages.now in
    let mid = c.page_of.new.pages in
    let stays = c.page_of.ensures.stays in
    let items_is : c.in_ok-trunk.trunk.items ≡ page_at (pages.map mid) c.args.header.freelist_trunk = c.in_ok-trunk.ensures.bytes told ∙ ap (λ (m : PageMap). page_at m c.args.header.freelist_trunk) (sym stays.same) in
    let leads = leads_to (page_at (pages.map mid) c.args.header.freelist_trunk) c.as_slice.result.now c.in-Some.next c.in-Some.len (c.as_slice.ensures.value ∙ items_is) c.in-Some.ensures.only in
    since pages.tells pages.limits (pages.below old) (pages.below mid) (pages.map old) (pages.map mid) (pages.map c.take_leaf.new.pages) c.take_leaf.result stays.kept stays.same
    (λ tells. c.take_leaf.ensures.taken tells (front_since (pages.map old) (pages.map mid) c.args.first.now c.args.header stays.same front) (c.as_mut_slice.ensures.value ∙ items_is) c.in-Some.next leads) told)
