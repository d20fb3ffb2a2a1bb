use Rattle.std.proofs.Common.{◌≡◌, ◌∙◌, ℕ, refl, sym, ap, subst, List}
use Rattle.db_header.specs.Header.{IsHeader}
use Rattle.pages.specs.Map.{PageMap, page_at}
use Rattle.freelist.specs.Calls.{IsTaken}
use Rattle.freelist.proofs.Causing.{causes_after, causes_still}
use Rattle.freelist.proofs.Taken.{refused, one_there, since, front_of, grown_or}
use Rattle.freelist.proofs.taking.take.Goals as goal

pub returns-in_err-first-clause-taken : goal.returns-in_err-first-clause-taken
returns-in_err-first-clause-taken g c = λ told free are.
    (let pages = g.P.Pages in
    let old = pages.map c.args.pages.now in
    let size = (pages.limits (pages.below c.args.pages.now)).page in
    refused (IsTaken old (pages.map c.page_of.new.pages) size free) c.from_residual.result c.in_err-first.field-0.0 c.from_residual.ensures.1 (c.in_err-first.ensures.refusal told (one_there old size free are)))

pub returns-in_default-clause-taken : goal.returns-in_default-clause-taken
returns-in_default-clause-taken g c = λ told free are.
    (let front = (are.has).header_is in
    absurd (c.in_default.not-Some (are.has).header (c.header_in.ensures.only (are.has).header (subst (λ (l : List ℕ). IsHeader l (are.has).header) (sym (c.as_slice.ensures.value ∙ c.in_ok-first.ensures.bytes told)) front))))

pub returns-then-header-eq0-clause-taken : goal.returns-then-header-eq0-clause-taken
returns-then-header-eq0-clause-taken g c = λ told.
    (let pages = g.P.Pages in
    let old = c.args.pages.now in
    let mid = c.page_of.new.pages in
    let stays = c.page_of.ensures.stays in
    let front = front_of (pages.map mid) c.in_ok-first.first.items c.as_slice.result.now c.in_ok-first.first.items c.in-Some.header
    (c.in_ok-first.ensures.bytes told ∙ ap (λ (m : PageMap). page_at m 1) (sym stays.same)) c.as_slice.ensures.value refl c.in-Some.ensures.only in
    since pages.tells pages.limits (pages.below old) (pages.below mid) (pages.map old) (pages.map mid) (pages.map c.grow.new.self) c.grow.result stays.kept stays.same
    (λ tells free are. grown_or (pages.map mid) (pages.map c.grow.new.self) (pages.limits (pages.below mid)).page c.in_ok-first.first.items c.in-Some.header free are front c.if-header-eq0.true c.grow.result
    (c.grow.ensures.number tells) (c.grow.ensures.done tells) (c.grow.ensures.refusal tells)) told)

pub returns-clause-taken : goal.returns-clause-taken
returns-clause-taken g c = λ told.
    (let pages = g.P.Pages in
    let old = c.args.pages.now in
    let mid = c.page_of.new.pages in
    let stays = c.page_of.ensures.stays in
    let front = front_of (pages.map mid) c.in_ok-first.first.items c.as_slice.result.now c.as_mut_slice.result.now c.in-Some.header
    (c.in_ok-first.ensures.bytes told ∙ ap (λ (m : PageMap). page_at m 1) (sym stays.same)) c.as_slice.ensures.value c.as_mut_slice.ensures.value c.in-Some.ensures.only in
    since pages.tells pages.limits (pages.below old) (pages.below mid) (pages.map old) (pages.map mid) (pages.map c.take_listed.new.pages) c.take_listed.result stays.kept stays.same
    (λ tells. c.take_listed.ensures.taken tells front) told)

pub returns-then-header-eq0-clause-causes : goal.returns-then-header-eq0-clause-causes
returns-then-header-eq0-clause-causes g c =
    let pages = g.P.Pages in
    causes_after c.page_of.result c.grow.result (pages.failures c.args.pages.now) (pages.failures c.page_of.new.pages) (pages.failures c.grow.new.self) ⊥
    (pages.count c.grow.new.self ≡ (pages.limits (pages.below c.grow.new.self)).most) c.page_of.ensures.stays.causes c.grow.ensures.causes

pub returns-clause-causes : goal.returns-clause-causes
returns-clause-causes g c =
    let pages = g.P.Pages in
    causes_still c.page_of.result c.take_listed.result (pages.failures c.args.pages.now) (pages.failures c.page_of.new.pages) (pages.failures c.take_listed.new.pages)
    (pages.count c.take_listed.new.pages ≡ (pages.limits (pages.below c.take_listed.new.pages)).most) c.page_of.ensures.stays.causes c.take_listed.ensures.causes
