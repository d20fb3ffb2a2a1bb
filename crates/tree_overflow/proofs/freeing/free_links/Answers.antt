use Rattle.std.proofs.Common.{◌≡◌, ◌-◌, ◌∙◌, ℕ, rules, ap, subst, arith, Ok, Err}
use Rattle.std.specs.Prelude.{max}
use Rattle.tree_overflow.specs.Freeing.{FreesChain}
use Rattle.tree_overflow.proofs.FreedChains.{freed_none, frees_next, frees_unfound, frees_ungiven, finds_since, gives_since}
use Rattle.tree_overflow.proofs.freeing.free_links.Goals as goal

pub returns-in_err-next-clause-freed : goal.returns-in_err-next-clause-freed
returns-in_err-next-clause-freed g c = λ told.
    (let pages = g.P.Pages in
    let old = c.args.pages.now in
    let mid = c.links.pages in
    let new = pages.map c.next_link.new.pages in
    let size = (pages.limits (pages.below old)).page in
    let fault = c.in_err-next.field-0.0 in
    let finds = finds_since pages.below pages.tells pages.limits old mid (pages.map mid) c.links.page (Err fault) c.links.invariant.kept c.in_err-next.ensures.found told in
    c.links.invariant.freed told new c.from_residual.result
    (frees_unfound (pages.map mid) new size c.links.page c.links.left fault c.from_residual.result c.links-test.true finds c.from_residual.ensures.1))

pub returns-in_err-give-clause-freed : goal.returns-in_err-give-clause-freed
returns-in_err-give-clause-freed g c = λ told.
    (let pages = g.P.Pages in
    let old = c.args.pages.now in
    let mid = c.links.pages in
    let next = c.next_link.new.pages in
    let new = pages.map c.give.new.pages in
    let size = (pages.limits (pages.below old)).page in
    let stays = c.in_ok-next.ensures.stays in
    let fault = c.in_err-give.field-0.0 in
    let gives = gives_since pages.below pages.tells pages.limits old next (pages.map mid) (pages.map next) new c.links.page (Err fault) (stays.kept ∙ c.links.invariant.kept) stays.same c.in_err-give.ensures.given told in
    c.links.invariant.freed told new c.from_residual-in_err-give.result
    (frees_ungiven (pages.map mid) new new size c.links.page c.links.left fault c.from_residual-in_err-give.result c.links-test.true gives c.from_residual-in_err-give.ensures.1))

pub links-preserved : goal.links-preserved
links-preserved g c =
    let pages = g.P.Pages in
    let old = c.args.pages.now in
    let mid = c.links.pages in
    let next = c.next_link.new.pages in
    let put = c.give.new.pages in
    let size = (pages.limits (pages.below old)).page in
    let stays = c.in_ok-next.ensures.stays in
    let kept = c.links.invariant.kept in
    let room : c.max-room.result ≡ max (size - 4) 1 = c.max-room.ensures ∙ ap (λ (n : ℕ). max n 1) (c.saturating_sub.ensures ∙ ap (λ (n : ℕ). n - 4) c.page_size.ensures) in
    record {
      kept = c.give.ensures.kept ∙ stays.kept ∙ kept;
      counted = c.give.ensures.counted ∙ stays.counted ∙ c.links.invariant.counted;
      causes = search rules;
      freed = λ told new result rest. (
          let finds = finds_since pages.below pages.tells pages.limits old mid (pages.map mid) c.links.page (Ok c.in_ok-next.next) kept c.in_ok-next.ensures.found told in
          let gives = gives_since pages.below pages.tells pages.limits old next (pages.map mid) (pages.map next) (pages.map put) c.links.page (Ok tt) (stays.kept ∙ kept) stays.same c.in_ok-give.ensures.given told in
          c.links.invariant.freed told new result
          (frees_next (pages.map mid) (pages.map put) new size c.links.page c.links.left c.max-room.result c.in_ok-next.next result c.links-test.true room finds gives
          (subst (λ (n : ℕ). FreesChain (pages.map put) new size c.in_ok-next.next n result) c.saturating_sub-left.ensures rest)));
    }

pub returns-clause-freed : goal.returns-clause-freed
returns-clause-freed g c = λ told.
    (let pages = g.P.Pages in
    let old = c.args.pages.now in
    let mid = pages.map c.links.pages in
    c.links.invariant.freed told mid (Ok tt) (freed_none mid (pages.limits (pages.below old)).page c.links.page c.links.left (omega (arith, c.links-test.false))))
