use Rattle.std.proofs.Common.{◌≡◌, ◌-◌, ◌∙◌, ℕ, refl, ap, subst, arith, Err, Ok}
use Rattle.std.specs.Prelude.{max}
use Rattle.tree_overflow.specs.Links.{ReadsChain}
use Rattle.tree_overflow.proofs.ReadChains.{step, ended, stopped, stays_after, stays_done, stays_refused, link_since}
use Rattle.tree_overflow.proofs.reading.read_chain.Goals as goal

pub links-init : goal.links-init
links-init g c = record { stays = record { kept = refl; same = refl; counted = refl; causes = record { db = omega arith; log = omega arith; why = tt } }; read = λ told after result rest. rest }

pub returns-in_err-page-clause-read : goal.returns-in_err-page-clause-read
returns-in_err-page-clause-read g c = λ told.
    (let pages = g.P.Pages in
    let old = c.args.pages.now in
    let mid = c.links.pages in
    let stays = c.links.invariant.stays in
    let link = link_since pages.below pages.tells pages.limits pages.map old mid c.links.page c.links.left c.links.out.items c.read_link.new.out.items (Err c.in_err-page.field-0.0) stays.kept stays.same c.in_err-page.ensures.linked told in
    c.links.invariant.read told c.read_link.new.out.items c.from_residual.result
    (stopped (pages.map old) (pages.limits (pages.below old)).page c.links.page c.links.left c.links.out.items c.read_link.new.out.items c.in_err-page.field-0.0 c.links-test.true link c.read_link.new.out.items c.from_residual.result c.from_residual.ensures.1))

pub returns-in_err-page-clause-stays : goal.returns-in_err-page-clause-stays
returns-in_err-page-clause-stays g c =
    let pages = g.P.Pages in
    stays_after pages.below pages.map pages.count pages.failures _ c.from_residual.result c.args.pages.now c.links.pages c.read_link.new.pages c.links.invariant.stays
    (stays_refused {S = ℕ} pages.below pages.map pages.count pages.failures c.in_err-page.field-0.0 c.from_residual.result c.links.pages c.read_link.new.pages c.in_err-page.ensures.stays c.from_residual.ensures.1)

pub links-preserved : goal.links-preserved
links-preserved g c =
    let pages = g.P.Pages in
    let old = c.args.pages.now in
    let mid = c.links.pages in
    let stays = c.links.invariant.stays in
    let size = (pages.limits (pages.below old)).page in
    let room : c.max-room.result ≡ max (size - 4) 1 = c.max-room.ensures ∙ ap (λ (n : ℕ). max n 1) (c.saturating_sub.ensures ∙ ap (λ (n : ℕ). n - 4) c.page_size.ensures) in
    record {
      stays = stays_done pages.below pages.map pages.count pages.failures (Ok c.in_ok-page.page) old c.read_link.new.pages
          (stays_after pages.below pages.map pages.count pages.failures _ (Ok c.in_ok-page.page) old mid c.read_link.new.pages stays c.in_ok-page.ensures.stays);
      read = λ told after result rest. (
          let link = link_since pages.below pages.tells pages.limits pages.map old mid c.links.page c.links.left c.links.out.items c.read_link.new.out.items (Ok c.in_ok-page.page) stays.kept stays.same c.in_ok-page.ensures.linked told in
          c.links.invariant.read told after result
          (step (pages.map old) size c.links.page c.links.left c.max-room.result c.in_ok-page.page c.links.out.items c.read_link.new.out.items c.links-test.true room link after result
          (subst (λ (n : ℕ). ReadsChain (pages.map old) size c.in_ok-page.page n c.read_link.new.out.items after result) c.saturating_sub-left.ensures rest)));
    }

pub returns-clause-read : goal.returns-clause-read
returns-clause-read g c = λ told.
    (let pages = g.P.Pages in
    let old = c.args.pages.now in
    c.links.invariant.read told c.links.out.items (Ok tt) (ended (pages.map old) (pages.limits (pages.below old)).page c.links.page c.links.left c.links.out.items (omega (arith, c.links-test.false))))

pub returns-clause-stays : goal.returns-clause-stays
returns-clause-stays g c = c.links.invariant.stays
