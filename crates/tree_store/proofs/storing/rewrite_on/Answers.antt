use Rattle.std.proofs.Common.{◌≡◌, ◌∙◌, ℕ, List, IsTrue, sym, ap, subst}
use Rattle.pages.specs.Map.{PageMap, page_at, with_page, written_over}
use Rattle.tree_store.proofs.RewrittenPages.{CanRewrite, rewritten_on}
use Rattle.tree_store.proofs.storing.rewrite_on.Goals as goal

pub returns-clause-rewritten : goal.returns-clause-rewritten
returns-clause-rewritten g c = λ told.
    (let pages = g.P.Pages in
    let old = c.args.pages.now in
    let base = pages.map old in
    let size = (pages.limits (pages.below old)).page in
    let number = c.args.number in
    let payload = c.args.payload.now in
    let at = c.in-Some.at in
    let page = page_at base number in
    let new = pages.map c.write_over.new.self in
    let stays = c.in_ok-load.ensures.stays in
    let bytes : c.loaded.result.now ≡ page = c.loaded.ensures ∙ c.in_ok-load.ensures.bytes told in
    let can = subst (λ (n : ℕ). CanRewrite page n c.args.place payload at) c.start_at.ensures (subst (λ (l : List ℕ). CanRewrite l c.start_at.result c.args.place payload at) bytes c.in-Some.ensures.rewritten) in
    let told_read = subst (λ k. IsTrue (pages.tells k)) (sym stays.kept) told in
    let written : new ≡ with_page base number (written_over at payload page) = c.in_ok-write_over.ensures.done told_read
    ∙ ap (λ (m : PageMap). with_page m number (written_over at payload (page_at m number))) stays.same in
    rewritten_on base new size number c.args.place payload at can written)
