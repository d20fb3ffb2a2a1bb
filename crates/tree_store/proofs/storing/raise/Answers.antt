use Rattle.std.proofs.Common.{◌≡◌, ◌∙◌, List, ℕ, length, map, take, ap, subst, arith}
use Rattle.std.specs.Int.{w32, to_be_bytes}
use Rattle.tree_pack.specs.Building.{page_of}
use Rattle.pages.specs.Counting.{start_of}
use Rattle.pages.specs.Map.{IsThere, page_at}
use Rattle.tree_store.specs.Storing.{Rewrites, cells_of}
use Rattle.tree_store.proofs.RaisedPages.{raised_or, puts_after}
use Rattle.tree_store.proofs.storing.raise.Goals as goal

pub returns-clause-raised : goal.returns-clause-raised
returns-clause-raised g c = λ told free are has none interior fits.
    (let pages = g.P.Pages in
    let old = c.args.pages.now in
    let mid = c.front_of.new.pages in
    let new = pages.map c.put_node.new.pages in
    let size = (pages.limits (pages.below old)).page in
    let root = c.args.root in
    let last = c.args.fan.now.last in
    let page = c.in_ok-page.page.items in
    let front = c.as_slice-2.result.now in
    let stays = c.in_ok-front.ensures.stays in
    let room = fits.room in
    let there : IsThere (pages.map old) size root = record { has = has; whole = are.whole root has } in
    let front_is : front ≡ take (start_of root) (page_at (pages.map old) root) = c.as_slice-2.ensures.value ∙ c.in_ok-front.ensures.found told there (omega (arith, room)) in
    let size_is : c.page_size-size.result ≡ size = c.page_size-size.ensures ∙ ap (λ k. (pages.limits k).page) stays.kept in
    let put = puts_after pages.below pages.tells pages.limits old mid (pages.map old) (pages.map mid) new root c.as_slice-4.result.now c.put_node.result stays.kept stays.same c.put_node.ensures.rewritten told in
    let puts = subst (λ (l : List ℕ). Rewrites (pages.map old) new size root l c.put_node.result) c.as_slice-4.ensures.value put in
    let cells_are = ap (map (λ slice. slice.now)) c.as_slice-3.ensures.value ∙ c.in_ok-cells.ensures.are ∙ ap (map (λ cell. cell.items)) c.as_slice.ensures.value in
    raised_or (pages.map old) new size root c.args.kind free last front page (map (λ slice. slice.now) c.as_slice-3.result.now) (cells_of c.args.fan.now) c.put_node.result are has none front_is
    (ap length c.as_slice-2.ensures.value ∙ c.in_ok-front.ensures.long) (c.in_ok-page.ensures.size ∙ size_is)
    (c.in_ok-page.ensures.exact ∙ ap (λ (n : ℕ). page_of front n c.args.kind (to_be_bytes w32 last) (map (λ slice. slice.now) c.as_slice-3.result.now)) size_is) c.in_ok-page.ensures.is cells_are puts)
