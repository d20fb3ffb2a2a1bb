use Rattle.std.proofs.Common.{rules, ◌≡◌, ◌∙◌, ◌≤◌, ℕ, List, length, sym, ap, subst, slice_index_or, arith}
use Rattle.pages.specs.Map.{PageMap}
use Rattle.tree_overflow.specs.Calls.{Frees, IsFreed}
use Rattle.tree_overflow.proofs.ReadChains.{matched}
use Rattle.tree_page.specs.Node.{Local}
use Rattle.tree_page.specs.Payload.{index_most}
use Rattle.tree_page.specs.Reading.{local_of}
use Rattle.tree_index.specs.Calls.{AreGivenBack}
use Rattle.tree_index.specs.Comparing.{locals_of}
use Rattle.tree_index.specs.Tree.{IsHeldAs}
use Rattle.tree_index.proofs.Givings.{none_given, no_pages, chain_given}
use Rattle.tree_index.proofs.Readings.{says_it, since}
use Rattle.tree_index.proofs.freeing.free_entry.Goals as goal

pub returns-in-Err-clause-freed : goal.returns-in-Err-clause-freed
returns-in-Err-clause-freed g c = λ told node d held free says ours lt is are first once.
    (let pages = g.P.Pages.map c.args.pages.now in
    let on = says_it pages c.args.number c.loaded.result.now node says (c.loaded.ensures ∙ c.in_ok-load.ensures.bytes told) in
    absurd (c.in-Err.ensures.only node d on ours lt))

pub returns-then-size-most-clause-freed : goal.returns-then-size-most-clause-freed
returns-then-size-most-clause-freed g c = λ told node d held free says ours lt is are first once.
    (let gs = g.P.Pages in
    let pages = gs.map c.args.pages.now in
    let size = (gs.limits (gs.below c.args.pages.now)).page in
    let stays = c.in_ok-load.ensures.stays in
    let on = says_it pages c.args.number c.loaded.result.now node says (c.loaded.ensures ∙ c.in_ok-load.ensures.bytes told) in
    let local : local_of c.in-Ok.local ≡ slice_index_or (locals_of node) c.args.place d = c.in-Ok.ensures.only node d on ours lt in
    let it = subst (λ (item : Local). IsHeldAs pages size item held) (sym local) is in
    let most : c.most_in-most.result ≡ index_most size = c.most_in-most.ensures ∙ ap index_most (c.page_size.ensures ∙ ap (λ k. (gs.limits k).page) stays.kept) in
    let le : length held.payload ≤ index_most size = omega (arith, it.size, c.if-size-most.true, most) in
    subst (λ (m : PageMap). AreGivenBack pages m size held.pages free) (sym stays.same)
    (subst (λ (chain : List ℕ). AreGivenBack pages pages size chain free) (sym (no_pages pages size (index_most size) _ held.payload held.pages it.payload le)) (none_given pages size free are)))

pub returns-clause-freed : goal.returns-clause-freed
returns-clause-freed g c = λ told node d held free says ours lt is are first once.
    (let gs = g.P.Pages in
    let pages = gs.map c.args.pages.now in
    let new = gs.map c.free_chain.new.pages in
    let size = (gs.limits (gs.below c.args.pages.now)).page in
    let stays = c.in_ok-load.ensures.stays in
    let on = says_it pages c.args.number c.loaded.result.now node says (c.loaded.ensures ∙ c.in_ok-load.ensures.bytes told) in
    let local : local_of c.in-Ok.local ≡ slice_index_or (locals_of node) c.args.place d = c.in-Ok.ensures.only node d on ours lt in
    let it = subst (λ (item : Local). IsHeldAs pages size item held) (sym local) is in
    let bytes : c.as_slice.result.now ≡ c.in-Ok.local.bytes.now = search rules in
    let most : c.most_in-most.result ≡ index_most size = c.most_in-most.ensures ∙ ap index_most (c.page_size.ensures ∙ ap (λ k. (gs.limits k).page) stays.kept) in
    let frees = subst (λ (l : List ℕ). Frees pages new size (index_most size) l c.in-Ok.local.size c.free_chain.result) bytes
    (subst (λ (n : ℕ). Frees pages new size n c.as_slice.result.now c.in-Ok.local.size c.free_chain.result) most
    (since gs.below gs.tells gs.limits gs.map (λ (m : PageMap) (n : ℕ). Frees m new n c.most_in-most.result c.as_slice.result.now c.in-Ok.local.size c.free_chain.result) c.args.pages.now c.load.new.self stays.kept stays.same c.free_chain.ensures.freed told)) in
    matched (IsFreed pages new size held.pages free) (AreGivenBack pages new size held.pages free) c.free_chain.result (chain_given pages new size (index_most size) _ held.payload held.pages free are first once it.payload)
    (frees held.payload held.pages free are once it.payload (sym it.size)))
