use Rattle.std.proofs.Common.{rules, ◌≡◌, ◌∙◌, ◌≤◌, ◌-◌, ℕ, ℤ, List, IsTrue, length, sym, ap, subst, slice_index_or, arith}
use Rattle.pages.specs.Map.{PageMap}
use Rattle.tree_overflow.specs.Calls.{Frees, IsFreed}
use Rattle.tree_overflow.proofs.ReadChains.{matched}
use Rattle.tree_page.specs.Node.{Local, Rows}
use Rattle.tree_page.specs.Payload.{table_most}
use Rattle.tree_page.specs.Reading.{row_of}
use Rattle.tree_table.specs.Freeing.{AreGivenBack}
use Rattle.tree_table.specs.Tree.{IsHeldAs}
use Rattle.tree_table.proofs.Givings.{none_given, no_pages, chain_given}
use Rattle.tree_table.proofs.Pieces.{says_it}
use Rattle.tree_table.proofs.freeing.free_row.Goals as goal

pub returns-then-size-most-clause-freed : goal.returns-then-size-most-clause-freed
returns-then-size-most-clause-freed g c = λ told said d held free says lt is are first once.
    (let gs = g.P.Pages in
    let pages = gs.map c.args.pages.now in
    let size = (gs.limits (gs.below c.args.pages.now)).page in
    let stays = c.in_ok-load.ensures.stays in
    let node = says_it pages c.args.leaf c.loaded.result.now (Rows said) says (c.loaded.ensures ∙ c.in_ok-load.ensures.bytes told) in
    let row : row_of c.in-Ok.row ≡ slice_index_or said c.args.place d = c.in-Ok.ensures.only said d node lt in
    let it = subst (λ (item : ℤ × Local). IsHeldAs pages size item held) (sym row) is in
    let kept = ap (λ k. (gs.limits k).page) stays.kept in
    let le : length held.row.payload ≤ table_most size = omega (arith, it.size, c.if-size-most.true, c.saturating_sub-most.ensures, c.page_size.ensures, kept) in
    subst (λ (m : PageMap). AreGivenBack pages m size held.pages free) (sym stays.same)
    (subst (λ (chain : List ℕ). AreGivenBack pages pages size chain free) (sym (no_pages pages size _ held.row.payload held.pages it.payload le)) (none_given pages size free are)))

pub returns-clause-freed : goal.returns-clause-freed
returns-clause-freed g c = λ told said d held free says lt is are first once.
    (let gs = g.P.Pages in
    let pages = gs.map c.args.pages.now in
    let new = gs.map c.free_chain.new.pages in
    let size = (gs.limits (gs.below c.args.pages.now)).page in
    let stays = c.in_ok-load.ensures.stays in
    let node = says_it pages c.args.leaf c.loaded.result.now (Rows said) says (c.loaded.ensures ∙ c.in_ok-load.ensures.bytes told) in
    let row : row_of c.in-Ok.row ≡ slice_index_or said c.args.place d = c.in-Ok.ensures.only said d node lt in
    let it = subst (λ (item : ℤ × Local). IsHeldAs pages size item held) (sym row) is in
    let told_mid = subst (λ k. IsTrue (gs.tells k)) (sym stays.kept) told in
    let bytes : c.as_slice.result.now ≡ c.in-Ok.row.payload.bytes.now = search rules in
    let most : c.saturating_sub-most.result ≡ table_most size = c.saturating_sub-most.ensures ∙ ap (λ (n : ℕ). n - 35) c.page_size.ensures ∙ ap (λ k. (gs.limits k).page - 35) stays.kept in
    let frees = subst (λ (l : List ℕ). Frees pages new size (table_most size) l c.in-Ok.row.payload.size c.free_chain.result) bytes
    (subst (λ (n : ℕ). Frees pages new size n c.as_slice.result.now c.in-Ok.row.payload.size c.free_chain.result) most
    (subst (λ k. Frees pages new (gs.limits k).page c.saturating_sub-most.result c.as_slice.result.now c.in-Ok.row.payload.size c.free_chain.result) stays.kept
    (subst (λ (m : PageMap). Frees m new (gs.limits (gs.below c.load.new.self)).page c.saturating_sub-most.result c.as_slice.result.now c.in-Ok.row.payload.size c.free_chain.result) stays.same
    (c.free_chain.ensures.freed told_mid)))) in
    matched (IsFreed pages new size held.pages free) (AreGivenBack pages new size held.pages free) c.free_chain.result (chain_given pages new size _ held.row.payload held.pages free are first once it.payload)
    (frees held.row.payload held.pages free are once it.payload (sym it.size)))
