use Rattle.std.proofs.Common.{◌≡◌, ℕ, ◌+◌, ◌-◌, ◌++◌, List, [], ◌∷◌, take, drop, IsTrue, sym, ap, subst, ◌∙◌}
use Rattle.std.specs.Prelude.{Some, Ok}
use Rattle.pages.specs.Counting.{start_of}
use Rattle.pages.specs.Map.{PageMap, page_at, with_page, written_over}
use Rattle.tree_pack.specs.Removing.{IsCutOn, CutsAt}
use Rattle.tree_store.proofs.CutPages.{all_cut, block_next, chain_next, taken_off}
use Rattle.tree_store.specs.Steps.{WritesHead}
use Rattle.tree_store.proofs.storing.take_off.Goals as goal

pub returns-clause-taken : goal.returns-clause-taken
returns-clause-taken g c = λ told.
    (let pages = g.P.Pages in
    let old = c.args.pages.now in
    let base = pages.map old in
    let size = (pages.limits (pages.below old)).page in
    let number = c.args.number in
    let cut = c.in-Some.cut in
    let page = page_at base number in
    let mid = pages.map c.write_over.new.self in
    let last = pages.map c.write_over-2.new.self in
    let then = pages.map c.write_head.new.pages in
    let new = pages.map c.write_head-2.new.pages in
    let stays = c.in_ok-load.ensures.stays in
    let bytes : c.loaded-page.result.now ≡ page = c.loaded-page.ensures ∙ c.in_ok-load.ensures.bytes told in
    let on = subst (λ (n : ℕ). IsCutOn page n cut) c.start_at-start.ensures (subst (λ (l : List ℕ). IsCutOn l c.start_at-start.result cut) bytes c.in-Some.ensures.on_page) in
    let at = subst (λ (n : ℕ). CutsAt page n c.args.place (Some cut)) c.start_at-start.ensures (subst (λ (l : List ℕ). CutsAt l c.start_at-start.result c.args.place (Some cut)) bytes c.in-Some.ensures.cut) in
    let told_read = subst (λ k. IsTrue (pages.tells k)) (sym stays.kept) told in
    let told_mid = subst (λ k. IsTrue (pages.tells k)) (sym c.in_ok-write_over.ensures.kept) told_read in
    let told_last = subst (λ k. IsTrue (pages.tells k)) (sym c.in_ok-write_over-2.ensures.kept) told_mid in
    let pointers = take (cut.end - (cut.pointer + 2)) (drop (cut.pointer + 2) page) ++ (0 ∷ 0 ∷ []) in
    let pointers_are : c.as_slice.result.now ≡ pointers = c.as_slice.ensures.value ∙ c.in_ok-pointers.ensures.are
    ∙ ap (λ (l : List ℕ). take (cut.end - (cut.pointer + 2)) (drop (cut.pointer + 2) l) ++ (0 ∷ 0 ∷ [])) bytes in
    let one : mid ≡ with_page base number (written_over cut.pointer pointers page) = c.in_ok-write_over.ensures.done told_read
    ∙ ap (λ (m : PageMap). with_page m number (written_over cut.pointer c.as_slice.result.now (page_at m number))) stays.same
    ∙ ap (λ (l : List ℕ). with_page base number (written_over cut.pointer l page)) pointers_are in
    let two : last ≡ with_page mid number (written_over (start_of number + 1) cut.header (page_at mid number)) = c.in_ok-write_over-2.ensures.done told_mid
    ∙ ap (λ (n : ℕ). with_page mid number (written_over (n + 1) cut.header (page_at mid number))) c.start_at-start.ensures in
    let kept_last = c.in_ok-write_over-2.ensures.kept ∙ c.in_ok-write_over.ensures.kept ∙ stays.kept in
    let kept_then = c.in_ok-write_head.ensures.kept ∙ kept_last in
    let told_then = subst (λ k. IsTrue (pages.tells k)) (sym kept_then) told in
    let three = subst (λ k. WritesHead last then (pages.limits k).page number cut.block (Ok _)) kept_last (c.in_ok-write_head.ensures.written (subst (λ k. IsTrue (pages.tells k)) (sym kept_last) told)) in
    let four = subst (λ k. WritesHead then new (pages.limits k).page number cut.before (Ok _)) kept_then (c.in_ok-write_head-2.ensures.written told_then) in
    taken_off base new size number c.args.place cut at (λ there.
    (let block = block_next base size number cut on there mid last one two in
    let three_is = three block.0 block.1 in
    let chain = chain_next base size number cut on there mid last then one two three_is in
    all_cut base size number cut on there.has mid last then new one two three_is (four chain.0 chain.1))))
