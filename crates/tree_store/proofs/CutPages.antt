-- A cell is taken off a page in parts, each written over the page: pointers, header, and the first bytes of freeblocks.
use Rattle.std.proofs.Common.{◌≡◌, ℕ, ◌+◌, ◌-◌, ◌≤◌, List, [], ◌∷◌, ◌++◌, length, length-append, take, drop, sym, subst, ◌∙◌, arith}
use Rattle.std.proofs.lemmas.List.{length-take-le, length-drop}
use Rattle.std.specs.Prelude.{true, Some, Ok}
use Rattle.pages.specs.Counting.{start_of}
use Rattle.pages.specs.Map.{PageMap, page_at, with_page, written_over, Has, IsThere}
use Rattle.tree_page.specs.Node.{Say}
use Rattle.tree_pack.specs.Freeing.{with_head}
use Rattle.tree_pack.specs.Removing.{IsCutOn, CutsAt, cut_at}
use Rattle.tree_pack.specs.Splicing.{spliced, IsUsual}
use Rattle.tree_pack.specs.declared.removing.CellCut.{CellCut}
use Rattle.tree_store.specs.Steps.{EndsOnPage, headed}
use Rattle.tree_store.specs.Storing.{IsRewritten, TakesOff}
use Rattle.tree_store.proofs.PlacedPages.{head_fits, head_long, headed_is, start_le, over_long, over_written, still_there}
use Rattle.tree_store.proofs.PutPages.{is_put}

-- ---- the parts

module _ (map : PageMap) (size number : ℕ) (cut : CellCut) (on : IsCutOn (page_at map number) (start_of number) cut) where
  abbrev pointers : List ℕ
  pointers = take (cut.end - (cut.pointer + 2)) (drop (cut.pointer + 2) (page_at map number)) ++ (0 ∷ 0 ∷ [])

  abbrev one : List ℕ
  one = written_over cut.pointer pointers (page_at map number)

  abbrev two : List ℕ
  two = written_over (start_of number + 1) cut.header one

  pointers_fit : cut.pointer + length pointers ≤ length (page_at map number)
  pointers_fit =
      let before = on.before in
      let within = on.within in
      let left = length-drop (cut.pointer + 2) (page_at map number) in
      let middle = length-take-le (cut.end - (cut.pointer + 2)) (drop (cut.pointer + 2) (page_at map number)) (omega (arith, left, before, within)) in
      let both = length-append (take (cut.end - (cut.pointer + 2)) (drop (cut.pointer + 2) (page_at map number))) (0 ∷ 0 ∷ []) in
      omega (arith, before, within, middle, both)

  one_long : length one ≡ length (page_at map number)
  one_long = over_long cut.pointer pointers (page_at map number) pointers_fit

  header_fits : start_of number + 1 + length cut.header ≤ length (page_at map number)
  header_fits = (let behind = on.behind in let before = on.before in let within = on.within in let seven = on.head in omega (arith, behind, before, within, seven))

  two_long : length two ≡ length (page_at map number)
  two_long = (let long = one_long in let fit = header_fits in over_long (start_of number + 1) cut.header one (omega (arith, long, fit)) ∙ long)

  pub first_fits : IsThere map size number → cut.pointer + length pointers ≤ size
  first_fits there = (let fit = pointers_fit in let whole = there.whole in omega (arith, fit, whole))

  -- after the pointers the header can be written
  pub header_next : IsThere map size number → (mid : PageMap) → mid ≡ with_page map number one → IsThere mid size number × (start_of number + 1 + length cut.header ≤ size)
  header_next there mid is = (
    still_there map mid size number one there.has (one_long ∙ there.whole) is,
    (let fit = header_fits in let whole = there.whole in omega (arith, fit, whole)),
  )

  twice : Has map number → (mid last : PageMap) → mid ≡ with_page map number one → last ≡ with_page mid number (written_over (start_of number + 1) cut.header (page_at mid number)) → last ≡ with_page map number two
  twice has mid last is then_is = then_is ∙ over_written map mid number (start_of number + 1) cut.header one has is

  -- and after that the freeblock
  pub block_next : IsThere map size number → (mid last : PageMap) → mid ≡ with_page map number one → last ≡ with_page mid number (written_over (start_of number + 1) cut.header (page_at mid number)) → IsThere last size number × EndsOnPage size cut.block
  block_next there mid last is then_is = (still_there map last size number two there.has (two_long ∙ there.whole) (twice there.has mid last is then_is), head_fits map size number cut.end cut.block on.block there)

  three_is : Has map number → (mid last then : PageMap) → mid ≡ with_page map number one → last ≡ with_page mid number (written_over (start_of number + 1) cut.header (page_at mid number)) → then ≡ headed last number cut.block → then ≡ with_page map number (with_head cut.block two)
  three_is has mid last then is then_is next_is = next_is ∙ headed_is map last number two has (twice has mid last is then_is) cut.block

  three_long : length (with_head cut.block two) ≡ length (page_at map number)
  three_long = head_long (page_at map number) two two_long cut.end cut.block on.block

  -- and then the one before it
  pub chain_next : IsThere map size number → (mid last then : PageMap) → mid ≡ with_page map number one → last ≡ with_page mid number (written_over (start_of number + 1) cut.header (page_at mid number)) → then ≡ headed last number cut.block
      → IsThere then size number × EndsOnPage size cut.before
  chain_next there mid last then is then_is next_is = (
    still_there map then size number (with_head cut.block two) there.has (three_long ∙ there.whole) (three_is there.has mid last then is then_is next_is),
    head_fits map size number cut.end cut.before on.chain there,
  )

  -- these are the page without the cell
  pub all_cut : Has map number → (mid last then new : PageMap) → mid ≡ with_page map number one → last ≡ with_page mid number (written_over (start_of number + 1) cut.header (page_at mid number)) → then ≡ headed last number cut.block → new ≡ headed then number cut.before
      → new ≡ with_page map number (cut_at cut (start_of number) (page_at map number))
  all_cut has mid last then new is then_is next_is now_is = now_is ∙ headed_is map then number (with_head cut.block two) has (three_is has mid last then is then_is next_is) cut.before

-- ---- what became of the page

-- the cell is gone
pub taken_off : (old new : PageMap) (size number place : ℕ) (cut : CellCut) → CutsAt (page_at old number) (start_of number) place (Some cut)
    → (IsThere old size number → new ≡ with_page old number (cut_at cut (start_of number) (page_at old number))) → TakesOff old new size number place (Ok true)
taken_off old new size number place cut at written free are has none was now is least near lt same last say =
    let page = page_at old number in
    let whole = are.whole number has in
    let image = cut_at cut (start_of number) page in
    let usual : IsUsual page (start_of number) = record { least = omega (arith, whole, least); addressed = omega (arith, whole, near); near = start_le number } in
    let removed = at was now is usual (omega (arith, lt)) same last (subst (λ (n : ℕ). Say n (spliced place 1 [] is.cells) now) (sym whole) say) in
    let placed = removed.0 in
    let some = removed.1 in (
      (
        image,
        placed,
        subst (λ (m : PageMap). IsRewritten old m size free number image) (sym (written (record { has = has; whole = whole }))) (is_put old size free number image are has none (record { sized = placed.long ∙ whole; front = placed.front })),
      ),
      λ taken. some,
    )
