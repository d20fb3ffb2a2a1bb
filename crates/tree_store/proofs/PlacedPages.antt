-- A cell is put on a page in parts, each written over the page: cell, pointers, header, and the first bytes of a freeblock.
use Rattle.std.proofs.Common.{◌≡◌, ℕ, ◌+◌, ◌-◌, ◌≤◌, List, ◌++◌, length, length-append, take, drop, sym, ap, subst, refl, ◌∙◌, arith}
use Rattle.std.proofs.lemmas.Grind.{common_steps}
use Rattle.std.proofs.lemmas.List.{set-set, length-set, length-take-le, length-drop}
use Rattle.std.specs.Int.{w16, to_be_bytes}
use Rattle.std.specs.List.{insert}
use Rattle.std.specs.Prelude.{true, Option, None, Some, Ok, IfSome}
use Rattle.pages.specs.Counting.{start_of}
use Rattle.pages.specs.Map.{PageMap, page_at, with_page, written_over, Has, IsThere}
use Rattle.tree_page.specs.Node.{Say}
use Rattle.tree_pack.specs.Freeing.{IsHeadOn, with_head}
use Rattle.tree_pack.specs.Placing.{IsRoomOn, PlacesAt, placed_at}
use Rattle.tree_pack.specs.declared.freeing.FreeblockHead.{FreeblockHead}
use Rattle.tree_pack.specs.declared.placing.CellRoom.{CellRoom}
use Rattle.tree_store.specs.Steps.{EndsOnPage, headed}
use Rattle.tree_store.specs.Storing.{IsRewritten, PlacesOn}
use Rattle.tree_store.proofs.PutPages.{put_there, is_put}

pub start_le : (n : ℕ) → start_of n ≤ 100
start_le n = grind (arith, common_steps)

-- ---- writing over a part of a page

pub over_long : (offset : ℕ) (bytes page : List ℕ) → offset + length bytes ≤ length page → length (written_over offset bytes page) ≡ length page
over_long offset bytes page le =
    let before = length-take-le offset page (omega (arith, le)) in
    let after = length-drop (offset + length bytes) page in
    let both = length-append bytes (drop (offset + length bytes) page) in
    let all = length-append (take offset page) (bytes ++ drop (offset + length bytes) page) in
    omega (arith, before, after, both, all, le)

-- what is written over a page that was written
pub over_written : (map mid : PageMap) (number offset : ℕ) (bytes page : List ℕ) → Has map number → mid ≡ with_page map number page
    → with_page mid number (written_over offset bytes (page_at mid number)) ≡ with_page map number (written_over offset bytes page)
over_written map mid number offset bytes page has is =
    subst (λ (m : PageMap). with_page m number (written_over offset bytes (page_at m number)) ≡ with_page map number (written_over offset bytes page)) (sym is)
    (ap (λ (l : List ℕ). with_page (with_page map number page) number (written_over offset bytes l)) (put_there map number page has) ∙ set-set map (number - 1) page (written_over offset bytes page))

pub still_there : (map mid : PageMap) (size number : ℕ) (page : List ℕ) → Has map number → length page ≡ size → mid ≡ with_page map number page → IsThere mid size number
still_there map mid size number page has sized is = subst (λ (m : PageMap). IsThere m size number) (sym is) (record {
  has = record { first = has.first; last = (let same = length-set map (number - 1) page in let last = has.last in omega (arith, same, last)) };
  whole = ap length (put_there map number page has) ∙ sized;
})

-- ---- the first bytes of a freeblock

pub headed_is : (map mid : PageMap) (number : ℕ) (page : List ℕ) → Has map number → mid ≡ with_page map number page → (head : Option FreeblockHead) → headed mid number head ≡ with_page map number (with_head head page)
headed_is map mid number page has is None = is
headed_is map mid number page has is (Some head) = over_written map mid number head.at head.bytes page has is

pub head_long : (page now : List ℕ) → length now ≡ length page → (end : ℕ) (head : Option FreeblockHead) → IfSome head (IsHeadOn end page) → length (with_head head now) ≡ length page
head_long page now same end None on = same
head_long page now same end (Some head) on = (let four = on.four in let within = on.within in over_long head.at head.bytes now (omega (arith, four, within, same)) ∙ same)

pub head_fits : (map : PageMap) (size number end : ℕ) (head : Option FreeblockHead) → IfSome head (IsHeadOn end (page_at map number)) → IsThere map size number → EndsOnPage size head
head_fits map size number end None on there = on
head_fits map size number end (Some head) on there = (let four = on.four in let within = on.within in let whole = there.whole in omega (arith, four, within, whole))

-- ---- the parts

module _ (map : PageMap) (size number : ℕ) (cell : List ℕ) (room : CellRoom) (on : IsRoomOn (page_at map number) (start_of number) (length cell) room) where
  abbrev pointers : List ℕ
  pointers = to_be_bytes w16 room.at ++ take (room.end - room.pointer) (drop room.pointer (page_at map number))

  abbrev one : List ℕ
  one = written_over room.at cell (page_at map number)

  abbrev two : List ℕ
  two = written_over room.pointer pointers one

  abbrev three : List ℕ
  three = written_over (start_of number + 1) room.header two

  one_long : length one ≡ length (page_at map number)
  one_long = over_long room.at cell (page_at map number) on.within

  pointers_fit : room.pointer + length pointers ≤ length (page_at map number)
  pointers_fit =
      let upto = on.upto in
      let between = on.between in
      let within = on.within in
      let left = length-drop room.pointer (page_at map number) in
      let middle = length-take-le (room.end - room.pointer) (drop room.pointer (page_at map number)) (omega (arith, left, upto, between, within)) in
      let pointer : length (to_be_bytes w16 room.at) ≡ 2 = refl in
      let both = length-append (to_be_bytes w16 room.at) (take (room.end - room.pointer) (drop room.pointer (page_at map number))) in
      omega (arith, upto, between, within, middle, pointer, both)

  two_long : length two ≡ length (page_at map number)
  two_long = (let long = one_long in let fit = pointers_fit in over_long room.pointer pointers one (omega (arith, long, fit)) ∙ long)

  header_fits : start_of number + 1 + length room.header ≤ length (page_at map number)
  header_fits = (let after = on.after in let upto = on.upto in let between = on.between in let within = on.within in let seven = on.seven in omega (arith, after, upto, between, within, seven))

  three_long : length three ≡ length (page_at map number)
  three_long = (let long = two_long in let fit = header_fits in over_long (start_of number + 1) room.header two (omega (arith, long, fit)) ∙ long)

  pub cell_fits : IsThere map size number → room.at + length cell ≤ size
  cell_fits there = (let within = on.within in let whole = there.whole in omega (arith, within, whole))

  -- behind the cell its pointer can be written
  pub pointers_next : IsThere map size number → (mid : PageMap) → mid ≡ with_page map number one → IsThere mid size number × (room.pointer + length pointers ≤ size)
  pointers_next there mid is = (
    still_there map mid size number one there.has (one_long ∙ there.whole) is,
    (let fit = pointers_fit in let whole = there.whole in omega (arith, fit, whole)),
  )

  two_is : Has map number → (mid last : PageMap) → mid ≡ with_page map number one → last ≡ with_page mid number (written_over room.pointer pointers (page_at mid number)) → last ≡ with_page map number two
  two_is has mid last is then_is = then_is ∙ over_written map mid number room.pointer pointers one has is

  -- and behind that the header
  pub header_next : IsThere map size number → (mid last : PageMap) → mid ≡ with_page map number one → last ≡ with_page mid number (written_over room.pointer pointers (page_at mid number))
      → IsThere last size number × (start_of number + 1 + length room.header ≤ size)
  header_next there mid last is then_is = (
    still_there map last size number two there.has (two_long ∙ there.whole) (two_is there.has mid last is then_is),
    (let fit = header_fits in let whole = there.whole in omega (arith, fit, whole)),
  )

  three_is : Has map number → (mid last then : PageMap) → mid ≡ with_page map number one → last ≡ with_page mid number (written_over room.pointer pointers (page_at mid number))
      → then ≡ with_page last number (written_over (start_of number + 1) room.header (page_at last number)) → then ≡ with_page map number three
  three_is has mid last then is then_is next_is = next_is ∙ over_written map last number (start_of number + 1) room.header two has (two_is has mid last is then_is)

  -- and then the freeblock
  pub head_next : IsThere map size number → (mid last then : PageMap) → mid ≡ with_page map number one → last ≡ with_page mid number (written_over room.pointer pointers (page_at mid number))
      → then ≡ with_page last number (written_over (start_of number + 1) room.header (page_at last number)) → IsThere then size number × EndsOnPage size room.head
  head_next there mid last then is then_is next_is = (
    still_there map then size number three there.has (three_long ∙ there.whole) (three_is there.has mid last then is then_is next_is),
    head_fits map size number (room.end + 2) room.head on.chain there,
  )

  -- all are the page with the cell
  pub all_written : Has map number → (mid last then new : PageMap) → mid ≡ with_page map number one → last ≡ with_page mid number (written_over room.pointer pointers (page_at mid number))
      → then ≡ with_page last number (written_over (start_of number + 1) room.header (page_at last number)) → new ≡ headed then number room.head → new ≡ with_page map number (placed_at room (start_of number) cell (page_at map number))
  all_written has mid last then new is then_is next_is now_is = now_is ∙ headed_is map then number three has (three_is has mid last then is then_is next_is) room.head

-- ---- what became of the page

-- the cell has its place
pub placed_on : (old new : PageMap) (size number place : ℕ) (cell : List ℕ) (room : CellRoom) → PlacesAt (page_at old number) (start_of number) place cell (Some room)
    → (IsThere old size number → new ≡ with_page old number (placed_at room (start_of number) cell (page_at old number))) → PlacesOn old new size number place cell (Ok true)
placed_on old new size number place cell room at written free are has none was now is near le same last say =
    let page = page_at old number in
    let whole = are.whole number has in
    let image = placed_at room (start_of number) cell page in
    let placed = at was now is (omega (arith, whole, near)) (start_le number) le same last (subst (λ (n : ℕ). Say n (insert is.cells place cell) now) (sym whole) say) in (
      image,
      placed,
      subst (λ (m : PageMap). IsRewritten old m size free number image) (sym (written (record { has = has; whole = whole })))
          (is_put old size free number image are has none (record { sized = placed.long ∙ whole; front = placed.front })),
    )
