use Rattle.std.proofs.Common.{◌≡◌, ℕ, ◌+◌, ◌-◌, ◌++◌, List, length, take, drop, IsTrue, sym, ap, subst, ◌∙◌}
use Rattle.std.specs.Int.{w16, to_be_bytes}
use Rattle.std.specs.Prelude.{Some, Ok}
use Rattle.pages.specs.Counting.{start_of}
use Rattle.pages.specs.Map.{PageMap, page_at, with_page, written_over}
use Rattle.tree_pack.specs.Placing.{IsRoomOn, PlacesAt}
use Rattle.tree_store.proofs.PlacedPages.{all_written, head_next, placed_on}
use Rattle.tree_store.specs.Steps.{WritesHead}
use Rattle.tree_store.proofs.storing.place_on.Goals as goal

pub returns-clause-placed : goal.returns-clause-placed
returns-clause-placed g c = λ told.
    (let pages = g.P.Pages in
    let old = c.args.pages.now in
    let base = pages.map old in
    let size = (pages.limits (pages.below old)).page in
    let number = c.args.number in
    let cell = c.args.cell.now in
    let room = c.in-Some.room in
    let page = page_at base number in
    let mid = pages.map c.write_over.new.self in
    let last = pages.map c.write_over-2.new.self in
    let then = pages.map c.write_over-3.new.self in
    let new = pages.map c.write_head.new.pages in
    let stays = c.in_ok-load.ensures.stays in
    let bytes : c.loaded-page.result.now ≡ page = c.loaded-page.ensures ∙ c.in_ok-load.ensures.bytes told in
    let on = subst (λ (n : ℕ). IsRoomOn page n (length cell) room) c.start_at-start.ensures (subst (λ (l : List ℕ). IsRoomOn l c.start_at-start.result (length cell) room) bytes c.in-Some.ensures.room) in
    let at = subst (λ (n : ℕ). PlacesAt page n c.args.place cell (Some room)) c.start_at-start.ensures (subst (λ (l : List ℕ). PlacesAt l c.start_at-start.result c.args.place cell (Some room)) bytes c.in-Some.ensures.placed) in
    let told_read = subst (λ k. IsTrue (pages.tells k)) (sym stays.kept) told in
    let told_mid = subst (λ k. IsTrue (pages.tells k)) (sym c.in_ok-write_over.ensures.kept) told_read in
    let told_last = subst (λ k. IsTrue (pages.tells k)) (sym c.in_ok-write_over-2.ensures.kept) told_mid in
    let pointers = to_be_bytes w16 room.at ++ take (room.end - room.pointer) (drop room.pointer page) in
    let pointers_are : c.as_slice.result.now ≡ pointers = c.as_slice.ensures.value ∙ c.in_ok-pointers.ensures.are
    ∙ ap (λ (l : List ℕ). to_be_bytes w16 room.at ++ take (room.end - room.pointer) (drop room.pointer l)) bytes in
    let one : mid ≡ with_page base number (written_over room.at cell page) = c.in_ok-write_over.ensures.done told_read
    ∙ ap (λ (m : PageMap). with_page m number (written_over c.from.result cell (page_at m number))) stays.same
    ∙ ap (λ (n : ℕ). with_page base number (written_over n cell page)) c.from.ensures in
    let two : last ≡ with_page mid number (written_over room.pointer pointers (page_at mid number)) = c.in_ok-write_over-2.ensures.done told_mid
    ∙ ap (λ (l : List ℕ). with_page mid number (written_over room.pointer l (page_at mid number))) pointers_are in
    let three : then ≡ with_page last number (written_over (start_of number + 1) room.header (page_at last number)) = c.in_ok-write_over-3.ensures.done told_last
    ∙ ap (λ (n : ℕ). with_page last number (written_over (n + 1) room.header (page_at last number))) c.start_at-start.ensures in
    let kept_then = c.in_ok-write_over-3.ensures.kept ∙ c.in_ok-write_over-2.ensures.kept ∙ c.in_ok-write_over.ensures.kept ∙ stays.kept in
    let four = subst (λ k. WritesHead then new (pages.limits k).page number room.head (Ok _)) kept_then (c.in_ok-write_head.ensures.written (subst (λ k. IsTrue (pages.tells k)) (sym kept_then) told)) in
    placed_on base new size number c.args.place cell room at (λ there.
    (let head = head_next base size number cell room on there mid last then one two three in
    all_written base size number cell room on there.has mid last then new one two three (four head.0 head.1))))
