use Rattle.std.proofs.Common.{rules, ◌≡◌, ◌+◌, length, subst, arith}
use Rattle.tree_pack.specs.Freeing.{AreClear}
use Rattle.tree_pack.proofs.SlotPages.{is_placed_in}
use Rattle.tree_pack.proofs.placing.room_for.Goals as goal

pub returns-clause-placed : goal.returns-clause-placed
returns-clause-placed c =
    λ old new is short near le same last say.
    let room = c.in_ok-room.room in
    let has = c.in_ok-room.ensures.room in
    let fits = has.room in
    let few = has.few in
    let lies = c.in_ok-room.ensures.lies old is in
    let first = lies.pointers_are in
    let count = lies.count_is in
    let slot = c.in_ok-slot.slot in
    let told = c.in_ok-slot.ensures.slot in
    let clear = c.in_ok-slot.ensures.clear old is lies in
    let within = told.within in
    let size_is : c.in_ok-size.size ≡ length c.args.cell.now = search rules in
    is_placed_in c.args.page.now c.args.start old new is c.args.place _ _ _ slot.at room.low c.args.cell.now _ slot.free slot.head le (omega (arith, first)) (omega (arith, first, count)) (omega (arith, count)) c.header_of.ensures told.after (omega (arith, within, size_is)) told.near (omega (arith, count, few)) (omega (arith, fits)) lies.behind
    (subst (λ n. AreClear slot.at (slot.at + n) is.page_is.spans) size_is clear.cell) told.head clear.head same last say
