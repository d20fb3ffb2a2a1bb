use Rattle.std.proofs.Common.{◌*◌, ◌+◌, ap, arith}
use Rattle.tree_pack.proofs.PlacingLemmas.{is_placed}
use Rattle.tree_pack.proofs.placing.place_cell.Goals as goal

pub returns-clause-placed : goal.returns-clause-placed
returns-clause-placed c =
    λ old new is short near le same last say.
    let room = c.in-Some.room in
    let has = c.in-Some.ensures.room in
    let fits = has.room in
    let few = has.few in
    let lies = c.in-Some.ensures.lies old is in
    let first = lies.pointers_are in
    let count = lies.count_is in
    is_placed c.args.page.now c.args.start old new is (room.pointers + 2 * c.args.place) room.low c.args.place (room.count + 1) c.args.cell.now c.in_ok-write.field-0.items le (omega (arith, first)) (ap (λ n. n + 1) count) (omega (arith, first, count, fits)) has.within has.near c.in-Some.ensures.some (omega (arith, count, few)) lies.behind same last say c.in_ok-write.ensures
