use Rattle.std.proofs.Common.{rules, ◌<◌, ◌≤◌, ℕ, ℤ, List, SFits, w64, subst, length, Ok, Err, None, Some, Option}
use Rattle.std.specs.Prelude.{⊤, MatchOption, MatchResult, Result}
use Rattle.std.proofs.lemmas.Int.{to_z-of_z}
use Rattle.sqlval.specs.declared.fault.Fault.{Fault}
use Rattle.tree_page.specs.Node.{Local}
use Rattle.tree_table.specs.Runs.{room_for}
use Rattle.tree_table.specs.Stepping.{HasRowid}
use Rattle.tree_table.proofs.runs.next_place.Goals as goal

-- there is room for the row that was found
with_room : (last : ℕ) (rowid : ℤ) (said : List (ℤ × Local)) (Room : Type 0) → Room → (result : Result (Option ℕ) Fault)
    → MatchResult result (λ found. MatchOption found ⊤ (λ place. (last < place) × HasRowid rowid said place)) (λ fault. ⊥)
    → MatchResult result (λ found. MatchOption found ⊤ (λ place. (last < place) × HasRowid rowid said place × Room)) (λ fault. ⊥)
with_room last rowid said Room room (Ok None) found = tt
with_room last rowid said Room room (Ok (Some place)) found = (found.0, found.1, room)
with_room last rowid said Room room (Err fault) found = found

pub returns-clause-found : goal.returns-clause-found
returns-clause-found c = λ said is rising.
    (let rowid = c.args.change.now.rowid in
    let fits : SFits w64 rowid = search rules in
    let found = subst (λ (z : ℤ). MatchResult c.place_after.result (λ found. MatchOption found ⊤ (λ place. (c.args.last < place) × HasRowid z said place)) (λ fault. ⊥)) (to_z-of_z w64 rowid fits) (c.place_after.ensures.found said is) in
    let room : room_for (length c.args.bytes.now) c.args.change.now ≤ c.args.room = search rules in
    with_room c.args.last rowid said (room_for (length c.args.bytes.now) c.args.change.now ≤ c.args.room) room c.place_after.result found)
