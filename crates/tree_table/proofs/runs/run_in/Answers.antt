use Rattle.std.proofs.Common.{rules, ◌≡◌, ◌-◌, ℕ, List, ◌∷◌, [], length, ap, sym, subst, ◌∙◌, Ok, Option, arith}
use Rattle.std.proofs.lemmas.List.{length_push}
use Rattle.tree_table.specs.Runs.{FindsPlace, room_for}
use Rattle.tree_table.proofs.RunPlaces.{RunSoFar, run_one, run_step, run_found}
use Rattle.tree_table.proofs.runs.run_in.Goals as goal

pub changes-init : goal.changes-init
changes-init c =
    let is : c.args.changes.now ≡ c.in-Some.first.now ∷ c.in-Some.rest.now = search rules in
    let items : c.push.new.self.items ≡ c.args.place ∷ [] = search rules in
    let room : c.saturating_sub-room.result ≡ length c.args.bytes.now - room_for (length c.args.bytes.now) c.in-Some.first.now = search rules in (
      ap length items,
      λ said rowid node rising its has.
          subst (λ (places : List ℕ). RunSoFar (length c.args.bytes.now) said c.args.changes.now places c.args.place c.saturating_sub-room.result) (sym items)
          (run_one (length c.args.bytes.now) said c.args.changes.now c.in-Some.first.now c.in-Some.rest.now c.args.place c.saturating_sub-room.result rowid is its has room),
    )

pub returns-in_default-2-clause-found : goal.returns-in_default-2-clause-found
returns-in_default-2-clause-found c = λ said rowid node rising its has.
    run_found (length c.args.bytes.now) said c.args.changes.now c.changes.places.items c.changes.last c.changes.room (c.changes.invariant.1 said rowid node rising its has)

pub changes-preserved : goal.changes-preserved
changes-preserved c =
    let is : c.args.changes.now ≡ c.in-Some.first.now ∷ c.in-Some.rest.now = search rules in
    let size = length c.args.bytes.now in
    let item = c.change-item.result in
    let places = c.changes.places.items in
    let next = c.in-Some-2.next in
    let items = c.in_ok-push-2.ensures.items in
    let left : c.saturating_sub-room-in-changes.result ≡ c.changes.room - room_for size item = search rules in (
      (let long = ap length items ∙ length_push places next in let was = c.changes.invariant.0 in omega (arith, long, was)),
      λ said rowid node rising its has.
          (let found = subst (λ (o : Option ℕ). FindsPlace c.args.bytes.now c.args.start c.changes.last c.changes.room item (Ok o)) c.in-Some-2.is c.in_ok-next.ensures.found said node rising in
          subst (λ (ps : List ℕ). RunSoFar size said c.args.changes.now ps next c.saturating_sub-room-in-changes.result) (sym items)
          (run_step size said c.args.changes.now c.in-Some.first.now c.in-Some.rest.now c.changes.change-index places c.changes.last c.changes.room next c.saturating_sub-room-in-changes.result item is
          (c.changes.invariant.1 said rowid node rising its has) c.changes.invariant.0 c.changes-test.true c.change-item.is found.0 found.1 found.2 left)),
    )

pub returns-clause-found : goal.returns-clause-found
returns-clause-found c = λ said rowid node rising its has.
    run_found (length c.args.bytes.now) said c.args.changes.now c.changes.places.items c.changes.last c.changes.room (c.changes.invariant.1 said rowid node rising its has)
