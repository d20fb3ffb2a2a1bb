use Rattle.std.proofs.Common.{◌≡◌, ◌∷◌, ◌∙◌, ap, length, map, rules}
use Rattle.sqlval.specs.Refusals.{all_answers}
use Rattle.query_terms.specs.Outcome.{IsRefusedBy}
use Rattle.query_groups.specs.Groups.{listed}
use Rattle.query_answer.specs.Groups.{row_of_group}
use Rattle.query_answer.proofs.EachGroup.{groups_begin, groups_done, groups_go_on, groups_stop}
use Rattle.query_answer.proofs.tallied.rows_of_each.Goals as goal

pub groups-init : goal.groups-init
groups-init c = λ found are taken kept.
    (let ts = c.args.terms.now in
    let begun : c.into_iter-keys-iterator.result.rest.items ≡ c.args.groups.items = search rules in
    (found, taken, ap listed begun ∙ kept, groups_begin ts found c.in_ok-rows.rows.items c.in_ok-rows.ensures.items))

pub returns-in_err-row_of_group-clause-given : goal.returns-in_err-row_of_group-clause-given
returns-in_err-row_of_group-clause-given c = λ found are taken kept.
    (let ts = c.args.terms.now in
    let fault = c.in_err-row_of_group.field-0.0 in
    let was = c.groups.invariant found are taken kept in
    let begun : c.groups.keys-iterator.rest.items ≡ (c.in-Some.keys, c.in-Some.tallies) ∷ c.next.new.self.rest.items = search rules in
    let refused : IsRefusedBy (all_answers (map (row_of_group ts) found)) fault =
    groups_stop ts c.next.new.self.rest.items c.in-Some.keys c.in-Some.tallies c.groups.rows.items (all_answers (map (row_of_group ts) found)) c.groups.keys-iterator.rest.items begun was.0 fault was.1 was.2 was.3
    (λ group is keys tallies. c.in_err-row_of_group.ensures.given group are is keys tallies) in
    search rules)

pub groups-preserved : goal.groups-preserved
groups-preserved c = λ found are taken kept.
    (let ts = c.args.terms.now in
    let was = c.groups.invariant found are taken kept in
    let begun : c.groups.keys-iterator.rest.items ≡ (c.in-Some.keys, c.in-Some.tallies) ∷ c.next.new.self.rest.items = search rules in
    groups_go_on ts c.next.new.self.rest.items c.in-Some.keys c.in-Some.tallies c.groups.rows.items (all_answers (map (row_of_group ts) found)) c.groups.keys-iterator.rest.items begun was.0 c.push.new.self.items c.in_ok-row_of_group.field-0 was.1
    was.2 was.3 (λ group is keys tallies. c.in_ok-row_of_group.ensures.given group are is keys tallies) c.in_ok-push.ensures.items)

pub returns-clause-given : goal.returns-clause-given
returns-clause-given c = λ found are taken kept.
    (let ts = c.args.terms.now in
    let was = c.groups.invariant found are taken kept in
    let none : length c.groups.keys-iterator.rest.items ≡ 0 = search rules in
    groups_done ts c.groups.keys-iterator.rest.items was.0 c.groups.rows.items (all_answers (map (row_of_group ts) found)) none was.2 was.3)
