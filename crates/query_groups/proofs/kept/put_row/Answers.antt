use Rattle.std.proofs.Common.{◌≡◌, ◌++◌, [], ◌∷◌, None, refl, subst, sym}
use Rattle.std.specs.BTreeMap.{get_by}
use Rattle.query_totals.specs.Totals.{tallies_over}
use Rattle.query_groups.specs.Groups.{rows_of_group}
use Rattle.query_groups.specs.Keeping.{HaveHeldKeys, HoldGroups, by_bytes, key_order, put_last}
use Rattle.query_groups.specs.declared.kept.Group.{Group}
use Rattle.query_groups.proofs.EntriesHeld.{held_set}
use Rattle.query_groups.proofs.MapEntries.{found_at, put_there}
use Rattle.query_groups.proofs.RowTaken.{takes}
use Rattle.query_groups.proofs.kept.put_row.Goals as goal

pub returns-in-Some-clause-put : goal.returns-in-Some-clause-put
returns-in-Some-clause-put c = λ ks groups now s whole is some kept first.
    (let ts = c.args.terms.now in
    let new : Group = record { keys = c.in-Some.group.now.keys; tallies = c.add_row.new.tallies } in
    let there = put_there first ks ts c.args.by_key.now.entries groups c.args.key.now (c.args.keys, now) c.in-Some.group.now whole kept some is c.get_mut.ensures.ordered (sym c.in-Some.ensures.value) in
    takes ts now (HoldGroups ks ts (c.get_mut.follows.lender new).entries (put_last (by_bytes ks) (c.args.keys, now) groups)) (tallies_over (rows_of_group there.0 ++ now ∷ []) ts) c.add_row.new.tallies.items c.add_row.result
    (c.add_row.ensures (rows_of_group there.0) now s there.1.1)
    (λ e. subst (λ es. HoldGroups ks ts es (put_last (by_bytes ks) (c.args.keys, now) groups)) (sym (c.get_mut.follows.holds new).0) (there.2 new refl (sym e))))

pub returns-in-None-clause-put : goal.returns-in-None-clause-put
returns-in-None-clause-put c = λ ks groups now s whole is some kept first.
    (c.begin_group.ensures.put ks groups now s whole is some (subst (λ m. HoldGroups ks c.args.terms.now m.entries groups) (sym c.get_mut.follows.holds-at-none) kept)
    (subst (λ m. get_by (key_order c.args.key.now) m ≡ None) (sym c.get_mut.follows.holds-at-none) (sym c.in-None.ensures.value)) first)

pub returns-in-Some-clause-held : goal.returns-in-Some-clause-held
returns-in-Some-clause-held c = λ whole all held.
    (let new : Group = record { keys = c.in-Some.group.now.keys; tallies = c.add_row.new.tallies } in
    subst HaveHeldKeys (sym (c.get_mut.follows.holds new).0)
    (held_set (found_at c.args.key.now) c.args.by_key.now.entries c.in-Some.group.now new (sym c.in-Some.ensures.value) refl held))

pub returns-in-None-clause-held : goal.returns-in-None-clause-held
returns-in-None-clause-held c = λ whole all held. c.begin_group.ensures.held whole all (subst (λ m. HaveHeldKeys m.entries) (sym c.get_mut.follows.holds-at-none) held)
