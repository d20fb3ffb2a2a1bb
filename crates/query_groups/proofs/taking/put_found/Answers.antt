use Rattle.std.proofs.Common.{◌≡◌, ◌∙◌, ◌++◌, [], ◌∷◌, List, None, ap, refl, subst, sym}
use Rattle.std.specs.BTreeMap.{get_by}
use Rattle.sqlval.specs.declared.value.Value.{Value}
use Rattle.sort_keys.specs.Keys.{values_key}
use Rattle.query_terms.specs.Rows.{seen}
use Rattle.query_names.specs.Readings.{sort_keys}
use Rattle.query_totals.specs.Totals.{tallies_over}
use Rattle.query_groups.specs.Groups.{rows_of_group}
use Rattle.query_groups.specs.Keeping.{HaveHeldKeys, HoldGroups, TakesArguments, by_bytes, key_order, put_last}
use Rattle.query_groups.specs.declared.kept.Group.{Group}
use Rattle.query_groups.proofs.EntriesHeld.{held_set}
use Rattle.query_groups.proofs.KeysWritten.{keys_known}
use Rattle.query_groups.proofs.MapEntries.{found_at, put_there}
use Rattle.query_groups.proofs.RowTaken.{same_answer, takes}
use Rattle.query_groups.proofs.taking.put_found.Goals as goal

pub returns-in-Some-clause-put : goal.returns-in-Some-clause-put
returns-in-Some-clause-put c = λ groups now keys s told whole is some kept first.
    (let ks = c.args.key_terms.now in
    let ts = c.args.terms.now in
    let new : Group = record { keys = c.in-Some.group.now.keys; tallies = c.add_row.new.tallies } in
    let there = put_there first ks ts c.args.by_key.now.entries groups c.args.key.now (keys, now) c.in-Some.group.now whole kept some is c.get_mut.ensures.ordered (sym c.in-Some.ensures.value) in
    takes ts now (HoldGroups ks ts (c.get_mut.follows.lender new).entries (put_last (by_bytes ks) (keys, now) groups)) (tallies_over (rows_of_group there.0 ++ now ∷ []) ts) c.add_row.new.tallies.items c.add_row.result
    (c.add_row.ensures (rows_of_group there.0) now s there.1.1)
    (λ e. subst (λ es. HoldGroups ks ts es (put_last (by_bytes ks) (keys, now) groups)) (sym (c.get_mut.follows.holds new).0) (there.2 new refl (sym e))))

pub returns-in_ok-keys-in-None-clause-put : goal.returns-in_ok-keys-in-None-clause-put
returns-in_ok-keys-in-None-clause-put c = λ groups now keys s told whole is some kept first.
    (let ks = c.args.key_terms.now in
    let ts = c.args.terms.now in
    let same = same_answer c.in_ok-keys-in-None.keys keys (sym c.in_ok-keys-in-None.ensures ∙ told) in
    subst (λ (vs : List Value). TakesArguments ts now (HoldGroups ks ts c.begin_group.new.by_key.entries (put_last (by_bytes ks) (vs, now) groups)) c.begin_group.result) same
    (c.begin_group.ensures.put ks groups now s whole (is ∙ ap (values_key (sort_keys ks)) (sym same)) some (subst (λ m. HoldGroups ks ts m.entries groups) (sym c.get_mut.follows.holds-at-none) kept)
    (subst (λ m. get_by (key_order c.args.key.now) m ≡ None) (sym c.get_mut.follows.holds-at-none) (sym c.in-None.ensures.value)) first))

pub returns-in-Some-clause-held : goal.returns-in-Some-clause-held
returns-in-Some-clause-held c = λ all whole held.
    (let new : Group = record { keys = c.in-Some.group.now.keys; tallies = c.add_row.new.tallies } in
    subst HaveHeldKeys (sym (c.get_mut.follows.holds new).0)
    (held_set (found_at c.args.key.now) c.args.by_key.now.entries c.in-Some.group.now new (sym c.in-Some.ensures.value) refl held))

pub returns-in_ok-keys-in-None-clause-held : goal.returns-in_ok-keys-in-None-clause-held
returns-in_ok-keys-in-None-clause-held c = λ all whole held.
    c.begin_group.ensures.held whole (keys_known (seen c.args.env) c.args.key_terms.now c.in_ok-keys-in-None.keys all c.in_ok-keys-in-None.ensures).1
    (subst (λ m. HaveHeldKeys m.entries) (sym c.get_mut.follows.holds-at-none) held)
