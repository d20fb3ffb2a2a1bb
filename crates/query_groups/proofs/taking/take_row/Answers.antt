use Rattle.std.proofs.Common.{◌≡◌, ◌∙◌, ◌++◌, ◌∷◌, [], ap, List, ℕ, Ok, subst, sym}
use Rattle.sqlval.specs.Refusals.{Answer, ◌then◌}
use Rattle.sqlval.specs.declared.value.Value.{Value}
use Rattle.sort_keys.specs.Keys.{AreBytes, prefix_number, values_key}
use Rattle.query_terms.specs.Outcome.{AnswersBy}
use Rattle.query_terms.specs.Rows.{seen}
use Rattle.query_names.specs.Readings.{grouped, sort_keys, values}
use Rattle.query_totals.specs.Totals.{arguments_at}
use Rattle.query_groups.specs.Groups.{Entry, entries_kept}
use Rattle.query_groups.specs.Keeping.{HasPrefix, HoldGroups, by_bytes, put_last, seen_entries}
use Rattle.query_groups.specs.declared.kept.GroupKey.{GroupKey}
use Rattle.query_groups.proofs.GroupedMore.{are_seen, grouped_more, groups_are_some, heads_keyed, tells, zipped}
use Rattle.query_groups.proofs.KeysWritten.{keys_known}
use Rattle.query_groups.proofs.RowTaken.{made_of, opened}
use Rattle.query_groups.proofs.taking.take_row.Goals as goal

abbrev key_of : goal.After-put_found → GroupKey
key_of c = record { prefix = c.prefix_at-groups-inside.result; bytes = c.put_keys_at.new.out }

key_whole : (c : goal.After-put_found) → HasPrefix (key_of c)
key_whole c = record { prefix = c.prefix_at-groups-inside.ensures.number ∙ ap prefix_number c.as_slice.ensures.value; bytes = subst AreBytes c.as_slice.ensures.value c.prefix_at-groups-inside.ensures.bytes }

pub invariant_of-groups-2 : goal.invariant_of-groups-2
invariant_of-groups-2 c = c.put_found.ensures.held c.in_ok-put_keys_at.ensures.held (key_whole c) c.groups.invariant

pub returns : goal.returns
returns c = λ before now s some long told.
    (let ks = c.args.key_terms.now in
    let ts = c.args.terms.now in
    let env = seen c.args.env in
    let old = c.groups.inside.by_key.entries in
    let new = c.put_found.new.by_key.entries in
    let found = opened (values env ks) (λ vs. c.clear.new.self.items ++ values_key (sort_keys ks) vs) c.put_keys_at.new.out.items c.in_ok-put_keys_at.ensures.told in
    let keys = found.0 in
    let rows = before ++ (keys, now) ∷ [] in
    let bytes : c.put_keys_at.new.out.items ≡ values_key (sort_keys ks) keys =
    (made_of (values env ks) (λ vs. c.clear.new.self.items ++ values_key (sort_keys ks) vs) keys c.put_keys_at.new.out.items c.in_ok-put_keys_at.ensures.told found.1
    ∙ ap (λ (bs : List ℕ). bs ++ values_key (sort_keys ks) keys) c.clear.ensures.items) in
    let kept : HoldGroups ks ts old (grouped ks before) = zipped ks ts old (grouped ks before) (c.groups.view_is ∙ told) c.groups.invariant in
    let more : grouped ks rows ≡ put_last (by_bytes ks) (keys, now) (grouped ks before) =
    grouped_more c.keys_stand_as_values.ensures.full ks before (keys, now) some long (keys_known env ks keys c.in_ok-put_keys_at.ensures.held found.1)
    (heads_keyed ks ts old before kept c.groups.invariant long) in
    let one : AnswersBy {X = Unit {0}} (λ u. seen_entries new) (arguments_at ts now then λ vs. let l : Answer (List Entry) = Ok (entries_kept ks ts rows) in l) c.put_found.result =
    tells ts now (HoldGroups ks ts new (put_last (by_bytes ks) (keys, now) (grouped ks before))) (entries_kept ks ts rows) (seen_entries new) c.put_found.result
    (c.put_found.ensures.put (grouped ks before) now keys s found.1 (key_whole c) bytes (groups_are_some ks before some) kept c.keys_stand_as_values.ensures.prefix)
    (λ k. sym (are_seen ks ts new (grouped ks rows) (subst (HoldGroups ks ts new) (sym more) k))) in
    subst (λ (a : Answer (List Value)). AnswersBy {X = Unit {0}} (λ u. seen_entries new) (a then λ vs. arguments_at ts now then λ ws. let l : Answer (List Entry) = Ok (entries_kept ks ts (before ++ (vs, now) ∷ [])) in l) c.put_found.result)
    (sym (ap (λ e. values e ks) (sym s) ∙ found.1)) one)
