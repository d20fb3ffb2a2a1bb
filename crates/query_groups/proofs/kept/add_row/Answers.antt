use Rattle.std.proofs.Common.{◌≡◌, ◌∙◌, ◌++◌, ◌∷◌, [], ap, length, subst, sym}
use Rattle.std.specs.Prelude.{All}
use Rattle.sort_keys.specs.Keys.{AreBytes, IsHeld, prefix_number, values_key}
use Rattle.query_names.specs.Readings.{grouped, sort_keys}
use Rattle.query_groups.specs.Groups.{entries_kept}
use Rattle.query_groups.specs.Keeping.{HasPrefix, HoldGroups, by_bytes, put_last, seen_entries}
use Rattle.query_groups.specs.declared.kept.GroupKey.{GroupKey}
use Rattle.query_groups.proofs.GroupedMore.{are_seen, grouped_more, groups_are_some, heads_keyed, tells, zipped}
use Rattle.query_groups.proofs.kept.add_row.Goals as goal

keys_held : (c : goal.After-put_row) → All IsHeld c.args.keys
keys_held c = subst (All IsHeld) c.as_slice.ensures c.in_ok-put_keys.ensures.held

abbrev key_of : goal.After-put_row → GroupKey
key_of c = record { prefix = c.prefix_at-groups-inside.result; bytes = c.put_keys.new.out }

key_whole : (c : goal.After-put_row) → HasPrefix (key_of c)
key_whole c = record { prefix = c.prefix_at-groups-inside.ensures.number ∙ ap prefix_number c.as_slice-2.ensures.value; bytes = subst AreBytes c.as_slice-2.ensures.value c.prefix_at-groups-inside.ensures.bytes }

pub invariant_of-groups-2 : goal.invariant_of-groups-2
invariant_of-groups-2 c = c.put_row.ensures.held (key_whole c) (keys_held c) c.groups.invariant

pub returns : goal.returns
returns c = λ before now s some long size told.
    (let ks = c.args.key_terms.now in
    let ts = c.args.terms.now in
    let keys = c.args.keys in
    let rows = before ++ (keys, now) ∷ [] in
    let old = c.groups.inside.by_key.entries in
    let new = c.put_row.new.by_key.entries in
    let bytes : c.put_keys.new.out.items ≡ values_key (sort_keys ks) keys =
    (c.in_ok-put_keys.ensures.bytes (ap length c.as_slice.ensures ∙ size)
    ∙ (λ i. c.clear.ensures.items i ++ values_key (sort_keys ks) (c.as_slice.ensures i))) in
    let kept : HoldGroups ks ts old (grouped ks before) = zipped ks ts old (grouped ks before) (c.groups.view_is ∙ told) c.groups.invariant in
    let more : grouped ks rows ≡ put_last (by_bytes ks) (keys, now) (grouped ks before) =
    grouped_more c.keys_stand_as_values.ensures.full ks before (keys, now) some long (size, keys_held c) (heads_keyed ks ts old before kept c.groups.invariant long) in
    tells ts now (HoldGroups ks ts new (put_last (by_bytes ks) (keys, now) (grouped ks before))) (entries_kept ks ts rows) (seen_entries new) c.put_row.result
    (c.put_row.ensures.put ks (grouped ks before) now s (key_whole c) bytes (groups_are_some ks before some) kept c.keys_stand_as_values.ensures.prefix)
    (λ k. sym (are_seen ks ts new (grouped ks rows) (subst (HoldGroups ks ts new) (sym more) k))))
