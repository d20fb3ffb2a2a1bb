use Rattle.std.proofs.Common.{◌∙◌, ◌≡◌, [], ◌∷◌, None, refl, rules, subst, sym}
use Rattle.std.specs.Cmp.Lexicographic.{slice_cmp}
use Rattle.std.specs.Map.{lookup}
use Rattle.std.specs.Ordering.{is_eq, nat_cmp, ordering_then}
use Rattle.sort_keys.specs.Keys.{AreBytes, prefix_number}
use Rattle.query_terms.specs.Outcome.{IsRefusedBy}
use Rattle.query_totals.specs.Totals.{arguments_at, tallies_over}
use Rattle.query_groups.specs.Keeping.{HasPrefix, HaveHeldKeys, HoldGroups, by_bytes, put_last}
use Rattle.query_groups.specs.declared.kept.GroupKey.{GroupKey}
use Rattle.query_groups.proofs.EntriesHeld.{held_new}
use Rattle.query_groups.proofs.MapEntries.{found_at, put_new}
use Rattle.query_groups.proofs.RowTaken.{is_taken, refused_before, was_taken}
use Rattle.query_groups.proofs.kept.begin_group.Goals as goal

pub returns-in_err-add_row-clause-put : goal.returns-in_err-add_row-clause-put
returns-in_err-add_row-clause-put c = λ ks groups now s whole is some kept none first.
    (let fault = c.in_err-add_row.field-0.0 in
    let ts = c.args.terms.now in
    let refused : IsRefusedBy (arguments_at ts now) fault = refused_before (arguments_at ts now) (tallies_over (now ∷ []) ts) fault (c.in_err-add_row.ensures [] now s c.in_ok-tallies.ensures) in
    search rules)

pub returns-clause-put : goal.returns-clause-put
returns-clause-put c = λ ks groups now s whole is some kept none first.
    (let ts = c.args.terms.now in
    let entries = c.args.by_key.now.entries in
    let old = c.args.key.now in
    let key : GroupKey = record { prefix = old.prefix; bytes = c.in_ok-from_slice.field-0 } in
    let tallies = c.add_row.new.tallies in
    let told = c.in_ok-add_row.ensures [] now s c.in_ok-tallies.ensures in
    let bytes : key.bytes.items ≡ old.bytes.items = c.in_ok-from_slice.ensures.items ∙ c.as_slice.ensures.value in
    let absent : lookup (found_at key) entries ≡ None =
    subst (λ bs. lookup (λ (j : GroupKey). is_eq (ordering_then (nat_cmp old.prefix j.prefix) (slice_cmp nat_cmp bs j.bytes.items))) entries ≡ None) (sym bytes) none in
    let whole_too : HasPrefix key = record { prefix = subst (λ bs. old.prefix ≡ prefix_number bs) (sym bytes) whole.prefix; bytes = subst AreBytes (sym bytes) whole.bytes } in (
      was_taken (arguments_at ts now) (tallies_over (now ∷ []) ts) tallies.items told,
      subst (λ es. HoldGroups ks ts es (put_last (by_bytes ks) (c.args.keys, now) groups)) (sym c.in_ok-insert.ensures.entries)
          (put_new first ks ts entries groups key (record { keys = c.args.keys; tallies = tallies }) (c.args.keys, now) kept some (bytes ∙ is)
          (bytes ∙ is, refl, sym (is_taken (arguments_at ts now) (tallies_over (now ∷ []) ts) tallies.items told), whole_too) absent),
    ))

pub returns-clause-held : goal.returns-clause-held
returns-clause-held c = λ whole all held.
    (let old = c.args.key.now in
    let key : GroupKey = record { prefix = old.prefix; bytes = c.in_ok-from_slice.field-0 } in
    let bytes : key.bytes.items ≡ old.bytes.items = c.in_ok-from_slice.ensures.items ∙ c.as_slice.ensures.value in
    let whole_too : HasPrefix key = record { prefix = subst (λ bs. old.prefix ≡ prefix_number bs) (sym bytes) whole.prefix; bytes = subst AreBytes (sym bytes) whole.bytes } in
    subst HaveHeldKeys (sym c.in_ok-insert.ensures.entries) (held_new c.args.by_key.now.entries key (record { keys = c.args.keys; tallies = c.add_row.new.tallies }) whole_too all held))
