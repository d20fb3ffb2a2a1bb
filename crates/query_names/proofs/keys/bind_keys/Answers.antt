use Rattle.std.proofs.Common.{◌≡◌, ◌∙◌, ap, rules, subst, sym, false, map, []}
use Rattle.sqlval.specs.Lists.{any_twice}
use Rattle.catalog.specs.Listed.{key_columns}
use Rattle.query_names.specs.Bound.{IsFaultOf}
use Rattle.query_names.specs.Checked.{Meant, faults, known_all, known_map}
use Rattle.query_names.specs.Creating.{are_doubled, as_bound, as_keys, as_written, keys_split, other_keys, rowid_place, table_keys_known}
use Rattle.query_names.specs.Tables.{first_some, keys_of}
use Rattle.query_names.proofs.BoundLists.{handed_on}
use Rattle.query_names.proofs.KeyNames.{each_key, known_key}
use Rattle.query_names.proofs.PartRefusals.{mapped}
use Rattle.query_names.proofs.keys.bind_keys.Goals as goal

pub returns-in_err-keys-clause-names : goal.returns-in_err-keys-clause-names
returns-in_err-keys-clause-names c = λ once.
    let d = c.args.definition.now in
    let cs = c.args.columns.now in
    let ws = c.deref-2.result.now in
    let are : map as_written ws ≡ keys_of d = search rules in
    let none : any_twice are_doubled (map as_written ws) ≡ false = search rules in
    let known = known_all (map (known_key d.name cs) ws) in
    handed_on as_keys (table_keys_known d cs) c.in_err-keys.field-0.0 c.from_residual-in_err-keys.result c.from_residual-in_err-keys.ensures.1
    (subst (λ k. IsFaultOf (faults k) c.in_err-keys.field-0.0) (each_key d cs ws are none)
    (mapped (keys_split d.columns) known c.in_err-keys.field-0.0 (c.in_err-keys.ensures.keys d.name once)))

pub returns-clause-names : goal.returns-clause-names
returns-clause-names c = λ once.
    let d = c.args.definition.now in
    let cs = c.args.columns.now in
    let ws = c.deref-2.result.now in
    let are : map as_written ws ≡ keys_of d = search rules in
    let none : any_twice are_doubled (map as_written ws) ≡ false = search rules in
    let keys = map as_bound c.in_ok-keys.keys.items in
    let first : first_some (rowid_place d.columns) keys ≡ c.first_place.result = search rules in
    let others : other_keys d.columns keys ≡ map key_columns c.in_ok-other_keys.field-0 = sym (c.in_ok-other_keys.ensures ∙ search rules) in
    let split : keys_split d.columns keys ≡ (c.first_place.result, map key_columns c.in_ok-other_keys.field-0) = λ i. (first i, others i) in
    sym (each_key d cs ws are none)
    ∙ (ap (known_map (keys_split d.columns)) (c.in_ok-keys.ensures.keys d.name once)
    ∙ ap (λ keys. Meant keys []) split)
