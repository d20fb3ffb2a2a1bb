use Rattle.std.proofs.Common.{◌≡◌, ◌<◌, List, [], ap, length, slice_index_or, sym, ◌∙◌, arith}
use Rattle.catalog.specs.declared.tables.IndexColumn.{IndexColumn}
use Rattle.db_load.proofs.KeyRows.{found_here, key_at, key_found, none_before, not_here, nowhere, the_key}
use Rattle.db_load.proofs.automatic.key_named.Goals as goal

pub keys-init : goal.keys-init
keys-init c = none_before c.args.table.now c.args.name.now

pub keys-preserved : goal.keys-preserved
keys-preserved c =
    let keys = c.args.table.now.keys in
    let there : c.keys.place < length keys = omega (arith, c.keys-test.true, ap length c.as_slice-keys.ensures) in
    not_here c.args.table.now c.args.name.now c.keys.place c.keys.invariant (slice_index_or keys c.keys.place []) (key_at keys c.keys.place there) (sym c.in_ok-is_key_name.ensures ∙ c.if-branch.false)

pub returns-then-branch-clause-found : goal.returns-then-branch-clause-found
returns-then-branch-clause-found c =
    let keys = c.args.table.now.keys in
    let there : c.keys.place < length keys = omega (arith, c.keys-test.true, ap length c.as_slice-keys.ensures) in
    let key = c.index-keys-place.result in
    let is : key ≡ slice_index_or keys c.keys.place key = c.index-keys-place.is ∙ ap (λ (ks : List (List IndexColumn)). slice_index_or ks c.keys.place key) c.as_slice-keys.ensures in
    found_here c.args.table.now c.args.name.now c.keys.place c.keys.invariant key (key_found keys c.keys.place key there is) (sym c.in_ok-is_key_name.ensures ∙ c.if-branch.true)

pub returns-then-branch-clause-tells : goal.returns-then-branch-clause-tells
returns-then-branch-clause-tells c = λ columns once is.
    the_key c.args.table.now c.args.name.now c.index-keys-place.result columns once (returns-then-branch-clause-found c) is

pub returns-clause-tells : goal.returns-clause-tells
returns-clause-tells c = λ columns once is. nowhere c.args.table.now c.args.name.now c.keys.place c.keys.invariant _ (omega (arith, c.keys-test.false, ap length c.as_slice-keys.ensures)) is
