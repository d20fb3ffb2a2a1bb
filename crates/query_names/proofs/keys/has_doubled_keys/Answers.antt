use Rattle.std.proofs.Common.{◌≡◌, ◌+◌, ◌∙◌, drop, false, get_or, rules, true}
use Rattle.std.specs.List.{list_any}
use Rattle.query_names.specs.Creating.{are_doubled, as_written}
use Rattle.query_names.proofs.KeyNames.{doubled_here, doubled_later, slice_drop}
use Rattle.query_names.proofs.keys.has_doubled_keys.Goals as goal

pub returns-then-is_doubled_by : goal.returns-then-is_doubled_by
returns-then-is_doubled_by c =
    let ws = c.args.keys.now in
    let w = c.index-keys-place.result in
    let there : w ≡ get_or ws c.keys.place w = search rules in
    let tail = slice_drop (c.keys.place + 1) ws in
    let is : list_any (λ other. are_doubled (as_written w) (as_written other)) (drop (c.keys.place + 1) ws) ≡ true = search rules in
    doubled_here ws c.keys.place w c.keys-test.true there is ∙ c.keys.invariant

pub keys-preserved : goal.keys-preserved
keys-preserved c =
    let ws = c.args.keys.now in
    let w = c.index-keys-place.result in
    let there : w ≡ get_or ws c.keys.place w = search rules in
    let tail = slice_drop (c.keys.place + 1) ws in
    let isnt : list_any (λ other. are_doubled (as_written w) (as_written other)) (drop (c.keys.place + 1) ws) ≡ false = search rules in
    doubled_later ws c.keys.place w c.keys-test.true there isnt ∙ c.keys.invariant
