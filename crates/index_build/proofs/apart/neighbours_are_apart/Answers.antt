use Rattle.std.proofs.Common.{rules, ◌<◌, ℕ, List, Vec, Global, length}
use Rattle.sqlval.specs.Fields.{value_of}
use Rattle.index_build.proofs.KeysApart.{all_apart, first_comes, next_comes}
use Rattle.index_build.proofs.apart.neighbours_are_apart.Goals as goal

abbrev items_of : Vec ℕ Global → List ℕ
items_of bytes = bytes.items

pub records-init : goal.records-init
records-init c =
    let lt : 0 < length c.args.records.now = search rules in
    first_comes items_of c.args.columns.now c.args.records.now c.index-records-0.result c.as_slice-before.result.now (value_of c.value_at-first.result) lt c.index-records-0.is c.as_slice-before.ensures.value
    c.value_at-first.ensures

pub records-preserved : goal.records-preserved
records-preserved c =
    next_comes items_of c.args.columns.now c.args.records.now c.records.index c.records.before.now (value_of c.records.first) c.records.invariant c.records-test.true c.index-records-index.result
    c.index-records-index.is c.as_slice-here.result.now c.as_slice-here.ensures.value (value_of c.value_at-value.result) c.value_at-value.ensures c.share_all.result c.share_all.ensures c.if-share_all.false

pub returns : goal.returns
returns c = λ given are so. all_apart items_of c.args.columns.now c.args.records.now c.records.index c.records.before.now (value_of c.records.first) c.records_hold_their_values.ensures c.records.invariant c.records-test.false given are
