use Rattle.std.proofs.Common.{true, false, sym, arith}
use Rattle.index_build.specs.Ranking.{have_one_key}
use Rattle.index_build.proofs.Neighbours.{answer_for, past_none, found_beside, past_one, none_beside}
use Rattle.index_build.proofs.OneKeys.{tells_clash}
use Rattle.index_build.proofs.clashes.has_clash.Goals as goal

pub entries-init : goal.entries-init
entries-init c = past_none (have_one_key 0 c.args.columns.now) c.args.entries.now

pub returns-then-have_one_key : goal.returns-then-have_one_key
returns-then-have_one_key c =
    let test = have_one_key 0 c.args.columns.now in
    let entries = c.args.entries.now in
    let answer = answer_for test entries c.entries.index c.entries-test.true c.index-entries-index.result c.index-entries-index-in-entries.result c.as_slice.result.now c.as_slice-in-entries.result.now
    c.index-entries-index.is c.index-entries-index-in-entries.is c.as_slice.ensures c.as_slice-in-entries.ensures c.have_one_key.result c.have_one_key.ensures in
    tells_clash c.args.columns.now entries true
    (sym (found_beside test entries c.index-entries-index-in-entries.result c.entries.index c.entries.invariant c.entries-test.true c.have_one_key.result answer c.if-have_one_key.true))

pub entries-preserved : goal.entries-preserved
entries-preserved c =
    let test = have_one_key 0 c.args.columns.now in
    let entries = c.args.entries.now in
    let answer = answer_for test entries c.entries.index c.entries-test.true c.index-entries-index.result c.index-entries-index-in-entries.result c.as_slice.result.now c.as_slice-in-entries.result.now
    c.index-entries-index.is c.index-entries-index-in-entries.is c.as_slice.ensures c.as_slice-in-entries.ensures c.have_one_key.result c.have_one_key.ensures in
    past_one test entries c.index-entries-index-in-entries.result c.entries.index c.entries.invariant c.entries-test.true c.have_one_key.result answer c.if-have_one_key.false

pub returns : goal.returns
returns c =
    tells_clash c.args.columns.now c.args.entries.now false
    (sym (none_beside (have_one_key 0 c.args.columns.now) c.args.entries.now c.entries.index c.entries.invariant (omega (arith, c.entries-test.false))))
