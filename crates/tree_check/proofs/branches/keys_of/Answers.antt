use Rattle.std.proofs.Common.{◌<◌, ◌∙◌, length, arith, pos}
use Rattle.tree_page.specs.Node.{Keys}
use Rattle.tree_check.proofs.Passed.{keys_more, keys_all}
use Rattle.tree_check.proofs.branches.keys_of.Goals as goal

pub returns-in_err-key-clause-keys : goal.returns-in_err-key-clause-keys
returns-in_err-key-clause-keys c = λ kids last is.
    (let long = c.len-index-end.ensures (Keys kids last) is in
    absurd (c.in_err-key.ensures.only kids last (0, pos 0) is (omega (arith, long, c.cells-test.true))))

pub cells-preserved : goal.cells-preserved
cells-preserved c = λ kids last is.
    (let long = c.len-index-end.ensures (Keys kids last) is in
    let lt : c.cells.index < length kids = omega (arith, long, c.cells-test.true) in
    keys_more c.cells.keys.items c.in_ok-key.field-0 c.push.new.self.items kids c.cells.index c.in_ok-push.ensures.items (c.cells.invariant kids last is) lt (λ d. c.in_ok-key.ensures.only kids last d is lt))

pub returns-clause-keys : goal.returns-clause-keys
returns-clause-keys c = λ kids last is.
    (let long = c.len-index-end.ensures (Keys kids last) is in
    c.cells.invariant kids last is ∙ keys_all kids c.cells.index (omega (arith, long, c.cells-test.false)))
