use Rattle.std.proofs.Common.{◌++◌, ◌∙◌, sym}
use Rattle.tree_pack.proofs.RewritingLemmas.{lies, row, says, first, payload_found}
use Rattle.tree_pack.proofs.rewriting.payload_at.Goals as goal

pub returns-then-whole-size : goal.returns-then-whole-size
returns-then-whole-size c = λ said is there.
    (let page = c.args.page.now in
    let here = says page c.args.start said is c.args.place there in
    let lies = lies page c.args.start said is c.args.place there in
    let row = row page c.args.start said is c.args.place there in
    let one = c.in_ok-whole.ensures.only here.size (here.rowid ++ (row.1.bytes ++ lies.after)) row.1.size here.size_is (c.in_ok-cell.ensures said is there ∙ first page c.args.start said is c.args.place there) in
    let two = c.in_ok-payload.ensures.only here.rowid (row.1.bytes ++ lies.after) here.number here.rowid_is one.1 in
    payload_found page c.args.start said is c.args.place there c.args.size c.saturating_sub.result c.in_ok-payload.payload.now two.1 (sym one.0 ∙ c.if-whole-size.true) c.saturating_sub.ensures)
