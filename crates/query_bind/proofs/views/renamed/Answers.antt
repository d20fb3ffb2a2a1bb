use Rattle.std.proofs.Common.{◌≡◌, get_or, rules}
use Rattle.query_bind.proofs.ViewColumns.{all_renamed, renamed_more}
use Rattle.query_bind.proofs.views.renamed.Goals as goal

pub columns-preserved : goal.columns-preserved
columns-preserved c =
    let column = c.index-columns-place.result in
    let there : column ≡ get_or c.args.columns.now c.columns.place column = search rules in
    let more = renamed_more c.args.names.now c.args.columns.now c.columns.place column c.columns-test.true there in
    search rules

pub returns : goal.returns
returns c = (let all = all_renamed c.args.names.now c.args.columns.now c.columns.place c.columns-test.false in search rules)
