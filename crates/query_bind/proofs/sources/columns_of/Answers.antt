use Rattle.std.proofs.Common.{◌≡◌, ◌∙◌, ap, get_or, rules}
use Rattle.catalog.specs.Listed.{own_column}
use Rattle.query_bind.proofs.Joining.{all_taken, is_place, marked, seen_more}
use Rattle.query_bind.proofs.sources.columns_of.Goals as goal

pub columns-preserved : goal.columns-preserved
columns-preserved c =
    let own = own_column c.args.table.now in
    let column = c.index-columns-place.result in
    let cs = c.as_slice-columns.result.now in
    let there : column ≡ get_or cs c.columns.place column = search rules in
    let more = seen_more own cs c.columns.place column c.columns-test.true there in
    let marks : c.eq-is_rowid.result ≡ is_place own c.columns.place = c.eq-is_rowid.ensures ∙ ap (λ o. is_place o c.columns.place) c.own_column-own.ensures in
    let seen : c.in_ok-scope_column.field-0 ≡ marked (is_place own c.columns.place) column = c.in_ok-scope_column.ensures ∙ ap (λ b. marked b column) marks in
    search rules

pub returns : goal.returns
returns c = (let all = all_taken c.args.table.now c.columns.place in search rules)
