use Rattle.std.proofs.Common.{◌∙◌, ap, sym, map, Ok}
use Rattle.query_terms.specs.Rows.{row_at}
use Rattle.row_change.proofs.KeptRows.{all_changes}
use Rattle.row_change.proofs.keeping.changes_meant.Goals as goal

pub returns : goal.returns
returns c =
    let rows = c.args.rows.now in
    all_changes c.args.table.now c.args.sets.now c.args.condition.now rows (map (row_at rows) c.deref.result.now) c.changes_at.result
    (c.in_ok-places.ensures ∙ ap (λ places. Ok (map (row_at rows) places)) (sym c.deref.ensures.value)) c.changes_at.ensures
