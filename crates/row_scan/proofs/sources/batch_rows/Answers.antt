use Rattle.std.proofs.Common.{arith}
use Rattle.row_scan.specs.Sources.{as_shown, places_shown}
use Rattle.row_scan.proofs.SourceRows.{holds_more}
use Rattle.row_scan.proofs.RowLemmas.{no_row}
use Rattle.row_scan.proofs.sources.batch_rows.Goals as goal

pub written-preserved : goal.written-preserved
written-preserved c =
    holds_more (as_shown (places_shown c.args.shown) c.args.own) c.args.batch.now c.written.place _ c.written.items.items c.put_source_row.new.rows.items (omega (arith, c.written-test.true, c.len-place-end.ensures))
    (c.row.ensures no_row) c.written.invariant c.in_ok-put_source_row.ensures
