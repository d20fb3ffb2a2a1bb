-- the rowids of the records so far
use Rattle.std.proofs.Common.{map}
use Rattle.std.specs.Prelude.{option_map}
use Rattle.row_search.specs.Finding.{is_sought}
use Rattle.row_search.proofs.Records.{IsAdding}
use Rattle.row_search.proofs.entries.add_rowids.Given as goal

abbrev pub invariant-records : goal.invariant-records
invariant-records l = IsAdding (is_sought l.key.columns.now l.key.values.now (option_map (λ r. r.now) l.range)) (map (λ bytes. bytes.items) l.records) l.fn.rowids.items l.rowids.items l.record-index
