use Rattle.std.proofs.Common.{rules, SFits, w64}
use Rattle.std.proofs.lemmas.Result.{MatchResult-weaker, on_ok_weaker}
use Rattle.record.proofs.VarintLemmas.{AreBytes-from_index}
use Rattle.catalog.specs.Rows.{in_record}
use Rattle.tree_table.specs.Scanning.{entry_in}
use Rattle.row_scan.proofs.Calm.{row_calm}
use Rattle.row_scan.proofs.FitTrees.{fit_given, fit_row}
use Rattle.row_scan.proofs.OwnValues.{as_read}
use Rattle.row_scan.proofs.tree.check_row.Goals as goal

pub returns-clause-found : goal.returns-clause-found
returns-clause-found c =
    let fits : SFits w64 c.args.row.rowid = search rules in
    on_ok_weaker c.check_record.result (λ told. (
      as_read c.args.shape.own (c.args.row.rowid, told.0),
      fit_row c.args.shape (entry_in c.args.row) told.0 (AreBytes-from_index c.args.row.payload.now c.bytes_are_bytes.ensures) fits told.1 told.2,
    )) c.check_record.ensures.found

pub returns-clause-only : goal.returns-clause-only
returns-clause-only c = λ read is. c.check_record.ensures.only (in_record c.args.shape.own read.1) is.is.values (fit_given c.args.shape (entry_in c.args.row) read is)

pub returns-clause-not_disk : goal.returns-clause-not_disk
returns-clause-not_disk c = MatchResult-weaker c.check_record.result c.check_record.ensures.refused (λ done t. t) row_calm
