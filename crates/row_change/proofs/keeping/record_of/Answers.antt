use Rattle.std.proofs.Common.{map, subst}
use Rattle.std.proofs.lemmas.List.Elements.{recursion_from_All}
use Rattle.sqlval.specs.Fields.{value_of}
use Rattle.record.specs.Writing.{IsBytes, IsStorable}
use Rattle.record.proofs.VarintLemmas.{AreBytes-from_index}
use Rattle.row_scan.proofs.RowOrder.{record_holds}
use Rattle.row_change.proofs.keeping.record_of.Goals as goal

pub returns-clause-fit : goal.returns-clause-fit
returns-clause-fit c =
    let values = map value_of c.args.fields.now in
    let payload = c.in_ok-payload.payload.items in
    let bytes : IsBytes payload = subst IsBytes c.deref.ensures.value c.bytes_are_small.ensures in
    record_holds payload values (AreBytes-from_index payload bytes) (recursion_from_All IsStorable values c.requires.1) c.in_ok-payload.ensures.is
