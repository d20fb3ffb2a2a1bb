use Rattle.std.proofs.Common.{rules, subst}
use Rattle.std.proofs.lemmas.List.Elements.{recursion_from_All}
use Rattle.record.specs.Writing.{AreStorable, IsBytes, IsStorable}
use Rattle.record.proofs.VarintLemmas.{AreBytes-from_index}
use Rattle.row_scan.proofs.RowOrder.{record_holds}
use Rattle.row_change.proofs.inserting.payload_of.Goals as goal

pub returns-clause-fit : goal.returns-clause-fit
returns-clause-fit c =
    let storable : AreStorable c.args.values.now = search rules in
    let payload = c.in_ok-payload.payload.items in
    let bytes : IsBytes payload = subst IsBytes c.deref.ensures.value c.bytes_are_small.ensures in
    record_holds payload c.args.values.now (AreBytes-from_index payload bytes) (recursion_from_All IsStorable c.args.values.now storable.1) c.in_ok-payload.ensures.is
