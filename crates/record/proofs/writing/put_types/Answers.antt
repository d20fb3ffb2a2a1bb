use Rattle.std.proofs.Common.{ap, length, take, arith}
use Rattle.std.proofs.lemmas.List.{length-append}
use Rattle.std.proofs.lemmas.List.Folds.{length-flat_map-take}
use Rattle.std.specs.List.{flat_map}
use Rattle.sqlval.specs.Fields.{value_of}
use Rattle.sqlval.specs.declared.value.Field.TheVariants as field
use Rattle.record.specs.Writing.{type_of}
use Rattle.record.proofs.writing.put_types.Goals as goal

pub put_type-requires-clause-room : goal.put_type-requires-clause-room
put_type-requires-clause-room c =
    let more = length-flat_map-take (λ f. type_of (value_of f)) c.args.fields.now c.loop-field.field-index field.Null (omega arith) in
    let so_far = length-append c.args.out.now.items (flat_map (λ f. type_of (value_of f)) (take c.loop-field.field-index c.args.fields.now)) in
    omega (arith, more, so_far, ap length c.loop-field.invariant.0, c.loop-field.invariant.1, c.requires.room)
