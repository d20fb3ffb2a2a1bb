use Rattle.std.proofs.Common.{◌≡◌, ◌≤◌, ◌∙◌, ◌*◌, length, ap, arith, rules}
use Rattle.std.proofs.lemmas.Grind.{common_steps}
use Rattle.std.proofs.lemmas.List.{length-append}
use Rattle.std.specs.Prelude.{slice_index_or}
use Rattle.sqlval.specs.Fields.{value_of}
use Rattle.sqlval.specs.declared.value.Field.TheVariants as field
use Rattle.record.specs.Reading.{body_len}
use Rattle.record.specs.Writing.{IsStorable, body_of, type_of}
use Rattle.record.proofs.WritingLemmas.{body_short, length-body, length-type}
use Rattle.record.proofs.writing.sizes.Goals as goal

pub overflow_add-bodies : goal.overflow_add-bodies
overflow_add-bodies c =
    let storable : IsStorable (value_of (slice_index_or c.args.fields.now c.loop-field.field-index field.Null)) = search rules in
    let short = body_short (value_of (slice_index_or c.args.fields.now c.loop-field.field-index field.Null)) storable in
    let len : c.body_size.result ≡ length (body_of (value_of (slice_index_or c.args.fields.now c.loop-field.field-index field.Null))) = c.body_size.ensures ∙ ap body_len c.serial_type-serial.ensures ∙ length-body (value_of (slice_index_or c.args.fields.now c.loop-field.field-index field.Null)) in
    let so_far : c.loop-field.bodies ≤ 1000000 * c.loop-field.field-index = c.loop-field.invariant.3 in
    search rules

pub loop-field-preserved : goal.loop-field-preserved
loop-field-preserved c =
    let storable : IsStorable (value_of (slice_index_or c.args.fields.now c.loop-field.field-index field.Null)) = search rules in
    let short = body_short (value_of (slice_index_or c.args.fields.now c.loop-field.field-index field.Null)) storable in
    let type : c.varint_len-types.result ≡ length (type_of (value_of (slice_index_or c.args.fields.now c.loop-field.field-index field.Null))) = c.varint_len-types.ensures.value ∙ length-type (value_of (slice_index_or c.args.fields.now c.loop-field.field-index field.Null)) c.serial_type-serial.result c.serial_type-serial.ensures in
    let body : c.body_size.result ≡ length (body_of (value_of (slice_index_or c.args.fields.now c.loop-field.field-index field.Null))) = c.body_size.ensures ∙ ap body_len c.serial_type-serial.ensures ∙ length-body (value_of (slice_index_or c.args.fields.now c.loop-field.field-index field.Null)) in (
      grind (arith, common_steps, length-append),
      grind (arith, common_steps, length-append),
      omega (arith, c.loop-field.invariant.2, c.varint_len-types.ensures.high),
      omega (arith, c.loop-field.invariant.3, short, body),
    )
