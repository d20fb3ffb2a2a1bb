use Rattle.std.proofs.Common.{ap, length, take, arith}
use Rattle.std.proofs.lemmas.Grind.{common_steps}
use Rattle.std.proofs.lemmas.List.{length-append}
use Rattle.std.proofs.lemmas.List.Elements.{All-more}
use Rattle.std.proofs.lemmas.List.Folds.{length-flat_map-take}
use Rattle.std.specs.List.{flat_map}
use Rattle.sqlval.specs.Fields.{value_of}
use Rattle.sqlval.specs.declared.value.Field.TheVariants as field
use Rattle.record.specs.Writing.{body_of, Fits}
use Rattle.record.proofs.writing.put_bodies.Goals as goal

pub put_body-requires : goal.put_body-requires
put_body-requires c =
    let more = length-flat_map-take (λ f. body_of (value_of f)) c.args.fields.now c.loop-field.field-index field.Null (omega arith) in
    let so_far = length-append c.args.out.now.items (flat_map (λ f. body_of (value_of f)) (take c.loop-field.field-index c.args.fields.now)) in
    omega (arith, more, so_far, ap length c.loop-field.invariant.0, c.loop-field.invariant.2, c.requires)

pub loop-field-preserved : goal.loop-field-preserved
loop-field-preserved c = (
  grind (arith, common_steps),
  All-more (λ f. Fits (value_of f)) c.args.fields.now c.loop-field.field-index field.Null (omega arith) c.loop-field.invariant.1 c.in_ok-put_body.ensures.fits,
  omega (arith, c.loop-field.invariant.2, c.in_ok-put_body.ensures.capacity),
)
