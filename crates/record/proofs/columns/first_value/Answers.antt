use Rattle.std.proofs.Common.{◌∙◌, refl, sym}
use Rattle.record.specs.Reading.{column_at}
use Rattle.record.proofs.InPlace.{typed_is}
use Rattle.record.proofs.columns.first_value.Goals as goal

pub returns-in-Some : goal.returns-in-Some
returns-in-Some c = c.field_typed.ensures.value ∙ typed_is c.args.types.now c.args.bodies.now c.in-Some.serial _ c.in-Some.ensures.exact

pub returns-in-None : goal.returns-in-None
unfolding column_at
returns-in-None c = rw (sym c.in-None.ensures.exact) refl
