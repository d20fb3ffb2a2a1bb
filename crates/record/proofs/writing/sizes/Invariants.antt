use Rattle.std.proofs.Common.{◌≡◌, ◌≤◌, ◌*◌, take, length}
use Rattle.std.specs.List.{flat_map}
use Rattle.sqlval.specs.Fields.{value_of}
use Rattle.record.specs.Writing.{body_of, type_of}
use Rattle.record.proofs.writing.sizes.Given as goal

abbrev pub invariant-loop-field : goal.invariant-loop-field
invariant-loop-field l =
    (l.types ≡ length (flat_map (λ f. type_of (value_of f)) (take l.field-index l.fields)))
    × (l.bodies ≡ length (flat_map (λ f. body_of (value_of f)) (take l.field-index l.fields)))
    × (l.types ≤ 9 * l.field-index)
    × (l.bodies ≤ 1000000 * l.field-index)
