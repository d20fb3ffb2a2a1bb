use Rattle.std.proofs.Common.{◌≡◌, ◌≤◌, ◌++◌, take, All}
use Rattle.std.specs.List.{flat_map}
use Rattle.std.specs.Prelude.{vec_capacity}
use Rattle.sqlval.specs.Fields.{value_of}
use Rattle.record.specs.Writing.{body_of, Fits}
use Rattle.record.proofs.writing.put_bodies.Given as goal

abbrev pub invariant-loop-field : goal.invariant-loop-field
invariant-loop-field l =
    (l.out.items ≡ l.initial.out.items ++ flat_map (λ f. body_of (value_of f)) (take l.field-index l.fields))
    × All (λ f. Fits (value_of f)) (take l.field-index l.fields)
    × (vec_capacity l.initial.out ≤ vec_capacity l.out)
